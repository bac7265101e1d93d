-- The records of each program and their answers, for words of k bytes of any format: document 01, "Parts to carry over". Definitions only.
use Rattle.std.specs.Prelude.{ℕ, List, take, drop}
use Rattle.words.specs.Format.{Format}
use Rattle.root.specs.Root.{root_word}
use Rattle.scale.specs.Scale.{scaled}
use Rattle.stream.specs.Bytes.{word_of, signed_of}

-- the root of x
abbrev pub root_of : Format → List ℕ → ℕ
root_of f r = root_word f (word_of r)

-- x times 2 ^ n, n an i32 after x
abbrev pub scaled_of : Format → ℕ → List ℕ → ℕ
scaled_of f k r = scaled f (word_of (take k r)) (signed_of (word_of (drop k r)))

-- x to the y, y after x, for the power of a width
abbrev pub power_of : (ℕ → ℕ → ℕ) → ℕ → List ℕ → ℕ
power_of pow k r = pow (word_of (take k r)) (word_of (drop k r))
