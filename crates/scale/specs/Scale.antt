-- Scaling: document 01, "Scaling". Definitions only.
use Rattle.std.specs.Prelude.{ℕ, ◌*◌, false, cond, ℤ, eqb, Float}
use Rattle.std.specs.Float.{fin}
use Rattle.std.specs.Float.Ieee.{up, down}
use Rattle.words.specs.Format.{Format, infinity, quiet, magnitude, negative, is_nan_word, signed, units}
use Rattle.words.specs.Rounding.{rounded}

-- The word x times 2 ^ n: rounded once, ties to even, with the sign of x. Zeros and infinities are unchanged, and a NaN gives the quiet NaN.
-- 2 ^ n is the fraction up n / down n.
unfoldable pub scaled : Format → ℕ → ℤ → ℕ
scaled f x n =
    let m = magnitude f x in
    cond (is_nan_word f x) (quiet f)
    (cond (eqb m (infinity f)) x
    (signed f (negative f x) (rounded f (units f m * up n) (down n))))

-- 2 ^ n as a float, exact for every n
abbrev pub power : ℤ → Float
power n = fin false 1 n
