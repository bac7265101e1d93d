-- Numbers as bytes, the least significant first: document 01, "Parts to carry over". Definitions only.
use Rattle.std.specs.Prelude.{ℕ, zero, suc, ◌+◌, ◌-◌, ◌*◌, ◌/◌, ◌%◌, cond, List, [], ◌∷◌, ltb, ℤ, pos, negsuc}

-- the number that bytes stand for
abbrev pub word_of : List ℕ → ℕ
word_of [] = 0
word_of (b ∷ s) = b + 256 * word_of s

-- the k bytes of a number
abbrev pub bytes_of : ℕ → ℕ → List ℕ
bytes_of zero w = []
bytes_of (suc k) w = w % 256 ∷ bytes_of k (w / 256)

-- the signed number that a word of 32 bits stands for: two's complement
abbrev pub signed_of : ℕ → ℤ
signed_of w = cond (ltb w 2147483648) (pos w) (negsuc (4294967295 - w))
