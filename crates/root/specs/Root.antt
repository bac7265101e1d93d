-- The root by digits, over whole numbers, for every format at once: document 01, "Root". Definitions only.
use Rattle.std.specs.Prelude.{ℕ, zero, suc, ◌+◌, ◌-◌, ◌*◌, ◌/◌, ◌%◌, ◌^◌, cond, leb, ltb, eqb, ℤ}
use Rattle.std.specs.Float.Ieee.{size}
use Rattle.std.proofs.Math.IntN.{sub_ℕ}
use Rattle.words.specs.Format.{Format, hid, infinity, quiet, magnitude, units}

-- ---- the digits of a root

-- the largest q of k binary digits with q * q at most n
unfoldable pub floor_root : ℕ → ℕ → ℕ
floor_root zero n = 0
floor_root (suc k) n = let q = 2 * floor_root k (n / 4) in cond (leb ((q + 1) * (q + 1)) n) (q + 1) q

-- Q: the first k digits of the root of w / 2 ^ (p - 1), of which one stands before the point
unfoldable pub digits_at : ℕ → ℕ → ℕ → ℕ
digits_at p w k = floor_root k (4 ^ k * w / 2 ^ (p + 1))

-- the left-over: what k rounds leave of w
unfoldable pub left_at : ℕ → ℕ → ℕ → ℕ
left_at p w k = 2 ^ (k + 1) * w - 2 ^ (p + 2 - k) * (digits_at p w k * digits_at p w k)

-- S: of p + 1 digits an odd number is raised by 1, then halved
unfoldable pub significand : ℕ → ℕ → ℕ
significand p w = let q = digits_at p w (p + 1) in (q + q % 2) / 2

-- ---- a positive finite operand x = M * 4 ^ E, of u units: E, and W = M * 2 ^ (p - 1)

-- W * 4 ^ (E + emax - 1): every exponent lifted by emax - 1, so that none is negative
abbrev pub lifted : Format → ℕ → ℕ
lifted f u = u * 2 ^ (f.emax - 1)

-- E + emax - 1: half, rounded down, of the digits of v past p
unfoldable pub halves : ℕ → ℕ → ℕ
halves p v = (size v - p) / 2

-- E
abbrev pub exponent_of : Format → ℕ → ℤ
exponent_of f v = sub_ℕ (halves f.digits v) (f.emax - 1)

-- W, of p or p + 1 digits
unfoldable pub whole : ℕ → ℕ → ℕ
whole p v = v / 4 ^ halves p v

-- the operand word's W
abbrev pub whole_of : Format → ℕ → ℕ
whole_of f x = whole f.digits (lifted f (units f x))

-- the word of S * 2 ^ (E - p + 1): the field is E + emax, of which S brings one
unfoldable pub root_at : Format → ℕ → ℕ
root_at f v = halves f.digits v * hid f + significand f.digits (whole f.digits v)

-- The root of every word: a zero is its own root; above infinity stand the NaNs and all that is negative; infinity is its own root.
unfoldable pub root_word : Format → ℕ → ℕ
root_word f x =
    cond (eqb (magnitude f x) 0) x
    (cond (ltb (infinity f) x) (quiet f)
    (cond (eqb x (infinity f)) x
    (root_at f (lifted f (units f x)))))
