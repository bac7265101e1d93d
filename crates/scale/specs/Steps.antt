-- The steps in which the Rust scales: document 01, "Scaling". Definitions only.
use Rattle.std.specs.Prelude.{ℕ, suc, ◌-◌, Bool, cond, ℤ, pos, negsuc, ◌+ℤ◌, ◌-ℤ◌, ◌≤ℤ◌, Float}
use Rattle.std.specs.Int.Signed.{lt_z}
use Rattle.std.specs.Float.{Format}
use Rattle.std.specs.Float.Ieee.{prec, emax, mul}
use Rattle.scale.specs.Scale.{power}

-- n is an exponent of a normal number
abbrev pub Normal : Format → ℤ → Type 0
Normal f n = (negsuc (emax f - 2) ≤ℤ n) × (n ≤ℤ pos (emax f))

-- n is past the largest exponent of a normal number, 127 or 1023, and past the least, -126 or -1022
abbrev pub past_up : Format → ℤ → Bool
past_up f n = lt_z (pos (emax f)) n

abbrev pub past_down : Format → ℤ → Bool
past_down f n = lt_z n (negsuc (emax f - 2))

-- a step downward is by 2 ^ -(fall + 1): 102 and 969
abbrev pub fall : Format → ℕ
fall f = emax f - 2 - prec f

-- one long step: what becomes of x, and of n
unfoldable pub step_float : Format → Float → ℤ → Float
step_float f x n = cond (past_up f n) (mul f x (power (pos (emax f)))) (cond (past_down f n) (mul f x (power (negsuc (fall f)))) x)

unfoldable pub step_left : Format → ℤ → ℤ
step_left f n = cond (past_up f n) (n -ℤ pos (emax f)) (cond (past_down f n) (n +ℤ pos (suc (fall f))) n)

-- n, held between two others
abbrev pub between : ℤ → ℤ → ℤ → ℤ
between least most n = cond (lt_z most n) most (cond (lt_z n least) least n)

-- held to the normal exponents
abbrev pub clamped : Format → ℤ → ℤ
clamped f n = between (negsuc (emax f - 2)) (pos (emax f)) n
