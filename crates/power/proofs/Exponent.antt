-- An exponent e with its bias b taken off, as an i32 and as a float. Assumes nothing.
use Prim.Native.Nat.{ℕ, zero, suc, ◌-◌, ◌<◌, ◌^◌}
use mathlib.Core.Path.{◌≡◌, refl, ap}
use mathlib.Core.Bool.{Bool, true, false, cond}
use native.Mathlib.Omega.{arith}
use lib.Dec.{T, ltb, le→leb, lt→ltb}
use lib.IntN.{ℤ, pos, sub_ℕ, ◌-ℤ◌}
use lib.Ieee.{Format, binary32, binary64, in_float}
use borrow.Author.Tests.{le-ltb}
use mir.Syntax.{w32}
use mir.Val.{SFits, to_z, of_z}
use mir.ValLaws.{to_z-of_z, to_z_pos}

either : (P : ℤ → Type 0) (b : Bool) {x y : ℤ} → P x → P y → P (cond b x y)
either P true p q = p
either P false p q = q

pub unbiased-fits : (b e : ℕ) → b < 8192 → e < 8192 → SFits w32 (sub_ℕ e b)
unbiased-fits b e g h = either (SFits w32) (ltb e b) (record { sfits = omega arith }) (record { sfits = omega arith })

minus_is : (b e : ℕ) → pos e -ℤ pos b ≡ sub_ℕ e b
minus_is zero e = simp (le-ltb e 0 (omega arith)) (ap pos (omega arith))
minus_is (suc b) e = refl

pub unbiased-is : (b e : ℕ) → b < 8192 → e < 8192 → to_z w32 e -ℤ to_z w32 b ≡ sub_ℕ e b
unbiased-is b e g h = rw (to_z_pos w32 e (omega arith), to_z_pos w32 b (omega arith)) (minus_is b e)

pub unbiased-back : (b e : ℕ) → b < 8192 → e < 8192 → to_z w32 (of_z w32 (sub_ℕ e b)) ≡ sub_ℕ e b
unbiased-back b e g h = to_z-of_z w32 (sub_ℕ e b) (unbiased-fits b e g h)

-- it is a float without rounding
pub unbiased-exact : (f : Format) (b e : ℕ) → b < 8192 → e < 8192 → T (in_float f (sub_ℕ e b))
unfolding in_float
unbiased-exact binary32 b e g h = either (λ z. T (in_float binary32 z)) (ltb e b) (lt→ltb (b - suc e) (2 ^ 24) (omega arith)) (le→leb (e - b) (2 ^ 24) (omega arith))
unbiased-exact binary64 b e g h = either (λ z. T (in_float binary64 z)) (ltb e b) (lt→ltb (b - suc e) (2 ^ 53) (omega arith)) (le→leb (e - b) (2 ^ 53) (omega arith))
