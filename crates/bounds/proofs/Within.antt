-- Bounds of floats: |x| ≤ c / 2 ^ 30 of S units, c a numeral that the laws compute; and x near a number A - B of units, but for c / 2 ^ 30 of S.
-- The first letter of a law over an operation: w- its bound, o- its distance from the exact number, r- that number rounded, z- sign and size, g- a lower bound.
use mathlib.Core.Path.{◌≡◌}
use mathlib.Core.Logic.{◌⊎◌, inl, inr}
use Prim.Native.Nat.{ℕ, ◌+◌, ◌*◌, ◌/◌, ◌^◌, ◌≤◌}
use native.Mathlib.Nat.{le_trans, mul-le-mul_left, mul-le-mul_right}
use native.Mathlib.Omega.{arith}
use lib.Dec.{T, leb, leb→le, lit≤}
use lib.Ieee.{Float, Format, binary32, binary64, low, fits}
use lib.Ieee.Scale.{overflow, finite}
use Rattle.bounds.proofs.Signed.{mag, plus, minus, Num, parts, one-zero}

-- the units of 1
abbrev pub U : Format → ℕ
U f = 2 ^ low f

-- a size against which floats are bounded: not too near the least, and 2 ^ 40 at most
pub record Scale (f : Format) (S : ℕ) : Type 0 where
  pub least : 2 ^ 90 ≤ S
  pub most : S ≤ 2 ^ 40 * U f

-- |x| is at most c / 2 ^ 30 of S
pub record Within (f : Format) (S c : ℕ) (x : Float) : Type 0 where
  pub num : Num f x
  pub le : 2 ^ 30 * mag f x ≤ c * S

-- x is A - B units, but for c / 2 ^ 30 of S
pub record Off (f : Format) (S c : ℕ) (x : Float) (A B : ℕ) : Type 0 where
  pub hi : 2 ^ 30 * (plus f x + B) ≤ 2 ^ 30 * (minus f x + A) + c * S
  pub lo : 2 ^ 30 * (minus f x + A) ≤ 2 ^ 30 * (plus f x + B) + c * S

-- ---- the bounds' arithmetic: what a rounding adds, and the bounds of a product and of a quotient before it
abbrev pub bump : ℕ → ℕ
bump n = n + n / 2 ^ 20 + 1

abbrev pub times : ℕ → ℕ → ℕ
times c d = c * d / 2 ^ 30 + 1

abbrev pub over : ℕ → ℕ → ℕ
over c d = c * 2 ^ 30 / d + 1

-- c / 2 ^ 30 of d / 2 ^ 30
pub times-most : (c d : ℕ) → c * d ≤ 2 ^ 30 * times c d
times-most c d = up_to (c * d)
  where
    up_to : (n : ℕ) → n ≤ 2 ^ 30 * (n / 2 ^ 30 + 1)
    up_to n = omega arith

-- ---- both formats are wide enough
pub cap : (f : Format) → 2 ^ 72 * U f ≤ overflow f
cap binary32 = lit≤ tt
cap binary64 = lit≤ tt

pub unit-least : (f : Format) → 2 ^ 120 ≤ U f
unit-least binary32 = lit≤ tt
unit-least binary64 = lit≤ tt

pub unit-scale : (f : Format) → Scale f (U f)
unit-scale binary32 = record { least = lit≤ tt; most = lit≤ tt }
unit-scale binary64 = record { least = lit≤ tt; most = lit≤ tt }

pub least50 : {f : Format} {S : ℕ} → Scale f S → 2 ^ 50 ≤ S
least50 s = le_trans (lit≤ tt) s.least

-- ---- a weaker bound, and the same against another scale
pub at_most : {f : Format} {S c : ℕ} (d : ℕ) {x : Float} → Within f S c x → c ≤ d → Within f S d x
at_most {f} {S} d h l = record { num = h.num; le = le_trans h.le (mul-le-mul_right S l) }

pub weaken : {f : Format} {S c : ℕ} (d : ℕ) {x : Float} → Within f S c x → T (leb c d) → Within f S d x
weaken {f} {S} {c} d {x} h l = at_most d h (leb→le c d l)

pub rebase : {f : Format} {S c : ℕ} (W d : ℕ) {x : Float} → Within f S c x → 2 ^ 30 * S ≤ d * W → Within f W (times c d) x
rebase {f} {S} {c} W d {x} h l = record { num = h.num; le = fin (mag f x) (times c d) (times-most c d) h.le }
  where
    fin : (m t : ℕ) → c * d ≤ 2 ^ 30 * t → 2 ^ 30 * m ≤ c * S → 2 ^ 30 * m ≤ t * W
    fin m t a b = omega (arith, b, mul-le-mul_right W a, mul-le-mul_left c l)

-- a float that is written down
pub literal : {f : Format} (c : ℕ) {x : Float} → T (finite x) → T (fits f x) → T (leb (2 ^ 30 * mag f x) (c * U f)) → Within f (U f) c x
literal {f} c {x} a b h = record { num = record { finite = a; fits = b }; le = leb→le (2 ^ 30 * mag f x) (c * U f) h }

-- ---- a float near A - B is within a bound of |A - B|
pub close-in : {f : Format} {S c : ℕ} {x : Float} {A B : ℕ} (k : ℕ) → Num f x → Off f S c x A B
    → 2 ^ 30 * A ≤ 2 ^ 30 * B + k * S → 2 ^ 30 * B ≤ 2 ^ 30 * A + k * S → Within f S (k + c) x
close-in {f} {S} {c} {x} {A} {B} k n o a b =
    record { num = n; le = fin (mag f x) (plus f x) (minus f x) (parts f x) o.hi o.lo (one-zero f x) }
  where
    fin : (r p m : ℕ) → r ≡ p + m → 2 ^ 30 * (p + B) ≤ 2 ^ 30 * (m + A) + c * S → 2 ^ 30 * (m + A) ≤ 2 ^ 30 * (p + B) + c * S
        → (p ≡ 0) ⊎ (m ≡ 0) → 2 ^ 30 * r ≤ (k + c) * S
    fin r p m e g h (inl z) = omega arith
    fin r p m e g h (inr z) = omega arith
