-- A product with a constant, by the factor itself: not more than the constant's bound says, not less, and with a positive constant sign by sign.
use mathlib.Core.Path.{◌≡◌, sym, ap, ◌∙◌, subst}
use mathlib.Core.Logic.{⊎_elim}
use Prim.Native.Nat.{ℕ, ◌+◌, ◌-◌, ◌*◌, ◌^◌, ◌≤◌, zero-le}
use native.Mathlib.Nat.{le_trans, le_of_eq, mul-le-mul_left, le_of_mul-le-mul_right}
use native.Mathlib.Omega.{arith}
use mathlib.Core.Bool.{false}
use lib.Dec.{T, leb}
use lib.Pow.{pow_pos}
use lib.Ieee.{Float, Format, prec, low, unlike, mul}
use Rattle.bounds.proofs.Grid.{rq, error}
use Rattle.bounds.proofs.Signed.{sign, mag, plus, parts-of}
use Rattle.bounds.proofs.RoundedProducts.{unlike-false}
use Rattle.bounds.proofs.Errors.{digits}
use Rattle.bounds.proofs.Within.{U, Within, unit-scale, times}
use Rattle.bounds.proofs.ProductBounds.{z-mul}
use Rattle.bounds.proofs.Least.{Least}

module _ {f : Format} {c d : ℕ} {x y : Float} (h : Within f (U f) c x) (k : Within f (U f) d y) (l : T (leb (times c d) (2 ^ 60))) where
  pub mul_most : 2 ^ 51 * mag f (mul f x y) ≤ (2 ^ 21 + 1) * d * mag f x + 2 ^ 50
  mul_most =
      let n = mag f x * mag f y in
      let e = (error (prec f) n (U f) (digits f) (pow_pos (low f))).0 in
      subst (λ (z : ℕ). 2 ^ 51 * z ≤ (2 ^ 21 + 1) * d * mag f x + 2 ^ 50) (sym (z-mul (unit-scale f) h k l).mag)
      (le_of_mul-le-mul_right (fin (rq (prec f) n (U f)) (mag f x) (mag f y) (U f) e (mul-le-mul_left (mag f x) k.le)) (pow_pos (low f)))
    where
      fin : (r a b u : ℕ) → 2 ^ 21 * (r * u) ≤ 2 ^ 21 * (a * b) + a * b + 2 ^ 20 * u → a * (2 ^ 30 * b) ≤ a * (d * u)
          → 2 ^ 51 * r * u ≤ ((2 ^ 21 + 1) * d * a + 2 ^ 50) * u
      fin r a b u e g = omega (arith, e, g)

  pub mul-least : (b : ℕ) → Least f (U f) b y → (2 ^ 21 - 1) * b * mag f x ≤ 2 ^ 51 * mag f (mul f x y) + 2 ^ 50
  mul-least b g =
      let n = mag f x * mag f y in
      let e = (error (prec f) n (U f) (digits f) (pow_pos (low f))).1 in
      subst (λ (z : ℕ). (2 ^ 21 - 1) * b * mag f x ≤ 2 ^ 51 * z + 2 ^ 50) (sym (z-mul (unit-scale f) h k l).mag)
      (le_of_mul-le-mul_right (fin (rq (prec f) n (U f)) (mag f x) (mag f y) (U f) e (mul-le-mul_left (mag f x) g.ge)) (pow_pos (low f)))
    where
      fin : (r a t u : ℕ) → 2 ^ 21 * (a * t) ≤ 2 ^ 21 * (r * u) + a * t + 2 ^ 20 * u → a * (b * u) ≤ a * (2 ^ 30 * t)
          → (2 ^ 21 - 1) * b * a * u ≤ (2 ^ 51 * r + 2 ^ 50) * u
      fin r a t u e g = omega (arith, e, g)

  -- ---- with a positive constant
  pub mul-sign : sign y ≡ false → sign (mul f x y) ≡ sign x
  mul-sign s = (z-mul (unit-scale f) h k l).sgn ∙ ap (unlike (sign x)) s ∙ unlike-false (sign x)

  pub mul-plus : sign y ≡ false → 2 ^ 51 * plus f (mul f x y) ≤ (2 ^ 21 + 1) * d * plus f x + 2 ^ 50
  mul-plus s = ⊎_elim
      (λ v. fin (mag f (mul f x y)) (plus f (mul f x y)) (mag f x) (plus f x) v.0 v.2 mul_most)
      (λ v. le_trans (le_of_eq (ap (λ (z : ℕ). 2 ^ 51 * z) v.0)) zero-le)
      (parts-of f x (mul f x y) (mul-sign s))
    where
      fin : (m p a q : ℕ) → p ≡ m → q ≡ a → 2 ^ 51 * m ≤ (2 ^ 21 + 1) * d * a + 2 ^ 50 → 2 ^ 51 * p ≤ (2 ^ 21 + 1) * d * q + 2 ^ 50
      fin m p a q e g h = omega (arith, h, e, ap (λ (z : ℕ). d * z) g)
