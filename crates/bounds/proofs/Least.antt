-- Lower bounds of floats: |x| ≥ c / 2 ^ 30 of S units; of a product, of a sum with a small term, and of a leading part.
use mathlib.Core.Path.{◌≡◌, sym, ap, ◌∙◌, subst}
use mathlib.Core.Logic.{◌⊎◌, inl, inr, ⊎_elim}
use Prim.Native.Nat.{ℕ, ◌+◌, ◌-◌, ◌*◌, ◌/◌, ◌^◌, ◌≤◌, ◌<◌, zero-le}
use native.Mathlib.Nat.{le_trans, le_of_eq, le_of_lt, sub-eq-zero_of_le, sub-add_cancel, add-sub_of_le, zero-mul}
use native.Mathlib.Nat.{mul-le-mul, mul-le-mul_right, le_of_mul-le-mul_right}
use native.Mathlib.Omega.{arith}
use lib.Dec.{T, leb, leb→le}
use lib.Pow.{pow_pos, pow_mono}
use lib.Ieee.{Float, Format, prec, low, hid, add, mul}
use Rattle.bounds.proofs.Choice.{order}
use Rattle.bounds.proofs.Grid.{rq, error}
use Rattle.bounds.proofs.Signed.{mag, plus, minus, Num, parts, one-zero}
use Rattle.bounds.proofs.Errors.{digits}
use Rattle.bounds.proofs.Within.{U, Scale, Within, times, least50}
use Rattle.bounds.proofs.SumBounds.{o-add}
use Rattle.bounds.proofs.ProductBounds.{z-mul}
use Rattle.bounds.proofs.Chop.{leading, chopped, hid-scale}

pub record Least (f : Format) (S c : ℕ) (x : Float) : Type 0 where
  pub ge : c * S ≤ 2 ^ 30 * mag f x

pub lower : {f : Format} {S c : ℕ} (d : ℕ) {x : Float} → Least f S c x → T (leb d c) → Least f S d x
lower {f} {S} {c} d h l = record { ge = le_trans (mul-le-mul_right S (leb→le d c l)) h.ge }

-- a bound that came out as 0 says nothing
none : (S q z : ℕ) → q ≡ 0 → q * S ≤ z
none S q z e = le_trans (le_of_eq (ap (λ (n : ℕ). n * S) e ∙ zero-mul S)) zero-le

-- ---- products: the bounds' product, less a rounding
abbrev pub shrink : ℕ → ℕ
shrink n = n - n / 2 ^ 20 - 2

shrunk : (k : ℕ) → (shrink k ≡ 0) ⊎ (2 ^ 20 * shrink k + k + 2 ^ 20 ≤ 2 ^ 20 * k)
shrunk k = order k (k / 2 ^ 20 + 2) (λ h. inl (omega arith)) (λ h. inr (omega arith))

-- a rounded fraction n / e, where k * S * e ≤ 2 ^ 30 * n
fraction-least : (f : Format) (S k n e r : ℕ) → Scale f S → 0 < e → k * S * e ≤ 2 ^ 30 * n → r ≡ rq (prec f) n e → shrink k * S ≤ 2 ^ 30 * r
fraction-least f S k n e r s E h eq = ⊎_elim
    (λ z. none S (shrink k) (2 ^ 30 * r) z)
    (λ z. le_of_mul-le-mul_right (fin (shrink k) z
    (subst (λ (y : ℕ). 2 ^ 21 * n ≤ 2 ^ 21 * (y * e) + n + 2 ^ 20 * e) (sym eq) (error (prec f) n e (digits f) E).1) (mul-le-mul_right e (least50 s))) E)
    (shrunk k)
  where
    fin : (q : ℕ) → 2 ^ 20 * q + k + 2 ^ 20 ≤ 2 ^ 20 * k → 2 ^ 21 * n ≤ 2 ^ 21 * (r * e) + n + 2 ^ 20 * e → 2 ^ 50 * e ≤ S * e
        → q * S * e ≤ 2 ^ 30 * r * e
    fin q l a c = omega (arith, a, h, c, mul-le-mul_right e (mul-le-mul_right S l))

pub g-mul : {f : Format} {S : ℕ} (s : Scale f S) {c d a b : ℕ} {x y : Float} → Within f S c x → Within f (U f) d y → T (leb (times c d) (2 ^ 60))
    → Least f S a x → Least f (U f) b y → Least f S (shrink (a * b / 2 ^ 30)) (mul f x y)
g-mul {f} {S} s {c} {d} {a} {b} {x} {y} h k l p q =
    let t = a * b / 2 ^ 30 in
    record {
      ge = fraction-least f S t (mag f x * mag f y) (U f) (mag f (mul f x y)) s (pow_pos (low f))
          (fin (mag f x) (mag f y) t (U f) (down_to (a * b)) p.ge q.ge) (z-mul s h k l).mag;
    }
  where
    down_to : (n : ℕ) → 2 ^ 30 * (n / 2 ^ 30) ≤ n
    down_to n = omega arith

    fin : (m n t u : ℕ) → 2 ^ 30 * t ≤ a * b → a * S ≤ 2 ^ 30 * m → b * u ≤ 2 ^ 30 * n → t * S * u ≤ 2 ^ 30 * (m * n)
    fin m n t u l a b = omega (arith, mul-le-mul a b, mul-le-mul_right u (mul-le-mul_right S l))

-- ---- sums: a term's bound, less the other term and a rounding
pub g-add : {f : Format} {S : ℕ} (s : Scale f S) {c d a : ℕ} {x y : Float} (h : Within f S c x) (k : Within f S d y) → T (leb (c + d) (2 ^ 60))
    → Least f S a x → Least f S (a - (d + ((c + d) / 2 ^ 20 + 1))) (add f x y)
g-add {f} {S} s {c} {d} {a} {x} {y} h k l p =
    let o = o-add s h k l in
    let z = add f x y in
    let e = (c + d) / 2 ^ 20 + 1 in
    record {
      ge = order a (d + e) (λ g. none S (a - (d + e)) (2 ^ 30 * mag f z) (sub-eq-zero_of_le (le_of_lt g)))
          (λ g. fin (plus f x) (minus f x) (mag f x) (plus f y) (minus f y) (mag f y) (plus f z) (minus f z) (mag f z) e (a - (d + e))
          (parts f x) (parts f y) (parts f z) (one-zero f x) p.ge k.le o.hi o.lo (ap (λ (n : ℕ). n * S) (sub-add_cancel g)));
    }
  where
    fin : (px mx x py my y pr mr r e v : ℕ) → x ≡ px + mx → y ≡ py + my → r ≡ pr + mr → (px ≡ 0) ⊎ (mx ≡ 0) → a * S ≤ 2 ^ 30 * x → 2 ^ 30 * y ≤ d * S
        → 2 ^ 30 * (pr + (mx + my)) ≤ 2 ^ 30 * (mr + (px + py)) + e * S → 2 ^ 30 * (mr + (px + py)) ≤ 2 ^ 30 * (pr + (mx + my)) + e * S
        → (v + (d + e)) * S ≡ a * S → v * S ≤ 2 ^ 30 * r
    fin px mx x py my y pr mr r e v a1 a2 a3 (inl z) b1 b2 c1 c2 g = omega (arith, g, a1, a2, a3, z, b1, b2, c1, c2)
    fin px mx x py my y pr mr r e v a1 a2 a3 (inr z) b1 b2 c1 c2 g = omega (arith, g, a1, a2, a3, z, b1, b2, c1, c2)

-- ---- leading parts: at least all but 1 / 2 ^ 8
pub chop-gap : (G x r h : ℕ) → 2 ^ 8 ≤ G → r ≤ x → G * x ≤ G * r + x + h → 2 ^ 8 * x ≤ 2 ^ 8 * r + x + h
chop-gap G x r h l k m = go (x - r) (sym (add-sub_of_le k))
  where
    go : (d : ℕ) → x ≡ r + d → 2 ^ 8 * x ≤ 2 ^ 8 * r + x + h
    go d e = omega (arith, e, m, mul-le-mul_right d l, ap (λ (z : ℕ). G * z) e)

pub g-chop : {f : Format} {S : ℕ} (s : Scale f S) {a : ℕ} {x : Float} (j g : ℕ) → j + g ≡ prec f - 1 → 8 ≤ g → Num f x → Least f S a x
    → Least f S (a - a / 2 ^ 7 - 2) (leading f j x)
g-chop {f} {S} s {a} {x} j g e l n p =
    let c = chopped f j g x e n in
    let r = mag f (leading f j x) in
    record {
      ge = order a (a / 2 ^ 7 + 2) (λ i. none S (a - a / 2 ^ 7 - 2) (2 ^ 30 * r) (omega arith))
          (λ i. fin (mag f x) r (hid f) (a - a / 2 ^ 7 - 2) (chop-gap (2 ^ g) (mag f x) r (hid f) (pow_mono l) c.le c.ge) p.ge
          (hid-scale s) (most a i));
    }
  where
    most : (a : ℕ) → a / 2 ^ 7 + 2 ≤ a → 2 ^ 7 * (a - a / 2 ^ 7 - 2) + a + 2 ^ 7 ≤ 2 ^ 7 * a
    most a h = omega arith

    fin : (x r h q : ℕ) → 2 ^ 8 * x ≤ 2 ^ 8 * r + x + h → a * S ≤ 2 ^ 30 * x → 2 ^ 30 * h ≤ S → 2 ^ 7 * q + a + 2 ^ 7 ≤ 2 ^ 7 * a → q * S ≤ 2 ^ 30 * r
    fin x r h q b c d e = omega (arith, b, c, d, mul-le-mul_right S e)
