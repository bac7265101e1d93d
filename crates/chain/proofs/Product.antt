-- y times the two parts of a logarithm: the low part of the product is small against the high one, and their sum does not overflow.
-- y1 lacks few digits of y, and t2 is small against t1; three roundings and the low part's sum are taken coarsely, an eighth each (ProductNumbers).
use mathlib.Core.Path.{◌≡◌, sym, ap, ◌∙◌}
use mathlib.Core.Logic.{⊎_elim}
use Prim.Native.Nat.{ℕ, suc, ◌+◌, ◌-◌, ◌*◌, ◌/◌, ◌^◌, ◌≤◌, ◌<◌}
use native.Mathlib.Nat.{le_trans, le_of_eq, lt_of_le_of_lt, lt_of_lt_of_le, mul_assoc, mul_left_comm, add-mul, add-sub_of_le, mul-le-mul}
use native.Mathlib.Nat.{mul-le-mul_right, mul-le-mul_left, zero-lt-suc, lt_of_mul-lt-mul_right, le_of_mul-le-mul_right}
use native.Mathlib.Omega.{arith}
use lib.Dec.{lit≤}
use lib.Pow.{pow_pos}
use lib.Ieee.{Float, Format, binary32, binary64, prec, emax, low, hid, add, sub, mul, of_bits, to_bits}
use lib.Ieee.Scale.{overflow}
use Rattle.power.specs.Width.{Width}
use Rattle.power.specs.Chain.{product_of, chop}
use Rattle.bounds.proofs.Grid.{rq, error}
use Rattle.bounds.proofs.Signed.{mag, plus, minus, Num, R, parts, parts-of}
use Rattle.bounds.proofs.RoundedSums.{add-res, sub-res-alike}
use Rattle.bounds.proofs.RoundedProducts.{mul-siz}
use Rattle.bounds.proofs.Within.{U}
use Rattle.bounds.proofs.Errors.{digits, dist, both-law}
use Rattle.bounds.proofs.SumBounds.{total}
use Rattle.bounds.proofs.Words.{mag-exact, mag-under}
use Rattle.bounds.proofs.Chop.{Chopped, chopped, hid-most}
use Rattle.chain.proofs.Known.{Known}
use Rattle.chain.proofs.Sizes.{emax-range}
use Rattle.chain.proofs.ProductNumbers.{rounded-up, rounded-down, sum-up, times-up, unit-square, cap-least, cap-one, cap-four, cap-more}
use Rattle.chain.proofs.ProductNumbers.{cap-unit, rounded-cap, rest-cap, low-cap, both-cap, digits-lost, low-most}

-- the two parts of a product with y
pub record Split (f : Format) (hi lo : Float) : Type 0 where
  pub hi-num : Num f hi
  pub lo-num : Num f lo
  pub small : 2 * suc (emax f) * mag f lo ≤ mag f hi + 2 ^ 77
  pub sum : R f (mag f lo + mag f hi) < overflow f

-- ---- what does not overflow
far-cap : (f : Format) → 2 ^ 120 * U f ≤ overflow f
far-cap binary32 = lit≤ tt
far-cap binary64 = lit≤ tt

sum_fits : (f : Format) (n : ℕ) → n ≤ 2 ^ 116 * U f → R f n < overflow f
sum_fits f n h = lt_of_lt_of_le (fin (R f n) n (U f) (twice (R f n) n (error (prec f) n 1 (digits f) (zero-lt-suc 0)).0) h (pow_pos (low f))) (far-cap f)
  where
    twice : (r n : ℕ) → 2 ^ 21 * (r * 1) ≤ 2 ^ 21 * n + n + 2 ^ 20 * 1 → r ≤ 2 * n + 1
    twice r n h = omega arith

    fin : (r n u : ℕ) → r ≤ 2 * n + 1 → n ≤ 2 ^ 116 * u → 0 < u → r < 2 ^ 120 * u
    fin r n u x y z = omega arith

-- a rounded product: n is the exact one, in units squared
record Times (f : Format) (r : Float) (n : ℕ) : Type 0 where
  num : Num f r
  up : 8 * (mag f r * U f) ≤ 9 * n + 8 * U f
  dn : 127 * n ≤ 128 * (mag f r * U f) + 128 * U f

times : (f : Format) (x y : Float) → Num f x → Num f y → mag f x * mag f y ≤ 2 ^ 112 * (U f * U f) → Times f (mul f x y) (mag f x * mag f y)
times f x y h k l =
    let n = mag f x * mag f y in
    let q = rq (prec f) n (U f) in
    let e = error (prec f) n (U f) (digits f) (pow_pos (low f)) in
    let up = rounded-up (q * U f) n (U f) e.0 in
    let s = mul-siz f x y h k (lt_of_lt_of_le (lt_of_mul-lt-mul_right (U f) (rounded-cap q n (U f) up l (pow_pos (low f)))) (far-cap f)) in
    record { num = s.num; up = rw s.mag up; dn = rw s.mag (rounded-down (q * U f) n (U f) e.1) }

-- ---- y - y1, which has the exact difference's digits but for an eighth
rest_of : (f : Format) (g : ℕ) (y r : Float) → Num f y → Chopped f g y r → Num f (sub f y r) × (8 * mag f (sub f y r) ≤ 9 * (mag f y - mag f r) + 8)
rest_of f g y r h c =
    let e = sub-res-alike f y r h c.num c.sgn (fits y h) (fits r c.num) in
    let d = sub f y r in
    let b = both-law f (mag f d) (plus f d) (minus f d) (plus f y + minus f r) (minus f y + plus f r) (parts f d) e.up e.lo in (
      e.num,
      sum-up (mag f d) (dist (plus f y + minus f r) (minus f y + plus f r)) (mag f y - mag f r) b.0 (⊎_elim
          (λ v. one (plus f y) (minus f y) (plus f r) (minus f r) (mag f y) (mag f r) v.2 v.3 v.0 v.1 c.le)
          (λ v. two (plus f y) (minus f y) (plus f r) (minus f r) (mag f y) (mag f r) v.2 v.3 v.0 v.1 c.le)
          (parts-of f y r c.sgn)),
    )
  where
    fits : (x : Float) → Num f x → R f (mag f x) < overflow f
    fits x n = lt_of_le_of_lt (le_of_eq (mag-exact f x n)) (mag-under f x n)

    one : (p m q n a b : ℕ) → p ≡ a → m ≡ 0 → q ≡ b → n ≡ 0 → b ≤ a → dist (p + n) (m + q) ≤ a - b
    one p m q n a b e1 e2 e3 e4 h = omega arith

    two : (p m q n a b : ℕ) → p ≡ 0 → m ≡ a → q ≡ 0 → n ≡ b → b ≤ a → dist (p + n) (m + q) ≤ a - b
    two p m q n a b e1 e2 e3 e4 h = omega arith

-- ---- t2 is below t1
below : (f : Format) (a b : ℕ) → 4 * suc (emax f) * a ≤ b → a ≤ b
below binary32 a b h = omega arith
below binary64 a b h = omega arith

-- ---- the product
module _ (w : Width) (K : Known w) where
  abbrev f : Format
  f = w.format

  abbrev u : ℕ
  u = U w.format

  pub product : (y t1 t2 : Float) → Num f y → Num f t1 → Num f t2 → 4 * suc (emax f) * mag f t2 ≤ mag f t1 → mag f t1 ≤ 2 ^ 11 * U f
      → mag f y * mag f t1 ≤ 2 ^ 110 * (U f * U f)
      → Split f (product_of w y record { hi = t1; lo = t2 }).hi (product_of w y record { hi = t1; lo = t2 }).lo
  unfolding product_of chop
  product y t1 t2 yn n1 n2 small most all =
      let y1 = of_bits f (to_bits f y / 2 ^ w.short * 2 ^ w.short) in
      let c = chopped f w.short K.lead y K.lead_is yn in
      let d = rest_of f K.lead y y1 yn c in
      let Y = mag f y in
      let Y1 = mag f y1 in
      let T1 = mag f t1 in
      let T2 = mag f t2 in
      let D = mag f (sub f y y1) in
      let G : ℕ = Y - Y1 in
      let E : ℕ = suc (emax f) in
      let Z : ℕ = 2 ^ 110 * (u * u) in
      let yg : Y ≡ Y1 + G = sym (add-sub_of_le c.le) in
      let yt : Y * T1 ≡ Y1 * T1 + G * T1 = ap (λ (z : ℕ). z * T1) yg ∙ add-mul Y1 G T1 in
      let gy : G * T1 ≤ Y * T1 = below-sum (Y * T1) (Y1 * T1) (G * T1) yt in
      let zy : Y1 * T1 ≤ Y * T1 = mul-le-mul_right T1 c.le in
      let y2 : Y * T2 ≤ Y * T1 = mul-le-mul_left Y (below f T2 T1 small) in
      let us = unit-square u (pow_pos (low f)) in
      let sz = cap-least (u * u) in
      let dt = times-up D G T1 d.1 in
      -- the three products
      let hi = times f y1 t1 c.num n1 (le_trans zy (le_trans all (cap-one (u * u)))) in
      let a1 = times f (sub f y y1) t1 d.0 n1
      (le_trans (rest-cap (D * T1) (G * T1) (Y * T1) T1 u (u * u) Z dt gy all most us sz) (le_of_eq (cap-four (u * u)))) in
      let a2 = times f y t2 yn n2 (le_trans y2 (le_trans all (cap-one (u * u)))) in
      let H = mag f (mul f y1 t1) in
      let A1 = mul f (sub f y y1) t1 in
      let A2 = mul f y t2 in
      let A : ℕ = mag f A1 + mag f A2 in
      let L = mag f (add f A1 A2) in
      -- the low part's sum
      let sc : A * u ≤ 16 * Z = low-cap (mag f A1) (mag f A2) (D * T1) (Y * T2) (G * T1) (Y * T1) T1 u (u * u) Z a1.up a2.up dt gy y2 all most us sz in
      let lo = add-res f A1 A2 a1.num a2.num
      (sum_fits f A (le_of_mul-le-mul_right (le_trans sc (le_trans (cap-more Z) (le_of_eq (cap-unit u)))) (pow_pos (low f)))) in
      let p = plus f A1 + plus f A2 in
      let m = minus f A1 + minus f A2 in
      let l8 : 8 * L ≤ 9 * A + 8 = sum-up L (dist p m) A
      (both-law f L (plus f (add f A1 A2)) (minus f (add f A1 A2)) p m (parts f (add f A1 A2)) lo.up lo.lo).0
      (le_trans (apart p m) (le_of_eq (total f A1 A2))) in
      let hT : hid f * T1 ≤ 2 ^ 63 * u = le_trans (mul-le-mul (hid-most f) most) (le_of_eq (sym (mul_assoc (2 ^ 52) (2 ^ 11) u))) in
      record {
        hi-num = hi.num;
        lo-num = lo.num;
        small = le_of_mul-le-mul_right (low-most E (Y * T1) (Y1 * T1) (G * T1) (D * T1) (Y * T2) H (mag f A1 * u) (mag f A2 * u) L T1 u (hid f * T1)
            (emax-range f).0 (emax-range f).1 yt dt (digits-lost E (2 ^ K.lead) G Y Y1 (hid f) T1 K.lead-product c.ge yg)
            a1.up a2.up (spread L (mag f A1) (mag f A2) u l8) (le_trans (le_of_eq (mul_left_comm (4 * E) Y T2)) (mul-le-mul_left Y small))
            hi.dn hT most) (pow_pos (low f));
        sum = sum_fits f (L + H) (le_of_mul-le-mul_right
            (le_trans (both-cap L H A (Y1 * T1) (Y * T1) u (u * u) Z l8 sc hi.up zy all us sz) (le_of_eq (cap-unit u))) (pow_pos (low f)));
      }
    where
      below-sum : (a b c : ℕ) → a ≡ b + c → c ≤ a
      below-sum a b c e = omega arith

      apart : (a b : ℕ) → dist a b ≤ a + b
      apart a b = omega arith

      spread : (l a b u : ℕ) → 8 * l ≤ 9 * (a + b) + 8 → 8 * (l * u) ≤ 9 * (a * u + b * u) + 8 * u
      spread l a b u h = omega (arith, mul-le-mul_right u h)
