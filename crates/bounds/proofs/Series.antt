-- s and s_l as the logarithm's walk takes them, against one size W: from the bounds of the quotient, or where the quotient is 0.
use mathlib.Core.Path.{◌≡◌, sym, ◌∙◌}
use Prim.Native.Nat.{ℕ, ◌+◌, ◌-◌, ◌*◌, ◌/◌, ◌^◌, ◌≤◌}
use native.Mathlib.Nat.{mul-le-mul_left, mul-le-mul_right, le_of_mul-le-mul_right, le_of_eq, add_comm}
use native.Mathlib.Omega.{arith}
use mathlib.Core.Bool.{false}
use lib.Dec.{lit≤}
use lib.Pow.{pow_pos}
use lib.Ieee.{Float, Format, binary32, binary64, prec, low, add, sub, mul, div}
use Rattle.bounds.proofs.Signed.{sign, mag, plus, minus, parts, pos-parts, round-none}
use Rattle.bounds.proofs.Within.{U, Scale, Within, unit-scale, weaken}
use Rattle.bounds.proofs.SumBounds.{w-add, w-sub, o-add, r-sub}
use Rattle.bounds.proofs.ProductBounds.{w-mul, w-mul', w-div}
use Rattle.bounds.proofs.Chop.{leading, w-chop}
use Rattle.bounds.proofs.Split.{off-alike, sub-near}
use Rattle.bounds.proofs.Ratio.{Ratio, s-scale, product-most, sum_near, s-in}
use Rattle.bounds.proofs.Rest.{s-itself, rest-small}

pub record Series (f : Format) (W : ℕ) (s sl : Float) : Type 0 where
  pub scale : Scale f W
  pub W-u : 2 ^ 30 * W ≤ 166000000 * U f
  pub s-in : Within f W (2 ^ 30) s
  pub sl-in : Within f W 67000000 sl

-- s and s_l, written out
abbrev pub quotient : Format → Float → Float → Float → Float
quotient f ax bp c1 = mul f (sub f ax bp) (div f c1 (add f ax bp))

abbrev pub rest : Format → ℕ → Float → Float → Float → Float → Float
rest f j ax bp th c1 =
    mul f (div f c1 (add f ax bp))
    (sub f (sub f (sub f ax bp) (mul f (leading f j (quotient f ax bp c1)) th)) (mul f (leading f j (quotient f ax bp c1)) (sub f ax (sub f th bp))))

module _ {f : Format} {ax bp th c1 : Float} (Q : Ratio f ax bp th c1) (j g : ℕ) (jg : j + g ≡ prec f - 1) (gm : 11 ≤ g) where
  -- W is the size of s
  pub by-ratio : Series f (mag f (quotient f ax bp c1)) (quotient f ax bp c1) (rest f j ax bp th c1)
  by-ratio = record { scale = s-scale Q j g jg gm; W-u = (s-in Q j g jg gm).le; s-in = s-itself Q j g jg gm; sl-in = rest-small Q j g jg gm }

  -- near 1.5 the quotient is smaller: at most 0.1014
  pub closer : 27247 * U f ≤ 10000 * (mag f ax + mag f bp) → 10000 * mag f ax ≤ 10000 * mag f bp + 2754 * U f
      → 10000 * mag f bp ≤ 10000 * mag f ax + 2754 * U f → 2 ^ 30 * mag f (quotient f ax bp c1) ≤ 108800000 * U f
  closer a b d =
      let s = mag f (quotient f ax bp c1) in
      let sum = mag f (add f ax bp) in
      let u = sub f ax bp in
      let u-in : Within f (U f) 295720000 u = weaken 295720000 (sub-near (unit-scale f) Q.ax-in Q.bp-in
      (off-alike {e = 295710000} ax (Q.ax-s ∙ sym Q.bp-s) (diff (mag f ax) (mag f bp) (U f) b) (diff (mag f bp) (mag f ax) (U f) d)) tt) tt in
      let sum-least = least (mag f ax + mag f bp) sum (U f) a (sum_near Q j g jg gm).1 in
      le_of_mul-le-mul_right
      (fin s sum (mag f u) (U f) (product-most Q j g jg gm) (mul-le-mul_left s sum-least) (mul-le-mul_right (U f) u-in.le)) (pow_pos (low f))
    where
      diff : (a b u : ℕ) → 10000 * a ≤ 10000 * b + 2754 * u → 2 ^ 30 * a ≤ 2 ^ 30 * b + 295710000 * u
      diff a b u h = omega arith

      least : (n a u : ℕ) → 27247 * u ≤ 10000 * n → 2 ^ 17 * n ≤ 2 ^ 17 * a + u → 27246 * u ≤ 10000 * a
      least n a u h k = omega arith

      fin : (s a u e : ℕ) → 1024 * 1024 * (s * a) ≤ 1025 * 1025 * (u * e) → s * (27246 * e) ≤ s * (10000 * a) → 2 ^ 30 * u * e ≤ 295720000 * e * e
          → 2 ^ 30 * s * e ≤ 108800000 * e * e
      fin s a u e h k l = omega (arith, h, k, l)

-- ---- ax is the fixed point itself: the quotient is 0, and W is 2 ^ 100 units
module _ {f : Format} {ax th c1 : Float} (A : Within f (U f) (2 ^ 31) ax) (T-in : Within f (U f) (2 ^ 32) th) (C : Within f (U f) (2 ^ 30) c1)
    (sgn : sign ax ≡ false) (least : U f ≤ mag f ax) (j g : ℕ) (jg : j + g ≡ prec f - 1) where
  S1 : Scale f (U f)
  S1 = unit-scale f

  W : Scale f (2 ^ 100)
  W = record { least = lit≤ tt; most = most f }
    where
      most : (f : Format) → 2 ^ 100 ≤ 2 ^ 40 * U f
      most binary32 = lit≤ tt
      most binary64 = lit≤ tt

  abbrev d : Float
  d = sub f ax ax

  d-in : Within f (2 ^ 100) 0 d
  d-in =
      let r = r-sub S1 A A tt in
      let p = plus f ax in
      let m = minus f ax in
      record {
        num = r.num;
        le = fin (parts f d) (r.up ∙ round-none f (p + m) (m + p) (le_of_eq (add_comm p m))) (r.lo ∙ round-none f (m + p) (p + m) (le_of_eq (add_comm m p)));
      }
    where
      fin : {a p m : ℕ} → a ≡ p + m → p ≡ 0 → m ≡ 0 → 2 ^ 30 * a ≤ 0 * 2 ^ 100
      fin {a} {p} {m} e1 e2 e3 = omega arith

  sum-least : 1600000000 * U f ≤ 2 ^ 30 * mag f (add f ax ax)
  sum-least =
      let r = add f ax ax in
      let o = o-add S1 A A tt in
      let x = pos-parts f ax sgn in
      fin (plus f ax) (minus f ax) (mag f ax) (plus f r) (minus f r) (mag f r) (U f) x.0 x.1 (parts f r) least o.lo
    where
      fin : (pa ma a pr mr r u : ℕ) → pa ≡ a → ma ≡ 0 → r ≡ pr + mr → u ≤ a
          → 2 ^ 30 * (mr + (pa + pa)) ≤ 2 ^ 30 * (pr + (ma + ma)) + ((2 ^ 31 + 2 ^ 31) / 2 ^ 20 + 1) * u → 1600000000 * u ≤ 2 ^ 30 * r
      fin pa ma a pr mr r u e1 e2 e3 h k = omega arith

  v-in : Within f (U f) (2 ^ 30) (div f c1 (add f ax ax))
  v-in = weaken (2 ^ 30) (w-div S1 {d = 1600000000} C (w-add S1 A A tt).num (lit≤ tt) sum-least tt) tt

  quotient-in : Within f (2 ^ 100) 2 (quotient f ax ax c1)
  quotient-in = weaken 2 (w-mul W d-in v-in tt) tt

  t-l-in : Within f (U f) (2 ^ 35) (sub f ax (sub f th ax))
  t-l-in = weaken (2 ^ 35) (w-sub S1 A (w-sub S1 T-in A tt) tt) tt

  pub by_equal : Series f (2 ^ 100) (quotient f ax ax c1) (rest f j ax ax th c1)
  by_equal =
      let s-h = w-chop j g jg quotient-in in
      record {
        scale = W;
        W-u = big f;
        s-in = weaken (2 ^ 30) quotient-in tt;
        sl-in = weaken 67000000 (w-mul' W v-in (w-sub W (w-sub W d-in (w-mul W s-h T-in tt) tt) (w-mul W s-h t-l-in tt) tt) tt) tt;
      }
    where
      big : (f : Format) → 2 ^ 30 * 2 ^ 100 ≤ 166000000 * U f
      big binary32 = lit≤ tt
      big binary64 = lit≤ tt
