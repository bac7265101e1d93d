-- The exponential of a small number in two floats p_h + p_l, in the chain's order and names: its argument z + w, and the result, which lies between 1/4 and 2.
use mathlib.Core.Path.{◌≡◌}
use Prim.Native.Nat.{ℕ, ◌+◌, ◌-◌, ◌*◌, ◌/◌, ◌^◌, ◌≤◌, ◌<◌}
use native.Mathlib.Nat.{zero-lt-suc}
use native.Mathlib.Omega.{arith}
use mathlib.Core.Bool.{false}
use lib.Dec.{T, leb, leb→le}
use lib.Pow.{pow_pos}
use lib.Ieee.{Float, Format, prec, low, add, sub, mul, div}
use Rattle.bounds.proofs.Signed.{sign, mag, plus, minus, Num, parts, positive}
use Rattle.bounds.proofs.Within.{U, Scale, Within, unit-scale, bump, weaken, at_most}
use Rattle.bounds.proofs.SumBounds.{w-add, w-sub, o-add, o-sub}
use Rattle.bounds.proofs.ProductBounds.{w-mul, w-div}
use Rattle.bounds.proofs.Chop.{leading, w-chop, o-chop}
use Rattle.bounds.proofs.Split.{off-itself, off-swap, remains, split}

pub record Between (f : Format) (x : Float) : Type 0 where
  pub num : Num f x
  pub sgn : sign x ≡ false
  pub hi : mag f x < 2 * U f
  pub lo : U f ≤ 4 * mag f x

-- the constants, in 2 ^ -30
pub record Consts (f : Format) (P1 P2 P3 P4 P5 LG2 LG2-H LG2-L #1 #2 : Float) : Type 0 where
  pub p1 : Within f (U f) 179000000 P1
  pub p2 : Within f (U f) 2983000 P2
  pub p3 : Within f (U f) 72000 P3
  pub p4 : Within f (U f) 1800 P4
  pub p5 : Within f (U f) 50 P5
  pub lg : Within f (U f) 744300000 LG2
  pub lgh : Within f (U f) 744300000 LG2-H
  pub lgl : Within f (U f) 1600 LG2-L
  pub one : (Within f (U f) (2 ^ 30) #1) × (plus f #1 ≡ U f) × (minus f #1 ≡ 0)
  pub two : (Within f (U f) (2 ^ 31) #2) × (plus f #2 ≡ 2 * U f) × (minus f #2 ≡ 0)

-- ---- z = u + v, and w = v - (z - u), what z has lost
module _ {f : Format} {u v : Float} (u-in : Within f (U f) 416000000 u) (v-in : Within f (U f) 9100000 v) where
  pub uv-sum-in : Within f (U f) 426000000 (add f u v)
  uv-sum-in = weaken 426000000 (w-add (unit-scale f) u-in v-in tt) tt

  pub uv-lost-in : Within f (U f) 3000 (sub f v (sub f (add f u v) u))
  uv-lost-in =
      let s = unit-scale f in
      let near = off-swap (plus f u) (plus f v) (minus f u) (minus f v) (o-add s u-in v-in tt) in
      weaken 3000 (split s u-in v-in uv-sum-in near (off-itself (add f u v)) tt tt) tt

module _ {f : Format} {P1 P2 P3 P4 P5 LG2 LG2-H LG2-L #1 #2 : Float} (C : Consts f P1 P2 P3 P4 P5 LG2 LG2-H LG2-L #1 #2) where
  S1 : Scale f (U f)
  S1 = unit-scale f

  -- ---- the argument: (p_h + p_l) * log 2 as u + v, where t is a leading part of p_l + p_h
  module _ {p-h p-l : Float} (p-h-in : Within f (U f) (2 ^ 41) p-h) (p-l-in : Within f (U f) (2 ^ 41) p-l) (o-in : Within f (U f) 600000000 (add f p-l p-h))
      (j g : ℕ) (jg : j + g ≡ prec f - 1) (G : T (leb (600000000 / 2 ^ g) 2400000)) where
    abbrev pub t : Float
    t = leading f j (add f p-l p-h)

    pub t-in : Within f (U f) 600000000 t
    t-in = w-chop j g jg o-in

    pub rest_in : Within f (U f) 13000000 (sub f p-l (sub f t p-h))
    rest_in =
        at_most 13000000 (split S1 p-h-in p-l-in t-in (o-add S1 p-l-in p-h-in tt) (o-chop j g jg S1 o-in) tt tt)
        (fin (600000000 / 2 ^ g) (leb→le (600000000 / 2 ^ g) 2400000 G))
      where
        fin : (q : ℕ) → q ≤ 2400000 → remains (2 ^ 41) (2 ^ 41) 600000000 (2 ^ 42 / 2 ^ 20 + 1) (q + 1) ≤ 13000000
        fin q h = omega arith

    abbrev pub u : Float
    u = mul f t LG2-H

    abbrev pub v : Float
    v = add f (mul f (sub f p-l (sub f t p-h)) LG2) (mul f t LG2-L)

    pub u-in : Within f (U f) 416000000 u
    u-in = weaken 416000000 (w-mul S1 t-in C.lgh tt) tt

    pub v-in : Within f (U f) 9100000 v
    v-in = weaken 9100000 (w-add S1 (w-mul S1 rest_in C.lg tt) (w-mul S1 t-in C.lgl tt) tt) tt

    pub z-in : Within f (U f) 426000000 (add f u v)
    z-in = uv-sum-in u-in v-in

    pub w-in : Within f (U f) 3000 (sub f v (sub f (add f u v) u))
    w-in = uv-lost-in u-in v-in

  -- ---- the exponential of z + w
  module _ {z w : Float} (Z : Within f (U f) 426000000 z) (W : Within f (U f) 3000 w) where
    abbrev z2 : Float
    z2 = mul f z z

    z2-in : Within f (U f) 170000000 z2
    z2-in = weaken 170000000 (w-mul S1 Z Z tt) tt

    abbrev q4 : Float
    q4 = add f P4 (mul f z2 P5)

    abbrev q3 : Float
    q3 = add f P3 (mul f z2 q4)

    abbrev q2 : Float
    q2 = add f P2 (mul f z2 q3)

    abbrev q1 : Float
    q1 = add f P1 (mul f z2 q2)

    q4-in : Within f (U f) 1900 q4
    q4-in = weaken 1900 (w-add S1 C.p4 (w-mul S1 z2-in C.p5 tt) tt) tt

    q3-in : Within f (U f) 73000 q3
    q3-in = weaken 73000 (w-add S1 C.p3 (w-mul S1 z2-in q4-in tt) tt) tt

    q2-in : Within f (U f) 3000000 q2
    q2-in = weaken 3000000 (w-add S1 C.p2 (w-mul S1 z2-in q3-in tt) tt) tt

    poly-in : Within f (U f) 29000000 (mul f z2 q1)
    poly-in = weaken 29000000 (w-mul S1 z2-in (w-add S1 C.p1 (w-mul S1 z2-in q2-in tt) tt) tt) tt

    abbrev pub t1 : Float
    t1 = sub f z (mul f z2 q1)

    pub t1-in : Within f (U f) 456000000 t1
    t1-in = weaken 456000000 (w-sub S1 Z poly-in tt) tt

    -- the divisor t1 - 2 is below -1.49
    pub divisor-least : 1600000000 * U f ≤ 2 ^ 30 * mag f (sub f t1 #2)
    divisor-least =
        let d = sub f t1 #2 in
        fin (plus f d) (minus f d) (mag f d) (plus f t1) (minus f t1) (mag f t1) (plus f #2) (minus f #2) (U f)
        (parts f d) (parts f t1) C.two.1 C.two.2 (o-sub S1 t1-in C.two.0 tt).hi t1-in.le
      where
        fin : (p m r pt mt at pc mc u : ℕ) → r ≡ p + m → at ≡ pt + mt → pc ≡ 2 * u → mc ≡ 0
            → 2 ^ 30 * (p + (mt + pc)) ≤ 2 ^ 30 * (m + (pt + mc)) + ((456000000 + 2 ^ 31) / 2 ^ 20 + 1) * u → 2 ^ 30 * at ≤ 456000000 * u
            → 1600000000 * u ≤ 2 ^ 30 * r
        fin p m r pt mt at pc mc u a b c d e g = omega arith

    abbrev pub r : Float
    r = sub f (div f (mul f z t1) (sub f t1 #2)) (add f w (mul f z w))

    quotient-in : Within f (U f) 125000000 (div f (mul f z t1) (sub f t1 #2))
    quotient-in = weaken 125000000 (w-div S1 {d = 1600000000} (w-mul S1 Z t1-in tt) (w-sub S1 t1-in C.two.0 tt).num (zero-lt-suc _) divisor-least tt) tt

    abbrev pub body : Float
    body = sub f r z

    pub body-in : Within f (U f) 560000000 body
    body-in = weaken 560000000 (w-sub S1 (w-sub S1 quotient-in (w-add S1 W (w-mul S1 Z W tt) tt) tt) Z tt) tt

    -- 1 - (r - z)
    pub exponential : Between f (sub f #1 body)
    exponential =
        let x = sub f #1 body in
        let o = o-sub S1 C.one.0 body-in tt in
        let i = w-sub S1 C.one.0 body-in tt in
        let l : 500000000 * U f ≤ 2 ^ 30 * plus f x = least (plus f x) (minus f x) (plus f #1) (minus f #1) (plus f body) (minus f body) (mag f body) (U f)
        C.one.1 C.one.2 (parts f body) o.lo body-in.le in
        record {
          num = i.num;
          sgn = positive f x (above (plus f x) (U f) l (pow_pos (low f)));
          hi = under (mag f x) (U f) i.le (pow_pos (low f));
          lo = quarter (plus f x) (minus f x) (mag f x) (U f) (parts f x) l;
        }
      where
        least : (p m pc mc pb mb b u : ℕ) → pc ≡ u → mc ≡ 0 → b ≡ pb + mb
            → 2 ^ 30 * (m + (pc + mb)) ≤ 2 ^ 30 * (p + (mc + pb)) + ((2 ^ 30 + 560000000) / 2 ^ 20 + 1) * u → 2 ^ 30 * b ≤ 560000000 * u
            → 500000000 * u ≤ 2 ^ 30 * p
        least p m pc mc pb mb b u a c d e g = omega arith

        above : (p u : ℕ) → 500000000 * u ≤ 2 ^ 30 * p → 0 < u → 0 < p
        above p u a b = omega arith

        under : (m u : ℕ) → 2 ^ 30 * m ≤ bump (2 ^ 30 + 560000000) * u → 0 < u → m < 2 * u
        under m u a b = omega arith

        quarter : (p m r u : ℕ) → r ≡ p + m → 500000000 * u ≤ 2 ^ 30 * p → u ≤ 4 * r
        quarter p m r u a b = omega arith
