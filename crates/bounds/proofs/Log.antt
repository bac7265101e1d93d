-- The logarithm's walk in the chain's order and names, from s and s_l to z_h and z_l, bounded against 1 or against W, the size of s.
use mathlib.Core.Path.{◌≡◌, subst}
use Prim.Native.Nat.{ℕ, ◌+◌, ◌-◌, ◌*◌, ◌/◌, ◌^◌, ◌≤◌}
use native.Mathlib.Omega.{arith}
use lib.Dec.{T, leb, leb→le}
use lib.Ieee.{Float, Format, prec, add, sub, mul}
use Rattle.bounds.proofs.Signed.{plus, minus}
use Rattle.bounds.proofs.RoundedProducts.{mul-swap}
use Rattle.bounds.proofs.Within.{U, Scale, Within, unit-scale, weaken, at_most, rebase}
use Rattle.bounds.proofs.SumBounds.{w-add, w-sub, o-add}
use Rattle.bounds.proofs.ProductBounds.{w-mul, w-mul'}
use Rattle.bounds.proofs.Chop.{leading, w-chop, o-chop}
use Rattle.bounds.proofs.Split.{off-through, off-follow, off-left-out, off-turn, sub-near, split, off-swap, remains}
use Rattle.bounds.proofs.Least.{Least, lower, g-mul, g-add, g-chop}

-- the constants, in 2 ^ -30
pub record LogConsts (f : Format) (L1 L2 L3 L4 L5 L6 CP CP-H CP-L #3 : Float) : Type 0 where
  pub l1 : Within f (U f) 644300000 L1
  pub l2 : Within f (U f) 460200000 L2
  pub l3 : Within f (U f) 357950000 L3
  pub l4 : Within f (U f) 292900000 L4
  pub l5 : Within f (U f) 247700000 L5
  pub l6 : Within f (U f) 222300000 L6
  pub cp : Within f (U f) 1032850000 CP
  pub cph : Within f (U f) 1032850000 CP-H
  pub cph-lo : Least f (U f) 1032700000 CP-H
  pub cpl : Within f (U f) 130000 CP-L
  pub three : (Within f (U f) 3221225472 #3) × Least f (U f) 3221225472 #3

module _ {f : Format} {L1 L2 L3 L4 L5 L6 CP CP-H CP-L #3 : Float} (C : LogConsts f L1 L2 L3 L4 L5 L6 CP CP-H CP-L #3)
    {s s-l : Float} {W : ℕ} (scale : Scale f W) (W-u : 2 ^ 30 * W ≤ 166000000 * U f) (s-in : Within f W (2 ^ 30) s) (s-l-in : Within f W 67000000 s-l)
    (j g : ℕ) (jg : j + g ≡ prec f - 1) (gm : 8 ≤ g) (G1 : T (leb (3251000000 / 2 ^ g) 1588000)) (G2 : T (leb (3517000000 / 2 ^ g) 1718000)) where
  S1 : Scale f (U f)
  S1 = unit-scale f

  -- ---- s, s_h and s_l against 1
  s_unit : Within f (U f) 166000001 s
  s_unit = rebase (U f) 166000000 s-in W-u

  abbrev s-h : Float
  s-h = leading f j s

  s-h-unit : Within f (U f) 166000001 s-h
  s-h-unit = w-chop j g jg s_unit

  s-h-in : Within f W (2 ^ 30) s-h
  s-h-in = w-chop j g jg s-in

  s-l-unit : Within f (U f) 10400000 s-l
  s-l-unit = weaken 10400000 (rebase (U f) 166000000 s-l-in W-u) tt

  -- ---- r, by the series' nested sums
  abbrev s2 : Float
  s2 = mul f s s

  s2-in : Within f (U f) 25700000 s2
  s2-in = weaken 25700000 (w-mul S1 s_unit s_unit tt) tt

  abbrev q5 : Float
  q5 = add f L5 (mul f s2 L6)

  abbrev q4 : Float
  q4 = add f L4 (mul f s2 q5)

  abbrev q3 : Float
  q3 = add f L3 (mul f s2 q4)

  abbrev q2 : Float
  q2 = add f L2 (mul f s2 q3)

  abbrev q1 : Float
  q1 = add f L1 (mul f s2 q2)

  q5-in : Within f (U f) 254000000 q5
  q5-in = weaken 254000000 (w-add S1 C.l5 (w-mul S1 s2-in C.l6 tt) tt) tt

  q4-in : Within f (U f) 300000000 q4
  q4-in = weaken 300000000 (w-add S1 C.l4 (w-mul S1 s2-in q5-in tt) tt) tt

  q3-in : Within f (U f) 366000000 q3
  q3-in = weaken 366000000 (w-add S1 C.l3 (w-mul S1 s2-in q4-in tt) tt) tt

  q2-in : Within f (U f) 470000000 q2
  q2-in = weaken 470000000 (w-add S1 C.l2 (w-mul S1 s2-in q3-in tt) tt) tt

  q1-in : Within f (U f) 656000000 q1
  q1-in = weaken 656000000 (w-add S1 C.l1 (w-mul S1 s2-in q2-in tt) tt) tt

  abbrev r : Float
  r = add f (mul f (mul f s2 s2) q1) (mul f s-l (add f s-h s))

  r-in : Within f (U f) 3600000 r
  r-in = weaken 3600000 (w-add S1 (w-mul S1 (w-mul S1 s2-in s2-in tt) q1-in tt) (w-mul S1 s-l-unit (w-add S1 s-h-unit s_unit tt) tt) tt) tt

  -- ---- t_h, the leading part of 3 + s_h ^ 2 + r, and t_l
  abbrev s-h2 : Float
  s-h2 = mul f s-h s-h

  s-h2-in : Within f (U f) 25700000 s-h2
  s-h2-in = weaken 25700000 (w-mul S1 s-h-unit s-h-unit tt) tt

  o1-in : Within f (U f) 3247000000 (add f #3 s-h2)
  o1-in = weaken 3247000000 (w-add S1 C.three.0 s-h2-in tt) tt

  abbrev o : Float
  o = add f (add f #3 s-h2) r

  o-in : Within f (U f) 3251000000 o
  o-in = weaken 3251000000 (w-add S1 o1-in r-in tt) tt

  o-least : Least f (U f) 3191000000 o
  o-least = lower 3191000000 (g-add S1 o1-in r-in tt (g-add S1 C.three.0 s-h2-in tt C.three.1)) tt

  abbrev t-h : Float
  t-h = leading f j o

  t-h-in : Within f (U f) 3251000000 t-h
  t-h-in = w-chop j g jg o-in

  t-h-least : Least f (U f) 3166000000 t-h
  t-h-least = lower 3166000000 (g-chop S1 j g jg gm o-in.num o-least) tt

  -- t_h is near 3 + s_h ^ 2 + r, and so within the last two of 3
  t-h3-in : Within f (U f) 31100000 (sub f t-h #3)
  t-h3-in =
      let o-off = off-through (plus f r) (minus f r) (o-add S1 C.three.0 s-h2-in tt) (o-add S1 o1-in r-in tt) in
      let t-off = off-left-out s-h2-in (off-left-out r-in (off-follow o-off (o-chop j g jg S1 o-in))) in
      at_most 31100000 (sub-near S1 t-h-in C.three.0 (off-turn t-off) tt) (fin (3251000000 / 2 ^ g) (leb→le (3251000000 / 2 ^ g) 1588000 G1))
    where
      fin : (k : ℕ) → k ≤ 1588000
          → (((3221225472 + 25700000) / 2 ^ 20 + 1) + ((3247000000 + 3600000) / 2 ^ 20 + 1) + (k + 1) + 3600000 + 25700000)
          + ((3251000000 + 3221225472) / 2 ^ 20 + 1)
          ≤ 31100000
      fin k h = omega arith

  abbrev t-l : Float
  t-l = sub f r (sub f (sub f t-h #3) s-h2)

  t-l-in : Within f (U f) 60500000 t-l
  t-l-in = weaken 60500000 (w-sub S1 r-in (w-sub S1 t-h3-in s-h2-in tt) tt) tt

  -- ---- p_h + p_l = u + v
  abbrev u : Float
  u = mul f s-h t-h

  abbrev v : Float
  v = add f (mul f s-l t-h) (mul f t-l s)

  u-in : Within f W 3252000000 u
  u-in = weaken 3252000000 (w-mul scale s-h-in t-h-in tt) tt

  v-in : Within f W 264000000 v
  v-in = weaken 264000000 (w-add scale (w-mul scale s-l-in t-h-in tt) (w-mul' scale t-l-in s-in tt) tt) tt

  uv-in : Within f W 3517000000 (add f u v)
  uv-in = weaken 3517000000 (w-add scale u-in v-in tt) tt

  abbrev p-h : Float
  p-h = leading f j (add f u v)

  p-h-in : Within f W 3517000000 p-h
  p-h-in = w-chop j g jg uv-in

  abbrev p-l : Float
  p-l = sub f v (sub f p-h u)

  p-l-in : Within f W 1740000 p-l
  p-l-in =
      at_most 1740000
      (split scale u-in v-in p-h-in (off-swap (plus f u) (plus f v) (minus f u) (minus f v) (o-add scale u-in v-in tt)) (o-chop j g jg scale uv-in) tt tt)
      (fin (3517000000 / 2 ^ g) (leb→le (3517000000 / 2 ^ g) 1718000 G2))
    where
      fin : (q : ℕ) → q ≤ 1718000 → remains 3252000000 264000000 3517000000 ((3252000000 + 264000000) / 2 ^ 20 + 1) (q + 1) ≤ 1740000
      fin q h = omega arith

  -- ---- z_h and z_l, but for dp_l
  pub z-h-in : Within f W 3384000000 (mul f CP-H p-h)
  z-h-in = weaken 3384000000 (w-mul' scale C.cph p-h-in tt) tt

  pub z-l-in : Within f W 2110000 (add f (mul f CP-L p-h) (mul f p-l CP))
  z-l-in = weaken 2110000 (w-add scale (w-mul' scale C.cpl p-h-in tt) (w-mul scale p-l-in C.cp tt) tt) tt

  -- where s_h is most of s, z_h is not small
  module _ (s-h-least : Least f W 1065353216 (leading f j s)) where
    u-least : Least f W 3140000000 u
    u-least = lower 3140000000 (g-mul scale s-h-in t-h-in tt s-h-least t-h-least) tt

    p-h-least : Least f W 2850000000 p-h
    p-h-least = lower 2850000000 (g-chop scale j g jg gm uv-in.num (g-add scale u-in v-in tt u-least)) tt

    pub z-h-least : Least f W 2740000000 (mul f CP-H p-h)
    z-h-least =
        subst (λ (x : Float). Least f W 2740000000 x) (mul-swap f p-h CP-H)
        (lower 2740000000 (g-mul scale p-h-in C.cph tt p-h-least C.cph-lo) tt)
