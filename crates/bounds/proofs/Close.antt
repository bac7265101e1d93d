-- The logarithm of an x very near 1, by its series in t = x - 1, against the size of t: u = ivln2_h * t carries it, so that t2 is small against t1.
use mathlib.Core.Path.{◌≡◌, subst}
use Prim.Native.Nat.{ℕ, suc, ◌+◌, ◌-◌, ◌*◌, ◌/◌, ◌^◌, ◌≤◌}
use native.Mathlib.Nat.{le_refl}
use native.Mathlib.Omega.{arith}
use lib.Dec.{T, leb}
use lib.Ieee.{Float, Format, prec, emax, add, sub, mul}
use Rattle.bounds.proofs.Signed.{mag, plus, minus}
use Rattle.bounds.proofs.RoundedProducts.{mul-swap}
use Rattle.bounds.proofs.Within.{U, Scale, Within, unit-scale, weaken, at_most}
use Rattle.bounds.proofs.SumBounds.{w-add, w-sub, o-add}
use Rattle.bounds.proofs.ProductBounds.{w-mul, w-mul'}
use Rattle.bounds.proofs.Chop.{leading, w-chop, o-chop}
use Rattle.bounds.proofs.Split.{split, off-swap, remains}
use Rattle.bounds.proofs.Least.{Least, lower, g-mul, g-add, g-chop}
use Rattle.bounds.proofs.Halves.{Halves, halves}

-- the constants, in 2 ^ -30
pub record CloseConsts (f : Format) (IVLN2-H IVLN2-L IVLN2 THIRD #half #quarter : Float) : Type 0 where
  pub ivh-in : Within f (U f) 1549100000 IVLN2-H
  pub ivh-lo : Least f (U f) 1549000000 IVLN2-H
  pub ivl-in : Within f (U f) 8000 IVLN2-L
  pub iv-in : Within f (U f) 1549100000 IVLN2
  pub third-in : Within f (U f) 358000000 THIRD
  pub half_in : Within f (U f) 536870912 #half
  pub quarter-in : Within f (U f) 268435456 #quarter

module _ {f : Format} {IVLN2-H IVLN2-L IVLN2 THIRD #half #quarter t : Float} (C : CloseConsts f IVLN2-H IVLN2-L IVLN2 THIRD #half #quarter)
    (S : Scale f (mag f t)) (t-unit : Within f (U f) 1100 t) (j g : ℕ) (jg : j + g ≡ prec f - 1) (gm : 8 ≤ g)
    (G : T (leb (4 * suc (emax f) * (1549120000 / 2 ^ g + 8000)) 1500000000)) where
  t-itself : Within f (mag f t) (2 ^ 30) t
  t-itself = record { num = t-unit.num; le = le_refl (2 ^ 30 * mag f t) }

  -- the series' terms from t ^ 2 on
  abbrev c : Float
  c = mul f (mul f t t) (sub f #half (mul f t (sub f THIRD (mul f t #quarter))))

  abbrev u : Float
  u = mul f IVLN2-H t

  abbrev v : Float
  v = sub f (mul f t IVLN2-L) (mul f c IVLN2)

  inner-in : Within f (U f) 537000000 (sub f #half (mul f t (sub f THIRD (mul f t #quarter))))
  inner-in =
      let s1 = unit-scale f in
      weaken 537000000 (w-sub s1 C.half_in (w-mul s1 t-unit (w-sub s1 C.third-in (w-mul s1 t-unit C.quarter-in tt) tt) tt) tt) tt

  c-in : Within f (mag f t) 1200 c
  c-in = weaken 1200 (w-mul S (w-mul S t-itself t-unit tt) inner-in tt) tt

  u-in : Within f (mag f t) 1549102000 u
  u-in = weaken 1549102000 (w-mul' S C.ivh-in t-itself tt) tt

  u-least : Least f (mag f t) 1548990000 u
  u-least =
      subst (λ (x : Float). Least f (mag f t) 1548990000 x) (mul-swap f t IVLN2-H)
      (lower 1548990000 (g-mul S t-itself C.ivh-in tt record { ge = le_refl (2 ^ 30 * mag f t) } C.ivh-lo) tt)

  v-in : Within f (mag f t) 12000 v
  v-in = weaken 12000 (w-sub S (w-mul S t-itself C.ivl-in tt) (w-mul S c-in C.iv-in tt) tt) tt

  uv-in : Within f (mag f t) 1549120000 (add f u v)
  uv-in = weaken 1549120000 (w-add S u-in v-in tt) tt

  abbrev t1 : Float
  t1 = leading f j (add f u v)

  t1-in : Within f (mag f t) 1549120000 t1
  t1-in = w-chop j g jg uv-in

  t1-least : Least f (mag f t) 1500000000 t1
  t1-least = lower 1500000000 (g-chop S j g jg gm uv-in.num (g-add S u-in v-in tt u-least)) tt

  t2-in : Within f (mag f t) (1549120000 / 2 ^ g + 8000) (sub f v (sub f t1 u))
  t2-in =
      at_most (1549120000 / 2 ^ g + 8000)
      (split S u-in v-in t1-in (off-swap (plus f u) (plus f v) (minus f u) (minus f v) (o-add S u-in v-in tt)) (o-chop j g jg S uv-in) tt tt)
      (fin (1549120000 / 2 ^ g))
    where
      fin : (q : ℕ) → remains 1549102000 12000 1549120000 ((1549102000 + 12000) / 2 ^ 20 + 1) (q + 1) ≤ q + 8000
      fin q = omega arith

  -- the first part is small itself
  pub tight : 2 ^ 19 * mag f t1 ≤ U f
  tight = omega (arith, t1-in.le, t-unit.le)

  pub close : Halves f t1 (sub f v (sub f t1 u))
  close = halves t1-in.num t1-least t2-in G (omega (arith, tight))
