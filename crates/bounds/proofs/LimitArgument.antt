-- The exponential's argument z for a number a + b that is 0 at most, a and b floats: z is at most 0.37 of the last digit of 1.
-- With a + b = -σ, the leading part t is about -σ, and the rest l that t leaves is above 0 by 0.52 of a digit and 2 ^ -19 of σ at most.
-- Both times log 2: v is above 0 by no more than 0.7 of that, and u = t * lg2_h is below 0 by 0.69 of t, so that the part with σ goes.
use mathlib.Core.Path.{◌≡◌, refl, sym, ap, ◌∙◌, subst}
use mathlib.Core.Logic.{⊎_elim}
use Prim.Native.Nat.{ℕ, ◌+◌, ◌-◌, ◌*◌, ◌/◌, ◌^◌, ◌≤◌}
use native.Mathlib.Nat.{le_trans, sub-le, zero-add}
use native.Mathlib.Omega.{arith}
use mathlib.Core.Bool.{false}
use lib.Dec.{T, leb, leb→le, lit≤}
use lib.Pow.{pow_mono}
use lib.Ieee.{Float, Format, prec, hid, add, sub, mul}
use Rattle.bounds.proofs.Signed.{sign, mag, plus, minus, R, parts, parts-of, round-none}
use Rattle.bounds.proofs.Errors.{coarse}
use Rattle.bounds.proofs.Within.{U, Scale, Within, Off, unit-scale, weaken}
use Rattle.bounds.proofs.SumBounds.{r-add, r-sub, w-sub, o-add}
use Rattle.bounds.proofs.ProductBounds.{w-mul}
use Rattle.bounds.proofs.LastDigit.{E, big-E, o-sub-sharp}
use Rattle.bounds.proofs.Chop.{leading, Chopped, chopped, o-chop, hid-most}
use Rattle.bounds.proofs.Split.{off-swap, off-at-most, off-follow, off-left-out, off-turn}
use Rattle.bounds.proofs.Least.{Least, chop-gap}
use Rattle.bounds.proofs.ByConstant.{mul_most, mul-least, mul-sign, mul-plus}
use Rattle.bounds.proofs.Exp.{Consts, t-in, rest_in, u-in, v-in}

-- what is read of log 2 besides its bounds
pub record LimitConsts (f : Format) (LG2 LG2-H : Float) : Type 0 where
  pub lg-s : sign LG2 ≡ false
  pub lgh-s : sign LG2-H ≡ false
  pub lgh-lo : Least f (U f) 744000000 LG2-H

-- ---- numbers; σ, o and t are sizes, p and m of a float its two parts, e is E
-- the rest b - (t - a), exactly and rounded
rest-exact : (pa ma pb mb σ o t pt mt pd md e : ℕ) → σ ≡ (mb + ma) - (pb + pa) → pb + pa ≤ mb + ma → pt ≡ 0 → mt ≡ t → t ≤ o
    → 2 ^ 21 * o ≤ 2 ^ 21 * σ + σ + 2 ^ 20 → 2 ^ 30 * (md + (pt + ma)) ≤ 2 ^ 30 * (pd + (mt + pa)) + 550500001 * e → 2 ^ 50 ≤ e
    → 2 ^ 30 * ((pb + md) - (mb + pd)) ≤ 2 ^ 10 * σ + 550500002 * e
rest-exact pa ma pb mb σ o t pt mt pd md e i n p q l r d big = omega arith

rest-rounded : (x p σ e : ℕ) → 2 ^ 30 * x ≤ 2 ^ 10 * σ + 550500002 * e → 2 ^ 21 * p ≤ 2 ^ 21 * x + x + 2 ^ 20 → 2 ^ 50 ≤ e
    → 2 ^ 30 * p ≤ 2 ^ 11 * σ + 550501000 * e
rest-rounded x p σ e a b c = omega arith

-- v = l * lg2 + t * lg2_l, above 0
v-first : (p l : ℕ) → 2 ^ 51 * p ≤ (2 ^ 21 + 1) * 744300000 * l + 2 ^ 50 → 1000 * p ≤ 694 * l + 1000
v-first p l h = omega arith

v-second : (p n t : ℕ) → 2 ^ 51 * (p + n) ≤ (2 ^ 21 + 1) * 1600 * t + 2 ^ 50 → 100000 * p ≤ t + 100000
v-second p n t h = omega arith

v-share : (p1 p2 x v l t : ℕ) → 1000 * p1 ≤ 694 * l + 1000 → 100000 * p2 ≤ t + 100000 → x ≤ p1 + p2 → 2 ^ 21 * v ≤ 2 ^ 21 * x + x + 2 ^ 20
    → 1000 * v ≤ 695 * l + t + 4000
v-share p1 p2 x v l t a b h k = omega arith

-- t is most of σ
t-share : (σ o t h : ℕ) → 2 ^ 21 * σ ≤ 2 ^ 21 * o + σ + 2 ^ 20 → 2 ^ 8 * o ≤ 2 ^ 8 * t + o + h → h ≤ 2 ^ 52 → 99 * σ ≤ 100 * t + 2 ^ 60
t-share σ o t h a b c = omega arith

-- z = u + v, above 0, where u is below it by 0.692 of t
u-share : (t mu : ℕ) → (2 ^ 21 - 1) * 744000000 * t ≤ 2 ^ 51 * mu + 2 ^ 50 → 692 * t ≤ 1000 * mu + 1000
u-share t mu h = omega arith

l-share : (σ l e : ℕ) → 2 ^ 30 * l ≤ 2 ^ 11 * σ + 550501000 * e → 10000 * l ≤ σ + 5128 * e
l-share σ l e h = omega arith

z-exact : (σ l t mu pv e : ℕ) → 10000 * l ≤ σ + 5128 * e → 692 * t ≤ 1000 * mu + 1000 → 1000 * pv ≤ 695 * l + t + 4000 → 99 * σ ≤ 100 * t + 2 ^ 60
    → 2 ^ 70 ≤ e → 1000 * (pv - mu) ≤ 357 * e
z-exact σ l t mu pv e a b c d h = fin (both a b c d h)
  where
    both : 10000 * l ≤ σ + 5128 * e → 692 * t ≤ 1000 * mu + 1000 → 1000 * pv ≤ 695 * l + t + 4000 → 99 * σ ≤ 100 * t + 2 ^ 60 → 2 ^ 70 ≤ e
        → 1000 * pv ≤ 1000 * mu + 357 * e
    both a b c d h = omega arith

    fin : 1000 * pv ≤ 1000 * mu + 357 * e → 1000 * (pv - mu) ≤ 357 * e
    fin h = omega (arith, h)

z-rounded : (x y p e : ℕ) → x ≤ y → 1000 * y ≤ 357 * e → 2 ^ 21 * p ≤ 2 ^ 21 * x + x + 2 ^ 20 → 2 ^ 70 ≤ e → 2 ^ 30 * p ≤ 390000000 * e
z-rounded x y p e k a b c = omega arith

module _ {f : Format} {P1 P2 P3 P4 P5 LG2 LG2-H LG2-L #1 #2 : Float} (C : Consts f P1 P2 P3 P4 P5 LG2 LG2-H LG2-L #1 #2) (K : LimitConsts f LG2 LG2-H)
    {a b : Float} (A : Within f (U f) 1160000000 a) (B : Within f (U f) 548000000 b) (O : Within f (U f) 600000000 (add f b a))
    (neg : plus f b + plus f a ≤ minus f b + minus f a) (j g : ℕ) (jg : j + g ≡ prec f - 1) (gm : 8 ≤ g) (G : T (leb (600000000 / 2 ^ g) 2400000)) where
  S1 : Scale f (U f)
  S1 = unit-scale f

  eps : 2 ^ 70 ≤ E f
  eps = le_trans (lit≤ tt) (big-E f)

  A41 : Within f (U f) (2 ^ 41) a
  A41 = weaken (2 ^ 41) A tt

  B41 : Within f (U f) (2 ^ 41) b
  B41 = weaken (2 ^ 41) B tt

  -- ---- o = b + a, rounded: below 0, and σ but for a rounding
  abbrev o : Float
  o = add f b a

  σ : ℕ
  σ = (minus f b + minus f a) - (plus f b + plus f a)

  o-plus : plus f o ≡ 0
  o-plus = (r-add S1 B A tt).up ∙ round-none f (plus f b + plus f a) (minus f b + minus f a) neg

  o-size : mag f o ≡ R f σ
  unfolding σ
  o-size = parts f o ∙ ap (λ (z : ℕ). z + minus f o) o-plus ∙ zero-add (minus f o) ∙ (r-add S1 B A tt).lo

  o-most : 2 ^ 21 * mag f o ≤ 2 ^ 21 * σ + σ + 2 ^ 20
  o-most = subst (λ (z : ℕ). 2 ^ 21 * z ≤ 2 ^ 21 * σ + σ + 2 ^ 20) (sym o-size) (coarse f σ).0

  o-least : 2 ^ 21 * σ ≤ 2 ^ 21 * mag f o + σ + 2 ^ 20
  o-least = subst (λ (z : ℕ). 2 ^ 21 * σ ≤ 2 ^ 21 * z + σ + 2 ^ 20) (sym o-size) (coarse f σ).1

  -- ---- t, its leading part
  abbrev t : Float
  t = leading f j o

  c : Chopped f g o t
  c = chopped f j g o jg O.num

  t-parts : (plus f t ≡ 0) × (minus f t ≡ mag f t)
  t-parts = ⊎_elim
      (λ v. fin (plus f t) (minus f t) (mag f t) (plus f o) (mag f o) v.0 v.1 v.2 o-plus c.le)
      (λ v. (v.0, v.1))
      (parts-of f o t c.sgn)
    where
      fin : (p m x q y : ℕ) → p ≡ x → m ≡ 0 → q ≡ y → q ≡ 0 → x ≤ y → (p ≡ 0) × (m ≡ x)
      fin p m x q y e1 e2 e3 e4 h = (omega arith, omega arith)

  t-unit : Within f (U f) 600000000 t
  t-unit = t-in C A41 B41 O j g jg G

  -- t is near a: b is left out
  t-off : Off f (U f) 550500000 t (plus f a) (minus f a)
  t-off =
      off-at-most 550500000 (off-left-out B (off-follow (off-swap (plus f b) (plus f a) (minus f b) (minus f a) (o-add S1 B A tt)) (o-chop j g jg S1 O)))
      (fin (600000000 / 2 ^ g) (leb→le (600000000 / 2 ^ g) 2400000 G))
    where
      fin : (k : ℕ) → k ≤ 2400000 → ((548000000 + 1160000000) / 2 ^ 20 + 1) + (k + 1) + 548000000 ≤ 550500000
      fin k h = omega arith

  -- ---- the rest l = b - (t - a): here t - a must be known to the last digit
  abbrev d : Float
  d = sub f t a

  d-off : Off f (E f) 550500001 d (plus f t + minus f a) (minus f t + plus f a)
  d-off = o-sub-sharp 550500000 t-unit A tt (off-turn t-off)

  abbrev l : Float
  l = sub f b d

  l-plus : 2 ^ 30 * plus f l ≤ 2 ^ 11 * σ + 550501000 * E f
  unfolding σ
  l-plus =
      let r = r-sub S1 B (w-sub S1 t-unit A tt) tt in
      let x = (plus f b + minus f d) - (minus f b + plus f d) in
      let eps' : 2 ^ 50 ≤ E f = le_trans (lit≤ tt) eps in
      rest-rounded x (plus f l) σ (E f)
      (rest-exact (plus f a) (minus f a) (plus f b) (minus f b) σ (mag f o) (mag f t) (plus f t) (minus f t) (plus f d) (minus f d) (E f)
      refl neg t-parts.0 t-parts.1 c.le o-most d-off.lo eps')
      (subst (λ (z : ℕ). 2 ^ 21 * z ≤ 2 ^ 21 * x + x + 2 ^ 20) (sym r.up) (coarse f x).0) eps'

  l-in : Within f (U f) 13000000 l
  l-in = rest_in C A41 B41 O j g jg G

  -- ---- u = t * lg2_h, v = l * lg2 + t * lg2_l and z = u + v
  abbrev m1 : Float
  m1 = mul f l LG2

  abbrev m2 : Float
  m2 = mul f t LG2-L

  abbrev u : Float
  u = mul f t LG2-H

  abbrev v : Float
  v = add f m1 m2

  v-plus : 1000 * plus f v ≤ 695 * plus f l + mag f t + 4000
  v-plus =
      let r = r-add S1 (w-mul S1 l-in C.lg tt) (w-mul S1 t-unit C.lgl tt) tt in
      let x = (plus f m1 + plus f m2) - (minus f m1 + minus f m2) in
      v-share (plus f m1) (plus f m2) x (plus f v) (plus f l) (mag f t)
      (v-first (plus f m1) (plus f l) (mul-plus l-in C.lg tt K.lg-s))
      (v-second (plus f m2) (minus f m2) (mag f t)
      (subst (λ (z : ℕ). 2 ^ 51 * z ≤ (2 ^ 21 + 1) * 1600 * mag f t + 2 ^ 50) (parts f m2) (mul_most t-unit C.lgl tt)))
      (sub-le (plus f m1 + plus f m2) (minus f m1 + minus f m2))
      (subst (λ (z : ℕ). 2 ^ 21 * z ≤ 2 ^ 21 * x + x + 2 ^ 20) (sym r.up) (coarse f x).0)

  u-parts : (plus f u ≡ 0) × (minus f u ≡ mag f u)
  u-parts = ⊎_elim
      (λ w. fin (plus f u) (minus f u) (mag f u) (plus f t) (mag f t) w.0 w.1 w.2 t-parts.0 (mul_most t-unit C.lgh tt))
      (λ w. (w.0, w.1))
      (parts-of f t u (mul-sign t-unit C.lgh tt K.lgh-s))
    where
      fin : (p m x q y : ℕ) → p ≡ x → m ≡ 0 → q ≡ y → q ≡ 0 → 2 ^ 51 * x ≤ (2 ^ 21 + 1) * 744300000 * y + 2 ^ 50 → (p ≡ 0) × (m ≡ x)
      fin p m x q y e1 e2 e3 e4 h = (omega arith, omega arith)

  pub z-plus : 2 ^ 30 * plus f (add f u v) ≤ 390000000 * E f
  z-plus =
      let r = r-add S1 (u-in C A41 B41 O j g jg G) (v-in C A41 B41 O j g jg G) tt in
      let x = (plus f u + plus f v) - (minus f u + minus f v) in
      let u-low : (2 ^ 21 - 1) * 744000000 * mag f t ≤ 2 ^ 51 * minus f u + 2 ^ 50 =
      subst (λ (y : ℕ). (2 ^ 21 - 1) * 744000000 * mag f t ≤ 2 ^ 51 * y + 2 ^ 50) (sym u-parts.1) (mul-least t-unit C.lgh tt 744000000 K.lgh-lo) in
      z-rounded x (plus f v - minus f u) (plus f (add f u v)) (E f) (fin (plus f u) (plus f v) (minus f u) (minus f v) u-parts.0)
      (z-exact σ (plus f l) (mag f t) (minus f u) (plus f v) (E f) (l-share σ (plus f l) (E f) l-plus) (u-share (mag f t) (minus f u) u-low) v-plus
      (t-share σ (mag f o) (mag f t) (hid f) o-least (chop-gap (2 ^ g) (mag f o) (mag f t) (hid f) (pow_mono gm) c.le c.ge) (hid-most f)) eps)
      (subst (λ (y : ℕ). 2 ^ 21 * y ≤ 2 ^ 21 * x + x + 2 ^ 20) (sym r.up) (coarse f x).0) eps
    where
      fin : (pu pv mu mv : ℕ) → pu ≡ 0 → (pu + pv) - (mu + mv) ≤ pv - mu
      fin pu pv mu mv e = omega arith
