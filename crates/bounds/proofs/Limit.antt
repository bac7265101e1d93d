-- The exponential of a number in two floats that is 0 at most is 1 at most: z is above 0 by a part of the last digit E only, and r - z is below 0 by E at most.
-- Here bounds against 1 do not serve: w and r are bounded against S, the size of z and a last digit more.
use mathlib.Core.Path.{◌≡◌}
use Prim.Native.Nat.{ℕ, ◌+◌, ◌-◌, ◌*◌, ◌/◌, ◌^◌, ◌≤◌}
use native.Mathlib.Nat.{le_trans, le_of_eq, le-add_left, le-add_right, mul-le-mul_left, zero-lt-suc}
use native.Mathlib.Omega.{arith}
use lib.Dec.{T, leb, lit≤}
use lib.Ieee.{Float, Format, prec, add, sub, mul}
use Rattle.bounds.proofs.Signed.{mag, plus, minus, parts, round_mono}
use Rattle.bounds.proofs.Errors.{coarse, dist, both-law}
use Rattle.bounds.proofs.Within.{U, Scale, Within, Off, unit-scale, weaken, rebase}
use Rattle.bounds.proofs.SumBounds.{off-by, r-add, r-sub, w-add, w-sub, o-add}
use Rattle.bounds.proofs.ProductBounds.{w-mul, w-mul', w-div}
use Rattle.bounds.proofs.LastDigit.{E, E-U, big-E, round-E, round-U, o-sub-sharp}
use Rattle.bounds.proofs.Chop.{leading}
use Rattle.bounds.proofs.Split.{off-swap, off-at-most, off-rescale, off-taken, off-left-out, off-turn, sub-close}
use Rattle.bounds.proofs.Exp.{Consts, uv-sum-in, uv-lost-in, u-in, v-in, t1-in, divisor-least, r, body, body-in}
use Rattle.bounds.proofs.LimitArgument.{LimitConsts, z-plus}

-- ---- from u and v, where z = u + v is above 0 by 390000000 / 2 ^ 30 of a digit at most
module _ {f : Format} {P1 P2 P3 P4 P5 LG2 LG2-H LG2-L #1 #2 : Float} (C : Consts f P1 P2 P3 P4 P5 LG2 LG2-H LG2-L #1 #2)
    {u v : Float} (u-unit : Within f (U f) 416000000 u) (v-unit : Within f (U f) 9100000 v) (above : 2 ^ 30 * plus f (add f u v) ≤ 390000000 * E f) where
  S1 : Scale f (U f)
  S1 = unit-scale f

  abbrev z : Float
  z = add f u v

  abbrev q : Float
  q = sub f z u

  abbrev w : Float
  w = sub f v q

  z-unit : Within f (U f) 426000000 z
  z-unit = uv-sum-in u-unit v-unit

  w-unit : Within f (U f) 3000 w
  w-unit = uv-lost-in u-unit v-unit

  -- ---- S
  S : ℕ
  S = mag f z + E f

  scale : Scale f S
  unfolding S
  scale = record { least = le_trans (le_trans (lit≤ tt) (big-E f)) (le-add_left (E f) (mag f z)); most = cap (mag f z) (E f) (U f) z-unit.le (E-U f) }
    where
      cap : (m e u : ℕ) → 2 ^ 30 * m ≤ 426000000 * u → 2 ^ 24 * e ≤ u → m + e ≤ 2 ^ 40 * u
      cap m e u h k = omega arith

  S-unit : 2 ^ 30 * S ≤ 2 ^ 30 * U f
  unfolding S
  S-unit = fin (mag f z) (E f) (U f) z-unit.le (E-U f)
    where
      fin : (m e u : ℕ) → 2 ^ 30 * m ≤ 426000000 * u → 2 ^ 24 * e ≤ u → 2 ^ 30 * (m + e) ≤ 2 ^ 30 * u
      fin m e u h k = omega arith

  z-in : Within f S (2 ^ 30) z
  unfolding S
  z-in = record { num = z-unit.num; le = mul-le-mul_left (2 ^ 30) (le-add_right (mag f z) (E f)) }

  -- ---- w = v - (z - u): z is off u + v by a part of itself, and z - u is known to the last digit
  z-off : Off f S 1024 z (plus f u + plus f v) (minus f u + minus f v)
  unfolding S
  z-off =
      let A = plus f u + plus f v in
      let B = minus f u + minus f v in
      let x = r-add S1 u-unit v-unit tt in
      off-by f S (2 ^ 21) (2 ^ 20) 1024 z A B (coarse f) (lit≤ tt)
      (fin (dist A B) (mag f z) (E f) (both-law f (mag f z) (plus f z) (minus f z) A B (parts f z) x.up x.lo).1 (le_trans (lit≤ tt) (big-E f))) x
    where
      fin : (D z e : ℕ) → 2 ^ 21 * D ≤ 2 ^ 21 * z + D + 2 ^ 21 → 2 ^ 50 ≤ e → 2 ^ 30 * D + 2 ^ 30 * 2 ^ 20 ≤ 2 ^ 21 * (1024 * (z + e))
      fin D z e a b = omega arith

  q-off : Off f S 9102001 q (plus f z + minus f u) (minus f z + plus f u)
  unfolding S
  q-off =
      let near = off-at-most 9102000 (off-left-out v-unit (o-add S1 u-unit v-unit tt)) (lit≤ tt) in
      off-rescale S (o-sub-sharp 9102000 z-unit u-unit tt (off-turn near)) (le-add_left (E f) (mag f z))

  w-in : Within f S 9200000 w
  w-in =
      weaken 9200000 (sub-close v (le_trans (lit≤ tt) scale.least) (r-sub S1 v-unit (w-sub S1 z-unit u-unit tt) tt)
      (off-taken u (off-swap (plus f u) (plus f v) (minus f u) (minus f v) z-off) q-off)) tt

  -- ---- r, and r - z
  r-in : Within f S 319000000 (r C z-unit w-unit)
  r-in =
      let a = t1-in C z-unit w-unit in
      let d = w-div scale {d = 1600000000} (w-mul scale z-in a tt) (w-sub S1 a C.two.0 tt).num (zero-lt-suc _) (divisor-least C z-unit w-unit) tt in
      weaken 319000000 (w-sub scale d (w-add scale w-in (w-mul' scale z-unit w-in tt) tt) tt) tt

  r_unit : Within f (U f) (2 ^ 40) (r C z-unit w-unit)
  r_unit = weaken (2 ^ 40) (rebase (U f) (2 ^ 30) r-in S-unit) tt

  body-minus : minus f (body C z-unit w-unit) ≤ E f
  unfolding S
  body-minus =
      let x = r C z-unit w-unit in
      le_trans (le_of_eq (r-sub S1 r_unit z-unit tt).lo) (le_trans (round_mono f ((minus f x + plus f z) - (plus f x + minus f z)) (E f)
      (fin (plus f x) (minus f x) (mag f x) (plus f z) (minus f z) (mag f z) (E f) (parts f x) (parts f z) r-in.le above)) (le_of_eq (round-E f)))
    where
      fin : (pr mr r pz mz z e : ℕ) → r ≡ pr + mr → z ≡ pz + mz → 2 ^ 30 * r ≤ 319000000 * (z + e) → 2 ^ 30 * pz ≤ 390000000 * e
          → (mr + pz) - (pr + mz) ≤ e
      fin pr mr r pz mz z e a b c d = omega arith

  -- 1 - (r - z) is at most 1 + E, which is rounded to 1
  result-most : plus f (sub f #1 (body C z-unit w-unit)) ≤ U f
  result-most =
      let b = body C z-unit w-unit in
      le_trans (le_of_eq (r-sub S1 C.one.0 (body-in C z-unit w-unit) tt).up)
      (le_trans (round_mono f ((plus f #1 + minus f b) - (minus f #1 + plus f b)) (U f + E f)
      (fin (plus f #1) (minus f #1) (plus f b) (minus f b) (U f) (E f) C.one.1 body-minus)) (le_of_eq (round-U f)))
    where
      fin : (pc mc pb mb u e : ℕ) → pc ≡ u → mb ≤ e → (pc + mb) - (mc + pb) ≤ u + e
      fin pc mc pb mb u e a b = omega arith

-- ---- from the number a + b
module _ {f : Format} {P1 P2 P3 P4 P5 LG2 LG2-H LG2-L #1 #2 : Float} (C : Consts f P1 P2 P3 P4 P5 LG2 LG2-H LG2-L #1 #2) (K : LimitConsts f LG2 LG2-H)
    {a b : Float} (A : Within f (U f) 1160000000 a) (B : Within f (U f) 548000000 b) (O : Within f (U f) 600000000 (add f b a))
    (neg : plus f b + plus f a ≤ minus f b + minus f a) (j g : ℕ) (jg : j + g ≡ prec f - 1) (gm : 8 ≤ g) (G : T (leb (600000000 / 2 ^ g) 2400000)) where
  abbrev t : Float
  t = leading f j (add f b a)

  pub u-unit : Within f (U f) 416000000 (mul f t LG2-H)
  u-unit = u-in C (weaken (2 ^ 41) A tt) (weaken (2 ^ 41) B tt) O j g jg G

  pub v-unit : Within f (U f) 9100000 (add f (mul f (sub f b (sub f t a)) LG2) (mul f t LG2-L))
  v-unit = v-in C (weaken (2 ^ 41) A tt) (weaken (2 ^ 41) B tt) O j g jg G

  pub limit : plus f (sub f #1 (body C (uv-sum-in u-unit v-unit) (uv-lost-in u-unit v-unit))) ≤ U f
  limit = result-most C u-unit v-unit (z-plus C K A B O neg j g jg gm G)
