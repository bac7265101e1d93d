-- s_l, the rest of s after its leading part s_h, is small against |s|: s_h * t_h is near u, since s is near u / (ax + bp) and t_h near ax + bp.
use mathlib.Core.Path.{◌≡◌, sym, ap, ◌∙◌, subst}
use Prim.Native.Nat.{ℕ, ◌+◌, ◌-◌, ◌*◌, ◌^◌, ◌≤◌}
use native.Mathlib.Nat.{le_refl, mul-le-mul, mul-le-mul_left, le_of_mul-le-mul_right}
use native.Mathlib.Omega.{arith}
use mathlib.Core.Bool.{Bool, false}
use lib.Pow.{pow_pos}
use lib.Ieee.{Float, Format, prec, low, unlike, add, sub, mul, div}
use Rattle.bounds.proofs.Grid.{rq, error}
use Rattle.bounds.proofs.Signed.{sign, mag, plus, minus, pos-parts}
use Rattle.bounds.proofs.RoundedProducts.{Siz, unlike-false}
use Rattle.bounds.proofs.Errors.{digits}
use Rattle.bounds.proofs.Within.{U, Scale, Within, Off, unit-scale, weaken}
use Rattle.bounds.proofs.SumBounds.{w-sub, o-sub}
use Rattle.bounds.proofs.ProductBounds.{w-mul, w-mul', z-mul}
use Rattle.bounds.proofs.Chop.{leading, w-chop}
use Rattle.bounds.proofs.Split.{off-alike, off-taken, sub-near}
use Rattle.bounds.proofs.Quotient.{Like, like, quotient-lo, back-hi, back-lo}
use Rattle.bounds.proofs.Ratio.{Ratio, u-in, v-in, s-in, v-siz, s-siz, v-like, s-like, s-least, s-scale, cut, s-h-large}
use Rattle.bounds.proofs.Ratio.{sum-sign, sum_near, sum-least, sum-most, product-most}

-- t_h is a head of ax + bp
head-off : {f : Format} (ax bp : Float) {th : Float} → sign ax ≡ false → sign bp ≡ false → sign th ≡ false → mag f th ≤ mag f ax + mag f bp
    → 2 ^ 9 * (mag f ax + mag f bp) ≤ 2 ^ 9 * mag f th + U f → Off f (U f) (2 ^ 21) th (plus f ax + plus f bp) (minus f ax + minus f bp)
head-off {f} ax bp {th} a b c h k =
    let x = pos-parts f ax a in
    let y = pos-parts f bp b in
    let z = pos-parts f th c in
    record { hi = omega (arith, x.0, x.1, y.0, y.1, z.0, z.1); lo = omega (arith, x.0, x.1, y.0, y.1, z.0, z.1) }

module _ {f : Format} {ax bp th c1 : Float} (Q : Ratio f ax bp th c1) (j g : ℕ) (jg : j + g ≡ prec f - 1) (gm : 11 ≤ g) where
  S1 : Scale f (U f)
  S1 = unit-scale f

  abbrev u : Float
  u = sub f ax bp

  abbrev sum : Float
  sum = add f ax bp

  abbrev v : Float
  v = div f c1 sum

  abbrev s : Float
  s = mul f u v

  abbrev s-h : Float
  s-h = leading f j s

  abbrev p : Float
  p = mul f s-h th

  -- ---- p = s_h * t_h, against u
  p-siz : Siz f p (unlike (sign s-h) (sign th)) (rq (prec f) (mag f s-h * mag f th) (U f))
  p-siz = z-mul S1 (w-chop j g jg (s-in Q j g jg gm)) Q.th-in tt

  p-like : Like (mag f p * U f) (mag f s-h * mag f th)
  p-like =
      let n = mag f s-h * mag f th in
      let r = error (prec f) n (U f) (digits f) (pow_pos (low f)) in
      subst (λ (z : ℕ). Like (z * U f) n) (sym p-siz.mag) (like (rq (prec f) n (U f)) n (U f)
      (mul-le-mul (big (mag f s) (mag f s-h) (s-h-large Q j g jg gm) (s-least Q j g jg gm))
      (head (mag f ax + mag f bp) (mag f th) (U f) Q.head-lo Q.sum-lo)) r.0 r.1)
    where
      big : (s r : ℕ) → 127 * s ≤ 128 * r → 2 ^ 96 ≤ s → 2 ^ 11 ≤ r
      big s r h k = omega arith

      head : (n t u : ℕ) → 2 ^ 9 * n ≤ 2 ^ 9 * t + u → 1865 * u ≤ 1000 * n → u ≤ t
      head n t u a b = omega arith

  p-most : 64 * mag f p ≤ 65 * mag f u
  p-most =
      back-hi (mag f u) (mag f s) (mag f s-h) (mag f th) (mag f p) (mag f sum) (U f) (pow_pos (low f)) (cut Q j g jg gm).le
      (fin (mag f ax + mag f bp) (mag f th) (mag f sum) (U f) Q.head-hi (sum_near Q j g jg gm).1 (sum-least Q j g jg gm)) p-like (product-most Q j g jg gm)
    where
      fin : (n t a u : ℕ) → t ≤ n → 2 ^ 17 * n ≤ 2 ^ 17 * a + u → 149 * u ≤ 80 * a → 256 * t ≤ 257 * a
      fin n t a u h k l = omega arith

  product-least : 1023 * 1023 * (mag f u * U f) ≤ 1024 * 1024 * (mag f s * mag f sum)
  product-least = quotient-lo (mag f u) (mag f v) (mag f s) (mag f sum) (U f) (pow_pos (low f)) (v-like Q j g jg gm) (s-like Q j g jg gm)

  p-least : 62 * mag f u ≤ 64 * mag f p
  p-least =
      back-lo (mag f u) (mag f s) (mag f s-h) (mag f th) (mag f p) (mag f sum) (U f) (pow_pos (low f)) (s-h-large Q j g jg gm)
      (fin (mag f ax + mag f bp) (mag f th) (mag f sum) (U f) Q.head-lo (sum_near Q j g jg gm).0 (sum-least Q j g jg gm)) p-like product-least
    where
      fin : (n t a u : ℕ) → 2 ^ 9 * n ≤ 2 ^ 9 * t + u → 2 ^ 17 * a ≤ 2 ^ 17 * n + u → 149 * u ≤ 80 * a → 255 * a ≤ 256 * t
      fin n t a u h k l = omega arith

  p-sign : sign p ≡ sign u
  p-sign =
      p-siz.sgn ∙ ap (unlike (sign s-h)) Q.th-s ∙ unlike-false (sign s-h) ∙ (cut Q j g jg gm).sgn ∙ (s-siz Q j g jg gm).sgn
      ∙ ap (unlike (sign u)) ((v-siz Q j g jg gm).sgn ∙ ap (λ (b : Bool). unlike b (sign sum)) Q.c1-s ∙ ap (unlike false) (sum-sign Q j g jg gm))
      ∙ unlike-false (sign u)

  -- ---- the same against s: u is at most 3.6 of it
  u-s : 10 * mag f u ≤ 36 * mag f s
  u-s = le_of_mul-le-mul_right (fin (mag f u) (mag f s) (mag f sum) (U f) product-least (mul-le-mul_left (mag f s) (sum-most Q j g jg gm))) (pow_pos (low f))
    where
      fin : (u s a e : ℕ) → 1023 * 1023 * (u * e) ≤ 1024 * 1024 * (s * a) → s * (20 * a) ≤ s * (71 * e) → 10 * u * e ≤ 36 * s * e
      fin u s a e h k = omega (arith, h, k)

  pub s-itself : Within f (mag f s) (2 ^ 30) s
  s-itself = record { num = (s-in Q j g jg gm).num; le = le_refl (2 ^ 30 * mag f s) }

  u-by-s : Within f (mag f s) 3865500000 u
  u-by-s = record { num = (u-in Q j g jg gm).num; le = fin (mag f u) (mag f s) u-s }
    where
      fin : (u s : ℕ) → 10 * u ≤ 36 * s → 2 ^ 30 * u ≤ 3865500000 * s
      fin u s h = omega arith

  p-by-s : Within f (mag f s) 3930000000 p
  p-by-s = record { num = p-siz.num; le = fin (mag f p) (mag f u) (mag f s) p-most u-s }
    where
      fin : (p u s : ℕ) → 64 * p ≤ 65 * u → 10 * u ≤ 36 * s → 2 ^ 30 * p ≤ 3930000000 * s
      fin p u s h k = omega arith

  gap-in : Within f (mag f s) 121100000 (sub f u p)
  gap-in =
      let n = fin (mag f u) (mag f p) (mag f s) p-most p-least u-s in
      weaken 121100000 (sub-near (s-scale Q j g jg gm) u-by-s p-by-s (off-alike {e = 121000000} u (sym p-sign) n.0 n.1) tt) tt
    where
      fin : (u p s : ℕ) → 64 * p ≤ 65 * u → 62 * u ≤ 64 * p → 10 * u ≤ 36 * s
          → (2 ^ 30 * u ≤ 2 ^ 30 * p + 121000000 * s) × (2 ^ 30 * p ≤ 2 ^ 30 * u + 121000000 * s)
      fin u p s h k l = (omega arith, omega arith)

  -- ---- t_l = ax - (t_h - bp)
  abbrev t-l : Float
  t-l = sub f ax (sub f th bp)

  t-l-in : Within f (U f) 2200000 t-l
  t-l-in =
      weaken 2200000 (sub-near S1 Q.ax-in (w-sub S1 Q.th-in Q.bp-in tt)
      (off-taken bp (head-off ax bp Q.ax-s Q.bp-s Q.th-s Q.head-hi Q.head-lo) (o-sub S1 Q.th-in Q.bp-in tt)) tt) tt

  -- ---- s_l
  pub rest-small : Within f (mag f s) 67000000 (mul f v (sub f (sub f u p) (mul f s-h t-l)))
  rest-small =
      let S = s-scale Q j g jg gm in
      weaken 67000000 (w-mul' S (v-in Q j g jg gm) (w-sub S gap-in (w-mul S (w-chop j g jg s-itself) t-l-in tt) tt) tt) tt
