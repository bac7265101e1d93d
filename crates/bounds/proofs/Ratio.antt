-- s = u * v as the chain computes it, with u = ax - bp and v = 1 / (ax + bp): its bound, that it is far above the least number, and s * (ax + bp) against u.
use mathlib.Core.Path.{◌≡◌, sym, ap, ◌∙◌, subst}
use mathlib.Core.Logic.{◌⊎◌, inl, inr, ⊎_elim}
use Prim.Native.Nat.{ℕ, ◌+◌, ◌-◌, ◌*◌, ◌/◌, ◌^◌, ◌≤◌, ◌<◌}
use native.Mathlib.Nat.{le_trans, le_of_eq, lt_of_le_of_lt, le-add_left, le-add_right, mul-le-mul, mul-le-mul_right, mul-le-mul_left, le_of_mul-le-mul_right}
use native.Mathlib.Omega.{arith}
use mathlib.Core.Bool.{false}
use lib.Dec.{lit≤}
use lib.Pow.{pow_pos, pow_mono}
use lib.Ieee.{Float, Format, prec, low, hid, unlike, add, sub, mul, div}
use lib.Ieee.Scale.{overflow}
use Rattle.bounds.proofs.Grid.{rq, error}
use Rattle.bounds.proofs.Signed.{sign, mag, plus, minus, Num, R, parts, one-zero, pos-parts, positive}
use Rattle.bounds.proofs.RoundedSums.{sub-res-alike}
use Rattle.bounds.proofs.RoundedProducts.{Siz}
use Rattle.bounds.proofs.Errors.{digits, coarse}
use Rattle.bounds.proofs.Within.{U, Scale, Within, Off, unit-scale, weaken, unit-least}
use Rattle.bounds.proofs.SumBounds.{w-add, o-add}
use Rattle.bounds.proofs.ProductBounds.{w-mul, z-mul, w-div, z-div}
use Rattle.bounds.proofs.Words.{mag-exact, mag-under}
use Rattle.bounds.proofs.Chop.{leading, Chopped, chopped, hid-most}
use Rattle.bounds.proofs.Split.{off-alike, sub-near}
use Rattle.bounds.proofs.Least.{chop-gap}
use Rattle.bounds.proofs.Quotient.{Like, like, quotient-hi}

-- positive floats: ax, a fixed point bp, the head t_h of their sum, and 1
pub record Ratio (f : Format) (ax bp th c1 : Float) : Type 0 where
  pub ax-in : Within f (U f) (2 ^ 31) ax
  pub bp-in : Within f (U f) (2 ^ 31) bp
  pub th-in : Within f (U f) (2 ^ 32) th
  pub c1-in : Within f (U f) (2 ^ 30) c1
  pub ax-s : sign ax ≡ false
  pub bp-s : sign bp ≡ false
  pub th-s : sign th ≡ false
  pub c1-s : sign c1 ≡ false
  pub c1-u : mag f c1 ≡ U f
  pub sum-lo : 1865 * U f ≤ 1000 * (mag f ax + mag f bp)
  pub sum-hi : 2 * (mag f ax + mag f bp) ≤ 7 * U f
  pub head-hi : mag f th ≤ mag f ax + mag f bp
  pub head-lo : 2 ^ 9 * (mag f ax + mag f bp) ≤ 2 ^ 9 * mag f th + U f
  pub apart : (mag f ax + 2 ^ 100 ≤ mag f bp) ⊎ (mag f bp + 2 ^ 100 ≤ mag f ax)
  pub close : (7 * mag f ax ≤ 7 * mag f bp + 2 * U f) × (7 * mag f bp ≤ 7 * mag f ax + 2 * U f)

-- a sum of two positive floats, as a size
pos_sum : {f : Format} {S e : ℕ} (x y : Float) {r : Float} → sign x ≡ false → sign y ≡ false → Off f S e r (plus f x + plus f y) (minus f x + minus f y)
    → (2 ^ 30 * mag f r ≤ 2 ^ 30 * (mag f x + mag f y) + e * S) × (2 ^ 30 * (mag f x + mag f y) ≤ 2 ^ 30 * mag f r + e * S)
    × (2 ^ 30 * (mag f x + mag f y) ≤ 2 ^ 30 * plus f r + e * S)
pos_sum {f} {S} {e} x y {r} s t o =
    let p = pos-parts f x s in
    let q = pos-parts f y t in
    fin (plus f x) (minus f x) (plus f y) (minus f y) (plus f r) (minus f r) p.0 p.1 q.0 q.1 (parts f r) (one-zero f r) o.hi o.lo
  where
    fin : (px mx py my p m : ℕ) → px ≡ mag f x → mx ≡ 0 → py ≡ mag f y → my ≡ 0 → mag f r ≡ p + m → (p ≡ 0) ⊎ (m ≡ 0)
        → 2 ^ 30 * (p + (mx + my)) ≤ 2 ^ 30 * (m + (px + py)) + e * S → 2 ^ 30 * (m + (px + py)) ≤ 2 ^ 30 * (p + (mx + my)) + e * S
        → (2 ^ 30 * mag f r ≤ 2 ^ 30 * (mag f x + mag f y) + e * S) × (2 ^ 30 * (mag f x + mag f y) ≤ 2 ^ 30 * mag f r + e * S)
        × (2 ^ 30 * (mag f x + mag f y) ≤ 2 ^ 30 * p + e * S)
    fin px mx py my p m a b c d g (inl z) h k = (omega arith, omega arith, omega arith)
    fin px mx py my p m a b c d g (inr z) h k = (omega arith, omega arith, omega arith)

-- at least 2 ^ 100 units are at least 2 ^ 99, rounded
round-least : (f : Format) (n : ℕ) → 2 ^ 100 ≤ n → 2 ^ 99 ≤ R f n
round-least f n h = halve (R f n) (half (R f n) (coarse f n).1) h
  where
    half : (r : ℕ) → 2 ^ 21 * n ≤ 2 ^ 21 * r + n + 2 ^ 20 → 3 * n ≤ 4 * r + 4
    half r h = omega (arith, h)

    halve : (r : ℕ) → 3 * n ≤ 4 * r + 4 → 2 ^ 100 ≤ n → 2 ^ 99 ≤ r
    halve r a b = omega (arith, a, b)

held : (f : Format) (x : Float) → Num f x → R f (mag f x) < overflow f
held f x n = lt_of_le_of_lt (le_of_eq (mag-exact f x n)) (mag-under f x n)

module _ {f : Format} {ax bp th c1 : Float} (Q : Ratio f ax bp th c1) (j g : ℕ) (jg : j + g ≡ prec f - 1) (gm : 11 ≤ g) where
  S1 : Scale f (U f)
  S1 = unit-scale f

  abbrev u : Float
  u = sub f ax bp

  abbrev sum : Float
  sum = add f ax bp

  abbrev v : Float
  v = div f c1 sum

  abbrev s : Float
  s = mul f u v

  abbrev s-h : Float
  s-h = leading f j s

  -- ---- the sum: between 1.8625 and 3.55
  sum-in : Within f (U f) (2 ^ 33) sum
  sum-in = weaken (2 ^ 33) (w-add S1 Q.ax-in Q.bp-in tt) tt

  pub sum_near : (2 ^ 17 * mag f sum ≤ 2 ^ 17 * (mag f ax + mag f bp) + U f) × (2 ^ 17 * (mag f ax + mag f bp) ≤ 2 ^ 17 * mag f sum + U f)
  sum_near =
      let o = pos_sum ax bp Q.ax-s Q.bp-s (o-add S1 Q.ax-in Q.bp-in tt) in
      (fin (mag f sum) (mag f ax + mag f bp) (U f) o.0, fin (mag f ax + mag f bp) (mag f sum) (U f) o.1)
    where
      fin : (a b u : ℕ) → 2 ^ 30 * a ≤ 2 ^ 30 * b + ((2 ^ 31 + 2 ^ 31) / 2 ^ 20 + 1) * u → 2 ^ 17 * a ≤ 2 ^ 17 * b + u
      fin a b u h = omega arith

  pub sum-least : 149 * U f ≤ 80 * mag f sum
  sum-least = fin (mag f ax + mag f bp) (mag f sum) (U f) sum_near.1 Q.sum-lo
    where
      fin : (n a u : ℕ) → 2 ^ 17 * n ≤ 2 ^ 17 * a + u → 1865 * u ≤ 1000 * n → 149 * u ≤ 80 * a
      fin n a u h k = omega arith

  pub sum-most : 20 * mag f sum ≤ 71 * U f
  sum-most = fin (mag f ax + mag f bp) (mag f sum) (U f) sum_near.0 Q.sum-hi
    where
      fin : (n a u : ℕ) → 2 ^ 17 * a ≤ 2 ^ 17 * n + u → 2 * n ≤ 7 * u → 20 * a ≤ 71 * u
      fin n a u h k = omega arith

  sum-divides : 1999000000 * U f ≤ 2 ^ 30 * mag f sum
  sum-divides = fin (mag f sum) (U f) sum-least
    where
      fin : (a u : ℕ) → 149 * u ≤ 80 * a → 1999000000 * u ≤ 2 ^ 30 * a
      fin a u h = omega arith

  sum-pos : 0 < mag f sum
  sum-pos = fin (mag f sum) (U f) sum-least (pow_pos (low f))
    where
      fin : (a u : ℕ) → 149 * u ≤ 80 * a → 0 < u → 0 < a
      fin a u h k = omega arith

  pub sum-sign : sign sum ≡ false
  sum-sign = positive f sum (fin (plus f sum) (mag f ax + mag f bp) (U f)
      (pos_sum ax bp Q.ax-s Q.bp-s (o-add S1 Q.ax-in Q.bp-in tt)).2 Q.sum-lo (pow_pos (low f)))
    where
      fin : (p n u : ℕ) → 2 ^ 30 * n ≤ 2 ^ 30 * p + ((2 ^ 31 + 2 ^ 31) / 2 ^ 20 + 1) * u → 1865 * u ≤ 1000 * n → 0 < u → 0 < p
      fin p n u h k l = omega arith

  -- ---- v, its reciprocal
  pub v-in : Within f (U f) 577000000 v
  v-in = weaken 577000000 (w-div S1 {d = 1999000000} Q.c1-in sum-in.num (lit≤ tt) sum-divides tt) tt

  pub v-siz : Siz f v (unlike (sign c1) (sign sum)) (rq (prec f) (mag f c1 * U f) (mag f sum))
  v-siz = z-div S1 {d = 1999000000} Q.c1-in sum-in.num (lit≤ tt) sum-divides tt

  pub v-like : Like (mag f v * mag f sum) (U f * U f)
  v-like =
      let e : mag f v ≡ rq (prec f) (U f * U f) (mag f sum) = v-siz.mag ∙ ap (λ (z : ℕ). rq (prec f) (z * U f) (mag f sum)) Q.c1-u in
      let r = error (prec f) (U f * U f) (mag f sum) (digits f) sum-pos in
      subst (λ (z : ℕ). Like (z * mag f sum) (U f * U f)) (sym e) (like (rq (prec f) (U f * U f) (mag f sum)) (U f * U f) (mag f sum)
      (fin (mag f sum) (U f) sum-most (mul-le-mul_right (U f) (unit-least f))) r.0 r.1)
    where
      fin : (a u : ℕ) → 20 * a ≤ 71 * u → 2 ^ 120 * u ≤ u * u → 2 ^ 11 * a ≤ u * u
      fin a u h k = omega arith

  v-least : U f ≤ 4 * mag f v
  v-least = le_of_mul-le-mul_right (fin (mag f v) (mag f sum) (U f) v-like.lo (mul-le-mul_left (mag f v) sum-most)) (pow_pos (low f))
    where
      fin : (v a u : ℕ) → 1023 * (u * u) ≤ 1024 * (v * a) → v * (20 * a) ≤ v * (71 * u) → u * u ≤ 4 * v * u
      fin v a u h k = omega (arith, h, k)

  -- ---- u: at most 2/7, and exact enough to be at least 2 ^ 99 units
  pub u-in : Within f (U f) 307000000 u
  u-in = weaken 307000000 (sub-near S1 Q.ax-in Q.bp-in (off-alike {e = 306783400} ax (Q.ax-s ∙ sym Q.bp-s)
      (fin (mag f ax) (mag f bp) (U f) Q.close.0) (fin (mag f bp) (mag f ax) (U f) Q.close.1)) tt) tt
    where
      fin : (a b u : ℕ) → 7 * a ≤ 7 * b + 2 * u → 2 ^ 30 * a ≤ 2 ^ 30 * b + 306783400 * u
      fin a b u h = omega arith

  u-least : 2 ^ 99 ≤ mag f u
  u-least =
      let x = pos-parts f ax Q.ax-s in
      let y = pos-parts f bp Q.bp-s in
      let r = sub-res-alike f ax bp Q.ax-in.num Q.bp-in.num (Q.bp-s ∙ sym Q.ax-s) (held f ax Q.ax-in.num) (held f bp Q.bp-in.num) in
      ⊎_elim
      (λ h. le_trans (round-least f ((minus f ax + plus f bp) - (plus f ax + minus f bp)) (far x.1 y.0 x.0 y.1 h))
      (le_trans (le_of_eq (sym r.lo)) (le_trans (le-add_left (minus f u) (plus f u)) (le_of_eq (sym (parts f u))))))
      (λ h. le_trans (round-least f ((plus f ax + minus f bp) - (minus f ax + plus f bp)) (far' x.0 y.1 x.1 y.0 h))
      (le_trans (le_of_eq (sym r.up)) (le_trans (le-add_right (plus f u) (minus f u)) (le_of_eq (sym (parts f u))))))
      Q.apart
    where
      far : {m p q n a b : ℕ} → m ≡ 0 → p ≡ b → q ≡ a → n ≡ 0 → a + 2 ^ 100 ≤ b → 2 ^ 100 ≤ (m + p) - (q + n)
      far {m} {p} {q} {n} {a} {b} e1 e2 e3 e4 h = omega arith

      far' : {m p q n a b : ℕ} → p ≡ b → m ≡ 0 → n ≡ 0 → q ≡ a → a + 2 ^ 100 ≤ b → 2 ^ 100 ≤ (p + m) - (n + q)
      far' {m} {p} {q} {n} {a} {b} e1 e2 e3 e4 h = omega arith

  -- ---- s, its sign and its size
  pub s-in : Within f (U f) 166000000 s
  s-in = weaken 166000000 (w-mul S1 u-in v-in tt) tt

  pub s-siz : Siz f s (unlike (sign u) (sign v)) (rq (prec f) (mag f u * mag f v) (U f))
  s-siz = z-mul S1 u-in v-in tt

  uv-least : 2 ^ 97 * U f ≤ mag f u * mag f v
  uv-least = fin (mag f u) (mag f v) (U f) (mul-le-mul u-least v-least)
    where
      fin : (a b u : ℕ) → 2 ^ 99 * u ≤ a * (4 * b) → 2 ^ 97 * u ≤ a * b
      fin a b u h = omega (arith, h)

  pub s-like : Like (mag f s * U f) (mag f u * mag f v)
  s-like =
      let r = error (prec f) (mag f u * mag f v) (U f) (digits f) (pow_pos (low f)) in
      subst (λ (z : ℕ). Like (z * U f) (mag f u * mag f v)) (sym s-siz.mag) (like (rq (prec f) (mag f u * mag f v) (U f)) (mag f u * mag f v) (U f)
      (le_trans (mul-le-mul_right (U f) (lit≤ tt)) uv-least) r.0 r.1)

  pub s-least : 2 ^ 96 ≤ mag f s
  s-least = le_of_mul-le-mul_right (fin (mag f s * U f) (mag f u * mag f v) (U f) s-like.lo uv-least) (pow_pos (low f))
    where
      fin : (a n u : ℕ) → 1023 * n ≤ 1024 * a → 2 ^ 97 * u ≤ n → 2 ^ 96 * u ≤ a
      fin a n u h k = omega arith

  -- the size of s is a scale
  pub s-scale : Scale f (mag f s)
  s-scale = record { least = le_trans (lit≤ tt) s-least; most = fin (mag f s) (U f) s-in.le }
    where
      fin : (m u : ℕ) → 2 ^ 30 * m ≤ 166000000 * u → m ≤ 2 ^ 40 * u
      fin m u h = omega arith

  -- s_h is most of s
  pub cut : Chopped f g s s-h
  cut = chopped f j g s jg s-in.num

  pub s-h-large : 127 * mag f s ≤ 128 * mag f s-h
  s-h-large = fin (mag f s) (mag f s-h) (hid f)
      (chop-gap (2 ^ g) (mag f s) (mag f s-h) (hid f) (le_trans (lit≤ tt) (pow_mono gm)) cut.le cut.ge)
      (le_trans (hid-most f) (le_trans (lit≤ tt) s-least))
    where
      fin : (s r h : ℕ) → 2 ^ 8 * s ≤ 2 ^ 8 * r + s + h → h ≤ s → 127 * s ≤ 128 * r
      fin s r h a b = omega arith

  -- s * sum is u, but for two roundings
  pub product-most : 1024 * 1024 * (mag f s * mag f sum) ≤ 1025 * 1025 * (mag f u * U f)
  product-most = quotient-hi (mag f u) (mag f v) (mag f s) (mag f sum) (U f) (pow_pos (low f)) v-like s-like
