-- Sums and differences of bounded floats: their bound, and their distance from the exact number, by 2 ^ -20 and by 24 digits. One law over rounding's error.
use mathlib.Core.Path.{◌≡◌, sym, ap, subst}
use Prim.Native.Nat.{ℕ, ◌+◌, ◌-◌, ◌*◌, ◌/◌, ◌^◌, ◌≤◌, ◌<◌}
use native.Mathlib.Nat.{le_trans, le_of_lt, mul-le-mul_right, le_of_mul-le-mul_right, sub-le, le-add_right, le-add_left}
use native.Mathlib.Omega.{arith}
use lib.Dec.{T, leb, leb→le, lit≤}
use lib.Pow.{pow_pos}
use lib.Ieee.{Float, Format, low, add, sub}
use lib.Ieee.Scale.{overflow}
use Rattle.bounds.proofs.Choice.{order}
use Rattle.bounds.proofs.Signed.{mag, plus, minus, R, parts, round_mono, round-none}
use Rattle.bounds.proofs.RoundedSums.{Rounded, add-res, sub-res}
use Rattle.bounds.proofs.Errors.{Law, dist, near_by, coarse, by-24}
use Rattle.bounds.proofs.Within.{U, Scale, Within, Off, bump, cap, least50, close-in}

-- ---- rounding a signed number a - b
one_side : (f : Format) (a b : ℕ)
    → (R f (a - b) ≤ R f (a + b)) × (R f (b - a) ≤ R f (a + b)) × (R f (a - b) + R f (b - a) ≤ R f (a + b))
one_side f a b = (left, right, order a b (λ l. fin (round-none f a b (le_of_lt l))) (λ l. fin' (round-none f b a l)))
  where
    left : R f (a - b) ≤ R f (a + b)
    left = round_mono f (a - b) (a + b) (le_trans (sub-le a b) (le-add_right a b))

    right : R f (b - a) ≤ R f (a + b)
    right = round_mono f (b - a) (a + b) (le_trans (sub-le b a) (le-add_left b a))

    fin : R f (a - b) ≡ 0 → R f (a - b) + R f (b - a) ≤ R f (a + b)
    fin e = omega (arith, right)

    fin' : R f (b - a) ≡ 0 → R f (a - b) + R f (b - a) ≤ R f (a + b)
    fin' e = omega (arith, left)

pub near : (f : Format) (a b : ℕ)
    → (2 ^ 21 * (R f (a - b) + b) ≤ 2 ^ 21 * (R f (b - a) + a) + (a + b) + 2 ^ 20)
    × (2 ^ 21 * (R f (b - a) + a) ≤ 2 ^ 21 * (R f (a - b) + b) + (a + b) + 2 ^ 20)
near f a b = let n = near_by f (2 ^ 21) (2 ^ 20) (coarse f) a b in (omega (arith, n.0), omega (arith, n.1))

-- ---- a rounded number is near the exact one, by a law of rounding's error
pub off-by : (f : Format) (S K C e : ℕ) (r : Float) (a b : ℕ) → Law f K C → 0 < K → 2 ^ 30 * dist a b + 2 ^ 30 * C ≤ K * (e * S)
    → Rounded f r a b → Off f S e r a b
off-by f S K C e r a b law P h g =
    let n = near_by f K C law a b in
    record {
      hi = fin (plus f r) (minus f r) (R f (a - b)) (R f (b - a)) a b (dist a b) g.up g.lo h n.0;
      lo = fin (minus f r) (plus f r) (R f (b - a)) (R f (a - b)) b a (dist a b) g.lo g.up h n.1;
    }
  where
    fin : (p m x y a b D : ℕ) → p ≡ x → m ≡ y → 2 ^ 30 * D + 2 ^ 30 * C ≤ K * (e * S) → K * (x + b) ≤ K * (y + a) + D + C
        → 2 ^ 30 * (p + b) ≤ 2 ^ 30 * (m + a) + e * S
    fin p m x y a b D i j h n = le_of_mul-le-mul_right (last (ap (λ (z : ℕ). K * z) i) (ap (λ (z : ℕ). K * z) j)) P
      where
        last : K * p ≡ K * x → K * m ≡ K * y → 2 ^ 30 * (p + b) * K ≤ (2 ^ 30 * (m + a) + e * S) * K
        last i j = omega (arith, i, j, h, n)

dist-most : (a b : ℕ) → dist a b ≤ a + b
dist-most a b = omega arith

-- the error's share of S, from the terms' bound k
share : (K C D t k e S : ℕ) → D ≤ t → 2 ^ 30 * t ≤ k * S → 2 ^ 30 * C ≤ S → k < K * e → 2 ^ 30 * D + 2 ^ 30 * C ≤ K * (e * S)
share K C D t k e S d h c l = omega (arith, d, h, c, mul-le-mul_right S l)

module _ {f : Format} {S : ℕ} (k : ℕ) (r : Float) (a b : ℕ) (s : Scale f S) (h : 2 ^ 30 * (a + b) ≤ k * S) (g : Rounded f r a b) where
  sum-off : Off f S (k / 2 ^ 20 + 1) r a b
  sum-off =
      off-by f S (2 ^ 21) (2 ^ 20) (k / 2 ^ 20 + 1) r a b (coarse f) (lit≤ tt)
      (share (2 ^ 21) (2 ^ 20) (dist a b) (a + b) k (k / 2 ^ 20 + 1) S (dist-most a b) h (least50 s) (fin k)) g
    where
      fin : (k : ℕ) → k < 2 ^ 21 * (k / 2 ^ 20 + 1)
      fin k = omega arith

  sum-off24 : Off f S (k / 2 ^ 24 + 2) r a b
  sum-off24 =
      off-by f S (2 ^ 24) (2 ^ 23) (k / 2 ^ 24 + 2) r a b (by-24 f) (lit≤ tt)
      (share (2 ^ 24) (2 ^ 23) (dist a b) (a + b) k (k / 2 ^ 24 + 2) S (dist-most a b) h (le_trans (lit≤ tt) s.least) (fin k)) g
    where
      fin : (k : ℕ) → k < 2 ^ 24 * (k / 2 ^ 24 + 2)
      fin k = omega arith

  sum-within : Within f S (bump k) r
  sum-within = subst (λ (c : ℕ). Within f S c r) (fin k) (close-in k g.num sum-off (omega (arith, h)) (omega (arith, h)))
    where
      fin : (k : ℕ) → k + (k / 2 ^ 20 + 1) ≡ bump k
      fin k = omega arith

-- ---- the terms' sizes
pub total : (f : Format) (x y : Float) → (plus f x + plus f y) + (minus f x + minus f y) ≡ mag f x + mag f y
total f x y = omega (arith, parts f x, parts f y)

pub total-sub : (f : Format) (x y : Float) → (plus f x + minus f y) + (minus f x + plus f y) ≡ mag f x + mag f y
total-sub f x y = omega (arith, parts f x, parts f y)

-- what is bounded by a scale does not overflow, rounded
fine : (f : Format) (S k n : ℕ) → Scale f S → k ≤ 2 ^ 60 → 2 ^ 30 * n ≤ k * S → R f n < overflow f
fine f S k n s l h =
    last (R f n) (U f) (overflow f) (twice (R f n) (coarse f n).0) (under (k * S) h (mul-le-mul_right S l)) s.most (pow_pos (low f)) (cap f)
  where
    twice : (r : ℕ) → 2 ^ 21 * r ≤ 2 ^ 21 * n + n + 2 ^ 20 → r ≤ 2 * n + 1
    twice r h = omega arith

    under : (z : ℕ) → 2 ^ 30 * n ≤ z → z ≤ 2 ^ 60 * S → n ≤ 2 ^ 30 * S
    under z a b = omega (arith, a, b)

    last : (r u o : ℕ) → r ≤ 2 * n + 1 → n ≤ 2 ^ 30 * S → S ≤ 2 ^ 40 * u → 0 < u → 2 ^ 72 * u ≤ o → r < o
    last r u o a b c d e = omega (arith, a, b, c, d, e)

-- ---- for x within c and y within d of S: the rounded number, its bound, and its distance from the exact one
module _ {f : Format} {S : ℕ} (s : Scale f S) {c d : ℕ} {x y : Float} (h : Within f S c x) (k : Within f S d y) (l : T (leb (c + d) (2 ^ 60))) where
  join : 2 ^ 30 * (mag f x + mag f y) ≤ (c + d) * S
  join = omega (arith, h.le, k.le)

  safe : R f (mag f x + mag f y) < overflow f
  safe = fine f S (c + d) (mag f x + mag f y) s (leb→le (c + d) (2 ^ 60) l) join

  all : 2 ^ 30 * ((plus f x + plus f y) + (minus f x + minus f y)) ≤ (c + d) * S
  all = subst (λ (z : ℕ). 2 ^ 30 * z ≤ (c + d) * S) (sym (total f x y)) join

  all-sub : 2 ^ 30 * ((plus f x + minus f y) + (minus f x + plus f y)) ≤ (c + d) * S
  all-sub = subst (λ (z : ℕ). 2 ^ 30 * z ≤ (c + d) * S) (sym (total-sub f x y)) join

  pub r-add : Rounded f (add f x y) (plus f x + plus f y) (minus f x + minus f y)
  r-add = add-res f x y h.num k.num safe

  pub w-add : Within f S (bump (c + d)) (add f x y)
  w-add = sum-within (c + d) (add f x y) (plus f x + plus f y) (minus f x + minus f y) s all r-add

  pub o-add : Off f S ((c + d) / 2 ^ 20 + 1) (add f x y) (plus f x + plus f y) (minus f x + minus f y)
  o-add = sum-off (c + d) (add f x y) (plus f x + plus f y) (minus f x + minus f y) s all r-add

  pub o-add24 : Off f S ((c + d) / 2 ^ 24 + 2) (add f x y) (plus f x + plus f y) (minus f x + minus f y)
  o-add24 = sum-off24 (c + d) (add f x y) (plus f x + plus f y) (minus f x + minus f y) s all r-add

  pub r-sub : Rounded f (sub f x y) (plus f x + minus f y) (minus f x + plus f y)
  r-sub = sub-res f x y h.num k.num safe

  pub w-sub : Within f S (bump (c + d)) (sub f x y)
  w-sub = sum-within (c + d) (sub f x y) (plus f x + minus f y) (minus f x + plus f y) s all-sub r-sub

  pub o-sub : Off f S ((c + d) / 2 ^ 20 + 1) (sub f x y) (plus f x + minus f y) (minus f x + plus f y)
  o-sub = sum-off (c + d) (sub f x y) (plus f x + minus f y) (minus f x + plus f y) s all-sub r-sub

  pub o-sub24 : Off f S ((c + d) / 2 ^ 24 + 2) (sub f x y) (plus f x + minus f y) (minus f x + plus f y)
  o-sub24 = sum-off24 (c + d) (sub f x y) (plus f x + minus f y) (minus f x + plus f y) s all-sub r-sub

-- ---- a difference of close floats, from a bound of the exact difference
pub close-sub : {f : Format} {S : ℕ} (s : Scale f S) {c d : ℕ} {x y : Float} (k : ℕ) → Within f S c x → Within f S d y → T (leb (c + d) (2 ^ 60))
    → 2 ^ 30 * (plus f x + minus f y) ≤ 2 ^ 30 * (minus f x + plus f y) + k * S
    → 2 ^ 30 * (minus f x + plus f y) ≤ 2 ^ 30 * (plus f x + minus f y) + k * S
    → Within f S (k + ((c + d) / 2 ^ 20 + 1)) (sub f x y)
close-sub s k h i l a b = close-in k (r-sub s h i l).num (o-sub s h i l) a b
