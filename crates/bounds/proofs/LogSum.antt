-- log2's last sum in two floats: t1 = z_h + z_l + dp_h + t without its lowest digits, and t2 = z_l - (((t1 - t) - dp_h) - z_h).
-- t2 is what was cut off and the errors of seven sums and differences, each by 24 digits.
use mathlib.Core.Path.{◌≡◌}
use Prim.Native.Nat.{ℕ, ◌+◌, ◌-◌, ◌*◌, ◌/◌, ◌^◌, ◌≤◌}
use native.Mathlib.Omega.{arith}
use lib.Dec.{T, leb, le→leb, lit≤}
use lib.Ieee.{Float, Format, prec, add, sub}
use Rattle.bounds.proofs.Signed.{plus, minus}
use Rattle.bounds.proofs.Within.{Scale, Within, bump, weaken, at_most}
use Rattle.bounds.proofs.SumBounds.{w-add, o-add24, w-sub, o-sub24}
use Rattle.bounds.proofs.Chop.{leading, w-chop, o-chop}
use Rattle.bounds.proofs.Split.{off-swap, off-through, off-follow, off-taken, sub-near24}
use Rattle.bounds.proofs.Least.{Least, lower, g-add, g-chop}

-- ---- the two parts
abbrev pub sum_of : Format → Float → Float → Float → Float → Float
sum_of f z-h z-l dp-h t = add f (add f (add f z-h z-l) dp-h) t

abbrev pub t1-of : Format → ℕ → Float → Float → Float → Float → Float
t1-of f j z-h z-l dp-h t = leading f j (sum_of f z-h z-l dp-h t)

abbrev pub t2-of : Format → ℕ → Float → Float → Float → Float → Float
t2-of f j z-h z-l dp-h t = sub f z-l (sub f (sub f (sub f (t1-of f j z-h z-l dp-h t) t) dp-h) z-h)

-- ---- numbers: the roundings, for terms within a, b, c, d and a sum within k
abbrev pub roundings : ℕ → ℕ → ℕ → ℕ → ℕ → ℕ
roundings a b c d k = (5 * a + 4 * b + 5 * c + 5 * d + 4 * k) / 2 ^ 24 + 32

-- what one rounding adds to a bound, coarsely
step : (n : ℕ) → n ≤ 2 ^ 41 → bump n ≤ n + 2 ^ 22
step n h = omega arith

-- all of them, where q is what was cut off
all-steps : (a b c d k q : ℕ)
    → ((a + b) / 2 ^ 24 + 2) + ((a + b + 2 ^ 22 + c) / 2 ^ 24 + 2) + ((a + b + c + 2 ^ 23 + d) / 2 ^ 24 + 2) + (q + 1)
    + ((k + d) / 2 ^ 24 + 2) + ((k + d + 2 ^ 22 + c) / 2 ^ 24 + 2) + ((k + d + c + 2 ^ 23 + a) / 2 ^ 24 + 2)
    + ((b + (k + d + c + a + 2 ^ 24)) / 2 ^ 24 + 2)
    ≤ q + roundings a b c d k
all-steps a b c d k q = omega arith

module _ {f : Format} {S : ℕ} (s : Scale f S) {a b c d k : ℕ} {z-h z-l dp-h t : Float}
    (z-h-in : Within f S a z-h) (z-l-in : Within f S b z-l) (dp-h-in : Within f S c dp-h) (t-in : Within f S d t)
    (o-in : Within f S k (sum_of f z-h z-l dp-h t)) (l : a + b + c + d + k ≤ 2 ^ 40) (j g : ℕ) (jg : j + g ≡ prec f - 1) where
  abbrev o1 : Float
  o1 = add f z-h z-l

  abbrev o2 : Float
  o2 = add f o1 dp-h

  abbrev t1 : Float
  t1 = t1-of f j z-h z-l dp-h t

  abbrev d1 : Float
  d1 = sub f t1 t

  abbrev d2 : Float
  d2 = sub f d1 dp-h

  fits : (n : ℕ) → n ≤ 2 ^ 41 → T (leb n (2 ^ 60))
  fits n h = le→leb n (2 ^ 60) (omega arith)

  o1-in : Within f S (a + b + 2 ^ 22) o1
  o1-in = at_most (a + b + 2 ^ 22) (w-add s z-h-in z-l-in (fits (a + b) (omega arith))) (step (a + b) (omega arith))

  o2-in : Within f S (a + b + c + 2 ^ 23) o2
  o2-in = at_most (a + b + c + 2 ^ 23) (w-add s o1-in dp-h-in (fits (a + b + 2 ^ 22 + c) (omega arith)))
      (omega (arith, step (a + b + 2 ^ 22 + c) (omega arith)))

  pub t1-in : Within f S k t1
  t1-in = w-chop j g jg o-in

  d1-in : Within f S (k + d + 2 ^ 22) d1
  d1-in = at_most (k + d + 2 ^ 22) (w-sub s t1-in t-in (fits (k + d) (omega arith))) (step (k + d) (omega arith))

  d2-in : Within f S (k + d + c + 2 ^ 23) d2
  d2-in = at_most (k + d + c + 2 ^ 23) (w-sub s d1-in dp-h-in (fits (k + d + 2 ^ 22 + c) (omega arith)))
      (omega (arith, step (k + d + 2 ^ 22 + c) (omega arith)))

  d3-in : Within f S (k + d + c + a + 2 ^ 24) (sub f d2 z-h)
  d3-in = at_most (k + d + c + a + 2 ^ 24) (w-sub s d2-in z-h-in (fits (k + d + c + 2 ^ 23 + a) (omega arith)))
      (omega (arith, step (k + d + c + 2 ^ 23 + a) (omega arith)))

  -- each float near its exact number: o3 and t1 near the sum, then t, dp_h and z_h are taken off again
  pub t2-in : Within f S (k / 2 ^ g + roundings a b c d k) (t2-of f j z-h z-l dp-h t)
  t2-in =
      let x1 = o-add24 s z-h-in z-l-in (fits (a + b) (omega arith)) in
      let x2 = off-through (plus f dp-h) (minus f dp-h) x1 (o-add24 s o1-in dp-h-in (fits (a + b + 2 ^ 22 + c) (omega arith))) in
      let x3 = off-through (plus f t) (minus f t) x2 (o-add24 s o2-in t-in (fits (a + b + c + 2 ^ 23 + d) (omega arith))) in
      let y0 = off-follow x3 (o-chop j g jg s o-in) in
      let y1 = off-taken t y0 (o-sub24 s t1-in t-in (fits (k + d) (omega arith))) in
      let y2 = off-taken dp-h y1 (o-sub24 s d1-in dp-h-in (fits (k + d + 2 ^ 22 + c) (omega arith))) in
      let y3 = off-taken z-h (off-swap (plus f z-h) (plus f z-l) (minus f z-h) (minus f z-l) y2)
      (o-sub24 s d2-in z-h-in (fits (k + d + c + 2 ^ 23 + a) (omega arith))) in
      at_most (k / 2 ^ g + roundings a b c d k) (sub-near24 s z-l-in d3-in y3 (fits (b + (k + d + c + a + 2 ^ 24)) (omega arith)))
      (all-steps a b c d k (k / 2 ^ g))

-- ---- x near 1: no whole part and no 1.5, so that dp_h and t are zeros
pub near-one : {f : Format} {S : ℕ} (s : Scale f S) {z-h z-l dp-h t : Float} → Within f S 3384000000 z-h → Least f S 2740000000 z-h → Within f S 2113000 z-l
    → Within f S 0 dp-h → Within f S 0 t → (j g : ℕ) → j + g ≡ prec f - 1 → 8 ≤ g
    → (Within f S 3386122690 (t1-of f j z-h z-l dp-h t)) × (Least f S 2700000000 (t1-of f j z-h z-l dp-h t))
    × Within f S (3386122690 / 2 ^ g + 36000) (t2-of f j z-h z-l dp-h t)
near-one {f} {S} s {z-h} {z-l} {dp-h} {t} z-h-in G z-l-in dp-h-in t-in j g jg gm =
    let o1 = w-add s z-h-in z-l-in tt in
    let o2 = w-add s o1 dp-h-in tt in
    let o-in : Within f S 3386122690 (sum_of f z-h z-l dp-h t) = weaken 3386122690 (w-add s o2 t-in tt) tt in (
      t1-in s z-h-in z-l-in dp-h-in t-in o-in (lit≤ tt) j g jg,
      lower 2700000000 (g-chop s j g jg gm o-in.num (g-add s o2 t-in tt (g-add s o1 dp-h-in tt (g-add s z-h-in z-l-in tt G)))) tt,
      at_most (3386122690 / 2 ^ g + 36000) (t2-in s z-h-in z-l-in dp-h-in t-in o-in (lit≤ tt) j g jg) (fin (3386122690 / 2 ^ g)),
    )
  where
    fin : (q : ℕ) → q + roundings 3384000000 2113000 0 0 3386122690 ≤ q + 36000
    fin q = omega arith
