-- Distances of floats from exact numbers, which add up along a chain; and a sum a + b in two floats, a leading part t of it and the rest b - (t - a).
use mathlib.Core.Path.{◌≡◌, subst}
use mathlib.Core.Logic.{⊎_elim}
use Prim.Native.Nat.{ℕ, suc, ◌+◌, ◌*◌, ◌/◌, ◌^◌, ◌≤◌}
use native.Mathlib.Nat.{le_refl, le_trans, add_comm, add-le-add, mul-le-mul_left, mul-le-mul_right}
use native.Mathlib.Omega.{arith}
use lib.Dec.{T, leb, lit≤}
use lib.Ieee.{Float, Format, sub}
use Rattle.bounds.proofs.Signed.{sign, mag, plus, minus, parts, parts-of}
use Rattle.bounds.proofs.Within.{Scale, Within, Off, bump, close-in}
use Rattle.bounds.proofs.RoundedSums.{Rounded}
use Rattle.bounds.proofs.Errors.{coarse, dist, dist-in}
use Rattle.bounds.proofs.SumBounds.{off-by, r-sub, w-sub, o-sub, o-sub24}

-- ---- distances
pub off-itself : {f : Format} {S : ℕ} (x : Float) → Off f S 0 x (plus f x) (minus f x)
off-itself {f} {S} x = record { hi = fin (plus f x) (minus f x); lo = fin (minus f x) (plus f x) }
  where
    fin : (p m : ℕ) → 2 ^ 30 * (p + m) ≤ 2 ^ 30 * (m + p) + 0 * S
    fin p m = omega arith

pub off-swap : {f : Format} {S c : ℕ} {x : Float} (a b m n : ℕ) → Off f S c x (a + b) (m + n) → Off f S c x (b + a) (n + m)
off-swap {f} {S} {c} {x} a b m n h =
    subst (λ (z : ℕ). Off f S c x z (n + m)) (add_comm a b) (subst (λ (z : ℕ). Off f S c x (a + b) z) (add_comm m n) h)

pub off-at-most : {f : Format} {S c : ℕ} (d : ℕ) {x : Float} {A B : ℕ} → Off f S c x A B → c ≤ d → Off f S d x A B
off-at-most {f} {S} d h l =
    let m = mul-le-mul_right S l in
    record { hi = le_trans h.hi (add-le-add (le_refl _) m); lo = le_trans h.lo (add-le-add (le_refl _) m) }

pub off-rescale : {f : Format} {S c : ℕ} (W : ℕ) {x : Float} {A B : ℕ} → Off f S c x A B → S ≤ W → Off f W c x A B
off-rescale {c = c} W h l =
    let m = mul-le-mul_left c l in
    record { hi = le_trans h.hi (add-le-add (le_refl _) m); lo = le_trans h.lo (add-le-add (le_refl _) m) }

-- x is near A - B, and r is near x + (P - M): so r is near A - B + (P - M)
pub off-through : {f : Format} {S e i : ℕ} {x r : Float} {A B : ℕ} (P M : ℕ) → Off f S e x A B → Off f S i r (plus f x + P) (minus f x + M)
    → Off f S (e + i) r (A + P) (B + M)
off-through {f} {S} {e} {i} {x} {r} {A} {B} P M h k =
    record {
      hi = fin (plus f x) (minus f x) (plus f r) (minus f r) A B P M h.hi k.hi;
      lo = fin (minus f x) (plus f x) (minus f r) (plus f r) B A M P h.lo k.lo;
    }
  where
    fin : (p m q n A B P M : ℕ) → 2 ^ 30 * (p + B) ≤ 2 ^ 30 * (m + A) + e * S → 2 ^ 30 * (q + (m + M)) ≤ 2 ^ 30 * (n + (p + P)) + i * S
        → 2 ^ 30 * (q + (B + M)) ≤ 2 ^ 30 * (n + (A + P)) + (e + i) * S
    fin p m q n A B P M a b = omega (arith, a, b)

pub off-follow : {f : Format} {S e i : ℕ} {x r : Float} {A B : ℕ} → Off f S e x A B → Off f S i r (plus f x) (minus f x) → Off f S (e + i) r A B
off-follow {f} {S} {e} {i} {x} {r} {A} {B} h k =
    record {
      hi = fin (plus f x) (minus f x) (plus f r) (minus f r) A B h.hi k.hi;
      lo = fin (minus f x) (plus f x) (minus f r) (plus f r) B A h.lo k.lo;
    }
  where
    fin : (p m q n A B : ℕ) → 2 ^ 30 * (p + B) ≤ 2 ^ 30 * (m + A) + e * S → 2 ^ 30 * (q + m) ≤ 2 ^ 30 * (n + p) + i * S
        → 2 ^ 30 * (q + B) ≤ 2 ^ 30 * (n + A) + (e + i) * S
    fin p m q n A B a b = omega (arith, a, b)

-- y is near A - B + x, and r near y - x: so r is near A - B
pub off-taken : {f : Format} {S e i : ℕ} {y r : Float} {A B : ℕ} (x : Float) → Off f S e y (A + plus f x) (B + minus f x)
    → Off f S i r (plus f y + minus f x) (minus f y + plus f x) → Off f S (e + i) r A B
off-taken {f} {S} {e} {i} {y} {r} {A} {B} x h k =
    let o = off-through (minus f x) (plus f x) h k in
    record {
      hi = fin (plus f r) (minus f r) A B (plus f x) (minus f x) o.hi;
      lo = fin (minus f r) (plus f r) B A (minus f x) (plus f x) o.lo;
    }
  where
    fin : (p m A B P M : ℕ) → 2 ^ 30 * (p + (B + M + P)) ≤ 2 ^ 30 * (m + (A + P + M)) + (e + i) * S → 2 ^ 30 * (p + B) ≤ 2 ^ 30 * (m + A) + (e + i) * S
    fin p m A B P M h = omega (arith, h)

-- a small term left out
pub off-left-out : {f : Format} {S e c : ℕ} {x y : Float} {A B : ℕ} → Within f S c y → Off f S e x (A + plus f y) (B + minus f y) → Off f S (e + c) x A B
off-left-out {f} {S} {e} {c} {x} {y} {A} {B} h k =
    record {
      hi = fin (plus f x) (minus f x) (plus f y) (minus f y) A B (omega (arith, h.le, parts f y)) k.hi;
      lo = fin (minus f x) (plus f x) (minus f y) (plus f y) B A (omega (arith, h.le, parts f y)) k.lo;
    }
  where
    fin : (p m q n A B : ℕ) → 2 ^ 30 * q ≤ c * S → 2 ^ 30 * (p + (B + n)) ≤ 2 ^ 30 * (m + (A + q)) + e * S
        → 2 ^ 30 * (p + B) ≤ 2 ^ 30 * (m + A) + (e + c) * S
    fin p m q n A B a b = omega (arith, a, b)

-- x is near y: y is near x
pub off-turn : {f : Format} {S e : ℕ} {x y : Float} → Off f S e x (plus f y) (minus f y) → Off f S e y (plus f x) (minus f x)
off-turn {f} {S} {e} {x} {y} h = record { hi = omega (arith, h.lo); lo = omega (arith, h.hi) }

-- x and y have one sign, and their sizes are near
pub off-alike : {f : Format} {S e : ℕ} (x : Float) {y : Float} → sign x ≡ sign y
    → 2 ^ 30 * mag f x ≤ 2 ^ 30 * mag f y + e * S → 2 ^ 30 * mag f y ≤ 2 ^ 30 * mag f x + e * S
    → Off f S e y (plus f x) (minus f x)
off-alike {f} {S} {e} x {y} s h k = ⊎_elim
    (λ v. let w = fin v.0 v.1 v.2 v.3 in record { hi = w.0; lo = w.1 })
    (λ v. let w = fin v.1 v.0 v.3 v.2 in record { hi = w.1; lo = w.0 })
    (parts-of f y x s)
  where
    fin : {p m q n : ℕ} → p ≡ mag f x → m ≡ 0 → q ≡ mag f y → n ≡ 0
        → (2 ^ 30 * (q + m) ≤ 2 ^ 30 * (n + p) + e * S) × (2 ^ 30 * (n + p) ≤ 2 ^ 30 * (q + m) + e * S)
    fin {p} {m} {q} {n} a b c d = (omega arith, omega arith)

-- ---- x - y, where y is near x
module _ {f : Format} {S : ℕ} (s : Scale f S) {c d e : ℕ} {x y : Float} (h : Within f S c x) (k : Within f S d y)
    (o : Off f S e y (plus f x) (minus f x)) (l : T (leb (c + d) (2 ^ 60))) where
  left : 2 ^ 30 * (plus f x + minus f y) ≤ 2 ^ 30 * (minus f x + plus f y) + e * S
  left = omega (arith, o.lo)

  right : 2 ^ 30 * (minus f x + plus f y) ≤ 2 ^ 30 * (plus f x + minus f y) + e * S
  right = omega (arith, o.hi)

  pub sub-near : Within f S (e + ((c + d) / 2 ^ 20 + 1)) (sub f x y)
  sub-near = close-in e (r-sub s h k l).num (o-sub s h k l) left right

  pub sub-near24 : Within f S (e + ((c + d) / 2 ^ 24 + 2)) (sub f x y)
  sub-near24 = close-in e (r-sub s h k l).num (o-sub24 s h k l) left right

-- ---- the same without bounds of x and y against S
pub sub-close : {f : Format} {S e : ℕ} (x : Float) {y : Float} → 2 ^ 50 ≤ S → Rounded f (sub f x y) (plus f x + minus f y) (minus f x + plus f y)
    → Off f S e y (plus f x) (minus f x) → Within f S (e + (e / 2 ^ 20 + 1)) (sub f x y)
sub-close {f} {S} {e} x {y} s r o =
    let A = plus f x + minus f y in
    let B = minus f x + plus f y in
    let h : 2 ^ 30 * A ≤ 2 ^ 30 * B + e * S = omega (arith, o.lo) in
    let k : 2 ^ 30 * B ≤ 2 ^ 30 * A + e * S = omega (arith, o.hi) in
    let i = e / 2 ^ 20 in
    close-in e r.num
    (off-by f S (2 ^ 21) (2 ^ 20) (i + 1) (sub f x y) A B (coarse f) (lit≤ tt) (fin (dist A B) i (dist-in A B (e * S) h k) (most e)) r) h k
  where
    most : (e : ℕ) → suc e ≤ 2 ^ 21 * (e / 2 ^ 20 + 1)
    most e = omega arith

    fin : (D q : ℕ) → 2 ^ 30 * D ≤ e * S → suc e ≤ 2 ^ 21 * (q + 1) → 2 ^ 30 * D + 2 ^ 30 * 2 ^ 20 ≤ 2 ^ 21 * ((q + 1) * S)
    fin D q h l = omega (arith, h, s, mul-le-mul_right S l)

-- ---- the rest b - (t - a), where o is near b + a and t near o
abbrev pub remains : ℕ → ℕ → ℕ → ℕ → ℕ → ℕ
remains c d k e i = e + i + ((k + c) / 2 ^ 20 + 1) + ((d + bump (k + c)) / 2 ^ 20 + 1)

pub split : {f : Format} {S : ℕ} (s : Scale f S) {c d k e i : ℕ} {a b o t : Float} → Within f S c a → Within f S d b → Within f S k t
    → Off f S e o (plus f b + plus f a) (minus f b + minus f a) → Off f S i t (plus f o) (minus f o)
    → T (leb (k + c) (2 ^ 60)) → T (leb (d + bump (k + c)) (2 ^ 60)) → Within f S (remains c d k e i) (sub f b (sub f t a))
split {f} s {a = a} A B T-in near T-off l m =
    sub-near s B (w-sub s T-in A l)
    (off-taken a (off-follow near T-off) (o-sub s T-in A l)) m
