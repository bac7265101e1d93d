-- The error of one rounding, of a number and of a signed number: coarsely by 2 ^ -21, by the 24 digits that both formats have, and by all of the format's.
use mathlib.Core.Path.{◌≡◌, sym, ap}
use Prim.Native.Nat.{ℕ, ◌+◌, ◌-◌, ◌*◌, ◌^◌, ◌≤◌, ◌<◌}
use native.Mathlib.Nat.{le_of_lt, zero-lt-suc, add-sub_of_le}
use native.Mathlib.Omega.{arith}
use lib.Dec.{lit≤}
use lib.Ieee.{Format, binary32, binary64, prec}
use lib.Ieee.Fits.{two, two-le_pos}
use Rattle.bounds.proofs.Choice.{order}
use Rattle.bounds.proofs.Grid.{error-by}
use Rattle.bounds.proofs.Signed.{R, round-none}

-- n units are rounded with an error of at most n / K + C / K
abbrev pub Law : Format → ℕ → ℕ → Type 0
Law f K C = (n : ℕ) → (K * R f n ≤ K * n + n + C) × (K * n ≤ K * R f n + n + C)

abbrev pub dist : ℕ → ℕ → ℕ
dist a b = (a - b) + (b - a)

pub dist-in : (a b y : ℕ) → 2 ^ 30 * a ≤ 2 ^ 30 * b + y → 2 ^ 30 * b ≤ 2 ^ 30 * a + y → 2 ^ 30 * dist a b ≤ y
dist-in a b y h k = omega arith

-- ---- the same for a signed number a - b
pub near_by : (f : Format) (K C : ℕ) → Law f K C → (a b : ℕ)
    → (K * (R f (a - b) + b) ≤ K * (R f (b - a) + a) + dist a b + C) × (K * (R f (b - a) + a) ≤ K * (R f (a - b) + b) + dist a b + C)
near_by f K C law a b =
    order a b
    (λ l. let h = le_of_lt l in
    let r = case b a (b - a) (R f (b - a)) (R f (a - b)) (dist a b) (sym (add-sub_of_le h)) (omega arith) (round-none f a b h) (law (b - a)) in
    (r.1, r.0))
    (λ h. case a b (a - b) (R f (a - b)) (R f (b - a)) (dist a b) (sym (add-sub_of_le h)) (omega arith) (round-none f b a h) (law (a - b)))
  where
    case : (a b d p q e : ℕ) → a ≡ b + d → e ≡ d → q ≡ 0 → (K * p ≤ K * d + d + C) × (K * d ≤ K * p + d + C)
        → (K * (p + b) ≤ K * (q + a) + e + C) × (K * (q + a) ≤ K * (p + b) + e + C)
    case a b d p q e h z i x = (
      omega (arith, ap (λ (n : ℕ). K * n) h, ap (λ (n : ℕ). K * n) i, x.0, z),
      omega (arith, ap (λ (n : ℕ). K * n) h, ap (λ (n : ℕ). K * n) i, x.1, z),
    )

-- ---- by q + 1 digits, for every q below the format's own
pub law-by : (f : Format) (q : ℕ) → q < prec f → Law f (2 * 2 ^ q) (2 ^ q)
law-by f q h n = let e = error-by (prec f) q n 1 h (zero-lt-suc 0) in fin (2 ^ q) (R f n) e.0 e.1
  where
    fin : (Q r : ℕ) → 2 * Q * (r * 1) ≤ 2 * Q * n + n + Q * 1 → 2 * Q * n ≤ 2 * Q * (r * 1) + n + Q * 1
        → (2 * Q * r ≤ 2 * Q * n + n + Q) × (2 * Q * n ≤ 2 * Q * r + n + Q)
    fin Q r h k = (omega (arith, h), omega (arith, k))

pub digits : (f : Format) → 20 < prec f
digits binary32 = lit≤ tt
digits binary64 = lit≤ tt

pub coarse : (f : Format) → Law f (2 ^ 21) (2 ^ 20)
coarse f = law-by f 20 (digits f)

pub by-24 : (f : Format) → Law f (2 ^ 24) (2 ^ 23)
by-24 f = law-by f 23 (least f)
  where
    least : (f : Format) → 23 < prec f
    least binary32 = lit≤ tt
    least binary64 = lit≤ tt

pub by_all : (f : Format) → Law f (2 * 2 ^ (prec f - 1)) (2 ^ (prec f - 1))
by_all f = law-by f (prec f - 1) (under (prec f) (two-le_pos (prec f) (two f)))
  where
    under : (p : ℕ) → 0 < p → p - 1 < p
    under p h = omega arith

-- both parts of a signed number together
pub both-law : (f : Format) (m p q a b : ℕ) → m ≡ p + q → p ≡ R f (a - b) → q ≡ R f (b - a)
    → (2 ^ 21 * m ≤ 2 ^ 21 * dist a b + dist a b + 2 ^ 21) × (2 ^ 21 * dist a b ≤ 2 ^ 21 * m + dist a b + 2 ^ 21)
both-law f m p q a b e g h = fin (R f (a - b)) (R f (b - a)) (a - b) (b - a) g h (coarse f (a - b)) (coarse f (b - a))
  where
    fin : (r s c d : ℕ) → p ≡ r → q ≡ s
        → (2 ^ 21 * r ≤ 2 ^ 21 * c + c + 2 ^ 20) × (2 ^ 21 * c ≤ 2 ^ 21 * r + c + 2 ^ 20)
        → (2 ^ 21 * s ≤ 2 ^ 21 * d + d + 2 ^ 20) × (2 ^ 21 * d ≤ 2 ^ 21 * s + d + 2 ^ 20)
        → (2 ^ 21 * m ≤ 2 ^ 21 * (c + d) + (c + d) + 2 ^ 21) × (2 ^ 21 * (c + d) ≤ 2 ^ 21 * m + (c + d) + 2 ^ 21)
    fin r s c d g h x y = (omega (arith, x.0, y.0), omega (arith, x.1, y.1))
