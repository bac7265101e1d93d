-- The step and the test of its last digit, as the code has them: w of 53 or 54 digits, s its first root, lack what the square of s lacks of 64 * w. Assumes nothing.
use Prim.Native.Nat.{ℕ, zero, suc, ◌+◌, ◌-◌, ◌*◌, ◌/◌, ◌^◌, ◌≤◌, ◌<◌}
use mathlib.Core.Path.{◌≡◌, sym, ap, subst, ◌∙◌}
use native.Mathlib.Nat.{le_trans, mul-le-mul, mul-le-mul_left, mul-lt-mul_of_pos_left, mul_comm}
use native.Mathlib.Omega.{arith}
use lib.Pow.{pow_pos}
use Rattle.recip.specs.Reciprocal.{Reciprocal}
use Rattle.root.specs.Engine.{Rounds}
use Rattle.root.proofs.Engine.{powers, four-pow}
use Rattle.root.proofs.Roots.{IsRoot}
use Rattle.root.proofs.FirstRoot.{First, first-low, first_small, product_small}
use Rattle.root.proofs.Steps.{lack-below, lack-product, step-low, step-high}

-- ---- the first root, and what it leaves

pub record Step (w z r s lack : ℕ) : Type 0 where
  pub first : First z r s
  pub under : s * s ≤ w * 64
  pub square : s * s < 2 ^ 60
  pub product : z * r < 2 ^ 62
  pub small : s < 2 ^ 30
  pub lack-small : lack < 2 ^ 34
  pub step : lack * r ≤ 3 * 2 ^ 62 + 2 ^ 31
  pub is : lack + s * s ≡ w * 64

-- what holds of m's first digits holds of w's, which is as much, or twice as much and some more
between : (w m l : ℕ) → 0 < l → w ≡ l * m → (l * (m / 2 ^ 22) ≤ w / 2 ^ 22) × (w / 2 ^ 22 + 1 ≤ l * (m / 2 ^ 22 + 1))
between w m l some is =
    let y : ℕ = m / 2 ^ 22 in
    let a : y * 2 ^ 22 ≤ m = omega arith in
    let b : m + 1 ≤ y * 2 ^ 22 + 2 ^ 22 = omega arith in
    let c : l * (y * 2 ^ 22) ≤ l * m = mul-le-mul_left l a in
    let d : l * (m + 1) ≤ l * (y * 2 ^ 22 + 2 ^ 22) = mul-le-mul_left l b in
    (omega (arith, is, c), omega (arith, is, d, some))

-- m of 53 digits, or twice that
pub doubled-size : (m odd : ℕ) → 2 ^ 53 ≤ 2 * m → m < 2 ^ 53 → odd ≤ 1 → (2 ^ 53 ≤ 2 * (m * 2 ^ odd)) × (m * 2 ^ odd < 2 ^ 54)
doubled-size m zero a b l = (omega arith, omega arith)
doubled-size m (suc zero) a b l = (omega arith, omega arith)
doubled-size m (suc (suc n)) a b l = absurd (omega arith)

module _ (w m odd r : ℕ) where
  abbrev pub first-digits : ℕ
  first-digits = w / 2 ^ 22

  abbrev pub first-root : ℕ
  first-root = first-digits * r / 2 ^ 32

  abbrev pub first-lack : ℕ
  first-lack = w * 64 - first-root * first-root

  pub step_of : 2 ^ 53 ≤ 2 * w → w < 2 ^ 54 → w ≡ m * 2 ^ odd → Reciprocal (2 ^ odd * (m / 2 ^ 22)) (2 ^ odd * (m / 2 ^ 22 + 1)) r → Step w first-digits r first-root first-lack
  step_of above below double near =
      let z : ℕ = first-digits in
      let s : ℕ = first-root in
      let g = between w m (2 ^ odd) (pow_pos odd) (double ∙ mul_comm m (2 ^ odd)) in
      let n : Reciprocal z (z + 1) r = record { most = le_trans (mul-le-mul_left (r * r) g.1) near.most; least = le_trans near.least (mul-le-mul_left (r * r) g.0) } in
      let f : First z r s = record { above = omega arith; below = omega arith; near = n; low = omega arith; high = omega arith } in
      let low : s * s ≤ z * 2 ^ 28 = first-low z r s f in
      let under : s * s ≤ w * 64 = omega arith in
      let is : w * 64 - s * s + s * s ≡ w * 64 = omega arith in
      let wl : z * 2 ^ 22 ≤ w = omega arith in
      let wh : w < (z + 1) * 2 ^ 22 = omega arith in
      record {
        first = f;
        under = under;
        square = omega (arith, f.below);
        product = product_small z r s f;
        small = first_small z r s f;
        lack-small = lack-below z r s w (w * 64 - s * s) f wl wh is;
        step = lack-product z r s w (w * 64 - s * s) f wl wh is;
        is = is;
      }

-- ---- the last digit

-- t is all that can be added to s * 2 ^ 24
pub record Ends (s lack t : ℕ) : Type 0 where
  pub low : t * (2 * (s * 2 ^ 24) + t) ≤ lack * 2 ^ 48
  pub high : lack * 2 ^ 48 < (t + 1) * (2 * (s * 2 ^ 24) + (t + 1))
  pub small : t ≤ 25 * 2 ^ 22

module _ (w z r s lack t : ℕ) (g : Step w z r s lack) (first : z ≡ w / 2 ^ 22) (adds : t ≡ lack * r / 2 ^ 37) where
  pub step_small : t ≤ 24 * 2 ^ 22 + 1
  step_small = omega (arith, g.step)

  -- the test: whether t + 1 is too much
  abbrev tried : ℕ
  tried = 2 * s * (t + 1) + ((t + 1) * (t + 1) + (2 ^ 24 - 1)) / 2 ^ 24

  pub test-kept : tried ≤ lack * 2 ^ 24 → Ends s lack (t + 1)
  test-kept h = record {
    low = omega (arith, h);
    high = step-high z r s w lack g.first (omega arith) (omega arith) g.is (t + 1) (omega (arith, adds)) (omega (arith, adds));
    small = omega (arith, step_small);
  }

  pub test-lowered : lack * 2 ^ 24 < tried → Ends s lack t
  test-lowered h = record {
    low = step-low z r s w lack g.first (omega arith) (omega arith) g.is t (omega (arith, adds));
    high = omega (arith, h);
    small = omega (arith, step_small);
  }

-- ---- the answer

-- all rounds' digits, however they are found
rounds-of : (p w q left : ℕ) → IsRoot (2 ^ (p + 1) * w) q → left + 2 * (q * q) ≡ 2 * (2 ^ (p + 1) * w) → Rounds p w (p + 1) q left
rounds-of p w q left r e =
    let n : ℕ = 2 ^ (p + 1) in
    let f : 4 ^ (p + 1) * w ≡ n * (n * w) = omega (arith, ap (λ (z : ℕ). z * w) (four-pow (p + 1))) in
    let one : p + 2 - (p + 1) ≡ 1 = omega arith in
    let two : 2 ^ (p + 2 - (p + 1)) ≡ 2 = ap (λ (k : ℕ). 2 ^ k) one in
    record {
      low = omega (arith, f, mul-le-mul_left n r.0);
      high = subst (λ (z : ℕ). z < n * ((q + 1) * (q + 1))) (sym f) (mul-lt-mul_of_pos_left r.1 (pow_pos (p + 1)));
      rest = omega (arith, e, ap (λ (k : ℕ). k * (q * q)) two, ap (λ (k : ℕ). k * w) (powers (p + 1)).0);
    }

-- what the square of s * 2 ^ 24 + t lacks, as the code finds it
abbrev pub rest_of : ℕ → ℕ → ℕ → ℕ
rest_of s lack t = (lack * 2 ^ 24 - 2 * s * t) * 2 ^ 24 - t * t

-- the answer, with every number on the way small
pub record Ending (w s lack t : ℕ) : Type 0 where
  pub product : 2 * s * t < 2 ^ 60
  pub square : t * t < 2 ^ 60
  pub enough : 2 * s * t ≤ lack * 2 ^ 24
  pub room : (lack * 2 ^ 24 - 2 * s * t) * 2 ^ 24 < 2 ^ 60
  pub whole : t * t ≤ (lack * 2 ^ 24 - 2 * s * t) * 2 ^ 24
  pub small : s * 2 ^ 24 + t < 2 ^ 60
  pub rounds : Rounds 53 w 54 (s * 2 ^ 24 + t) (rest_of s lack t + rest_of s lack t)

pub ending : (w z r s lack t : ℕ) → Step w z r s lack → Ends s lack t → Ending w s lack t
ending w z r s lack t g h =
    let b : t ≤ 25 * 2 ^ 22 = h.small in
    let bs : s ≤ 2 ^ 30 = omega (arith, g.small) in
    let st : s * t ≤ 2 ^ 30 * (25 * 2 ^ 22) = mul-le-mul bs b in
    let tt2 : t * t ≤ 25 * 2 ^ 22 * (25 * 2 ^ 22) = mul-le-mul b b in
    let low : 2 * (s * t) * 2 ^ 24 + t * t ≤ lack * 2 ^ 48 = omega (arith, h.low) in
    let high : lack * 2 ^ 48 < 2 * (s * t) * 2 ^ 24 + t * t + 2 * (s * 2 ^ 24) + 2 * t + 1 = omega (arith, h.high) in
    let enough : 2 * s * t ≤ lack * 2 ^ 24 = omega (arith, low) in
    let d : ℕ = lack * 2 ^ 24 - 2 * s * t in
    let is : d + 2 * (s * t) ≡ lack * 2 ^ 24 = omega (arith, enough) in
    let whole : t * t ≤ d * 2 ^ 24 = omega (arith, low, is) in
    let rest : ℕ = d * 2 ^ 24 - t * t in
    let rest-is : rest + t * t ≡ d * 2 ^ 24 = omega (arith, whole) in
    let total : rest + (s * 2 ^ 24 + t) * (s * 2 ^ 24 + t) ≡ w * 2 ^ 54 = sum s t lack w d rest is rest-is g.is in
    record {
      product = omega (arith, st);
      square = omega (arith, tt2);
      enough = enough;
      room = omega (arith, high, is, tt2);
      whole = whole;
      small = omega (arith, bs, b);
      rounds = rounds-of 53 w (s * 2 ^ 24 + t) (rest + rest) (omega (arith, total), omega (arith, total, high, is, rest-is)) (omega (arith, total));
    }
  where
    sum : (s t e w d rest : ℕ) → d + 2 * (s * t) ≡ e * 2 ^ 24 → rest + t * t ≡ d * 2 ^ 24 → e + s * s ≡ w * 64 → rest + (s * 2 ^ 24 + t) * (s * 2 ^ 24 + t) ≡ w * 2 ^ 54
    sum s t e w d rest a b c = omega arith
