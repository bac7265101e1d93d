-- How a fraction of units is cut: equal fractions alike, and a whole number of them at once. Over any format. Assumes nothing.
use mathlib.Core.Path.{◌≡◌, refl, sym, ap, ◌∙◌, subst}
use Prim.Native.Nat.{ℕ, zero, suc, ◌+◌, ◌-◌, ◌*◌, ◌/◌, ◌%◌, ◌^◌, ◌≤◌, ◌<◌}
use native.Mathlib.Nat.{le_trans, le_of_eq, eq-zero-or-pos, mul-one, mul-pos, mul-le-mul_right, mul-div_cancel, mul-mod_left, div-one, div-add-mod'}
use native.Mathlib.Omega.{arith}
use mathlib.Core.Logic.{◌⊎◌, inl, inr}
use mathlib.Core.Bool.{Bool, false}
use lib.Dec.{ltb}
use borrow.Author.Tests.{lt-ltb}
use lib.Pow.{pow-add, pow_pos, shl_lt}
use lib.Ieee.{size}
use lib.Ieee.Digits.{size-le}
use lib.Ieee.Nearest.{div_same}
use Rattle.words.specs.Format.{Format}
use Rattle.words.specs.Rounding.{places, kept, rest}
use Rattle.words.proofs.Digits.{size_exact}

-- ---- equal fractions are cut alike
mod_same : (a b c d : ℕ) → 0 < b → 0 < d → a * d ≡ c * b → a % b * d ≡ c % d * b
mod_same a b c d B D e =
    let t : a / b ≡ c / d = div_same a b c d B D e in
    go (a / b) (c / d) (a % b) (c % d) t (div-add-mod' a b) (div-add-mod' c d)
  where
    go : (s t r u : ℕ) → s ≡ t → s * b + r ≡ a → t * d + u ≡ c → r * d ≡ u * b
    go s t r u E x y = omega (arith, ap (λ (z : ℕ). z * d) x, ap (λ (z : ℕ). z * b) y, ap (λ (z : ℕ). z * (b * d)) E, e)

some_same : (a b c d : ℕ) → 0 < b → 0 < d → a * d ≡ c * b → ltb 0 (a % b) ≡ ltb 0 (c % d)
some_same a b c d B D e = go (a % b) (c % d) (mod_same a b c d B D e)
  where
    up : (r : ℕ) → 0 < suc r
    up r = omega arith

    go : (r s : ℕ) → r * d ≡ s * b → ltb 0 r ≡ ltb 0 s
    go zero zero x = refl
    go (suc r) (suc s) x = lt-ltb 0 (suc r) (up r) ∙ sym (lt-ltb 0 (suc s) (up s))
    go zero (suc s) x = absurd (not-zero (suc s * b) (mul-pos (up s) B) x)
      where
        not-zero : (n : ℕ) → 0 < n → 0 * d ≡ n → ⊥
        not-zero n h y = omega arith
    go (suc r) zero x = absurd (not-zero (suc r * d) (mul-pos (up r) D) x)
      where
        not-zero : (n : ℕ) → 0 < n → n ≡ 0 * b → ⊥
        not-zero n h y = omega arith

-- k, q and more are how num / den units are cut
pub record IsCut (f : Format) (num den k q : ℕ) (more : Bool) : Type 0 where
  pub places-are : k ≡ places f num den
  pub kept-is : q ≡ kept f num den
  pub rest-is : more ≡ rest f num den

pub cut-same : (f : Format) (a b c d : ℕ) → 0 < b → 0 < d → a * d ≡ c * b → IsCut f a b (places f c d) (kept f c d) (rest f c d)
cut-same f a b c d B D e =
    let j = places f a b in
    let k = places f c d in
    let p : j ≡ k = ap (λ (z : ℕ). size z - f.digits) (div_same a b c d B D e) in
    let same : (i : ℕ) → 2 * a * (d * 2 ^ i) ≡ 2 * c * (b * 2 ^ i) = λ i. twice a b c d (2 ^ i) e in
    record {
      places-are = sym p;
      kept-is = sym (ap (λ (i : ℕ). 2 * a / (b * 2 ^ i)) p ∙ div_same (2 * a) (b * 2 ^ k) (2 * c) (d * 2 ^ k) (mul-pos B (pow_pos k)) (mul-pos D (pow_pos k)) (same k));
      rest-is = sym (ap (λ (i : ℕ). ltb 0 (2 * a % (b * 2 ^ i))) p ∙ some_same (2 * a) (b * 2 ^ k) (2 * c) (d * 2 ^ k) (mul-pos B (pow_pos k)) (mul-pos D (pow_pos k)) (same k));
    }
  where
    twice : (a b c d u : ℕ) → a * d ≡ c * b → 2 * a * (d * u) ≡ 2 * c * (b * u)
    twice a b c d u e = omega (arith, ap (λ (z : ℕ). z * u) e)

-- ---- a shift to the left: m * 2 ^ k units, m of at most `digits` digits, and of all of them where k is not 0
pub cut_left : (f : Format) (m k : ℕ) → 0 < f.digits → m < 2 ^ f.digits → (0 < k → 2 ^ (f.digits - 1) ≤ m) → IsCut f (m * 2 ^ k) 1 k (2 * m) false
cut_left f m k P M K =
    let p = f.digits in
    let n = m * 2 ^ k in
    let z : k ≡ places f n 1 = sym (ap (λ (y : ℕ). size y - p) (div-one n) ∙ drops (eq-zero-or-pos k)) in
    let double : 2 * n ≡ 2 * m * (1 * 2 ^ k) = omega arith in
    let u : 0 < 1 * 2 ^ k = mul-pos (omega arith) (pow_pos k) in
    record {
      places-are = z;
      kept-is = sym (ap (λ (y : ℕ). 2 * n / (1 * 2 ^ y)) (sym z) ∙ ap (λ (y : ℕ). y / (1 * 2 ^ k)) double ∙ mul-div_cancel (2 * m) u);
      rest-is = sym (ap (λ (y : ℕ). ltb 0 (2 * n % (1 * 2 ^ y))) (sym z) ∙ ap (λ (y : ℕ). ltb 0 (y % (1 * 2 ^ k))) double ∙ ap (λ (y : ℕ). ltb 0 y) (mul-mod_left (2 * m) (1 * 2 ^ k)));
    }
  where
    none : (z p k : ℕ) → z ≤ p → k ≡ 0 → z - p ≡ k
    none z p k h e = omega arith

    less : (z p k : ℕ) → 0 < p → z ≡ suc (p - 1 + k) → z - p ≡ k
    less z p k a e = omega arith

    next : (p k : ℕ) → 0 < p → p + k ≡ suc (p - 1 + k)
    next p k a = omega arith

    drops : (k ≡ 0) ⊎ (0 < k) → size (m * 2 ^ k) - f.digits ≡ k
    drops (inl e) = none (size (m * 2 ^ k)) f.digits k (size-le (m * 2 ^ k) f.digits (subst (λ (z : ℕ). z < 2 ^ f.digits) (sym (ap (λ (z : ℕ). m * 2 ^ z) e ∙ mul-one m)) M)) e
    drops (inr h) =
        less (size (m * 2 ^ k)) f.digits k P
        (size_exact (f.digits - 1 + k) (m * 2 ^ k) (le_trans (le_of_eq (pow-add 2 (f.digits - 1) k)) (mul-le-mul_right (2 ^ k) (K h))) (subst (λ (z : ℕ). m * 2 ^ k < 2 ^ z) (next f.digits k P) (shl_lt f.digits k M)))
