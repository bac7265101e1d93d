-- What holds of each rule's answer holds of the sorting's: the rules in their order, each with what the rules before it leave. Over the kit's formats. Assumes nothing.
use Prim.Native.Nat.{ℕ, zero, suc, ◌+◌, ◌≤◌, ◌<◌}
use mathlib.Core.Path.{◌≡◌, refl, sym, ap}
use mathlib.Core.Bool.{Bool, true, false, not, ◌&&◌, ◌||◌, cond, true≢false}
use mathlib.Core.Logic.{inl, inr}
use native.Mathlib.Nat.{eq-or-lt_of_le, zero-lt-suc}
use lib.Dec.{eqb}
use lib.Ieee.{Format}
use borrow.Author.Tests.{ltb-false, eqb-false, not-true, not-false}
use Rattle.words.specs.Format as Words
use Rattle.words.specs.Format.{top, infinity, quiet, one, magnitude, negative, is_nan_word, ours}
use Rattle.root.specs.Root.{root_word}
use Rattle.power.specs.Numbers.{whole, odd}
use Rattle.power.specs.Sorting.{two_word, half_word, over, square, at_infinity, on_edge, at_edge, sorted, sorted5, sorted6, sorted7, Told, told_settled, told_open}
use Rattle.power.specs.NoNan.{OpenPair}

-- what rules 1 to 4 leave: x is a number, y a finite one
pub record Left (f : Words.Format) (x y : ℕ) : Type 0 where
  pub number : magnitude f x ≤ infinity f
  pub finite : magnitude f y < infinity f

-- a test decides which of two things it is
pub by-test : {R : Type 0} (P : R → Type 0) (b : Bool) {r s : R} → (b ≡ true → P r) → (b ≡ false → P s) → P (cond b r s)
by-test P true h k = h refl
by-test P false h k = k refl

neither : (a b : Bool) → a || b ≡ false → (a ≡ false) × (b ≡ false)
neither false b e = (refl, e)
neither true b e = absurd (true≢false e)

module _ {R : Type 0} (s : ℕ → R) (u : Bool → R) (f : Format) (x y : ℕ) (P : R → Type 0) where
  abbrev g : Words.Format
  g = ours f

  abbrev ix : ℕ
  ix = magnitude (ours f) x

  abbrev iy : ℕ
  iy = magnitude (ours f) y

  pub record ByRule : Type 0 where
    pub rules-1-2 : P (s (one g))
    pub rule-3 : (iy ≡ 0 → ⊥) → (x ≡ one g → ⊥) → is_nan_word g x || is_nan_word g y ≡ true → P (s (quiet g))
    pub rule-4 : P (s (at_infinity g ix (negative g y)))
    pub rule-5-one : ix ≤ infinity g → P (s x)
    pub rule-5-minus-one : ix ≤ infinity g → P (s (over f x))
    pub rule-5-two : ix ≤ infinity g → P (s (square f x))
    pub rule-5-half : ix ≤ infinity g → negative g x ≡ false → P (s (root_word g x))
    pub rule-6 : Left g x y → on_edge g ix ≡ true → P (s (at_edge g ix (negative g x) iy (negative g y)))
    pub rule-7 : Left g x y → on_edge g ix ≡ false → negative g x ≡ true → whole g iy ≡ false → P (s (quiet g))
    pub open-plus : Left g x y → on_edge g ix ≡ false → negative g x ≡ false → P (u false)
    pub open-minus : Left g x y → on_edge g ix ≡ false → negative g x ≡ true → whole g iy ≡ true → P (u (odd g iy))

  pub sorted-by-rule : ByRule → P (sorted s u f x y)
  unfolding sorted sorted5 sorted6 sorted7
  sorted-by-rule c =
      by-test P (eqb iy 0 || eqb x (one g)) (λ e. c.rules-1-2)
      (λ early. by-test P (is_nan_word g x || is_nan_word g y)
      (λ e. let n = neither (eqb iy 0) (eqb x (one g)) early in c.rule-3 (eqb-false iy 0 n.0) (eqb-false x (one g) n.1) e)
      (λ numbers. by-test P (eqb iy (infinity g)) (λ e. c.rule-4)
      (λ infinite. let n = neither (is_nan_word g x) (is_nan_word g y) numbers in
      from-5 (ltb-false (infinity g) ix n.0) (strict iy (infinity g) (ltb-false (infinity g) iy n.1) (eqb-false iy (infinity g) infinite)))))
    where
      strict : (a b : ℕ) → a ≤ b → (a ≡ b → ⊥) → a < b
      strict a b h n = elim (eq-or-lt_of_le h) [ inl e ↦ absurd (n e) | inr l ↦ l ]

      from-6 : Left g x y → P (sorted6 s u g ix (negative g x) iy (negative g y))
      from-6 l =
          by-test P (on_edge g ix) (λ e. c.rule-6 l e)
          (λ edge. by-test P (not (negative g x)) (λ e. c.open-plus l edge (not-true (negative g x) e))
          (λ minus. let m = not-false (negative g x) minus in
          by-test P (not (whole g iy)) (λ e. c.rule-7 l edge m (not-true (whole g iy) e))
          (λ e. c.open-minus l edge m (not-false (whole g iy) e))))

      positive : (a b : Bool) → a && not b ≡ true → b ≡ false
      positive true b e = not-true b e
      positive false b e = absurd (true≢false (sym e))

      from-5 : ix ≤ infinity g → iy < infinity g → P (sorted5 s u f x y)
      from-5 n h =
          by-test P (eqb y (one g)) (λ e. c.rule-5-one n)
          (λ e. by-test P (eqb y (top g + one g)) (λ e. c.rule-5-minus-one n)
          (λ e. by-test P (eqb y (two_word g)) (λ e. c.rule-5-two n)
          (λ e. by-test P (eqb y (half_word g) && not (negative g x)) (λ e. c.rule-5-half n (positive (eqb y (half_word g)) (negative g x) e))
          (λ e. from-6 (record { number = n; finite = h })))))

-- ---- off rule 6's edges

pub off-edge : (f : Words.Format) (m : ℕ) → on_edge f m ≡ false → (0 < m) × ¬ (m ≡ infinity f) × ¬ (m ≡ one f)
off-edge f m e =
    let a = neither (eqb m (infinity f)) (eqb m 0 || eqb m (one f)) e in
    let b = neither (eqb m 0) (eqb m (one f)) a.1 in
    (some m (eqb-false m 0 b.0), eqb-false m (infinity f) a.0, eqb-false m (one f) b.1)
  where
    some : (n : ℕ) → ¬ (n ≡ 0) → 0 < n
    some zero h = absurd (h refl)
    some (suc n) h = zero-lt-suc n

pub finite-base : (f : Words.Format) (x y : ℕ) → Left f x y → on_edge f (magnitude f x) ≡ false → magnitude f x < infinity f
finite-base f x y l e = elim (eq-or-lt_of_le l.number) [ inl i ↦ absurd ((off-edge f (magnitude f x) e).1 i) | inr h ↦ h ]

-- what the sorting tells open is so
pub open-pair : (f : Format) (x y : ℕ) (s : Bool) → told_open s ≡ sorted told_settled told_open f x y → OpenPair (ours f) x y
open-pair f x y s e = sorted-by-rule told_settled told_open f x y (λ (r : Told). r.settled ≡ false → OpenPair (ours f) x y) (record {
  rules-1-2 = settled;
  rule-3 = λ z o n. settled;
  rule-4 = settled;
  rule-5-one = λ h. settled;
  rule-5-minus-one = λ h. settled;
  rule-5-two = λ h. settled;
  rule-5-half = λ h n. settled;
  rule-6 = λ l h. settled;
  rule-7 = λ l h n k. settled;
  open-plus = λ l h n t. pair l h;
  open-minus = λ l h n k t. pair l h;
}) (ap (λ (r : Told). r.settled) (sym e))
  where
    settled : true ≡ false → OpenPair (ours f) x y
    settled t = absurd (true≢false t)

    pair : Left (ours f) x y → on_edge (ours f) (magnitude (ours f) x) ≡ false → OpenPair (ours f) x y
    pair l h = record { base = finite-base (ours f) x y l h; not-one = (off-edge (ours f) (magnitude (ours f) x) h).2; exponent = l.finite }
