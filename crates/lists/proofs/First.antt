-- The first line that is such: the one after others that are not, with its number; none where there is none. Assumes nothing.
use Prim.Native.Nat.{ℕ, suc, ◌+◌}
use mathlib.Core.Path.{◌≡◌, refl, ap, ◌∙◌}
use mathlib.Core.Bool.{Bool, true, false, cond}
use mathlib.Core.List.{List, [], ◌∷◌, ◌++◌}
use native.Mathlib.Omega.{arith}
use lib.ListN.{length}
use Rattle.lists.specs.Counts.{count, first_line, first_number}

module _ (p : List ℕ → Bool) where
  -- none of l and ls is such
  none-cons : (l : List ℕ) (ls : List (List ℕ)) → count p (l ∷ ls) ≡ 0 → (p l ≡ false) × (count p ls ≡ 0)
  unfolding count
  none-cons l ls e = go (p l) refl e
    where
      go : (b : Bool) → p l ≡ b → cond b (1 + count p ls) (count p ls) ≡ 0 → (p l ≡ false) × (count p ls ≡ 0)
      go true h z = absurd (some (count p ls) z)
        where
          some : (n : ℕ) → 1 + n ≡ 0 → ⊥
          some n z = omega arith
      go false h z = (h, z)

  pub first-line : (before : List (List ℕ)) (l : List ℕ) (after : List (List ℕ)) → count p before ≡ 0 → p l ≡ true → first_line p (before ++ l ∷ after) ≡ l
  unfolding first_line
  first-line [] l after z e = ap (λ (b : Bool). cond b l (first_line p after)) e
  first-line (k ∷ before) l after z e =
      let n = none-cons k before z in
      ap (λ (b : Bool). cond b k (first_line p (before ++ l ∷ after))) n.0 ∙ first-line before l after n.1 e

  pub first-number : (before : List (List ℕ)) (l : List ℕ) (after : List (List ℕ)) (m : ℕ) → count p before ≡ 0 → p l ≡ true
      → first_number p m (before ++ l ∷ after) ≡ m + (length before + 1)
  unfolding first_number
  first-number [] l after m z e = ap (λ (b : Bool). cond b (m + 1) (first_number p (m + 1) after)) e
  first-number (k ∷ before) l after m z e =
      let n = none-cons k before z in
      ap (λ (b : Bool). cond b (m + 1) (first_number p (m + 1) (before ++ l ∷ after))) n.0
      ∙ first-number before l after (m + 1) n.1 e
      ∙ sum m (length before)
    where
      sum : (m n : ℕ) → m + 1 + (n + 1) ≡ m + (suc n + 1)
      sum m n = omega arith

  pub no-first-line : (ls : List (List ℕ)) → count p ls ≡ 0 → first_line p ls ≡ []
  unfolding first_line
  no-first-line [] z = refl
  no-first-line (k ∷ ls) z = let n = none-cons k ls z in ap (λ (b : Bool). cond b k (first_line p ls)) n.0 ∙ no-first-line ls n.1

  pub no-first-number : (ls : List (List ℕ)) (m : ℕ) → count p ls ≡ 0 → first_number p m ls ≡ 0
  unfolding first_number
  no-first-number [] m z = refl
  no-first-number (k ∷ ls) m z = let n = none-cons k ls z in ap (λ (b : Bool). cond b (m + 1) (first_number p (m + 1) ls)) n.0 ∙ no-first-number ls (m + 1) n.1
