-- A piece goes through line by line: the lines that end are counted, and what follows the last newline is kept. For any judge. Assumes nothing.
use Prim.Native.Nat.{ℕ, zero, suc, ◌+◌, ◌-◌, ◌≤◌, ◌<◌}
use mathlib.Core.Path.{◌≡◌, refl, sym, ap, ◌∙◌}
use mathlib.Core.Bool.{Bool, true, false, not, ◌&&◌}
use mathlib.Core.List.{List, [], ◌∷◌, ◌++◌, append-nil, append_assoc}
use native.Mathlib.Omega.{arith}
use native.Mathlib.Numerals.{add-one}
use lib.Dec.{eqb, ltb}
use lib.ListN.{length, take, drop, get_or, length-drop}
use lib.Seq.{take_all, take-take, split_at}
use borrow.Author.Tests.{ltb-false, eqb-true, not-true}
use Rattle.std.proofs.Common.{Some, None}
use Rattle.std.specs.List.{position, position_or_len}
use Rattle.std.proofs.lemmas.List.Quantifiers.{position-Some}
use Rattle.std.proofs.lemmas.List.Sums.{fails_before_first}
use Rattle.lists.specs.Judge.{Judge}
use Rattle.lists.specs.Counts.{Totals, newline, plain}
use Rattle.lists.specs.Reader.{Progress, ended, step, fed}
use Rattle.std.proofs.lemmas.Bool.{and_parts}
use Rattle.lists.proofs.Hex.{cond-none}
use Rattle.lists.proofs.Progress.{keeping, step_by}
use Rattle.lists.proofs.Report.{take-cut, ended-cut}

-- ---- the first newline cuts a piece

abbrev pub ends_line : ℕ → Bool
ends_line b = eqb b newline

plain-take : (s : List ℕ) (n : ℕ) → n ≤ length s → ((k : ℕ) → k < n → ends_line (get_or s k 0) ≡ false) → plain (take n s) ≡ true
plain-take s zero l h = refl
plain-take [] (suc n) l h = refl
plain-take (b ∷ s) (suc n) l h = (λ i. not (h 0 (omega arith) i) && plain-take s n (omega arith) (λ k q. h (suc k) (omega arith)) i)

pub cut_none : (s : List ℕ) → position ends_line s ≡ None → plain s ≡ true
cut_none s e =
    let past : length s ≤ position_or_len ends_line s = ltb-false _ _ (cond-none (ltb (position_or_len ends_line s) (length s)) _ e) in
    ap plain (sym (take_all (length s) s (omega arith))) ∙ plain-take s (length s) (omega arith) (λ k l. fails_before_first ends_line s k 0 (omega arith))

pub cut-some : (s : List ℕ) (e : ℕ) → position ends_line s ≡ Some e
    → (plain (take e s) ≡ true) × (s ≡ take e s ++ newline ∷ take (length s - (e + 1)) (drop (e + 1) s))
cut-some s e h =
    let f = position-Some ends_line s e 0 h in (
      plain-take s e (omega (arith, f.0)) f.2,
      split_at s e 0 f.0
          ∙ (λ i. take e s ++ eqb-true _ _ f.1 i ∷ drop (sym (add-one e) i) s)
          ∙ ap (λ (l : List ℕ). take e s ++ newline ∷ l) (sym (take_all (length s - (e + 1)) (drop (e + 1) s) (omega (arith, length-drop (e + 1) s)))),
    )

-- ---- what the lines give

-- one piece after the other is both at once
pub fed-append : (j : Judge) (p : Progress) (a b : List ℕ) → fed j p (a ++ b) ≡ fed j (fed j p a) b
unfolding fed
fed-append j p [] b = refl
fed-append j p (x ∷ a) b = fed-append j (step j p x) a b

module _ (j : Judge) (t : Totals) where
  -- bytes without a newline
  pub fed-plain : (m l : List ℕ) → take 37 l ≡ l → plain m ≡ true → fed j (keeping t l) m ≡ keeping t (take 37 (l ++ m))
  unfolding fed
  fed-plain [] l k h = ap (keeping t) (sym (ap (take 37) (append-nil l) ∙ k))
  fed-plain (b ∷ m) l k h =
      let p = and_parts (not (eqb b newline)) (plain m) h in
      ap (λ (q : Progress). fed j q m) (step_by j t l b (not-true _ p.0))
      ∙ fed-plain m (take 37 (l ++ b ∷ [])) (take-take 37 37 (l ++ b ∷ []) (omega arith)) p.1
      ∙ ap (keeping t) (take-cut (l ++ b ∷ []) m ∙ ap (take 37) (append_assoc l (b ∷ []) m))

  -- and a newline after them
  pub fed-line : (l m s : List ℕ) → take 37 l ≡ l → plain m ≡ true → fed j (keeping t l) (m ++ newline ∷ s) ≡ fed j (keeping (ended j t (l ++ m)) []) s
  unfolding fed
  fed-line l m s k h =
      fed-append j (keeping t l) m (newline ∷ s)
      ∙ ap (λ (q : Progress). fed j q (newline ∷ s)) (fed-plain m l k h)
      ∙ ap (λ (q : Progress). fed j q s) (step_by j t (take 37 (l ++ m)) newline refl)
      ∙ ap (λ (u : Totals). fed j (keeping u []) s) (ended-cut j t (l ++ m))
