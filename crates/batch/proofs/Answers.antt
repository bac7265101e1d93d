-- What the refusal number says of the lengths, and that the contract of a batch leaves nothing open. Assumes nothing.
use Prim.Native.Nat.{ℕ}
use mathlib.Core.Path.{◌≡◌, refl, ap, sym, ◌∙◌}
use mathlib.Core.Bool.{Bool, true, false, ◌&&◌}
use mathlib.Core.List.{List}
use native.Mathlib.Omega.{arith}
use lib.Dec.{eqb}
use lib.ListN.{length}
use borrow.Author.Tests.{ne_eqb, eqb-true}
use Rattle.std.specs.Prelude.{Ok, Err}
use Rattle.words.specs.Refusal.{number_of}
use Rattle.words.specs.declared.refusal.Refusal.{Refusal}
use Rattle.words.specs.declared.refusal.Refusal.TheVariants.{LengthsDiffer, TooLong, NotPositive, TooManyRounds}
use Rattle.batch.specs.Batches.{Batched, Matched, refusal, answered, written, laid}
use Rattle.batch.specs.declared.outcome.Batch.{Batch}

-- the number 0 says that all slices have one length
pub accepted : (same : Bool) (n : ℕ) → refusal same n ≡ 0 → same ≡ true
accepted true n e = refl
accepted false n e = let z : ⊥ = omega (arith, e) in absurd z

-- two lengths are one where both tests say so
both : (a b n : ℕ) → eqb a n && eqb b n ≡ true → (a ≡ n) × (b ≡ n)
both a b n e = let (l, r) = split (eqb a n) (eqb b n) e in (eqb-true a n l, eqb-true b n r)
  where
    split : (l r : Bool) → l && r ≡ true → (l ≡ true) × (r ≡ true)
    split true r e = (refl, e)
    split false r e = let z : ◌≡◌ {A = ℕ} 0 1 = cc in let n : ⊥ = omega arith in absurd n

-- a batch that is taken has operands of one length
pub taken : {A B C : Type 0} (xs : List A) (ys : List B) (out : List C) → 0 ≡ refusal (eqb (length xs) (length out) && eqb (length ys) (length out)) (length out)
    → Matched xs ys out
taken xs ys out e = both (length xs) (length ys) (length out) (accepted _ (length out) (sym e))

-- no refusal has the number 0
some-number : (r : Refusal) → number_of r ≡ 0 → ⊥
some-number LengthsDiffer e = omega arith
some-number TooLong e = omega arith
some-number NotPositive e = omega arith
some-number TooManyRounds e = omega arith

-- a refused batch: the refusal's number, and the results as they were
pub refused : {C : Type 0} {same : Bool} (r : Refusal) {wanted before : List C} → number_of r ≡ refusal same (length before) → Batched same wanted before before (laid (Err r))
refused {C} {same} r {wanted} {before} e =
    let kept : written (number_of r) wanted before ≡ before = rw (ne_eqb _ _ (some-number r)) in
    let none : answered (number_of r) (length before) ≡ record { number = number_of r; count = 0 } = rw (ne_eqb _ _ (some-number r)) in
    record {
      answer-is = sym none ∙ ap (λ (k : ℕ). answered k (length before)) e;
      results-are = sym kept ∙ ap (λ (k : ℕ). written k wanted before) e;
    }

-- a batch that is done: the number 0, and the wanted results
pub succeeded : {C : Type 0} {same : Bool} {wanted before after : List C} → 0 ≡ refusal same (length before) → after ≡ wanted
    → Batched same wanted before after (laid (Ok (length before)))
succeeded {C} {same} {wanted} {before} e r =
    record {
      answer-is = ap (λ (k : ℕ). answered k (length before)) e;
      results-are = r ∙ ap (λ (k : ℕ). written k wanted before) e;
    }

-- two batches that meet one contract give the same answer and the same results, to every element
pub unique : {C : Type 0} {same : Bool} {wanted before after after' : List C} {answer answer' : Batch}
    → Batched same wanted before after answer → Batched same wanted before after' answer' → (answer ≡ answer') × (after ≡ after')
unique p q = (p.answer-is ∙ sym q.answer-is, p.results-are ∙ sym q.results-are)
