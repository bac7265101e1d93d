-- Any two programs that meet a contract agree in every bit and in every element of a result slice: for each public function and batch. Assumes nothing.
-- A contract that is an equation with a definition fixes its answer; a batch's fixes its answer and all that its results hold.
-- The roots of either engine have one contract (sqrtd and sqrtd_digits, and so on), so that the two engines agree.
use Prim.Native.Nat.{ℕ}
use mathlib.Core.Bool.{cond}
use mathlib.Core.Path.{◌≡◌, refl, sym, ap, subst, ◌∙◌}
use mathlib.Core.List.{List}
use lib.IntN.{ℤ}
use Rattle.words.specs.Format.{binary32, binary64, magnitude}
use Rattle.words.specs.Answers.{answered}
use Rattle.words.specs.declared.answer.Answer.{Answer}
use Rattle.root.specs.Root.{root_word}
use Rattle.root.specs.Partial.{partial_root}
use Rattle.root.specs.declared.partial.PartialRoot.{PartialRoot}
use Rattle.scale.specs.Scale.{scaled}
use lib.Dec.{T, eqb}
use Rattle.std.specs.Prelude.{Result, Ok, Err}
use Rattle.words.specs.Refusal.{done, number_of}
use Rattle.words.specs.declared.refusal.Refusal.{Refusal}
use Rattle.words.specs.declared.refusal.Refusal.TheVariants.{LengthsDiffer, TooLong, NotPositive, TooManyRounds}
use Rattle.root.specs.Partial as Partials
use Rattle.root.specs.declared.partial.Partial.{Partial}
use Rattle.batch.specs.Batches as Batches
use lib.Ieee as Ieee
use Rattle.power.specs.Sorting.{sorted, Told, told, told_settled, told_open}
use Rattle.power.specs.Power.{pow32, pow64}
use Rattle.power.specs.declared.answer.Sorted.{Sorted}
use Rattle.power.specs.declared.answer.Sorted.TheVariants.{Settled, Open}
use Rattle.batch.specs.Batches.{Mapped, Zipped}
use Rattle.batch.specs.declared.outcome.Batch.{Batch}
use Rattle.batch.proofs.Answers.{unique}
use Rattle.lists.specs.Reader.{Started, Fed, Finished}
use Rattle.lists.specs.declared.reader.State.{State}
use Rattle.lists.specs.declared.tally.Tally.{Tally}

same : {A : Type 0} {a r s : A} → r ≡ a → s ≡ a → r ≡ s
same p q = p ∙ sym q

-- an answer of the sorting is fixed by what it tells
told_same : (r s : Sorted ℕ) → told r ≡ told s → r ≡ s
told_same (Settled v) (Settled w) e = ap (λ (t : Told). Settled t.word) e
told_same (Open b) (Open c) e = ap (λ (t : Told). Open t.negative) e
told_same (Settled v) (Open c) e = absurd (subst T (ap (λ (t : Told). t.settled) e) tt)
told_same (Open b) (Settled w) e = absurd (subst T (sym (ap (λ (t : Told). t.settled) e)) tt)

-- ---- single calls

pub fabsf-agrees : (x r s : ℕ) → r ≡ magnitude binary32 x → s ≡ magnitude binary32 x → r ≡ s
fabsf-agrees x r s = same

pub fabsd-agrees : (x r s : ℕ) → r ≡ magnitude binary64 x → s ≡ magnitude binary64 x → r ≡ s
fabsd-agrees x r s = same

pub scalbnf-agrees : (x : ℕ) (n : ℤ) (r s : Answer) → r ≡ answered (scaled binary32 x n) → s ≡ answered (scaled binary32 x n) → r ≡ s
scalbnf-agrees x n r s = same

pub scalbnd-agrees : (x : ℕ) (n : ℤ) (r s : Answer) → r ≡ answered (scaled binary64 x n) → s ≡ answered (scaled binary64 x n) → r ≡ s
scalbnd-agrees x n r s = same

pub sqrtf-agrees : (x : ℕ) (r s : Answer) → r ≡ answered (root_word binary32 x) → s ≡ answered (root_word binary32 x) → r ≡ s
sqrtf-agrees x r s = same

pub sqrtd-agrees : (x : ℕ) (r s : Answer) → r ≡ answered (root_word binary64 x) → s ≡ answered (root_word binary64 x) → r ≡ s
sqrtd-agrees x r s = same

pub partial-sqrtf-agrees : (x k : ℕ) (r s : PartialRoot) → r ≡ partial_root binary32 x k → s ≡ partial_root binary32 x k → r ≡ s
partial-sqrtf-agrees x k r s = same

pub partial-sqrtd-agrees : (x k : ℕ) (r s : PartialRoot) → r ≡ partial_root binary64 x k → s ≡ partial_root binary64 x k → r ≡ s
partial-sqrtd-agrees x k r s = same

pub sort-powf-agrees : (x y : ℕ) (r s : Sorted ℕ) → told r ≡ sorted told_settled told_open Ieee.binary32 x y → told s ≡ sorted told_settled told_open Ieee.binary32 x y → r ≡ s
sort-powf-agrees x y r s p q = told_same r s (same p q)

pub sort-powd-agrees : (x y : ℕ) (r s : Sorted ℕ) → told r ≡ sorted told_settled told_open Ieee.binary64 x y → told s ≡ sorted told_settled told_open Ieee.binary64 x y → r ≡ s
sort-powd-agrees x y r s p q = told_same r s (same p q)

pub powf-agrees : (x y r s : ℕ) → r ≡ pow32 x y → s ≡ pow32 x y → r ≡ s
powf-agrees x y r s = same

pub powd-agrees : (x y r s : ℕ) → r ≡ pow64 x y → s ≡ pow64 x y → r ≡ s
powd-agrees x y r s = same

-- ---- batches, of each function at the elements: the answer, and all that the results hold

abbrev Agree : (List ℕ → Batch → Type 0) → Type 0
Agree Met = (after after' : List ℕ) (r s : Batch) → Met after r → Met after' s → (r ≡ s) × (after ≡ after')

pub sqrtf-batch-agrees : (xs before : List ℕ) → Agree (Mapped (root_word binary32) xs before)
sqrtf-batch-agrees xs before after after' r s p q = unique p q

pub sqrtd-batch-agrees : (xs before : List ℕ) → Agree (Mapped (root_word binary64) xs before)
sqrtd-batch-agrees xs before after after' r s p q = unique p q

pub scalbnf-batch-agrees : (xs : List ℕ) (ns : List ℤ) (before : List ℕ) → Agree (Zipped (scaled binary32) xs ns before)
scalbnf-batch-agrees xs ns before after after' r s p q = unique p q

pub scalbnd-batch-agrees : (xs : List ℕ) (ns : List ℤ) (before : List ℕ) → Agree (Zipped (scaled binary64) xs ns before)
scalbnd-batch-agrees xs ns before after after' r s p q = unique p q

pub powf-batch-agrees : (xs ys before : List ℕ) → Agree (Zipped pow32 xs ys before)
powf-batch-agrees xs ys before after after' r s p q = unique p q

pub powd-batch-agrees : (xs ys before : List ℕ) → Agree (Zipped pow64 xs ys before)
powd-batch-agrees xs ys before after after' r s p q = unique p q

-- ---- the reader of TestFloat lists, on any state

pub start-agrees : (r s : State) → Started r → Started s → r ≡ s
start-agrees r s = same

pub feed-agrees : (state : State) (piece : List ℕ) (r s : State) → Fed state piece r → Fed state piece s → r ≡ s
feed-agrees state piece r s = same

pub finish-agrees : (state : State) (r s : Tally) → Finished state r → Finished state s → r ≡ s
finish-agrees state r s = same

-- ---- the crates' own functions answer a `Result` where C has a struct: what it is laid out as fixes it

abbrev refusal_at : ℕ → Refusal
refusal_at n = cond (eqb n 1) LengthsDiffer (cond (eqb n 2) TooLong (cond (eqb n 3) NotPositive TooManyRounds))

refusal-back : (r : Refusal) → refusal_at (number_of r) ≡ r
refusal-back LengthsDiffer = refl
refusal-back TooLong = refl
refusal-back NotPositive = refl
refusal-back TooManyRounds = refl

abbrev partial_at : PartialRoot → Result Partial Refusal
partial_at t = cond (eqb t.number done) (Ok (record { digits = t.digits; left = t.left; rounds = t.rounds })) (Err (refusal_at t.number))

partial-back : (r : Result Partial Refusal) → partial_at (Partials.laid r) ≡ r
partial-back (Ok p) = refl
partial-back (Err LengthsDiffer) = refl
partial-back (Err TooLong) = refl
partial-back (Err NotPositive) = refl
partial-back (Err TooManyRounds) = refl

pub partial-laid-agrees : (r s : Result Partial Refusal) → Partials.laid r ≡ Partials.laid s → r ≡ s
partial-laid-agrees r s e = sym (partial-back r) ∙ ap partial_at e ∙ partial-back s

abbrev count_at : Batch → Result ℕ Refusal
count_at t = cond (eqb t.number done) (Ok t.count) (Err (refusal_at t.number))

count-back : (r : Result ℕ Refusal) → count_at (Batches.laid r) ≡ r
count-back (Ok n) = refl
count-back (Err LengthsDiffer) = refl
count-back (Err TooLong) = refl
count-back (Err NotPositive) = refl
count-back (Err TooManyRounds) = refl

pub batch-laid-agrees : (r s : Result ℕ Refusal) → Batches.laid r ≡ Batches.laid s → r ≡ s
batch-laid-agrees r s e = sym (count-back r) ∙ ap count_at e ∙ count-back s
