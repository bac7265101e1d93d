-- What a batch answers and what its results hold afterwards: document 01, "Refusal numbers". Definitions only.
use Rattle.std.specs.Prelude.{ℕ, ◌≡◌, Bool, cond, ◌&&◌, List, [], ◌∷◌, map, leb, eqb, length, Result, Ok, Err}
use Rattle.words.specs.Refusal.{done, lengths_differ, too_long, number_of}
use Rattle.words.specs.declared.refusal.Refusal.{Refusal}
use Rattle.batch.specs.declared.outcome.Batch.{Batch}

-- the most elements that a batch takes
abbrev pub most : ℕ
most = 4096

-- the refusal number, of whether all slices have one length and of the length of the results: 1 before 2
abbrev pub refusal : Bool → ℕ → ℕ
refusal same n = cond same (cond (leb n most) done too_long) lengths_differ

-- a result's refusal number
abbrev pub number_in : {A : Type 0} → Result A Refusal → ℕ
number_in (Ok x) = done
number_in (Err r) = number_of r

-- a result as C sees it: the number, and how many results were written
abbrev pub laid : Result ℕ Refusal → Batch
laid (Ok n) = record { number = done; count = n }
laid (Err r) = record { number = number_of r; count = 0 }

-- what a batch of n results answers: the number, and as its count all of them or none
abbrev pub answered : ℕ → ℕ → Batch
answered number n = record { number = number; count = cond (eqb number done) n 0 }

-- what the results hold afterwards: those that are wanted, or what they held before
abbrev pub written : {C : Type 0} → ℕ → List C → List C → List C
written number wanted before = cond (eqb number done) wanted before

-- all that is said of a batch whose slices have one length or not: its answer, and every element of its results
pub record Batched {C : Type 0} (same : Bool) (wanted before after : List C) (answer : Batch) : Type 0 where
  pub answer-is : answer ≡ answered (refusal same (length before)) (length before)
  pub results-are : after ≡ written (refusal same (length before)) wanted before

-- both operands are as long as the results
abbrev pub Matched : {A B C : Type 0} → List A → List B → List C → Type 0
Matched xs ys out = (length xs ≡ length out) × (length ys ≡ length out)

-- f of each pair of elements
abbrev pub zip_with : {A B C : Type 0} → (A → B → C) → List A → List B → List C
zip_with f [] ys = []
zip_with f (x ∷ xs) [] = []
zip_with f (x ∷ xs) (y ∷ ys) = f x y ∷ zip_with f xs ys

-- a batch of f over one slice of operands, and over two
abbrev pub Mapped : {A C : Type 0} → (A → C) → List A → List C → List C → Batch → Type 0
Mapped f xs before after answer = Batched (eqb (length xs) (length before)) (map f xs) before after answer

abbrev pub Zipped : {A B C : Type 0} → (A → B → C) → List A → List B → List C → List C → Batch → Type 0
Zipped f xs ys before after answer =
    Batched (eqb (length xs) (length before) && eqb (length ys) (length before)) (zip_with f xs ys) before after answer
