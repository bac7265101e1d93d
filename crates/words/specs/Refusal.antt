-- The refusal numbers: document 01, "Refusal numbers". Definitions only.
use Rattle.std.specs.Prelude.{ℕ, List, codes}
use Rattle.words.specs.declared.refusal.Refusal.{Refusal}
use Rattle.words.specs.declared.refusal.Refusal.TheVariants.{LengthsDiffer, TooLong, NotPositive, TooManyRounds}

-- no refusal
abbrev pub done : ℕ
done = 0

-- operand and result slices are not all of one length
abbrev pub lengths_differ : ℕ
lengths_differ = 1

-- lengths agree and exceed the limit
abbrev pub too_long : ℕ
too_long = 2

-- partial root of a zero, negative, infinite or NaN operand
abbrev pub not_positive : ℕ
not_positive = 3

-- operand fit, but more rounds asked than there are digits
abbrev pub too_many_rounds : ℕ
too_many_rounds = 4

-- a refusal's number
abbrev pub number_of : Refusal → ℕ
number_of = elim [
  | LengthsDiffer ↦ lengths_differ
  | TooLong ↦ too_long
  | NotPositive ↦ not_positive
  | TooManyRounds ↦ too_many_rounds
]

-- what a refusal says, in words
abbrev pub words_of : Refusal → List ℕ
words_of = elim [
  | LengthsDiffer ↦ codes "the slices are not all of one length"
  | TooLong ↦ codes "more elements than a batch has"
  | NotPositive ↦ codes "the operand is zero, negative, infinite or NaN"
  | TooManyRounds ↦ codes "more rounds than the root has digits"
]
