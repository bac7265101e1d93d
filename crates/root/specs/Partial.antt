-- The root after k rounds, and when it is refused: document 01, "Root" and "Refusal numbers". Definitions only.
use Rattle.std.specs.Prelude.{ℕ, ◌+◌, Bool, not, ◌&&◌, cond, ltb, Result, Ok, Err}
use Rattle.words.specs.Format.{Format, infinity}
use Rattle.words.specs.Refusal.{done, number_of, not_positive, too_many_rounds}
use Rattle.words.specs.declared.refusal.Refusal.{Refusal}
use Rattle.root.specs.Root.{digits_at, left_at, whole_of}
use Rattle.root.specs.declared.partial.Partial.{Partial}
use Rattle.root.specs.declared.partial.PartialRoot.{PartialRoot}

-- x is a positive finite word
abbrev pub positive : Format → ℕ → Bool
positive f x = ltb 0 x && ltb x (infinity f)

-- a refused call returns zeros beside its number
abbrev pub refused : ℕ → PartialRoot
refused number = record { number = number; digits = 0; left = 0; rounds = 0 }

-- the operand is tested before the rounds; an answered call returns Q, the left-over and k
unfoldable pub partial_root : Format → ℕ → ℕ → PartialRoot
partial_root f x k =
    cond (not (positive f x)) (refused not_positive)
    (cond (ltb (f.digits + 1) k) (refused too_many_rounds)
    (record { number = done; digits = digits_at f.digits (whole_of f x) k; left = left_at f.digits (whole_of f x) k; rounds = k }))

-- a partial root in that form
abbrev pub laid : Result Partial Refusal → PartialRoot
laid (Ok p) = record { number = done; digits = p.digits; left = p.left; rounds = p.rounds }
laid (Err e) = refused (number_of e)
