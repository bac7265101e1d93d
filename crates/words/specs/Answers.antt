-- The answer that every root and scaling call gives, at every width. Definitions only.
use Rattle.std.specs.Prelude.{ℕ}
use Rattle.words.specs.Refusal.{done}
use Rattle.words.specs.declared.answer.Answer.{Answer}

-- a result's word, with no refusal
abbrev pub answered : ℕ → Answer
answered w = record { number = done; word = w }
