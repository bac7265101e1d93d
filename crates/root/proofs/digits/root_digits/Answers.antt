-- `root::digits::root_digits` meets its contract: a root is a word of the width. Assumes nothing.
use Rattle.std.proofs.Common.{◌*◌, ◌∙◌, ap, sym, subst, ℕ, ◌<◌}
use Rattle.words.specs.Format.{Format, top}
use Rattle.root.proofs.digits.root_digits.Goals as goal

pub narrow-requires : goal.narrow-requires
narrow-requires g c = subst (λ (n : ℕ). c.root_word.result < n) (ap (λ (f : Format). 2 * top f) c.format.ensures ∙ sym g.met.F.Width.word_size) c.root_word.ensures.bound
