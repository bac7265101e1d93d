-- `scale::word::near` meets its contract: the word of the kit's product with 2 ^ n. Assumes nothing.
use mathlib.Core.Path.{◌≡◌, ap, ◌∙◌, subst}
use Prim.Native.Nat.{ℕ, ◌<◌}
use lib.Ieee.{mul, of_bits, to_bits, is_nan, nan_bits}
use lib.Ieee.Bits.{is_false}
use mir.Syntax.{w32}
use mir.ValLaws.{to_z-of_z}
use Rattle.words.proofs.Floats.{word_number}
use Rattle.scale.specs.Scale.{power}
use Rattle.scale.proofs.Scaled.{scaled-is, scaled-number}
use Rattle.scale.proofs.word.near.Given as given
use Rattle.scale.proofs.word.near.Goals as goal
use Rattle.scale.proofs.word.near.Goals.{After-mul}

-- the product is with 2 ^ n
product : (g : given.Over) (c : After-mul g) → g.F.Width.value c.mul.result ≡ mul g.F.Width.format (of_bits g.F.Width.format (g.F.Word.Word.number c.args.x)) (power c.args.n)
product g c = g.met.F.Width.muls _ _ _ c.mul.ensures ∙ (λ i. mul g.F.Width.format (c.from_bits.ensures i) ((c.power.ensures ∙ ap power (to_z-of_z w32 c.args.n c.ranges.n)) i))

pub from_bits-requires : goal.from_bits-requires
from_bits-requires g c = is_false (nan_bits g.F.Width.format (g.F.Word.Word.number c.args.x)) (word_number g.F.Width.format _ c.requires.x_bound)

pub to_bits-requires : goal.to_bits-requires
to_bits-requires g c = ap is_nan (product g (goal.at.to_bits-requires g c).After-mul) ∙ is_false _ (scaled-number g.F.Width.format _ c.args.n c.requires.x_bound)

pub returns : goal.returns
returns g c = c.to_bits.ensures ∙ ap (to_bits g.F.Width.format) (product g (goal.at.returns g c).After-mul) ∙ scaled-is g.F.Width.format _ c.args.n (subst (λ (w : ℕ). g.F.Word.Word.number c.args.x < w) g.met.F.Width.word_size c.requires.word)
