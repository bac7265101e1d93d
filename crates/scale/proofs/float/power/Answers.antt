-- `scale::float::power` meets its contract: the word whose field alone is emax + n is 2 ^ n. Assumes nothing.
use mathlib.Core.Path.{◌≡◌, ap, ◌∙◌}
use mathlib.Core.Bool.{false}
use lib.Ieee.{nan_bits, of_bits}
use Rattle.words.specs.Format.{Format}
use Rattle.scale.specs.Scale.{power}
use Rattle.scale.proofs.Machine.{power-word}
use Rattle.scale.proofs.float.power.Given as given
use Rattle.scale.proofs.float.power.Goals as goal
use Rattle.scale.proofs.float.power.Goals.{After-narrow}

word : (g : given.Over) (c : After-narrow g) → (nan_bits g.F.Width.format (g.F.Word.Word.number c.narrow.result) ≡ false) × (of_bits g.F.Width.format (g.F.Word.Word.number c.narrow.result) ≡ power c.args.n)
word g c = power-word g.F.Width.format c.args.n c.most.result c.digits.result _ c.ranges.n c.requires c.most.ensures (c.digits.ensures.value ∙ ap (λ (f : Format). f.digits) c.format.ensures) c.narrow.ensures

pub from_bits-requires : goal.from_bits-requires
from_bits-requires g c = (word g (goal.at.from_bits-requires g c).After-narrow).0

pub returns : goal.returns
returns g c = c.from_bits.ensures ∙ (word g (goal.at.returns g c).After-narrow).1
