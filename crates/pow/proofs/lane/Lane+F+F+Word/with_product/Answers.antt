-- `pow::lane::Lane::with_product` meets its contract: the logarithm times y. Assumes nothing.
use Rattle.std.proofs.Common.{◌∙◌, le_of_lt}
use Rattle.power.proofs.Blocks.{word-is-number}
use Rattle.power.specs.Stages.{times_of}
use Rattle.pow.proofs.Small.{finite-number}
use Rattle.pow.proofs.lane.Lane+F+F+Word.with_product.Goals as goal

pub from_bits-requires : goal.from_bits-requires
from_bits-requires g c = finite-number _ _ c.requires.0

pub log2-requires : goal.log2-requires
log2-requires g c = simp (c.pick-2.ensures, c.pick.ensures, c.parts.ensures) c.requires.2

pub product-p-requires : goal.product-p-requires
product-p-requires g c = rw c.from_bits.ensures (word-is-number _ _ (le_of_lt c.requires.0))

pub returns-clause-product : goal.returns-clause-product
unfolding times_of
returns-clause-product g c = c.product-p.ensures ∙ simp (c.log2.ensures, c.pick-2.ensures, c.pick.ensures, c.parts.ensures, c.from_bits.ensures)
