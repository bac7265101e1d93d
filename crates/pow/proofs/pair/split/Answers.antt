-- `pow::pair::split` meets its contract: u + v is a number. Assumes nothing.
use Rattle.power.proofs.MadeOf.{split-sum}
use Rattle.pow.specs.Parts.{of}
use Rattle.pow.proofs.pair.split.Goals as goal

pub leading-h-requires : goal.leading-h-requires
leading-h-requires g c =
    simp (g.met.F.Width.adds _ _ _ c.add.ensures) (split-sum (of g.F.Width.format g.F.Chain.width) g.met.F.Chain.short _ _ c.requires)
