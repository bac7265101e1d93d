-- `pow::logarithm::sum` meets its contract: the sum is a number. Assumes nothing.
use Rattle.power.proofs.MadeOf.{sum_first}
use Rattle.pow.specs.Parts.{of}
use Rattle.pow.proofs.logarithm.sum.Goals as goal

pub leading-t1-requires : goal.leading-t1-requires
leading-t1-requires g c =
    let f = g.met.F.Width in
    simp (f.adds _ _ _ c.add-3.ensures, f.adds _ _ _ c.add-2.ensures, f.adds _ _ _ c.add.ensures) (sum_first (of g.F.Width.format g.F.Chain.width) g.met.F.Chain.short _ _ _ _ c.requires)
