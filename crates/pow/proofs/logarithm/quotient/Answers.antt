-- `pow::logarithm::quotient` meets its contract: s is a number. Assumes nothing.
use Rattle.power.specs.Chain.{quotient_of}
use Rattle.power.proofs.MadeOf.{quotient-s}
use Rattle.pow.specs.Parts.{of}
use Rattle.pow.proofs.logarithm.quotient.Goals as goal

pub leading-s_h-requires : goal.leading-s_h-requires
unfolding quotient_of
leading-s_h-requires g c =
    let f = g.met.F.Width in
    simp (f.muls _ _ _ c.mul-s.ensures, f.subs _ _ _ c.sub-u.ensures, f.divs _ _ _ c.div-v.ensures, f.adds _ _ _ c.add.ensures, c.ONE.ensures, g.met.F.Chain.one_is)
    (quotient-s (of g.F.Width.format g.F.Chain.width) g.met.F.Chain.short _ _ _ c.requires)
