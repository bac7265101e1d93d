-- `pow::logarithm::logarithm` meets its contract: 3 + s_h * s_h + r is a number. Assumes nothing.
use Rattle.power.proofs.MadeOf.{logarithm-t}
use Rattle.pow.specs.Parts.{of, three}
use Rattle.pow.proofs.logarithm.logarithm.Goals as goal

pub leading-t_h-requires : goal.leading-t_h-requires
leading-t_h-requires g c =
    let f = g.met.F.Width in
    simp (f.adds _ _ _ c.add-2.ensures, f.adds _ _ _ c.add.ensures, f.muls _ _ _ c.mul-s2.ensures, c.THREE.ensures, g.met.F.Chain.three_is)
    (logarithm-t (of g.F.Width.format g.F.Chain.width) g.met.F.Chain.short (three g.F.Width.value c.args.q) _ c.requires)
