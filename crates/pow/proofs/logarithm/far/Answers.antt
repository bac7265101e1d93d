-- `pow::logarithm::far` meets its contract: the operations are the definition's, in its order. Assumes nothing.
use Rattle.std.proofs.Common.{◌≡◌, sym, ap, ◌∙◌, subst}
use Rattle.power.specs.Chain.{log2_of, far_at, far_of}
use Rattle.power.specs.NoNan.{Number}
use Rattle.power.specs.Width.{Two, Reduction}
use Rattle.power.proofs.MadeOf.{far-logarithm, far-quotient}
use Rattle.pow.specs.Parts.{of, two, reduction}
use Rattle.pow.proofs.Small.{small-number}
use Rattle.pow.proofs.logarithm.far.Goals as goal
use Rattle.pow.proofs.logarithm.far.Goals.{After-exponent, After-reduce-r}
use Rattle.pow.proofs.logarithm.far.Given.{Over}

-- the answer of what was reduced is a number
reduced : (g : Over) (a : After-reduce-r g) → Number (far_at (of g.F.Width.format g.F.Chain.width) (reduction g.F.Word.Word.number a.reduce-r.result)).lo
unfolding far_of
reduced g a = subst (λ (r : Reduction). Number (far_at (of g.F.Width.format g.F.Chain.width) r).lo) (sym a.reduce-r.ensures.result_value) a.requires.1

-- what the last call is given makes the definition's answer
answer : (g : Over) (c : After-exponent g) → let v = g.F.Width.value in
    log2_of (of g.F.Width.format g.F.Chain.width) (two v c.logarithm-p.result) (v c.pick-2.result) (v c.pick-3.result) (v c.exponent.result) ≡ far_at (of g.F.Width.format g.F.Chain.width) (reduction g.F.Word.Word.number c.reduce-r.result)
unfolding far_at
answer g c =
    simp (
      c.exponent.ensures,
      c.pick-3.ensures,
      c.pick-2.ensures,
      c.logarithm-p.ensures,
      c.series.ensures,
      c.quotient-q.ensures,
      c.head.ensures,
      c.pick.ensures,
      c.from_bits.ensures,
    )

pub from_bits-requires : goal.from_bits-requires
from_bits-requires g c = small-number _ _ c.reduce-r.ensures.ix_bound.0

pub quotient-q-requires : goal.quotient-q-requires
quotient-q-requires g c =
    simp (c.head.ensures, c.pick.ensures, c.from_bits.ensures) (far-quotient (of g.F.Width.format g.F.Chain.width) g.met.F.Chain.short _ (reduced g (goal.at.quotient-q-requires g c).After-reduce-r))

pub logarithm-p-requires : goal.logarithm-p-requires
logarithm-p-requires g c =
    simp (c.series.ensures, c.quotient-q.ensures, c.head.ensures, c.pick.ensures, c.from_bits.ensures)
    (far-logarithm (of g.F.Width.format g.F.Chain.width) g.met.F.Chain.short _ (reduced g (goal.at.logarithm-p-requires g c).After-reduce-r))

pub log2-requires : goal.log2-requires
log2-requires g c =
    subst (λ (t : Two). Number t.lo) (sym (answer g (goal.at.log2-requires g c).After-exponent)) (reduced g (goal.at.log2-requires g c).After-reduce-r)

pub returns : goal.returns
unfolding far_of
returns g c =
    c.log2.ensures ∙ answer g (goal.at.returns g c).After-exponent ∙ ap (far_at (of g.F.Width.format g.F.Chain.width)) c.reduce-r.ensures.result_value
