-- `pow::lane::Lane::started` meets its contract: the interval of a normal word, and the definition's quotient. Assumes nothing.
use Rattle.std.proofs.Common.{◌≡◌, ◌+◌, sym, ap, ◌∙◌, subst}
use lib.Ieee.{of_bits}
use Rattle.words.specs.Format.{Format}
use Rattle.power.specs.Width.{Three, Reduction}
use Rattle.power.specs.Places.{BP}
use Rattle.power.specs.Chain.{con, head_of, interval_of, quotient_of, reduced_of, exponent_of}
use Rattle.power.specs.NoNan.{Number}
use Rattle.power.specs.Stages.{ratio_of}
use Rattle.power.proofs.Blocks.{reduced-normal}
use Rattle.pow.specs.Parts.{of, reduction}
use Rattle.pow.proofs.Small.{small-number}
use Rattle.pow.proofs.lane.Lane+F+F+Word.started.Goals as goal
use Rattle.pow.proofs.lane.Lane+F+F+Word.started.Goals.{After-interval-r}
use Rattle.pow.proofs.lane.Lane+F+F+Word.started.Given.{Over}

-- what was reduced is the normal word
reduced : (g : Over) (a : After-interval-r g) → let n = g.F.Word.Word.number in reduction n a.interval-r.result ≡ reduced_of (of g.F.Width.format g.F.Chain.width) (n a.args.self.w)
reduced g a =
    let n = g.F.Word.Word.number in
    a.interval-r.ensures.result_value
    ∙ ap (interval_of (of g.F.Width.format g.F.Chain.width) (n a.args.self.w)) (a.digits.ensures.value ∙ ap (λ (f : Format). f.digits) a.format.ensures)
    ∙ sym (reduced-normal (of g.F.Width.format g.F.Chain.width) (n a.args.self.w) a.requires.0)

-- s of a reduced word
ratio : (g : Over) (a : After-interval-r g) → let n = g.F.Word.Word.number in let r = a.interval-r.result in
    quotient_of (of g.F.Width.format g.F.Chain.width) (of_bits g.F.Width.format (n r.ix)) (con (of g.F.Width.format g.F.Chain.width) (BP + n r.k)) (head_of (of g.F.Width.format g.F.Chain.width) (n r.ix) (n r.k)) ≡ ratio_of (of g.F.Width.format g.F.Chain.width) (n a.args.self.w)
unfolding ratio_of
ratio g a =
    ap (λ (r : Reduction). quotient_of (of g.F.Width.format g.F.Chain.width) (of_bits g.F.Width.format r.word) (con (of g.F.Width.format g.F.Chain.width) (BP + r.k)) (head_of (of g.F.Width.format g.F.Chain.width) r.word r.k)) (reduced g a)

pub from_bits-requires : goal.from_bits-requires
from_bits-requires g c = small-number _ _ c.interval-r.ensures.ix_bound.0

pub quotient-q-requires : goal.quotient-q-requires
quotient-q-requires g c =
    simp (c.head.ensures, c.pick.ensures, c.from_bits.ensures) (subst (λ (q : Three). Number q.lo) (sym (ratio g (goal.at.quotient-q-requires g c).After-interval-r)) c.requires.2)

pub returns-clause-interval : goal.returns-clause-interval
returns-clause-interval g c = ap (λ (r : Reduction). r.k) (reduced g (goal.at.returns-clause-interval g c).After-interval-r)

pub returns-clause-ratio : goal.returns-clause-ratio
returns-clause-ratio g c =
    c.quotient-q.ensures ∙ simp (c.head.ensures, c.pick.ensures, c.from_bits.ensures) (ratio g (goal.at.returns-clause-ratio g c).After-interval-r)

pub returns-clause-exponent : goal.returns-clause-exponent
returns-clause-exponent g c =
    c.exponent.ensures ∙ ap (λ (r : Reduction). exponent_of (of g.F.Width.format g.F.Chain.width) r.e) (reduced g (goal.at.returns-clause-exponent g c).After-interval-r)
