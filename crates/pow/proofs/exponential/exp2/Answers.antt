-- `pow::exponential::exp2` meets its contract: a z within the limits is small enough for `fraction`, and each call returns its part, by power/proofs/Stages.antt. Assumes nothing.
use Rattle.std.proofs.Common.{sym, ap, ◌∙◌, subst}
use lib.Ieee.{to_bits}
use Rattle.power.specs.Chain.{parts_of, exponential_of}
use Rattle.power.specs.NoNan.{Number}
use Rattle.power.proofs.Limits.{within-number, within-most}
use Rattle.power.proofs.MadeOf.{exponential-sum}
use Rattle.power.proofs.Stages.{cut-number, cut-raised}
use Rattle.pow.specs.Parts.{of, two}
use Rattle.pow.proofs.exponential.exp2.Goals as goal
use Rattle.pow.proofs.exponential.exp2.Goals.{After-fraction-f}
use Rattle.pow.proofs.exponential.exp2.Given.{Over}

-- the exponential of what is left of p, which is a number
rest-number : (g : Over) (c : After-fraction-f g) → let v = g.F.Width.value in
    Number (exponential_of (of g.F.Width.format g.F.Chain.width) (parts_of (of g.F.Width.format g.F.Chain.width) (record { hi = v c.fraction-f.result.hi; lo = v c.args.p.lo })))
rest-number g c =
    let v = g.F.Width.value in
    let r = c.fraction-f.ensures in
    let e = g.met.F.Width.adds _ _ _ c.add.ensures in
    cut-number (of g.F.Width.format g.F.Chain.width) (two v c.args.p) (v c.fraction-f.result.hi) (g.F.Word.Word.number c.fraction-f.result.e) (rw e at r.0) (rw e at r.1) c.requires.raisable

pub fraction-f-requires : goal.fraction-f-requires
fraction-f-requires g c =
    let p = two g.F.Width.value c.args.p in
    let h = c.requires.p_value in
    rw (g.met.F.Width.adds _ _ _ c.add.ensures) (within-number (of g.F.Width.format g.F.Chain.width) p g.met.F.Chain.large_finite h, within-most (of g.F.Width.format g.F.Chain.width) p g.met.F.Chain.limits_grow h)

pub parts-requires : goal.parts-requires
parts-requires g c = exponential-sum (of g.F.Width.format g.F.Chain.width) _ g.met.F.Chain.shorter (rest-number g (goal.at.parts-requires g c).After-fraction-f)

pub raised-requires : goal.raised-requires
raised-requires g c =
    let v = g.F.Width.value in
    let r = c.fraction-f.ensures in
    let e = g.met.F.Width.adds _ _ _ c.add.ensures in
    let i = cut-raised (of g.F.Width.format g.F.Chain.width) (two v c.args.p) (v c.fraction-f.result.hi) (g.F.Word.Word.number c.fraction-f.result.e) (rw e at r.0) (rw e at r.1) in
    (r.2, simp (c.exponential.ensures, c.parts.ensures) (rest-number g (goal.at.raised-requires g c).After-fraction-f), simp (c.exponential.ensures, c.parts.ensures) (subst Number (sym i) c.requires.raisable.answer))

pub returns : goal.returns
returns g c =
    let v = g.F.Width.value in
    let r = c.fraction-f.ensures in
    let e = g.met.F.Width.adds _ _ _ c.add.ensures in
    let i = cut-raised (of g.F.Width.format g.F.Chain.width) (two v c.args.p) (v c.fraction-f.result.hi) (g.F.Word.Word.number c.fraction-f.result.e) (rw e at r.0) (rw e at r.1) in
    c.raised.ensures ∙ simp (c.exponential.ensures, c.parts.ensures) (ap (to_bits g.F.Width.format) i)
