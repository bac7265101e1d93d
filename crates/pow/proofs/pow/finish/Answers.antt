-- `pow::pow::finish` meets its contract: each return is the end of its fate, by `finish-ended` and `finish-within`. Assumes nothing.
use Rattle.std.proofs.Common.{sym, ap, ◌∙◌}
use lib.Ieee.{to_bits}
use Rattle.power.specs.Chain.{over_of, under_of}
use Rattle.power.proofs.Cases.{finish-ended}
use Rattle.power.proofs.Stages.{finish-within}
use Rattle.pow.specs.Parts.{of, two}
use Rattle.pow.proofs.pow.finish.Goals as goal

pub returns-in-Over : goal.returns-in-Over
returns-in-Over g c =
    c.to_word.ensures ∙ ap (to_bits g.F.Width.format)
    (finish-ended (of g.F.Width.format g.F.Chain.width) _ _ c.fate_of.ensures c.in-Over.is (c.over_flow.ensures ∙ ap (over_of (of g.F.Width.format g.F.Chain.width)) c.sign.ensures))

pub returns-in-Under : goal.returns-in-Under
returns-in-Under g c =
    c.to_word-in-Under.ensures ∙ ap (to_bits g.F.Width.format)
    (finish-ended (of g.F.Width.format g.F.Chain.width) _ _ c.fate_of.ensures c.in-Under.is (c.under_flow.ensures ∙ ap (under_of (of g.F.Width.format g.F.Chain.width)) c.sign-in-Under.ensures))

pub returns-in-Within : goal.returns-in-Within
returns-in-Within g c =
    finish-within (of g.F.Width.format g.F.Chain.width) (two g.F.Width.value c.args.p) c.args.negative (c.requires.raisable (sym c.fate_of.ensures ∙ c.in-Within.is)).answer
    c.fate_of.ensures c.in-Within.is c.exp2.ensures c.with_sign.ensures
