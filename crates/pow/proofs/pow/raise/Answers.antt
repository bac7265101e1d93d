-- `pow::pow::raise` meets its contract: a settled pair is the sorting's, and an open one the chain's. Assumes nothing.
use Rattle.std.proofs.Common.{sym, ap, ◌∙◌}
use Rattle.power.proofs.Cases.{pow-chosen}
use Rattle.power.specs.Sorting.{told_by}
use Rattle.power.proofs.ByRule.{open-pair}
use Rattle.pow.specs.Parts.{of}
use Rattle.pow.proofs.pow.raise.Goals as goal

pub chain-requires : goal.chain-requires
chain-requires g c =
    open-pair g.F.Width.format _ _ _ (ap (told_by g.F.Word.Word.number) (sym c.in-Open.is) ∙ c.sort_pow.ensures)

pub returns-in-Settled : goal.returns-in-Settled
returns-in-Settled g c =
    let n = g.F.Word.Word.number in
    pow-chosen (of g.F.Width.format g.F.Chain.width) (n c.args.x) (n c.args.y) _ (ap (told_by n) (sym c.in-Settled.is) ∙ c.sort_pow.ensures)

pub returns-in-Open : goal.returns-in-Open
returns-in-Open g c =
    let n = g.F.Word.Word.number in
    c.chain.ensures ∙ pow-chosen (of g.F.Width.format g.F.Chain.width) (n c.args.x) (n c.args.y) _ (ap (told_by n) (sym c.in-Open.is) ∙ c.sort_pow.ensures)
