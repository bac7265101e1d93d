-- `words::width::Width::to_word` meets its contract: only the NaN differs from itself. Assumes nothing.
use Rattle.std.proofs.Common.{not, sym, ap, ◌∙◌}
use Rattle.words.proofs.Floats.{differs-nan}
use Rattle.words.proofs.width.Width.to_word.Goals as goal

pub returns-then-ne : goal.returns-then-ne
unfolding lib.Ieee.ne
returns-then-ne g c =
    let x = g.Self.Width.value c.args.self in
    let w = g.met.Self.Width in
    ap g.Self.Word.Word.number c.QUIET.ensures ∙ w.quiet_is
    ∙ differs-nan g.Self.Width.format x (sym (ap not (w.equals c.args.self c.args.self)) ∙ sym c.ne.ensures ∙ c.if-ne.true)
