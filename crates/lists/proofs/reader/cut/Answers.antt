-- `lists::reader::cut` meets its contract: the first newline cuts a piece. Assumes nothing.
use Rattle.std.proofs.Common.{◌∙◌, sym}
use Rattle.lists.proofs.Pieces.{cut-some}
use Rattle.lists.proofs.reader.cut.Goals as goal

pub returns : goal.returns
returns c = cut-some c.args.piece.now c.in_ok-end.end (sym c.line_end.ensures ∙ c.in_ok-end.was)
