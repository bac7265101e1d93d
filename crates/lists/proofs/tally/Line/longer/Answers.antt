-- `lists::tally::Line::longer` meets its contract: the bytes copied follow those that count. Assumes nothing.
use Rattle.std.proofs.Common.{ℕ, ◌+◌, ◌∙◌, ap, List, ◌++◌, take, arith}
use Rattle.std.proofs.lemmas.Slice.{take-put_mid}
use Rattle.lists.specs.Reader.{line_of}
use Rattle.lists.proofs.Keeping.{joined-kept}
use Rattle.lists.proofs.tally.Line.longer.Goals as goal

pub returns-clause-value : goal.returns-clause-value
returns-clause-value c =
    let bytes = c.args.self.bytes in
    let s = c.args.s.now in
    let old = c.min-open.result in
    let more = c.min-more.result in
    c.settled.ensures
    ∙ ap line_of
    (take-put_mid old _ bytes c.copy_from_slice.new.self (old + more) (omega arith) (omega arith)
    ∙ ap (λ (l : List ℕ). take old bytes ++ l) c.copy_from_slice.ensures.after
    ∙ joined-kept bytes s c.args.self.held old more (omega arith) c.min-open.ensures c.min-more.ensures)
