-- `lists::line::numbers_of` meets its contract: the parts that the code cuts are those of a line. Assumes nothing.
use Rattle.std.proofs.Common.{◌∙◌, sym, ap}
use Rattle.lists.specs.Digits.{read_number}
use Rattle.lists.proofs.Verdicts.{part-result, part-flags, all-read}
use Rattle.lists.proofs.line.numbers_of.Goals as goal

pub returns : goal.returns
returns c =
    let w = c.args.w in
    let l = c.args.s.now in
    sym (all-read w l c.requires.1 c.if-s-w-ne32.false c.if-s-b-ne32.false
    (sym c.hex_number.ensures ∙ c.in_ok-hex_number.was)
    (sym (c.hex_number-2.ensures ∙ ap read_number (part-result w l)) ∙ c.in_ok-hex_number-2.was)
    (sym (c.hex_number-3.ensures ∙ ap read_number (part-flags w l)) ∙ c.in_ok-hex_number-3.was))
