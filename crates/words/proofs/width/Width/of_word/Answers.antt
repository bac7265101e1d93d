-- `words::width::Width::of_word` meets its contract: without its sign, a NaN's word is above infinity's. Assumes nothing.
use Rattle.std.proofs.Common.{◌≡◌, sym, ap, ◌∙◌}
use lib.Ieee.{nan_bits}
use lib.Ieee.Bits.{nan_bits_above}
use Rattle.words.proofs.Compared.{gt-says}
use Rattle.words.proofs.Floats.{nan-of-bits}
use Rattle.words.proofs.width.Width.of_word.Goals as goal
use Rattle.words.proofs.width.Width.of_word.Goals.{After-gt}
use Rattle.words.proofs.width.Width.of_word.Given.{Over}

-- the test is the definition's
above : (g : Over) (c : After-gt g) → nan_bits g.Self.Width.format (g.Self.Word.Word.number c.args.w) ≡ c.gt.result
above g c =
    let number = g.Self.Word.Word.number in
    nan_bits_above g.Self.Width.format (number c.args.w)
    ∙ sym (
    gt-says number g.Self.Word.PartialOrd.partial_cmp g.met.Self.Word.Word.compares c.fabs.result c.INFINITY.result c.gt.ensures c.fabs.ensures
    (ap number c.INFINITY.ensures ∙ g.met.Self.Width.infinity_is)
    )

pub from_bits-requires : goal.from_bits-requires
from_bits-requires g c = above g (goal.at.from_bits-requires g c).After-gt ∙ c.if-gt.false

pub returns-then-gt : goal.returns-then-gt
returns-then-gt g c =
    ap g.Self.Width.value c.NAN.ensures ∙ g.met.Self.Width.nan_is
    ∙ sym (nan-of-bits g.Self.Width.format (g.Self.Word.Word.number c.args.w) (above g (goal.at.returns-then-gt g c).After-gt ∙ c.if-gt.true))
