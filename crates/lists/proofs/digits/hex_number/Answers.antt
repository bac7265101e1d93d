-- `lists::digits::hex_number` meets its contract: the loop keeps Hex's Reading, and each way out is one of its laws. Assumes nothing.
use mathlib.Core.Path.{sym, ◌∙◌}
use Rattle.lists.proofs.Hex.{next}
use Rattle.lists.proofs.digits.hex_number.Goals as goal

pub loop-c-preserved : goal.loop-c-preserved
loop-c-preserved c = next c.loop-c.invariant c.loop-c-test.true (sym c.digit.ensures ∙ c.in_ok-value.was)
