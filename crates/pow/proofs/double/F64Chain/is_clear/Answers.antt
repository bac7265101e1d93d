-- `pow::double::Chain::is_clear` meets its contract: the definition's tests, by masks. Assumes nothing.
use Rattle.std.proofs.Common.{◌%◌, ◌^◌, refl}
use lib.Bits.{and_mask}
use Rattle.power.specs.Stages.{clear}
use Rattle.power.proofs.Words.{size64}
use Rattle.power.proofs.Clear.{high-below}
use Rattle.pow.proofs.double.F64Chain.is_clear.Goals as goal

pub returns : goal.returns
unfolding clear
returns c =
    let y = c.args.y in
    rw (size64 y, and_mask y 52, high-below (y % 2 ^ 63) 32 0x41e00000) refl
