-- `pow::single::Chain::is_clear` meets its contract: the definition's tests, by masks. Assumes nothing.
use Rattle.std.proofs.Common.{◌%◌, ◌^◌, refl}
use lib.Bits.{and_mask}
use Rattle.power.specs.Stages.{clear}
use Rattle.power.proofs.Words.{size32}
use Rattle.power.proofs.Clear.{high-below}
use Rattle.pow.proofs.single.F32Chain.is_clear.Goals as goal

pub returns : goal.returns
unfolding clear
returns c =
    let y = c.args.y in
    rw (size32 y, and_mask y 23, high-below (y % 2 ^ 31) 0 0x4d000000) refl
