-- `pow::single::Chain::MINUS_ONE` meets its contract: the sign of 1 is turned. Assumes nothing.
use Rattle.std.proofs.Common.{refl}
use lib.Ieee.{neg, of_bits}
use Rattle.pow.proofs.single.F32Chain.MINUS_ONE.Goals as goal

pub returns : goal.returns
unfolding neg of_bits
returns c = refl
