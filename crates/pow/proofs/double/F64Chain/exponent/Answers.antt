-- `pow::double::Chain::exponent` meets its contract: the field without its bias is a float. Assumes nothing.
use Rattle.std.proofs.Common.{ap, arith}
use lib.Ieee.{binary64, of_int}
use Rattle.power.specs.Chain.{exponent_of}
use Rattle.power.proofs.Exponent.{unbiased-back}
use Rattle.pow.proofs.double.F64Chain.exponent.Goals as goal

pub returns : goal.returns
unfolding exponent_of
returns c = ap (of_int binary64) (rw c.unbiased-n.ensures (unbiased-back 1076 c.args.e (omega arith) c.requires))
