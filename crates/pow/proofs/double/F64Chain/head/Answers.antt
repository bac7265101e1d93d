-- `pow::double::Chain::head` meets its contract: the masks are sums, by `headed`. Assumes nothing.
use Rattle.std.proofs.Common.{◌/◌, ap, arith}
use lib.Ieee.{binary64, of_bits}
use Rattle.words.proofs.Floats.{word_number}
use Rattle.power.specs.Chain.{head_of}
use Rattle.power.proofs.Words.{headed}
use Rattle.pow.proofs.double.F64Chain.head.Goals as goal

pub overflow_add-result-2 : goal.overflow_add-result-2
overflow_add-result-2 c = omega (arith, headed 32 32 61 (c.args.ix / 2) (omega arith) (omega arith))

pub float_from_bits-result : goal.float_from_bits-result
float_from_bits-result c = word_number binary64 _ (omega (arith, headed 32 32 61 (c.args.ix / 2) (omega arith) (omega arith)))

pub returns : goal.returns
unfolding head_of
returns c = ap (of_bits binary64) (omega (arith, headed 32 32 61 (c.args.ix / 2) (omega arith) (omega arith)))
