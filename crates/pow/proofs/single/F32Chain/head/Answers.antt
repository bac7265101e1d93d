-- `pow::single::Chain::head` meets its contract: the masks are sums, by `headed`. Assumes nothing.
use Rattle.std.proofs.Common.{◌/◌, ap, arith}
use lib.Ieee.{binary32, of_bits}
use Rattle.words.proofs.Floats.{word_number}
use Rattle.power.specs.Chain.{head_of}
use Rattle.power.proofs.Words.{headed}
use Rattle.pow.proofs.single.F32Chain.head.Goals as goal

pub overflow_add-result-2 : goal.overflow_add-result-2
overflow_add-result-2 c = omega (arith, headed 20 12 29 (c.args.ix / 2) (omega arith) (omega arith))

pub float_from_bits-result : goal.float_from_bits-result
float_from_bits-result c = word_number binary32 _ (omega (arith, headed 20 12 29 (c.args.ix / 2) (omega arith) (omega arith)))

pub returns : goal.returns
unfolding head_of
returns c = ap (of_bits binary32) (omega (arith, headed 20 12 29 (c.args.ix / 2) (omega arith) (omega arith)))
