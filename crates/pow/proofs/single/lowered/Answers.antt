-- `pow::single::lowered` meets its contract: the code's masks and shifts in plain arithmetic, by power/proofs/Words.antt. Assumes nothing.
use Rattle.std.proofs.Common.{arith}
use Rattle.power.proofs.Words.{half-some, bias-small, sum-small, half-even-is}
use Rattle.pow.proofs.single.lowered.Goals as goal

pub overflow_sub-result-2 : goal.overflow_sub-result-2
overflow_sub-result-2 c = half-some 32 23 c.args.w c.args.s c.requires.0 c.requires.1 (omega arith)

pub overflow_add-result : goal.overflow_add-result
overflow_add-result c = record { fits = bias-small 32 23 c.args.w c.args.s c.requires.0 c.requires.1 (omega arith) }

pub overflow_add-result-2 : goal.overflow_add-result-2
overflow_add-result-2 c = record { fits = sum-small 32 23 c.args.w c.args.s c.requires.0 c.requires.1 (omega arith) }

pub returns : goal.returns
returns c = half-even-is 32 23 c.args.w c.args.s c.requires.0 c.requires.1 (omega arith)
