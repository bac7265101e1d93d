-- `pow::single::normalized` meets its contract: the shift is 2 ^ prec, by power/proofs/Normalized.antt. Assumes nothing.
use Rattle.std.proofs.Common.{◌^◌, arith, lit≤}
use Rattle.power.specs.Power.{single}
use Rattle.power.proofs.Subnormal.{two32}
use Rattle.power.proofs.Normalized.{shift-some, shift-most, normalized}
use Rattle.pow.proofs.single.normalized.Goals as goal

pub overflow_sub-s : goal.overflow_sub-s
overflow_sub-s c = shift-some single 8 c.args.m c.requires

pub overflow_sub-result : goal.overflow_sub-result
overflow_sub-result c = shift-most single 8 c.args.m c.requires

pub overflow_shl-result-2 : goal.overflow_shl-result-2
overflow_shl-result-2 c = omega (arith, shift-most single 8 c.args.m c.requires)

pub overflow_add-result : goal.overflow_add-result
overflow_add-result c = omega (arith, (normalized single two32 8 c.args.m (2 ^ 32) c.requires (lit≤ tt)).1)

pub returns : goal.returns
returns c =
    let n = normalized single two32 8 c.args.m (2 ^ 32) c.requires (lit≤ tt) in
    record {
      value = n.0;
      upper_bound = omega (arith, n.1);
    }
