-- `pow::double::normalized` meets its contract: the shift is 2 ^ prec, by power/proofs/Normalized.antt. Assumes nothing.
use Rattle.std.proofs.Common.{◌^◌, arith, lit≤}
use Rattle.power.specs.Power.{double}
use Rattle.power.proofs.Subnormal.{two64}
use Rattle.power.proofs.Normalized.{shift-some, shift-most, normalized}
use Rattle.pow.proofs.double.normalized.Goals as goal

pub overflow_sub-s : goal.overflow_sub-s
overflow_sub-s c = shift-some double 11 c.args.m c.requires

pub overflow_sub-result : goal.overflow_sub-result
overflow_sub-result c = shift-most double 11 c.args.m c.requires

pub overflow_cast-result-2 : goal.overflow_cast-result-2
overflow_cast-result-2 c = omega (arith, shift-most double 11 c.args.m c.requires)

pub overflow_shl-result-2 : goal.overflow_shl-result-2
overflow_shl-result-2 c = omega (arith, shift-most double 11 c.args.m c.requires)

pub overflow_add-result : goal.overflow_add-result
overflow_add-result c = omega (arith, (normalized double two64 11 c.args.m (2 ^ 64) c.requires (lit≤ tt)).1)

pub returns : goal.returns
returns c =
    let n = normalized double two64 11 c.args.m (2 ^ 64) c.requires (lit≤ tt) in
    record {
      value = n.0;
      upper_bound = omega (arith, n.1);
    }
