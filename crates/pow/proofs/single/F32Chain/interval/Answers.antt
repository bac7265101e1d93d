-- `pow::single::Chain::interval` meets its contract: the three intervals by sums alone, by power/proofs/Intervals.antt. Assumes nothing.
use Rattle.std.proofs.Common.{arith}
use Rattle.power.specs.Power.{single}
use Rattle.power.proofs.Intervals.{spaced32, interval-by-sums}
use Rattle.pow.proofs.single.F32Chain.interval.Goals as goal

pub returns : goal.returns
returns c =
    record {
      result_value = interval-by-sums single spaced32 c.args.ix c.args.e c.requires.0;
      ix_bound = omega arith;
      e_bound = omega arith;
    }
