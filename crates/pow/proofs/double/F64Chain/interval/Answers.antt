-- `pow::double::Chain::interval` meets its contract: the three intervals by sums alone, by power/proofs/Intervals.antt. Assumes nothing.
use Rattle.std.proofs.Common.{arith}
use Rattle.power.specs.Power.{double}
use Rattle.power.proofs.Intervals.{spaced64, interval-by-sums}
use Rattle.pow.proofs.double.F64Chain.interval.Goals as goal

pub returns : goal.returns
returns c =
    record {
      result_value = interval-by-sums double spaced64 c.args.ix c.args.e c.requires.0;
      ix_bound = omega arith;
      e_bound = omega arith;
    }
