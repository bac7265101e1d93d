-- `pow::single::Chain::reduce` meets its contract: each way is the definition's. Assumes nothing.
use Rattle.std.proofs.Common.{arith, le-ltb, lt-ltb}
use Rattle.power.specs.Chain.{reduced_of}
use Rattle.pow.proofs.single.F32Chain.reduce.Goals as goal

pub returns-then-ix-lt8388608 : goal.returns-then-ix-lt8388608
unfolding reduced_of
returns-then-ix-lt8388608 c =
    record {
      result_value = simp (lt-ltb _ _ c.if-ix-lt8388608.true) cc;
      ix_bound = omega arith;
      e_bound = omega arith;
    }

pub returns-else-ix-lt8388608 : goal.returns-else-ix-lt8388608
unfolding reduced_of
returns-else-ix-lt8388608 c =
    record {
      result_value = simp (le-ltb _ _ c.if-ix-lt8388608.false) cc;
      ix_bound = omega arith;
      e_bound = omega arith;
    }
