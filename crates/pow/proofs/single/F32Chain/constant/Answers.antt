-- `pow::single::Chain::constant` meets its contract: the array's word is the table's. Assumes nothing.
use Rattle.power.specs.Chain.{con}
use Rattle.power.specs.Table32.{table32}
use Rattle.pow.proofs.single.F32Chain.constant.Goals as goal

pub returns : goal.returns
unfolding con table32
returns c = c.of_word.ensures
