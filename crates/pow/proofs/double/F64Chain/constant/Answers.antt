-- `pow::double::Chain::constant` meets its contract: the array's word is the table's. Assumes nothing.
use Rattle.power.specs.Chain.{con}
use Rattle.power.specs.Table64.{table64}
use Rattle.pow.proofs.double.F64Chain.constant.Goals as goal

pub returns : goal.returns
unfolding con table64
returns c = c.of_word.ensures
