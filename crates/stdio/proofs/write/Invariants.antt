-- `stdio::write` ends: each turn writes some of what is left. Assumes nothing.
use Rattle.std.proofs.Common.{length}
use Rattle.stdio.proofs.write.Given as goal

abbrev pub decreases-loop-rest : goal.decreases-loop-rest
decreases-loop-rest l = length l.rest
