-- `pow::block::mend` meets its contract: one loop over a block, by power/proofs/Filled.antt. Assumes nothing.
use Rattle.std.proofs.Common.{get_or}
use Rattle.power.proofs.Filled.{Filled}
use Rattle.pow.proofs.block.mend.Given as goal

abbrev pub invariant-loop-i : goal.invariant-loop-i
invariant-loop-i g l =
    let z = g.F.Word.Word.ZERO in
    Filled z (λ j. g.F.Pow.pow (get_or l.xs j z) (get_or l.ys j z)) l.initial.out l.i l.out
