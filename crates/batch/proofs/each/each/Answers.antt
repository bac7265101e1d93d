-- `batch::each::each` meets its contract: one element more at each turn, by the laws of batches. Assumes nothing.
use Rattle.batch.proofs.Progress.{next_mapped}
use Rattle.batch.proofs.each.each.Goals as goal

pub loop-i-preserved : goal.loop-i-preserved
loop-i-preserved g c = λ w h. next_mapped w _ (c.loop-i.invariant w h) c.requires.same c.loop-i-test.true c.index-xs-i.is (h _ _ c.f.ensures)
