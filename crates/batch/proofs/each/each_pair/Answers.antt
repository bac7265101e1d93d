-- `batch::each::each_pair` meets its contract: one pair more at each turn, by the laws of batches. Assumes nothing.
use Rattle.batch.proofs.Progress.{no_pairs, next_zipped}
use Rattle.batch.proofs.each.each_pair.Goals as goal

pub loop-i-init : goal.loop-i-init
loop-i-init g c = λ w h. no_pairs w _ _ c.requires.same

pub loop-i-preserved : goal.loop-i-preserved
loop-i-preserved g c = λ w h. next_zipped w _ _ (c.loop-i.invariant w h) c.requires.same c.loop-i-test.true c.index-xs-i.is c.index-ys-i.is (h _ _ _ c.f.ensures)
