-- `batch::each::each_pair` meets its contract: one pair more at each turn, by the laws of batches. Assumes nothing.
use mathlib.Core.Path.{◌≡◌}
use Rattle.batch.specs.Batches.{zip_with}
use Rattle.batch.specs.Stretches.{Progress}
use Rattle.batch.proofs.each.each_pair.Given as goal

abbrev pub invariant-loop-i : goal.invariant-loop-i
invariant-loop-i g l = (w : _) → ((x : _) (y : _) (r : _) → goal.M-post g l.f x y r → r ≡ w x y) → Progress (zip_with w l.xs l.ys) l.initial.out l.i l.out
