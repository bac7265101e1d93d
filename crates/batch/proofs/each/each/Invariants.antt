-- `batch::each::each` meets its contract: one element more at each turn, by the laws of batches. Assumes nothing.
use mathlib.Core.Path.{◌≡◌}
use mathlib.Core.List.{map}
use Rattle.batch.specs.Stretches.{Progress}
use Rattle.batch.proofs.each.each.Given as goal

abbrev pub invariant-loop-i : goal.invariant-loop-i
invariant-loop-i g l = (w : _) → ((x : _) (r : _) → goal.M-post g l.f x r → r ≡ w x) → Progress (map w l.xs) l.initial.out l.i l.out
