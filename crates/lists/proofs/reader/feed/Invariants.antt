-- `lists::reader::feed` meets its contract: each line that ends is counted where it stands. Assumes nothing.
use Rattle.std.proofs.Common.{◌≡◌, [], length}
use Rattle.lists.specs.Judge.{root_judged}
use Rattle.lists.specs.Reader.{totals_of, fed}
use Rattle.lists.proofs.Progress.{keeping}
use Rattle.lists.proofs.reader.feed.Given as goal

abbrev pub invariant-loop-line : goal.invariant-loop-line
invariant-loop-line l = fed root_judged (keeping (totals_of l.initial.tally) []) l.initial.rest ≡ fed root_judged (keeping (totals_of l.tally) []) l.rest

abbrev pub decreases-loop-line : goal.decreases-loop-line
decreases-loop-line l = length l.rest
