-- `stdio::read_full` ends, and counts no more than the buffer has room for: each turn reads some of what is left. Assumes nothing.
use Rattle.std.proofs.Common.{◌-◌, ◌≤◌, ◌≡◌, length}
use Rattle.stdio.proofs.read_full.Given as goal

abbrev pub invariant-loop-count : goal.invariant-loop-count
invariant-loop-count l = (length l.buf ≡ length l.initial.buf) × (l.count ≤ length l.buf)

abbrev pub decreases-loop-count : goal.decreases-loop-count
decreases-loop-count l = length l.initial.buf - l.count
