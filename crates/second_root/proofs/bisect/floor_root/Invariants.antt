-- `second_root::bisect::floor_root` is safe, ends, and returns at most 54 digits: the bounds close in on each other. Assumes nothing.
use Rattle.std.proofs.Common.{◌-◌, ◌<◌, ◌≤◌}
use Rattle.second_root.proofs.bisect.floor_root.Given as goal

abbrev pub invariant-loop-high : goal.invariant-loop-high
invariant-loop-high l = (l.low < l.high) × (l.high ≤ 18014398509481984)

abbrev pub decreases-loop-high : goal.decreases-loop-high
decreases-loop-high l = l.high - l.low
