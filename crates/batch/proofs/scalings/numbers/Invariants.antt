-- `batch::scalings::numbers` meets its contract: a size that carries nothing is at most infinity's. Assumes nothing.
use mathlib.Core.Path.{◌≡◌}
use Prim.Native.Nat.{◌≤◌}
use Rattle.std.specs.List.{AllWithin}
use Rattle.words.specs.Format.{binary64, infinity, magnitude}
use Rattle.batch.proofs.scalings.numbers.Given as goal

abbrev pub invariant-loop-x : goal.invariant-loop-x
invariant-loop-x l = (l.found ≡ 0 → AllWithin (λ x. magnitude binary64 x ≤ infinity binary64) l.xs 0 l.x-index) × (l.found ≤ l.x-index)
