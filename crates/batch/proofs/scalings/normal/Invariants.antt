-- `batch::scalings::normal` meets its contract: a number past neither end is a normal exponent. Assumes nothing.
use mathlib.Core.Path.{◌≡◌}
use mathlib.Core.Bool.{false}
use lib.Ieee.{binary64}
use Rattle.std.specs.List.{AllWithin}
use Rattle.scale.specs.Steps.{Normal}
use Rattle.batch.proofs.scalings.normal.Given as goal

abbrev pub invariant-loop-n : goal.invariant-loop-n
invariant-loop-n l = l.far ≡ false → AllWithin (λ n. Normal binary64 n) l.ns 0 l.n-index
