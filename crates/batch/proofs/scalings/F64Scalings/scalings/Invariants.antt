-- The scalings of f64 words meet their contract: a stretch more at each turn, by the laws of batches. Assumes nothing.
use Prim.Native.Nat.{◌*◌, min}
use lib.ListN.{length}
use Rattle.words.specs.Format.{binary64}
use Rattle.scale.specs.Scale.{scaled}
use Rattle.batch.specs.Batches.{zip_with}
use Rattle.batch.specs.Stretches.{Progress}
use Rattle.batch.proofs.scalings.F64Scalings.scalings.Given as goal

abbrev pub invariant-loop-k : goal.invariant-loop-k
invariant-loop-k l = Progress (zip_with (scaled binary64) l.xs l.ns) l.initial.out (min (l.k * 64) (length l.initial.out)) l.out
