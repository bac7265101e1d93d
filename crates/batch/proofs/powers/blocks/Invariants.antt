-- `batch::powers::blocks` meets its contract: a block more at each turn, by the laws of batches and of blocks. Assumes nothing.
use Prim.Native.Nat.{◌*◌, min}
use mathlib.Core.Path.{◌≡◌}
use lib.ListN.{length}
use Rattle.batch.specs.Batches.{zip_with}
use Rattle.batch.specs.Stretches.{Progress}
use Rattle.batch.proofs.powers.blocks.Given as goal

abbrev pub invariant-loop-k : goal.invariant-loop-k
invariant-loop-k g l = Progress (zip_with g.F.Pow.pow l.xs l.ys) l.initial.out l.done l.out × (l.done ≡ min (l.k * 64) (length l.initial.out))
