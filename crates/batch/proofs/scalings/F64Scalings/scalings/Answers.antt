-- The scalings of f64 words meet their contract: a stretch more at each turn, by the laws of batches. Assumes nothing.
use mathlib.Core.Path.{refl}
use native.Mathlib.Omega.{arith}
use Rattle.batch.proofs.Progress.{no_pairs, part_pairs, same}
use Rattle.batch.proofs.Stretches.{begins, stretch_at}
use Rattle.batch.proofs.scalings.F64Scalings.scalings.Goals as goal

pub loop-k-init : goal.loop-k-init
loop-k-init c = same (omega arith) refl (no_pairs _ _ _ c.requires.0)

pub loop-k-preserved : goal.loop-k-preserved
loop-k-preserved c =
    let b = begins _ _ _ c.div_ceil-k-end.ensures c.loop-k-test.true in
    let s = stretch_at _ _ _ b c.min.ensures in
    same s.next refl (part_pairs _ _ _ c.loop-k.invariant _ _ _ (omega arith) (omega arith) s.within c.stretch.ensures)
