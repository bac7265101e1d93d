-- `batch::powers::blocks` meets its contract: a block more at each turn, by the laws of batches and of stretches. Assumes nothing.
use Rattle.std.proofs.Common.{rules}
use borrow.Author.Rules.{scaled_Fits}
use Prim.Native.Nat.{◌*◌, ◌<◌}
use lib.ListN.{length}
use native.Mathlib.Omega.{arith}
use Rattle.batch.proofs.Elements.{from_places}
use Rattle.batch.proofs.Progress.{no_pairs, part_pairs}
use Rattle.batch.proofs.Stretches.{begins, stretch_at}
use Rattle.batch.proofs.powers.blocks.Goals as goal

pub loop-k-init : goal.loop-k-init
loop-k-init g c = (no_pairs _ _ _ c.requires.0, omega arith)

pub loop-k-preserved : goal.loop-k-preserved
loop-k-preserved g c =
    let b = begins _ _ _ c.div_ceil-k-end.ensures c.loop-k-test.true in
    let l : c.loop-k.k * 64 < length c.args.out.now = omega arith in
    let z = g.F.Word.Word.ZERO in
    let s = stretch_at _ _ _ l c.min.ensures in (
      part_pairs _ _ _ c.loop-k.invariant.0 _ _ _ (omega arith) (omega arith) s.within (from_places _ z z z _ _ _ 64 (omega arith) (omega arith) (omega arith) c.pow_block.ensures),
      omega arith,
    )

-- the place of a block in bytes: `search` tries it too, and spends its count before
pub offset_bounds-out-a : goal.offset_bounds-out-a
offset_bounds-out-a g c =
    let b = begins _ _ _ c.div_ceil-k-end.ensures c.loop-k-test.true in
    let l : c.loop-k.k * 64 < length c.args.out.now = omega arith in
    let s = stretch_at _ _ _ l c.min.ensures in
    scaled_Fits _ (length c.args.out.now) _ (omega (arith, s.within, c.requires.1)) (search rules)
