-- `batch::powers::pow_batch` meets its contract: by blocks and single calls, by the laws of batches. Assumes nothing.
use native.Mathlib.Omega.{arith}
use Rattle.std.proofs.Common.{rules}
use Rattle.batch.specs.Batches.{zip_with}
use Rattle.batch.specs.Stretches.{Progress}
use Rattle.batch.proofs.Answers.{succeeded, taken}
use Rattle.batch.proofs.Progress.{no_pairs, part_pairs, same, whole}
use Rattle.batch.proofs.powers.pow_batch.Goals as goal
use Rattle.batch.proofs.powers.pow_batch.Goals.{then-n-lt-STRETCH, else-n-lt-STRETCH}

pub returns : goal.returns
returns g c =
    let a = c.args in
    let b = c.if-n-lt-STRETCH in
    let l = taken _ _ _ c.in_ok-fit.ensures in
    let p : Progress (zip_with g.F.Pow.pow a.xs.now a.ys.now) a.out.now b.done b.out =
    elim b.branch [
      | then-n-lt-STRETCH w ↦ same w.done-is w.out-is (no_pairs _ _ _ l)
      | else-n-lt-STRETCH w ↦ same w.done-is w.out-is w.in_blocks-done.ensures
    ] in
    succeeded c.in_ok-fit.ensures
    (whole (part_pairs g.F.Pow.pow a.xs.now a.ys.now p _ _ _ (omega arith) (omega arith) (omega arith) (c.each_pair.ensures g.F.Pow.pow (λ x y r k. search rules))) (omega arith))
