-- `root::operand::halve` meets its contract: the remainder by 2 is the odd digit, whatever the sign. Assumes nothing.
use native.Mathlib.Omega.{arith}
use mir.Syntax.{w32}
use mir.ValLaws.{to_z-of_z}
use Rattle.root.proofs.Signed.{rem-bits}
use Rattle.root.proofs.operand.halve.Goals as goal
use Rattle.root.proofs.operand.halve.Goals.{then-e-ne0, else-e-ne0}

pub returns-clause-w_value : goal.returns-clause-w_value
returns-clause-w_value c =
    let e = c.args.e in
    let back = to_z-of_z w32 e c.ranges.e in
    elim c.if-e-ne0.branch [
      | then-e-ne0 v ↦ rw (v.w-is, (rem-bits e).1 (rw back at v.if-e-ne0.true)) (omega arith)
      | else-e-ne0 v ↦ rw (v.w-is, (rem-bits e).0 (rw back at v.if-e-ne0.false)) (omega arith)
    ]
