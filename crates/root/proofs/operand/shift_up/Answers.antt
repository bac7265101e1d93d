-- `root::operand::shift_up` meets its contract: among 64 digits m has 64 - p leading zeros more than among p. Assumes nothing.
use Prim.Native.Nat.{ℕ, ◌+◌, ◌-◌, ◌≤◌}
use mathlib.Core.Path.{◌≡◌, ap, subst, ◌∙◌}
use native.Mathlib.Omega.{arith}
use lib.Count.{count_leading_zeros, leading_le}
use Rattle.root.specs.Engine.{Shifts}
use Rattle.root.proofs.Operands.{shifts-exist, leading_wider}
use Rattle.root.proofs.operand.shift_up.Goals as goal
use Rattle.root.proofs.operand.shift_up.Goals.{Start}

-- the zeros among p digits and those above them
zeros : (c : Start)
    → (count_leading_zeros c.args.p c.args.m + (64 - c.args.p) ≡ count_leading_zeros 64 c.args.m)
    × (count_leading_zeros c.args.p c.args.m ≤ c.args.p) × (c.args.p ≤ 60)
zeros c =
    let m = c.args.m in
    let p = c.args.p in
    let all : p + (64 - p) ≡ 64 = omega (arith, c.requires.2) in
    (leading_wider p (64 - p) m c.requires.1 ∙ ap (λ (k : ℕ). count_leading_zeros k m) all, leading_le p m, c.requires.2)

pub overflow_sub-result-2 : goal.overflow_sub-result-2
overflow_sub-result-2 c = omega (arith, zeros (goal.at.overflow_sub-result-2 c).Start)

pub returns : goal.returns
returns c =
    let m = c.args.m in
    let p = c.args.p in
    subst (λ (r : ℕ). Shifts p m r) (omega (arith, zeros (goal.at.returns c).Start)) (shifts-exist p m c.requires.0 c.requires.1)
