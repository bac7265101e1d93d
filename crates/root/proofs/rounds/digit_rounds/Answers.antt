-- `root::rounds::digit_rounds` meets its contract. Assumes nothing.
use Prim.Native.Nat.{ℕ, ◌+◌, ◌/◌, ◌<◌}
use mathlib.Core.Path.{◌≡◌, sym, subst}
use Rattle.root.specs.Engine.{Rounds}
use native.Mathlib.Omega.{arith}
use Rattle.root.proofs.Engine.{State, weighs, hit, miss, starts, finish, shifted}
use Rattle.root.proofs.rounds.digit_rounds.Goals as goal
use Rattle.root.proofs.rounds.digit_rounds.Goals.{In-loop, then-s-r, else-s-r}

weighed : (c : In-loop) → 0 < c.loop.r / 2
weighed c =
    let a = c.args in
    let l = c.loop in
    weighs a.p a.w l.counter l.s l.r l.left l.invariant.1 (omega (arith, c.requires.rounds))

pub loop-init : goal.loop-init
loop-init c = (omega arith, starts c.args.p c.args.w c.args.k c.requires)

pub overflow_sub-r : goal.overflow_sub-r
overflow_sub-r c = omega (arith, weighed (goal.at.overflow_sub-r c).In-loop)

pub loop-preserved : goal.loop-preserved
loop-preserved c =
    let a = c.args in
    let l = c.loop in
    let more : l.counter < a.p + 1 = omega (arith, c.requires.rounds) in
    let some = weighed (goal.at.loop-preserved c).In-loop in (
      omega arith,
      elim c.if-s-r.branch [
        | then-s-r v ↦ rw (v.left-is, v.s-is) (hit a.p a.w l.counter l.s l.r l.left l.invariant.1 more (omega (arith, some, v.if-s-r.true)))
        | else-s-r v ↦ rw (v.left-is, v.s-is) (miss a.p a.w l.counter l.s l.r l.left l.invariant.1 more (omega (arith, some, v.if-s-r.false)))
      ],
    )

pub returns : goal.returns
returns c =
    let a = c.args in
    let l = c.loop in
    let k≡i : a.k ≡ l.counter = omega (arith, l.invariant.0) in
    let st : State a.p a.w a.k l.s l.r l.left = subst (λ (z : ℕ). State a.p a.w z l.s l.r l.left) (sym k≡i) l.invariant.1 in
    subst (λ (z : ℕ). Rounds a.p a.w a.k z l.left) (sym (shifted a.p a.w a.k l.s l.r l.left st c.requires.rounds)) (finish a.p a.w a.k l.s l.r l.left st c.requires.rounds)
