-- Before each round: the digits found so far, and what they leave.
use Prim.Native.Nat.{◌≤◌}
use Rattle.root.proofs.Engine.{State}
use Rattle.root.proofs.rounds.digit_rounds.Given as goal

abbrev pub invariant-loop : goal.invariant-loop
invariant-loop l = (l.counter ≤ l.k) × State l.p l.w l.counter l.s l.r l.left
