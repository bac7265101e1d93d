-- `ask::number::number` meets its contract, by the laws of digits. Assumes nothing.
use Rattle.ask.proofs.Digits.{Reading}
use Rattle.ask.proofs.number.number.Given as goal

abbrev pub invariant-loop-c : goal.invariant-loop-c
invariant-loop-c l = Reading l.base l.s l.value l.c-index
