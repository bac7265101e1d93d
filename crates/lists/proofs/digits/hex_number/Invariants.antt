-- `lists::digits::hex_number` meets its contract: the loop keeps Hex's Reading, and each way out is one of its laws. Assumes nothing.
use Rattle.lists.proofs.Hex.{Reading}
use Rattle.lists.proofs.digits.hex_number.Given as goal

abbrev pub invariant-loop-c : goal.invariant-loop-c
invariant-loop-c l = Reading l.s l.value l.c-index
