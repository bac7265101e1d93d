-- `ask::number::number` meets its contract, by the laws of digits. Assumes nothing.
use Rattle.std.proofs.Common.{arith}
use Rattle.ask.proofs.Digits.{more, room}
use Rattle.ask.proofs.number.number.Goals as goal

-- the digit's product fits, since the sum above it does
pub overflow_mul-value : goal.overflow_mul-value
overflow_mul-value c =
    let sum = room c.loop-c.invariant (omega arith) c.requires c.digit.ensures c.in_ok-d.was in
    record { fits = omega (arith, sum.fits) }

pub overflow_add-value : goal.overflow_add-value
overflow_add-value c = room c.loop-c.invariant (omega arith) c.requires c.digit.ensures c.in_ok-d.was

pub loop-c-preserved : goal.loop-c-preserved
loop-c-preserved c = more c.loop-c.invariant (omega arith) c.requires c.digit.ensures c.in_ok-d.was
