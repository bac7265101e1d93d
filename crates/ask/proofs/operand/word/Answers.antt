-- `ask::operand::word` meets its contract: a number of so many hexadecimal digits has room in the word. Assumes nothing.
use Rattle.std.proofs.Common.{◌≤◌, ◌*◌, ◌^◌, length, arith}
use lib.Pow.{pow_mono}
use Rattle.ask.proofs.operand.word.Goals as goal

pub narrow-requires : goal.narrow-requires
narrow-requires g c =
    let digits = length c.digits_of-digits.result.now in
    let k : 2 ^ (4 * digits) ≤ 2 ^ g.W.Word.BITS = pow_mono {i = 4 * digits} {j = g.W.Word.BITS} (omega arith) in
    omega (arith, k, c.in_ok-number.ensures.room)
