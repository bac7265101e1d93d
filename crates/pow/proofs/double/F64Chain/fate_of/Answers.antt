-- `pow::double::Chain::fate_of` meets its contract: each return is one way of the fate, by power/proofs/Limits.antt. Assumes nothing.
use Rattle.std.proofs.Common.{true, false, refl, arith}
use lib.Ieee.{binary64}
use lib.Ieee.Bits.{to_bits-lt}
use lib.Ieee.Fits.{add-fits}
use Rattle.power.specs.Power.{double}
use Rattle.power.proofs.Nan.{is_number}
use Rattle.power.proofs.Words.{size64}
use Rattle.power.proofs.Limits.{fate-above, fate-at-large, fate-below, fate-at-small, fate-not-below, fate-inside}
use Rattle.pow.proofs.double.F64Chain.fate_of.Goals as goal

pub float_to_bits-j : goal.float_to_bits-j
float_to_bits-j c = is_number _ c.requires

pub returns-then-j-lt4652218415073722368 : goal.returns-then-j-lt4652218415073722368
returns-then-j-lt4652218415073722368 c = fate-inside double _ refl (to_bits-lt binary64 _ (add-fits binary64 _ _)) (rw size64 at c.if-j-lt4652218415073722368.true) (omega arith)

pub returns-then-j-gt4652218415073722368 : goal.returns-then-j-gt4652218415073722368
returns-then-j-gt4652218415073722368 c = fate-above double _ refl c.if-j-lt9223372036854775808.true c.if-j-gt4652218415073722368.true

pub returns-then-lo-constant : goal.returns-then-lo-constant
returns-then-lo-constant c =
    fate-at-large double _ refl (rw size64 at c.if-j-lt4652218415073722368.false) c.if-j-lt9223372036854775808.true c.if-j-gt4652218415073722368.false c.constant.ensures true c.if-lo-constant.true

pub returns-then-j-lt9223372036854775808 : goal.returns-then-j-lt9223372036854775808
returns-then-j-lt9223372036854775808 c =
    fate-at-large double _ refl (rw size64 at c.if-j-lt4652218415073722368.false) c.if-j-lt9223372036854775808.true c.if-j-gt4652218415073722368.false c.constant.ensures false c.if-lo-constant.false

pub returns-then-j-gt13875814752300564480 : goal.returns-then-j-gt13875814752300564480
returns-then-j-gt13875814752300564480 c = fate-below double _ refl c.if-j-lt9223372036854775808.false c.if-j-gt13875814752300564480.true

pub returns-then-lo-z : goal.returns-then-lo-z
returns-then-lo-z c = fate-at-small double _ refl c.if-j-lt9223372036854775808.false c.if-j.true true c.if-lo-z.true

pub returns-else-lo-z : goal.returns-else-lo-z
returns-else-lo-z c = fate-at-small double _ refl c.if-j-lt9223372036854775808.false c.if-j.true false c.if-lo-z.false

pub returns-else-j : goal.returns-else-j
returns-else-j c = fate-not-below double _ refl c.if-j-lt9223372036854775808.false c.if-j-gt13875814752300564480.false c.if-j.false
