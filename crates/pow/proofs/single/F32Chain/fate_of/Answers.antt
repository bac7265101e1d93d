-- `pow::single::Chain::fate_of` meets its contract: each return is one way of the fate, by power/proofs/Limits.antt. Assumes nothing.
use Rattle.std.proofs.Common.{true, false, refl, arith}
use lib.Ieee.{binary32}
use lib.Ieee.Bits.{to_bits-lt}
use lib.Ieee.Fits.{add-fits}
use Rattle.power.specs.Power.{single}
use Rattle.power.proofs.Nan.{is_number}
use Rattle.power.proofs.Words.{size32}
use Rattle.power.proofs.Limits.{fate-above, fate-at-large, fate-below, fate-at-small, fate-not-below, fate-inside}
use Rattle.pow.proofs.single.F32Chain.fate_of.Goals as goal

pub float_to_bits-j : goal.float_to_bits-j
float_to_bits-j c = is_number _ c.requires

pub returns-then-j-lt1124073472 : goal.returns-then-j-lt1124073472
returns-then-j-lt1124073472 c = fate-inside single _ refl (to_bits-lt binary32 _ (add-fits binary32 _ _)) (rw size32 at c.if-j-lt1124073472.true) (omega arith)

pub returns-then-j-gt1124073472 : goal.returns-then-j-gt1124073472
returns-then-j-gt1124073472 c = fate-above single _ refl c.if-j-lt2147483648.true c.if-j-gt1124073472.true

pub returns-then-lo-constant : goal.returns-then-lo-constant
returns-then-lo-constant c =
    fate-at-large single _ refl (rw size32 at c.if-j-lt1124073472.false) c.if-j-lt2147483648.true c.if-j-gt1124073472.false c.constant.ensures true c.if-lo-constant.true

pub returns-then-j-lt2147483648 : goal.returns-then-j-lt2147483648
returns-then-j-lt2147483648 c =
    fate-at-large single _ refl (rw size32 at c.if-j-lt1124073472.false) c.if-j-lt2147483648.true c.if-j-gt1124073472.false c.constant.ensures false c.if-lo-constant.false

pub returns-then-j-gt3272998912 : goal.returns-then-j-gt3272998912
returns-then-j-gt3272998912 c = fate-below single _ refl c.if-j-lt2147483648.false c.if-j-gt3272998912.true

pub returns-then-lo-z : goal.returns-then-lo-z
returns-then-lo-z c = fate-at-small single _ refl c.if-j-lt2147483648.false c.if-j.true true c.if-lo-z.true

pub returns-else-lo-z : goal.returns-else-lo-z
returns-else-lo-z c = fate-at-small single _ refl c.if-j-lt2147483648.false c.if-j.true false c.if-lo-z.false

pub returns-else-j : goal.returns-else-j
returns-else-j c = fate-not-below single _ refl c.if-j-lt2147483648.false c.if-j-gt3272998912.false c.if-j.false
