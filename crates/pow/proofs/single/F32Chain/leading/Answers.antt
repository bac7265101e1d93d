-- `pow::single::Chain::leading` meets its contract: the low 12 digits are cleared. Assumes nothing.
use Rattle.std.proofs.Common.{T, sym, refl, ap, subst}
use lib.Ieee.{binary32, of_bits, to_bits}
use lib.Ieee.Bits.{to_bits-lt}
use Rattle.power.specs.Chain.{chop}
use Rattle.power.proofs.Nan.{is_number, leading-number}
use Rattle.power.proofs.Words.{cut}
use Rattle.pow.proofs.single.F32Chain.leading.Goals as goal

pub float_to_bits-result : goal.float_to_bits-result
float_to_bits-result c = is_number c.args.self c.requires

pub float_from_bits-result : goal.float_from_bits-result
float_from_bits-result c =
    rw (cut 20 12 (to_bits binary32 c.args.self) (to_bits-lt binary32 c.args.self (subst T (sym c.well_formed.0.1) tt)))
    (leading-number binary32 19 12 c.args.self refl (subst T (sym c.well_formed.0.1) tt) c.requires)

pub returns : goal.returns
unfolding chop
returns c = ap (of_bits binary32) (cut 20 12 (to_bits binary32 c.args.self) (to_bits-lt binary32 c.args.self (subst T (sym c.well_formed.0.1) tt)))
