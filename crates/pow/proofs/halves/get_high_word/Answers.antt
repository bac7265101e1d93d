-- `pow::halves::get_high_word` meets its contract: the word is shifted. Assumes nothing.
use Rattle.std.proofs.Common.{T, sym, subst, arith}
use lib.Ieee.{binary64}
use lib.Ieee.Bits.{to_bits-lt}
use Rattle.power.proofs.Nan.{is_number}
use Rattle.pow.proofs.halves.get_high_word.Goals as goal

pub float_to_bits-result : goal.float_to_bits-result
float_to_bits-result c = is_number c.args.x c.requires

pub overflow_cast-result : goal.overflow_cast-result
overflow_cast-result c = record { fits = omega (arith, to_bits-lt binary64 c.args.x (subst T (sym c.well_formed.0.1) tt)) }
