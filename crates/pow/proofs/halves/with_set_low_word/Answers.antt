-- `pow::halves::with_set_low_word` meets its contract: the high half stays and the low half is the one given. Assumes nothing.
use Rattle.std.proofs.Common.{◌≡◌, ℕ, ◌+◌, ◌*◌, ◌/◌, ◌^◌, ◌<◌, not, T, sym, ap, ◌∙◌, subst}
use mathlib.Core.Path.{subst⁻¹}
use lib.Bits.{bit_and, bit_or, or_shifted}
use lib.Ieee.{Float, binary64, of_bits, to_bits, fits, nan_bits}
use lib.Ieee.Bits.{to_bits-lt}
use Rattle.power.proofs.Nan.{is_number}
use Rattle.power.proofs.Words.{cut}
use Rattle.pow.proofs.halves.with_set_low_word.Goals as goal

low-set : (f : Float) (lo : ℕ) → T (fits binary64 f) → lo < 2 ^ 32 → bit_or (bit_and (to_bits binary64 f) 0xffffffff00000000) lo ≡ to_bits binary64 f / 2 ^ 32 * 2 ^ 32 + lo
low-set f lo h l = ap (λ (n : ℕ). bit_or n lo) (cut 32 32 (to_bits binary64 f) (to_bits-lt binary64 f h)) ∙ or_shifted (to_bits binary64 f / 2 ^ 32) 32 lo l

pub float_to_bits-result : goal.float_to_bits-result
float_to_bits-result c = is_number c.args.f c.requires.0

pub float_from_bits-result : goal.float_from_bits-result
float_from_bits-result c = subst⁻¹ (λ (n : ℕ). T (not (nan_bits binary64 n))) (low-set c.args.f c.args.lo (subst T (sym c.well_formed.0.1) tt) c.ranges.lo.fits) c.requires.1

pub returns : goal.returns
returns c = ap (of_bits binary64) (low-set c.args.f c.args.lo (subst T (sym c.well_formed.0.1) tt) c.ranges.lo.fits)
