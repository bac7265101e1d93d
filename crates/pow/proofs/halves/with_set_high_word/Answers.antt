-- `pow::halves::with_set_high_word` meets its contract: the low half stays and the high half is the one given. Assumes nothing.
use Rattle.std.proofs.Common.{◌≡◌, ℕ, ◌+◌, ◌*◌, ◌%◌, ◌^◌, ◌<◌, not, T, ap, ◌∙◌, arith}
use mathlib.Core.Path.{subst⁻¹}
use lib.Bits.{bit_and, bit_or}
use lib.Ieee.{binary64, of_bits, to_bits, nan_bits}
use Rattle.power.proofs.Nan.{is_number}
use Rattle.power.proofs.Words.{joined}
use Rattle.pow.proofs.halves.with_set_high_word.Goals as goal

high-set : (t h : ℕ) → h < 2 ^ 32 → bit_or (bit_and t 0xffffffff) (h * 2 ^ 32 % 2 ^ 64) ≡ h * 2 ^ 32 + t % 2 ^ 32
high-set t h l = let e : h * 2 ^ 32 % 2 ^ 64 ≡ h * 2 ^ 32 = omega arith in ap (bit_or (bit_and t 0xffffffff)) e ∙ joined h 32 t

pub float_to_bits-result : goal.float_to_bits-result
float_to_bits-result c = is_number c.args.f c.requires.0

pub float_from_bits-result : goal.float_from_bits-result
float_from_bits-result c = subst⁻¹ (λ (n : ℕ). T (not (nan_bits binary64 n))) (high-set (to_bits binary64 c.args.f) c.args.hi c.ranges.hi.fits) c.requires.1

pub returns : goal.returns
returns c = ap (of_bits binary64) (high-set (to_bits binary64 c.args.f) c.args.hi c.ranges.hi.fits)
