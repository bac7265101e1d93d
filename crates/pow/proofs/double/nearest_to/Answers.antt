-- `pow::double::nearest_to` meets its contract: `known` bounds the shifts and differences, and `nearest-is` is the result, by power/proofs/NearestWhole.antt. Assumes nothing.
use Rattle.std.proofs.Common.{◌≡◌, ℕ, ◌+◌, ◌*◌, ◌%◌, ◌^◌, ◌<◌, ◌≤◌, not, T, refl, ap, ◌∙◌, add-zero, arith, lit≤}
use mathlib.Core.Path.{subst⁻¹}
use lib.Ieee.{binary64, is_nan, nan_bits, of_bits, to_bits}
use Rattle.power.proofs.HighWord.{high64}
use Rattle.power.proofs.NearestWhole.{Known, known, size_small, nearest-is, nearest-number}
use Rattle.pow.proofs.double.nearest_to.Goals as goal

-- the low half of 0.0's word is 0
low-zero : (n : ℕ) → n * 2 ^ 32 + to_bits binary64 (of_bits binary64 0) % 2 ^ 32 ≡ n * 2 ^ 32
unfolding to_bits of_bits
low-zero n = add-zero (n * 2 ^ 32)

facts : (j : ℕ) → j < 2 ^ 32 → (0x3fe00000 < j % 2 ^ 31) × (j % 2 ^ 31 ≤ 0x4090cc00) → Known 20 1022 10 j
facts j f h = known 20 1022 10 j (omega arith) f (omega arith) (omega arith)

number : (n : ℕ) → T (not (nan_bits binary64 (n * 2 ^ 32))) → T (not (nan_bits binary64 (n * 2 ^ 32 + to_bits binary64 (of_bits binary64 0) % 2 ^ 32)))
number n h = subst⁻¹ (λ (x : ℕ). T (not (nan_bits binary64 x))) (low-zero n) h

pub overflow_sub-n : goal.overflow_sub-n
overflow_sub-n c = (facts c.args.j c.ranges.j.fits c.requires).low

pub overflow_shr-n-2 : goal.overflow_shr-n-2
overflow_shr-n-2 c = omega (arith, facts c.args.j c.ranges.j.fits c.requires)

pub overflow_add-n : goal.overflow_add-n
overflow_add-n c = omega (arith, facts c.args.j c.ranges.j.fits c.requires)

pub overflow_sub-k : goal.overflow_sub-k
overflow_sub-k c = (facts c.args.j c.ranges.j.fits c.requires).from

pub overflow_sub-result : goal.overflow_sub-result
overflow_sub-result c = omega (arith, facts c.args.j c.ranges.j.fits c.requires)

pub overflow_shr-k-2 : goal.overflow_shr-k-2
overflow_shr-k-2 c = omega (arith, facts c.args.j c.ranges.j.fits c.requires)

pub with_set_high_word-requires : goal.with_set_high_word-requires
unfolding is_nan of_bits
with_set_high_word-requires c =
    let j = c.args.j in
    (refl, number _ (nearest-number 20 1022 10 j (facts j c.ranges.j.fits c.requires) (omega arith) high64 (omega arith) refl (lit≤ tt)))

pub returns : goal.returns
returns c =
    let j = c.args.j in
    let a = facts j c.ranges.j.fits c.requires in
    record {
      result_value = nearest-is 20 1022 10 j a (omega arith) high64 _ (c.with_set_high_word.ensures ∙ ap (of_bits binary64) (low-zero _));
      size_bound = size_small 20 1022 10 j a (omega arith);
    }
