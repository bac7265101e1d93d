-- `pow::single::nearest_to` meets its contract: `known` bounds the shifts and differences, and `nearest-is` is the result, by power/proofs/NearestWhole.antt. Assumes nothing.
use Rattle.std.proofs.Common.{◌≡◌, ℕ, ◌*◌, ◌%◌, ◌^◌, ◌<◌, ◌≤◌, not, T, sym, refl, ap, mul-one, arith, lit≤}
use mathlib.Core.Path.{subst⁻¹}
use lib.Ieee.{binary32, nan_bits, of_bits}
use Rattle.power.proofs.HighWord.{high32}
use Rattle.power.proofs.NearestWhole.{Known, known, size_small, nearest-is, nearest-number}
use Rattle.pow.proofs.single.nearest_to.Goals as goal

-- no digits stand below the high word
back : (n : ℕ) → n ≡ n * 2 ^ 0
back n = sym (mul-one n)

facts : (j : ℕ) → j < 2 ^ 32 → (0x3f000000 < j % 2 ^ 31) × (j % 2 ^ 31 ≤ 0x43160000) → Known 23 126 7 j
facts j f h = known 23 126 7 j (omega arith) f (omega arith) (omega arith)

pub overflow_sub-n : goal.overflow_sub-n
overflow_sub-n c = (facts c.args.j c.ranges.j.fits c.requires).low

pub overflow_shr-n-2 : goal.overflow_shr-n-2
overflow_shr-n-2 c = omega (arith, facts c.args.j c.ranges.j.fits c.requires)

pub overflow_add-n : goal.overflow_add-n
overflow_add-n c = omega (arith, facts c.args.j c.ranges.j.fits c.requires)

pub overflow_sub-k : goal.overflow_sub-k
overflow_sub-k c = (facts c.args.j c.ranges.j.fits c.requires).from

pub overflow_sub-result : goal.overflow_sub-result
overflow_sub-result c = omega (arith, facts c.args.j c.ranges.j.fits c.requires)

pub overflow_shr-result-2 : goal.overflow_shr-result-2
overflow_shr-result-2 c = omega (arith, facts c.args.j c.ranges.j.fits c.requires)

pub float_from_bits-result : goal.float_from_bits-result
float_from_bits-result c =
    let j = c.args.j in
    subst⁻¹ (λ (n : ℕ). T (not (nan_bits binary32 n))) (back _) (nearest-number 23 126 7 j (facts j c.ranges.j.fits c.requires) (omega arith) high32 (omega arith) refl (lit≤ tt))

pub returns : goal.returns
returns c =
    let j = c.args.j in
    let a = facts j c.ranges.j.fits c.requires in
    record {
      result_value = nearest-is 23 126 7 j a (omega arith) high32 _ (ap (of_bits binary32) (back _));
      size_bound = size_small 23 126 7 j a (omega arith);
    }
