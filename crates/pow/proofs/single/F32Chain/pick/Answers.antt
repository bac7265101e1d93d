-- `pow::single::Chain::pick` meets its contract: the masks leave the table's word, by power/proofs/Picked.antt. Assumes nothing.
use Rattle.std.proofs.Common.{ℕ, ◌+◌, not, T, ap, arith}
use mathlib.Core.Path.{subst⁻¹}
use lib.Ieee.{binary32, nan_bits, of_bits}
use Rattle.power.specs.Chain.{con}
use Rattle.power.specs.Power.{single}
use Rattle.power.specs.Table32.{table32}
use Rattle.power.proofs.Picked.{clean32, picked, number}
use Rattle.pow.proofs.single.F32Chain.pick.Goals as goal

pub overflow_mul-second : goal.overflow_mul-second
overflow_mul-second c = omega (arith, c.requires)

pub float_from_bits-result : goal.float_from_bits-result
unfolding table32
float_from_bits-result c =
    let at = c.args.at in
    let k = c.args.k in
    subst⁻¹ (λ (n : ℕ). T (not (nan_bits binary32 n))) (picked single 32 clean32 at k c.requires.1) (number single 32 clean32 (at + k))

pub returns : goal.returns
unfolding con table32
returns c = ap (of_bits binary32) (picked single 32 clean32 c.args.at c.args.k c.requires.1)
