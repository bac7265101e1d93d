-- `pow::double::Chain::pick` meets its contract: the masks leave the table's word, by power/proofs/Picked.antt. Assumes nothing.
use Rattle.std.proofs.Common.{ℕ, ◌+◌, not, T, ap, arith}
use mathlib.Core.Path.{subst⁻¹}
use lib.Ieee.{binary64, nan_bits, of_bits}
use Rattle.power.specs.Chain.{con}
use Rattle.power.specs.Power.{double}
use Rattle.power.specs.Table64.{table64}
use Rattle.power.proofs.Picked.{clean64, picked, number}
use Rattle.pow.proofs.double.F64Chain.pick.Goals as goal

pub overflow_mul-second : goal.overflow_mul-second
overflow_mul-second c = omega (arith, c.requires)

pub float_from_bits-result : goal.float_from_bits-result
unfolding table64
float_from_bits-result c =
    let at = c.args.at in
    let k = c.args.k in
    subst⁻¹ (λ (n : ℕ). T (not (nan_bits binary64 n))) (picked double 64 clean64 at k c.requires.1) (number double 64 clean64 (at + k))

pub returns : goal.returns
unfolding con table64
returns c = ap (of_bits binary64) (picked double 64 clean64 c.args.at c.args.k c.requires.1)
