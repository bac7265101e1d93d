-- `pow::single::Chain::exponent` meets its contract: the field without its bias is a float. Assumes nothing.
use Rattle.std.proofs.Common.{T, ℤ, ap, arith}
use mathlib.Core.Path.{subst⁻¹}
use lib.Ieee.{binary32, in_float, of_int}
use Rattle.power.specs.Chain.{exponent_of}
use Rattle.power.proofs.Exponent.{unbiased-exact, unbiased-back}
use Rattle.pow.proofs.single.F32Chain.exponent.Goals as goal

pub int_to_float-result : goal.int_to_float-result
int_to_float-result c =
    subst⁻¹ (λ (z : ℤ). T (in_float binary32 z)) (rw c.unbiased-n.ensures (unbiased-back 151 c.args.e (omega arith) c.requires))
    (unbiased-exact binary32 151 c.args.e (omega arith) c.requires)

pub returns : goal.returns
unfolding exponent_of
returns c = ap (of_int binary32) (rw c.unbiased-n.ensures (unbiased-back 151 c.args.e (omega arith) c.requires))
