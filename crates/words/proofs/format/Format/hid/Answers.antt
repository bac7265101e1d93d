-- `words::format::Format::hid` meets its contract: a format of at most 53 digits has a weight of at most 2 ^ 52. Assumes nothing.
use Rattle.std.proofs.Common.{ℕ, ◌-◌, ◌^◌, ◌≤◌, arith}
use mathlib.Core.Path.{subst⁻¹}
use lib.Pow.{pow_mono}
use Rattle.words.proofs.Digits.{one_shl}
use Rattle.words.proofs.format.Format.hid.Goals as goal

pub returns-clause-bound : goal.returns-clause-bound
returns-clause-bound c =
    subst⁻¹ (λ (n : ℕ). n ≤ 2 ^ 52) (one_shl (c.self.inside.digits - 1) (omega (arith, c.self.invariant.small))) (pow_mono {j = 52} (omega (arith, c.self.invariant.small)))
