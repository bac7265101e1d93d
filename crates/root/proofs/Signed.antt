-- Signed exponents, as the machine's 32 bits hold them. Assumes nothing.
use Prim.Native.Nat.{ℕ, zero, suc, ◌+◌, ◌%◌, ◌<◌}
use mathlib.Core.Path.{◌≡◌, refl}
use native.Mathlib.Omega.{arith}
use lib.IntN.{ℤ, pos, negsuc, neg_ℤ, sub_ℕ}
use lib.Signed.{rem_z}
use mir.Syntax.{w32}
use mir.Val.{to_z, of_z, SFits}
use mir.ValLaws.{to_z-of_z}
use Rattle.root.specs.Engine.{odd_z}
use Rattle.root.proofs.Operands.{sub-mag}

pub sub-fits : (n b : ℕ) → n < 8192 → b < 8192 → SFits w32 (sub_ℕ n b)
sub-fits n b h k = record { sfits = omega (arith, sub-mag n b 8192 h k) }

-- the bits of the remainder by 2 are 0 just where nothing is left
pub rem-bits : (e : ℤ) → (of_z w32 (rem_z e (pos 2)) ≡ 0 → odd_z e ≡ 0) × (¬ (of_z w32 (rem_z e (pos 2)) ≡ 0) → odd_z e ≡ 1)
unfolding odd_z
rem-bits (pos n) = ((λ h. h), λ h. omega arith)
rem-bits (negsuc n) = go (suc n % 2) refl
  where
    go : (r : ℕ) → suc n % 2 ≡ r → (of_z w32 (neg_ℤ (pos r)) ≡ 0 → (n + 1) % 2 ≡ 0) × (¬ (of_z w32 (neg_ℤ (pos r)) ≡ 0) → (n + 1) % 2 ≡ 1)
    go zero e = ((λ h. omega arith), λ h. absurd (h refl))
    go (suc zero) e = ((λ h. omega arith), λ h. omega arith)
    go (suc (suc r)) e = absurd (omega arith)

-- a signed local is read back from its bits
pub read_back : (e : ℤ) (n b : ℕ) → n < 8192 → b < 8192 → e ≡ sub_ℕ n b → to_z w32 (of_z w32 e) ≡ sub_ℕ n b
read_back e n b h k i = rw i (to_z-of_z w32 (sub_ℕ n b) (sub-fits n b h k))
