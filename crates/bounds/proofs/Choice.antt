-- Going by a test, and by how two numbers compare: the two or three cases as arguments, so that a proof names only what differs in them.
use mathlib.Core.Path.{◌≡◌, subst}
use mathlib.Core.Logic.{◌⊎◌, inl, inr}
use Prim.Native.Nat.{ℕ, ◌≤◌, ◌<◌}
use native.Mathlib.Nat.{le_antisymm}
use native.Mathlib.Omega.{arith}
use mathlib.Core.Bool.{Bool, true, false, not}
use lib.Arith.{lt_of_le-ne}
use lib.Dec.{T, T_not, ltb, eqb, ltb→lt, nltb→le, eqb→eq, eqb_refl}

pub choose : {P : Type 0} (b : Bool) → (T b → P) → (T (not b) → P) → P
choose true p q = p tt
choose false p q = q tt

-- a is below b, or b is at most a
pub order : {P : Type 0} (a b : ℕ) → (a < b → P) → (b ≤ a → P) → P
order a b p q = choose (ltb a b) (λ t. p (ltb→lt a b t)) (λ t. q (nltb→le a b t))

pub equal : {P : Type 0} (a b : ℕ) → (a ≡ b → P) → ((a ≡ b → ⊥) → P) → P
equal a b p q =
    choose (eqb a b) (λ t. p (eqb→eq a b t))
    (λ t. q (λ (e : a ≡ b). absurd (T_not (eqb a b) t (subst (λ (x : ℕ). T (eqb a x)) e (eqb_refl a)))))

pub three : {P : Type 0} (a b : ℕ) → (a ≡ b → P) → ((a < b) ⊎ (b < a) → P) → P
three a b p q = order a b (λ h. q (inl h)) (λ h. order b a (λ k. q (inr k)) (λ k. p (le_antisymm k h)))

pub apart : (a b : ℕ) → (a < b) ⊎ (b < a) → a ≡ b → ⊥
apart a b (inl h) e = omega arith
apart a b (inr h) e = omega arith

pub strict : (a b : ℕ) → a ≤ b → (a ≡ b → ⊥) → a < b
strict a b h k = lt_of_le-ne h k
