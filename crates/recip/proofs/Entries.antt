-- A place of the table and its entry: the test of each, and that every place is named. Assumes nothing.
use Prim.Native.Nat.{ℕ, zero, suc, ◌+◌, ◌-◌, ◌/◌, ◌%◌, ◌≤◌, ◌<◌}
use mathlib.Core.Path.{◌≡◌, sym, subst}
use native.Mathlib.Nat.{lt_of_not-le}
use native.Mathlib.Decide.{dec_le}
use native.Mathlib.Omega.{arith}
use lib.Dec.{T}
use Rattle.recip.specs.Reciprocal.{Entry, good}

pub entry : {k x j : ℕ} → j ≡ k → T (good (2 - k / 256) (256 + k % 256) x) → Entry j x
entry {k} {x} {j} e t = subst (λ (n : ℕ). Entry n x) (sym e) (record { test = t })

-- a number that is none of the first n is not below n
abbrev pub None : ℕ → ℕ → Type 0
None zero j = Unit {0}
None (suc n) j = None n j × (j ≡ n → ⊥)

pub none : (n j : ℕ) → None n j → n ≤ j
none zero j t = omega arith
none (suc n) j t = least (none n j t.0) t.1
  where
    least : n ≤ j → (j ≡ n → ⊥) → suc n ≤ j
    least l f = elim (dec_le (suc n) j) [ yes g ↦ g | no g ↦ absurd (f (same (lt_of_not-le g))) ]
      where
        same : j < suc n → j ≡ n
        same h = omega arith

-- every place of the table is named
pub outside : (j : ℕ) → None 512 j → j < 512 → ⊥
outside j n l = past (none 512 j n) l
  where
    past : {j : ℕ} → 512 ≤ j → j < 512 → ⊥
    past l h = omega arith
