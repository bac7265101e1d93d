-- A square that ends in 2 * k zeros is that of a number that ends in k: so an exact root is told by the square of what stands before its zeros. Assumes nothing.
use Prim.Native.Nat.{ℕ, zero, suc, ◌+◌, ◌*◌, ◌/◌, ◌%◌, ◌^◌, ◌<◌}
use mathlib.Core.Path.{◌≡◌, sym, ap, ◌∙◌}
use mathlib.Core.Bool.{◌&&◌}
use mathlib.Core.Logic.{⊎_elim}
use native.Mathlib.Omega.{arith}
use native.Mathlib.Nat.{mul-div_cancel, pow-succ'}
use lib.Dec.{eqb}
use lib.Pow.{pow_pos, pow-add}
use borrow.Author.Tests.{eq-eqb, eqb-true}
use Rattle.std.specs.Cmp.{both_ways}
use Rattle.std.specs.Cmp.Derive.{both_true}
use Rattle.std.proofs.lemmas.Bool.{and_parts}
use Rattle.root.proofs.Engine.{four-pow}
use Rattle.root.proofs.Operands.{four-pos}
use Rattle.root.proofs.Roots.{parity}

-- ---- two tests that say the same

pub eqb_same : (a b c d : ℕ) → (a ≡ b → c ≡ d) → (c ≡ d → a ≡ b) → eqb a b ≡ eqb c d
eqb_same a b c d there back = both_ways (eqb a b) (eqb c d) (λ e. eq-eqb c d (there (eqb-true a b e))) (λ e. eq-eqb a b (back (eqb-true c d e)))

-- ---- products

pub swap : (t p : ℕ) → t * p * (t * p) ≡ t * t * (p * p)
swap t p = omega arith

order : (w j p : ℕ) → w * j * p ≡ w * (j * p)
order w j p = omega arith

pub cancel : (a b h : ℕ) → 0 < h → a * h ≡ b * h → a ≡ b
cancel a b h l e = sym (mul-div_cancel a l) ∙ ap (λ (z : ℕ). z / h) e ∙ mul-div_cancel b l

-- ---- the number that ends in k zeros

even-root : (s n : ℕ) → s * s ≡ 4 * n → s ≡ 2 * (s / 2)
even-root s n e = ⊎_elim (λ (h : s % 2 ≡ 0). omega arith) (λ (h : s % 2 ≡ 1). absurd (odd (s / 2) n (half s h) e)) (parity s)
  where
    half : (s : ℕ) → s % 2 ≡ 1 → s ≡ 2 * (s / 2) + 1
    half s h = omega arith

    odd : (q n : ℕ) → s ≡ 2 * q + 1 → s * s ≡ 4 * n → ⊥
    odd q n h e = none q n (sym (ap (λ (z : ℕ). z * z) h) ∙ e)
      where
        none : (q n : ℕ) → (2 * q + 1) * (2 * q + 1) ≡ 4 * n → ⊥
        none q n e = omega arith

halved : (k s m : ℕ) → s * s ≡ m * 4 ^ suc k → (s ≡ 2 * (s / 2)) × (s / 2 * (s / 2) ≡ m * 4 ^ k)
halved k s m e =
    let d : s * s ≡ 4 * (m * 4 ^ k) = omega (arith, e, ap (λ (z : ℕ). m * z) (pow-succ' 4 k)) in
    let two : s ≡ 2 * (s / 2) = even-root s (m * 4 ^ k) d in
    (two, quarter (s / 2) (m * 4 ^ k) (sym (ap (λ (z : ℕ). z * z) two) ∙ d))
  where
    quarter : (q n : ℕ) → 2 * q * (2 * q) ≡ 4 * n → q * q ≡ n
    quarter q n e = omega arith

-- s is front with k zeros after it
pub record Ends (s k : ℕ) : Type 0 where
  pub front : ℕ
  pub is : s ≡ front * 2 ^ k

pub ends : (k s m : ℕ) → s * s ≡ m * 4 ^ k → Ends s k
ends zero s m e = record { front = s; is = omega arith }
ends (suc k) s m e = let h = halved k s m e in let d = ends k (s / 2) m h.1 in record { front = d.front; is = twice (s / 2) d.front h.0 d.is }
  where
    twice : (q f : ℕ) → s ≡ 2 * q → q ≡ f * 2 ^ k → s ≡ f * 2 ^ suc k
    twice q f a b = omega (arith, a, b, ap (λ (z : ℕ). f * z) (pow-succ' 2 k))

-- ---- the code's test

module _ (s w k j : ℕ) where
  abbrev t : ℕ
  t = s / 2 ^ k

  zeros : 2 ^ (j + (k + k)) ≡ 2 ^ j * (2 ^ k * 2 ^ k)
  zeros = pow-add 2 j (k + k) ∙ ap (λ (z : ℕ). 2 ^ j * z) (pow-add 2 k k)

  tested-square : t * 2 ^ k ≡ s → t * t ≡ w * 2 ^ j → s * s ≡ w * 2 ^ (j + (k + k))
  tested-square a b =
      sym (ap (λ (z : ℕ). z * z) a)
      ∙ swap t (2 ^ k)
      ∙ ap (λ (z : ℕ). z * (2 ^ k * 2 ^ k)) b
      ∙ order w (2 ^ j) (2 ^ k * 2 ^ k)
      ∙ ap (λ (z : ℕ). w * z) (sym zeros)

  square-tested : s * s ≡ w * 2 ^ (j + (k + k)) → (t * 2 ^ k ≡ s) × (t * t ≡ w * 2 ^ j)
  square-tested e =
      let four : w * 2 ^ (j + (k + k)) ≡ w * 2 ^ j * 4 ^ k = ap (λ (z : ℕ). w * z) zeros ∙ sym (order w (2 ^ j) (2 ^ k * 2 ^ k)) ∙ ap (λ (z : ℕ). w * 2 ^ j * z) (sym (four-pow k)) in
      let d = ends k s (w * 2 ^ j) (e ∙ four) in
      let is : t ≡ d.front = ap (λ (z : ℕ). z / 2 ^ k) d.is ∙ mul-div_cancel d.front (pow_pos k) in
      let back : t * 2 ^ k ≡ s = ap (λ (z : ℕ). z * 2 ^ k) is ∙ sym d.is in
      (back, cancel (t * t) (w * 2 ^ j) (4 ^ k) (four-pos k) (ap (λ (z : ℕ). t * t * z) (four-pow k) ∙ sym (swap t (2 ^ k)) ∙ ap (λ (z : ℕ). z * z) back ∙ e ∙ four))

  pub tested : (eqb (t * 2 ^ k) s && eqb (t * t) (w * 2 ^ j)) ≡ eqb (s * s) (w * 2 ^ (j + (k + k)))
  tested = both_ways _ _
      (λ e. let h = and_parts _ _ e in eq-eqb _ _ (tested-square (eqb-true _ _ h.0) (eqb-true _ _ h.1)))
      (λ e. let h = square-tested (eqb-true _ _ e) in both_true (eq-eqb _ _ h.0) (eq-eqb _ _ h.1))
