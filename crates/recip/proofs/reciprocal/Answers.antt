-- `recip::reciprocal` meets its contract: the table's entry is tested, and the law is `found-reciprocal`. Assumes nothing.
use Prim.Native.Nat.{ℕ, zero, suc, ◌+◌, ◌-◌, ◌*◌, ◌/◌, ◌%◌, ◌^◌, ◌≤◌, ◌<◌}
use mathlib.Core.Path.{◌≡◌, refl, subst}
use native.Mathlib.Nat.{mul-le-mul}
use native.Mathlib.Omega.{arith}
use lib.Bits.{and_mask}
use lib.Dec.{T}
use Rattle.recip.specs.Reciprocal.{Reciprocal, good}
use Rattle.recip.proofs.Reciprocals.{found, found-small, found-whole, found-reciprocal}
use Rattle.recip.proofs.reciprocal.Goals as goal
use Rattle.recip.proofs.reciprocal.Goals.{After-curve_at-e}

-- the place in the table tells what is multiplied by what
place : (y j : ℕ) → 2 ^ 30 ≤ y → y < 2 ^ 31 → j < 512 → j % 256 ≡ y / 2 ^ 22 % 256
    → (2 - j / 256 ≡ 2 ^ (1 - j / 256)) × (256 + j % 256 ≡ y / 2 ^ 22)
place y j a b l is = (power (j / 256) (omega arith), omega arith)
  where
    power : (n : ℕ) → n ≤ 1 → 2 - n ≡ 2 ^ (1 - n)
    power zero h = refl
    power (suc zero) h = refl
    power (suc (suc n)) h = absurd (omega arith)

-- once the entry is read: its test has passed, and every number of the curve is small
module _ (c : After-curve_at-e) where
  abbrev y : ℕ
  y = c.args.y

  abbrev d : ℕ
  d = y % 2 ^ 22

  abbrev e : ℕ
  e = c.curve_at-e.result

  abbrev l : ℕ
  l = 2 ^ (1 - c.args.j / 256)

  inside : d < 2 ^ 22
  inside = omega arith

  entry : T (good l (y / 2 ^ 22) e)
  entry =
      let j = c.args.j in
      let p = c.requires in
      let is = place y j p.0 p.1 p.2 p.3 in
      subst (λ (n : ℕ). T (good l n e)) is.1 (subst (λ (n : ℕ). T (good n (256 + j % 256) e)) is.0 c.curve_at-e.ensures.test)

  square : d * d ≤ (2 ^ 22 - 1) * (2 ^ 22 - 1)
  square = let h : d ≤ (2 ^ 22 - 1) = omega arith in mul-le-mul h h

  bent : e % 2 ^ 11 * (d * d) ≤ (2 ^ 11 - 1) * ((2 ^ 22 - 1) * (2 ^ 22 - 1))
  bent = let h : e % 2 ^ 11 ≤ (2 ^ 11 - 1) = omega arith in mul-le-mul h square

-- each field, by its mask
pub overflow_mul-result-2 : goal.overflow_mul-result-2
overflow_mul-result-2 c =
    let k = (goal.at.overflow_mul-result-2 c).After-curve_at-e in
    rw (and_mask (y k) 22, and_mask (e k) 11) (record { fits = omega (arith, bent k) })

pub overflow_add-result : goal.overflow_add-result
overflow_add-result c =
    let k = (goal.at.overflow_add-result c).After-curve_at-e in
    rw (and_mask (y k) 22, and_mask (e k) 11) (record { fits = omega (arith, bent k, found-small (l k) (y k / 2 ^ 22) (e k) (d k) (inside k) (entry k)) })

pub overflow_sub-result : goal.overflow_sub-result
overflow_sub-result c =
    let k = (goal.at.overflow_sub-result c).After-curve_at-e in
    rw (and_mask (y k) 22, and_mask (e k) 11, and_mask (e k) 32) (found-whole (l k) (y k / 2 ^ 22) (e k) (d k) (inside k) (entry k))

pub returns : goal.returns
returns c =
    let k = (goal.at.returns c).After-curve_at-e in
    rw (and_mask (y k) 22, and_mask (e k) 11, and_mask (e k) 32)
    (subst (λ (n : ℕ). Reciprocal (l k * n) (l k * (n + 1)) (found (e k) (d k))) (parts (y k)) (found-reciprocal (l k) (y k / 2 ^ 22) (e k) (d k) (inside k) (entry k)))
  where
    parts : (y : ℕ) → y / 2 ^ 22 * 2 ^ 22 + y % 2 ^ 22 ≡ y
    parts y = omega arith
