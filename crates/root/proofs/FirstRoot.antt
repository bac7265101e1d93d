-- From a reciprocal root to a first root of 30 digits: not too large, and too small by little. Assumes nothing.
use Prim.Native.Nat.{ℕ, ◌+◌, ◌-◌, ◌*◌, ◌^◌, ◌≤◌, ◌<◌}
use mathlib.Core.Path.{◌≡◌}
use native.Mathlib.Nat.{le_trans, le_of_eq, lt_of_le_of_lt, mul-le-mul, mul-le-mul_left, mul-le-mul_right, le_of_mul-le-mul_left}
use native.Mathlib.Omega.{arith}
use lib.Dec.{lit<}
use Rattle.recip.specs.Reciprocal.{Reciprocal, nearly}
use Rattle.root.proofs.Roots.{square-lt}

-- s is the first root that a reciprocal r of z gives: z * r / 2 ^ 32
pub record First (z r s : ℕ) : Type 0 where
  pub above : 2 ^ 30 ≤ z
  pub below : z < 2 ^ 32
  pub near : Reciprocal z (z + 1) r
  pub low : s * 2 ^ 32 ≤ z * r
  pub high : z * r < (s + 1) * 2 ^ 32

module _ (z r s : ℕ) (f : First z r s) where
  pub reciprocal-small : r < 2 ^ 31
  reciprocal-small = square-lt r (2 ^ 31) (omega (arith, f.near.most, mul-le-mul_left (r * r) f.above))

  -- the square of z * r is at most z * 2 ^ 92
  product-square : z * r * (z * r) ≤ z * 2 ^ 92
  product-square = omega (arith, mul-le-mul_left z f.near.most)

  pub product_small : z * r < 2 ^ 62
  product_small = square-lt (z * r) (2 ^ 62) (lt_of_le_of_lt product-square (omega (arith, f.below)))

  pub first-low : s * s ≤ z * 2 ^ 28
  first-low = omega (arith, mul-le-mul f.low f.low, product-square)

  -- what s lacks by its rounding and by r's 19 parts
  pub first-high : 8 * (z * 2 ^ 28) < 8 * ((s + 1) * (s + 1)) + 19 * z
  first-high = close z ((s + 1) * (s + 1)) (le_of_mul-le-mul_left {k = 2 ^ 28} scaled (lit< tt)) (omega (arith, f.above))
    where
      squares : z * r * (z * r) ≤ (s + 1) * 2 ^ 32 * ((s + 1) * 2 ^ 32)
      squares = let h : z * r ≤ (s + 1) * 2 ^ 32 = omega (arith, f.high) in mul-le-mul h h

      left : (z : ℕ) → 2 ^ 28 * (z * (nearly * nearly)) ≡ z * (nearly * nearly * 2 ^ 28)
      left z = omega arith

      middle : (z r : ℕ) → z * (r * r * z) ≡ z * r * (z * r)
      middle z r = omega arith

      right : (y : ℕ) → y * 2 ^ 32 * (y * 2 ^ 32) ≡ 2 ^ 28 * (y * y * 2 ^ 36)
      right y = omega arith

      scaled : 2 ^ 28 * (z * (nearly * nearly)) ≤ 2 ^ 28 * ((s + 1) * (s + 1) * 2 ^ 36)
      scaled = le_trans (le_of_eq (left z)) (le_trans (mul-le-mul_left z f.near.least) (le_trans (le_of_eq (middle z r)) (le_trans squares (le_of_eq (right (s + 1))))))

      close : (z y : ℕ) → z * (nearly * nearly) ≤ y * 2 ^ 36 → 0 < z → 8 * (z * 2 ^ 28) < 8 * y + 19 * z
      close z y h g = omega arith

  pub first_small : s < 2 ^ 30
  first_small = square-lt s (2 ^ 30) (omega (arith, first-low, f.below))

  pub first-large : 2 ^ 29 ≤ s + 4
  first-large = let h : 2 ^ 29 - 3 < s + 1 = square-lt (2 ^ 29 - 3) (s + 1) (omega (arith, first-high, f.above)) in omega arith

  -- closer, on either side of 2 ^ 31
  pub product-smaller : z < 2 ^ 31 → z * r < 3 * 2 ^ 60
  product-smaller few = square-lt (z * r) (3 * 2 ^ 60) (lt_of_le_of_lt product-square (omega (arith, few)))

  pub first-larger : 2 ^ 31 ≤ z → 759250120 ≤ s
  first-larger many = let h : 759250120 < s + 1 = square-lt 759250120 (s + 1) (omega (arith, first-high, many)) in omega arith

  pub first-product : s * r ≤ 2 ^ 60
  first-product = omega (arith, mul-le-mul_right r f.low, f.near.most)
