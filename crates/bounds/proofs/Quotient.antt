-- s = u / A by way of v = 1 / A, and p = s_h * t_h for a leading part s_h of s and a t_h near A: p is near u. Over numbers of units, with U units to 1.
use Prim.Native.Nat.{ℕ, ◌+◌, ◌*◌, ◌^◌, ◌≤◌, ◌<◌}
use native.Mathlib.Nat.{mul-le-mul_right, mul-le-mul_left, le_of_mul-le-mul_right}
use native.Mathlib.Omega.{arith}

-- x is y, but for 1 / 1024
pub record Like (x y : ℕ) : Type 0 where
  pub hi : 1024 * x ≤ 1025 * y
  pub lo : 1023 * y ≤ 1024 * x

-- a rounding, where the fraction n / c is not near the least number
pub like : (r n c : ℕ) → 2 ^ 11 * c ≤ n → 2 ^ 21 * (r * c) ≤ 2 ^ 21 * n + n + 2 ^ 20 * c → 2 ^ 21 * n ≤ 2 ^ 21 * (r * c) + n + 2 ^ 20 * c
    → Like (r * c) n
like r n c h a b = fin (r * c) a b
  where
    fin : (x : ℕ) → 2 ^ 21 * x ≤ 2 ^ 21 * n + n + 2 ^ 20 * c → 2 ^ 21 * n ≤ 2 ^ 21 * x + n + 2 ^ 20 * c → Like x n
    fin x a b = record { hi = omega (arith, h, a); lo = omega (arith, h, b) }

-- ---- v * A is like U * U and s * U is like u * v: s * A is like u * U, twice
module _ (u v s A U : ℕ) (P : 0 < U) (a : Like (v * A) (U * U)) (b : Like (s * U) (u * v)) where
  pub quotient-hi : 1024 * 1024 * (s * A) ≤ 1025 * 1025 * (u * U)
  quotient-hi = le_of_mul-le-mul_right (fin (mul-le-mul_right A b.hi) (mul-le-mul_left u a.hi)) P
    where
      fin : 1024 * (s * U) * A ≤ 1025 * (u * v) * A → u * (1024 * (v * A)) ≤ u * (1025 * (U * U))
          → 1024 * 1024 * (s * A) * U ≤ 1025 * 1025 * (u * U) * U
      fin x y = omega (arith, x, y)

  pub quotient-lo : 1023 * 1023 * (u * U) ≤ 1024 * 1024 * (s * A)
  quotient-lo = le_of_mul-le-mul_right (fin (mul-le-mul_right A b.lo) (mul-le-mul_left u a.lo)) P
    where
      fin : 1023 * (u * v) * A ≤ 1024 * (s * U) * A → u * (1023 * (U * U)) ≤ u * (1024 * (v * A))
          → 1023 * 1023 * (u * U) * U ≤ 1024 * 1024 * (s * A) * U
      fin x y = omega (arith, x, y)

-- ---- so p is like u, to 1/64 and 1/32
module _ (u s sh th p A U : ℕ) (P : 0 < U) where
  pub back-hi : sh ≤ s → 256 * th ≤ 257 * A → Like (p * U) (sh * th) → 1024 * 1024 * (s * A) ≤ 1025 * 1025 * (u * U) → 64 * p ≤ 65 * u
  back-hi a b c d = le_of_mul-le-mul_right (fin (mul-le-mul_right th a) (mul-le-mul_left s b) c.hi d) P
    where
      fin : sh * th ≤ s * th → s * (256 * th) ≤ s * (257 * A) → 1024 * (p * U) ≤ 1025 * (sh * th)
          → 1024 * 1024 * (s * A) ≤ 1025 * 1025 * (u * U) → 64 * p * U ≤ 65 * u * U
      fin x y z w = omega (arith, x, y, z, w)

  pub back-lo : 127 * s ≤ 128 * sh → 255 * A ≤ 256 * th → Like (p * U) (sh * th) → 1023 * 1023 * (u * U) ≤ 1024 * 1024 * (s * A) → 62 * u ≤ 64 * p
  back-lo a b c d = le_of_mul-le-mul_right (fin (mul-le-mul_right th a) (mul-le-mul_left s b) c.lo d) P
    where
      fin : 127 * s * th ≤ 128 * sh * th → s * (255 * A) ≤ s * (256 * th) → 1023 * (sh * th) ≤ 1024 * (p * U)
          → 1023 * 1023 * (u * U) ≤ 1024 * 1024 * (s * A) → 62 * u * U ≤ 64 * p * U
      fin x y z w = omega (arith, x, y, z, w)
