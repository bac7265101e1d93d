-- How many binary digits a number has, and powers of two as 64 bits hold them. Assumes nothing.
use mathlib.Core.Path.{◌≡◌, ap, ◌∙◌, subst}
use Prim.Native.Nat.{ℕ, suc, ◌+◌, ◌-◌, ◌*◌, ◌%◌, ◌^◌, ◌≤◌, ◌<◌}
use native.Mathlib.Nat.{le_trans, le_antisymm, lt_of_lt_of_le, lt_of_not-le, not-le_of_lt, one-mul, mul_comm, mul-le-mul, mod-eq_of_lt, pow-succ'}
use native.Mathlib.Omega.{arith}
use lib.Dec.{lit≤}
use lib.Pow.{pow_mono, pow-lt}
use lib.Ieee.{size}
use lib.Ieee.Digits.{size-lt, size-le}
use Rattle.words.specs.Format.{format, top}
use Rattle.words.specs.Rounding.{Held}

pub size-gt : (n j : ℕ) → 2 ^ j ≤ n → j < size n
size-gt n j h = lt_of_not-le (λ (g : size n ≤ j). not-le_of_lt (lt_of_lt_of_le (size-lt n) (pow_mono g)) h)

pub size_exact : (a n : ℕ) → 2 ^ a ≤ n → n < 2 ^ suc a → size n ≡ suc a
size_exact a n lo hi = le_antisymm (size-le n (suc a) hi) (size-gt n a lo)

pub twice_hid : (p : ℕ) → 0 < p → 2 ^ p ≡ 2 * 2 ^ (p - 1)
twice_hid p h = ap (λ (x : ℕ). 2 ^ x) (back p h) ∙ pow-succ' 2 (p - 1)
  where
    back : (p : ℕ) → 0 < p → p ≡ suc (p - 1)
    back p h = omega arith

pub one_shl : (s : ℕ) → s < 64 → 1 * 2 ^ s % 18446744073709551616 ≡ 2 ^ s
one_shl s h = ap (λ (z : ℕ). z % 18446744073709551616) (one-mul (2 ^ s)) ∙ mod-eq_of_lt (pow-lt h)

-- a number up to 2 ^ 11 times 2 ^ (p - 1) is at most 2 ^ 63
pub room : (t p : ℕ) → t ≤ 2 ^ 11 → p ≤ 53 → t * 2 ^ (p - 1) ≤ 2 ^ 63
room t p T P = le_trans (mul-le-mul T (pow_mono (fit p P))) (lit≤ tt)
  where
    fit : (p : ℕ) → p ≤ 53 → p - 1 ≤ 52
    fit p h = omega arith

-- a field in its place
pub placed : (p t : ℕ) → p ≤ 53 → t ≤ 2 ^ 11 → t * 2 ^ (p - 1) % 2 ^ 64 ≡ t * 2 ^ (p - 1)
placed p t hp ht = mod-eq_of_lt (below (t * 2 ^ (p - 1)) (room t p ht hp))
  where
    below : (n : ℕ) → n ≤ 2 ^ 63 → n < 2 ^ 64
    below n h = omega arith

-- a held format's words have room in 64 bits
pub top_small : (p e : ℕ) → Held p e → top (format p e) ≤ 2 ^ 63
top_small p e h = subst (λ (n : ℕ). n ≤ 2 ^ 63) (mul_comm (suc (2 * e + 1)) (2 ^ (p - 1))) (room (suc (2 * e + 1)) p (omega (arith, h.high)) h.small)
