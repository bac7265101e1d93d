-- Products and quotients of bounded floats: one operand against S, the other against 1. The bound is that of the exact fraction, and a rounding's more.
use mathlib.Core.Path.{sym, subst}
use Prim.Native.Nat.{ℕ, ◌+◌, ◌*◌, ◌/◌, ◌^◌, ◌≤◌, ◌<◌}
use native.Mathlib.Nat.{mul-pos, mul-le-mul, mul-le-mul_right, le_of_mul-le-mul_right, lt-mul-div-succ, le_of_lt}
use native.Mathlib.Omega.{arith}
use lib.Dec.{T, leb, leb→le}
use lib.Pow.{pow_pos}
use lib.Ieee.{Float, Format, prec, low, unlike, mul, div}
use lib.Ieee.Scale.{overflow}
use Rattle.bounds.proofs.Grid.{rq, error}
use Rattle.bounds.proofs.Signed.{sign, mag, Num}
use Rattle.bounds.proofs.RoundedProducts.{Siz, mul-siz, div-siz, mul-swap}
use Rattle.bounds.proofs.Errors.{digits}
use Rattle.bounds.proofs.Within.{U, Scale, Within, bump, times, times-most, over, cap, least50}

-- ---- a rounded fraction n / e, where 2 ^ 30 * n ≤ k * S * e
by_fraction : (f : Format) (S k n e : ℕ) → Scale f S → 0 < e → 2 ^ 30 * n ≤ k * S * e → 2 ^ 30 * rq (prec f) n e ≤ bump k * S
by_fraction f S k n e s E h =
    le_of_mul-le-mul_right
    (fin (rq (prec f) n e) (k / 2 ^ 20) (mul-le-mul_right e (mul-le-mul_right S (quot k))) (mul-le-mul_right e (least50 s))
    (error (prec f) n e (digits f) E).0) E
  where
    quot : (n : ℕ) → n ≤ 2 ^ 20 * (n / 2 ^ 20) + 2 ^ 20
    quot n = omega arith

    fin : (r q : ℕ) → k * S * e ≤ (2 ^ 20 * q + 2 ^ 20) * S * e → 2 ^ 50 * e ≤ S * e → 2 ^ 21 * (r * e) ≤ 2 ^ 21 * n + n + 2 ^ 20 * e
        → 2 ^ 30 * r * e ≤ (k + q + 1) * S * e
    fin r q a b g = omega (arith, a, b, g, h)

-- and it does not overflow
below-cap : (f : Format) (S k r : ℕ) → Scale f S → k ≤ 2 ^ 60 → 2 ^ 30 * r ≤ bump k * S → r < overflow f
below-cap f S k r s l h =
    last (U f) (overflow f) (under (bump k * S) h (mul-le-mul_right S (small k l))) s.most (pow_pos (low f)) (cap f)
  where
    small : (k : ℕ) → k ≤ 2 ^ 60 → bump k ≤ 2 ^ 61
    small k l = omega arith

    under : (z : ℕ) → 2 ^ 30 * r ≤ z → z ≤ 2 ^ 61 * S → r ≤ 2 ^ 31 * S
    under z a b = omega (arith, a, b)

    last : (u o : ℕ) → r ≤ 2 ^ 31 * S → S ≤ 2 ^ 40 * u → 0 < u → 2 ^ 72 * u ≤ o → r < o
    last u o a b c d = omega (arith, a, b, c, d)

-- ---- products, by a factor bounded against 1
module _ {f : Format} {S : ℕ} (s : Scale f S) {c d : ℕ} {x y : Float} (h : Within f S c x) (k : Within f (U f) d y)
    (l : T (leb (times c d) (2 ^ 60))) where
  product-most : 2 ^ 30 * (mag f x * mag f y) ≤ times c d * S * U f
  product-most = fin (mag f x) (mag f y) (times c d) (U f) (times-most c d) h.le k.le
    where
      fin : (m n t u : ℕ) → c * d ≤ 2 ^ 30 * t → 2 ^ 30 * m ≤ c * S → 2 ^ 30 * n ≤ d * u → 2 ^ 30 * (m * n) ≤ t * S * u
      fin m n t u l a b = omega (arith, mul-le-mul a b, mul-le-mul_right u (mul-le-mul_right S l))

  mul-bound : 2 ^ 30 * rq (prec f) (mag f x * mag f y) (U f) ≤ bump (times c d) * S
  mul-bound = by_fraction f S (times c d) (mag f x * mag f y) (U f) s (pow_pos (low f)) product-most

  pub z-mul : Siz f (mul f x y) (unlike (sign x) (sign y)) (rq (prec f) (mag f x * mag f y) (U f))
  z-mul = mul-siz f x y h.num k.num
      (below-cap f S (times c d) (rq (prec f) (mag f x * mag f y) (U f)) s (leb→le (times c d) (2 ^ 60) l) mul-bound)

  pub w-mul : Within f S (bump (times c d)) (mul f x y)
  w-mul = record { num = z-mul.num; le = subst (λ (z : ℕ). 2 ^ 30 * z ≤ bump (times c d) * S) (sym z-mul.mag) mul-bound }

-- the same with the factors in the other order
pub w-mul' : {f : Format} {S : ℕ} (s : Scale f S) {c d : ℕ} {x y : Float} → Within f (U f) d x → Within f S c y
    → T (leb (times c d) (2 ^ 60)) → Within f S (bump (times c d)) (mul f x y)
w-mul' {f} {S} s {c} {d} {x} {y} k h l = subst (λ (v : Float). Within f S (bump (times c d)) v) (mul-swap f y x) (w-mul s h k l)

-- ---- quotients, by a divisor of at least d / 2 ^ 30
module _ {f : Format} {S : ℕ} (s : Scale f S) {c d : ℕ} {x y : Float} (h : Within f S c x) (k : Num f y) (D : 0 < d)
    (b : d * U f ≤ 2 ^ 30 * mag f y) (l : T (leb (over c d) (2 ^ 60))) where
  divisor-pos : 0 < mag f y
  divisor-pos = fin (mag f y) (d * U f) b (mul-pos D (pow_pos (low f)))
    where
      fin : (m z : ℕ) → z ≤ 2 ^ 30 * m → 0 < z → 0 < m
      fin m z a b = omega arith

  quotient-most : 2 ^ 30 * (mag f x * U f) ≤ over c d * S * mag f y
  quotient-most = le_of_mul-le-mul_right (fin (mag f x) (mag f y) (over c d) (U f) (le_of_lt (lt-mul-div-succ (c * 2 ^ 30) D)) h.le b) D
    where
      fin : (m n t u : ℕ) → c * 2 ^ 30 ≤ d * t → 2 ^ 30 * m ≤ c * S → d * u ≤ 2 ^ 30 * n → 2 ^ 30 * (m * u) * d ≤ t * S * n * d
      fin m n t u l a b = omega (arith, mul-le-mul a b, mul-le-mul_right n (mul-le-mul_right S l))

  div-bound : 2 ^ 30 * rq (prec f) (mag f x * U f) (mag f y) ≤ bump (over c d) * S
  div-bound = by_fraction f S (over c d) (mag f x * U f) (mag f y) s divisor-pos quotient-most

  pub z-div : Siz f (div f x y) (unlike (sign x) (sign y)) (rq (prec f) (mag f x * U f) (mag f y))
  z-div = div-siz f x y h.num k divisor-pos
      (below-cap f S (over c d) (rq (prec f) (mag f x * U f) (mag f y)) s (leb→le (over c d) (2 ^ 60) l) div-bound)

  pub w-div : Within f S (bump (over c d)) (div f x y)
  w-div = record { num = z-div.num; le = subst (λ (z : ℕ). 2 ^ 30 * z ≤ bump (over c d) * S) (sym z-div.mag) div-bound }
