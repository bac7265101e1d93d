-- A difference a - k of two whole numbers of at most 2 ^ 20, as a float: exact. The logarithm's whole part.
use mathlib.Core.Path.{◌≡◌, refl, sym, ap, ◌∙◌, subst}
use Prim.Native.Nat.{ℕ, suc, ◌-◌, ◌*◌, ◌^◌, ◌≤◌, ◌<◌}
use native.Mathlib.Nat.{le_trans, le_of_eq, le_of_lt, lt_of_le_of_lt, lt_of_lt_of_le, zero-lt-suc, mul-le-mul_right, zero-mul, sub-le, sub-eq-zero_of_le}
use native.Mathlib.Omega.{arith}
use mathlib.Core.Bool.{Bool, true, false, not, cond}
use lib.Dec.{T, ltb, ltb→lt, nltb→le, lit<}
use lib.Pow.{pow_pos}
use lib.IntN.{pos, negsuc, sub_ℕ}
use lib.Ieee.{Float, Format, binary32, binary64, prec, low, round, of_int}
use lib.Ieee.Fits.{round-fits}
use lib.Ieee.Exact.{HasValue}
use lib.Ieee.Scale.{overflow}
use Rattle.bounds.proofs.Grid.{rq-exact}
use Rattle.bounds.proofs.Signed.{when, plus, minus, Num, R, round-value}
use Rattle.bounds.proofs.RoundedSums.{Res, res-of}
use Rattle.bounds.proofs.Within.{U, cap}

pub record Int (f : Format) (a k : ℕ) (t : Float) : Type 0 where
  pub num : Num f t
  pub up : plus f t ≡ (a - k) * U f
  pub lo : minus f t ≡ (k - a) * U f

-- n with the sign s
whole : (f : Format) (s : Bool) (n : ℕ) → n ≤ 2 ^ 20 → Res f (round f s n 1) (when (not s) (n * U f)) (when s (n * U f))
whole f s n h =
    let e : R f (n * U f) ≡ n * U f = rq-exact (prec f) n (low f) (lt_of_le_of_lt h (digits f)) in
    let l : R f (n * U f) < overflow f = lt_of_le_of_lt (le_of_eq e) (lt_of_lt_of_le (fin n (U f) h (pow_pos (low f))) (cap f)) in
    res-of f (round f s n 1) s (n * U f)
    (subst (λ (z : ℕ). HasValue (round f s n 1) s z (2 ^ low f)) e (round-value f s n 1 (n * U f) 1 (zero-lt-suc 0) (zero-lt-suc 0) refl l))
    (round-fits f s n 1)
  where
    digits : (f : Format) → 2 ^ 20 < 2 ^ prec f
    digits binary32 = lit< tt
    digits binary64 = lit< tt

    fin : (n u : ℕ) → n ≤ 2 ^ 20 → 0 < u → n * u < 2 ^ 72 * u
    fin n u a b = omega (arith, mul-le-mul_right u a, b)

pub int_is : (f : Format) (a k : ℕ) → a ≤ 2 ^ 20 → k ≤ 2 ^ 20 → Int f a k (of_int f (sub_ℕ a k))
unfolding of_int
int_is f a k la lk = go (ltb a k) (ltb→lt a k) (nltb→le a k)
  where
    next : a < k → suc (k - suc a) ≡ k - a
    next h = omega arith

    none : (x y : ℕ) → x ≤ y → 0 ≡ (x - y) * U f
    none x y h = sym (ap (λ (z : ℕ). z * U f) (sub-eq-zero_of_le h) ∙ zero-mul (U f))

    go : (b : Bool) → (T b → a < k) → (T (not b) → k ≤ a) → Int f a k (of_int f (cond b (negsuc (k - suc a)) (pos (a - k))))
    go true l m =
        let r = whole f true (suc (k - suc a)) (le_trans (le_of_eq (next (l tt))) (le_trans (sub-le k a) lk)) in
        record { num = r.num; up = r.up ∙ none a k (le_of_lt (l tt)); lo = r.lo ∙ ap (λ (y : ℕ). y * U f) (next (l tt)) }
    go false l m =
        let r = whole f false (a - k) (le_trans (sub-le a k) la) in
        record { num = r.num; up = r.up; lo = r.lo ∙ none k a (m tt) }
