-- The last digit below 1, 2 ^ -prec, as E units: a difference within c / 2 ^ 30 of 1 is off by as much of E at most, and 1 + E is rounded to 1.
use mathlib.Core.Path.{◌≡◌, refl, ap}
use Prim.Native.Nat.{ℕ, ◌+◌, ◌-◌, ◌*◌, ◌^◌, ◌≤◌}
use native.Mathlib.Nat.{le_trans, mul-le-mul_left, mul-pos, zero-lt-suc}
use native.Mathlib.Omega.{arith}
use lib.Dec.{T, leb, lit≤}
use lib.Pow.{pow_pos}
use lib.Ieee.{Float, Format, binary32, binary64, prec, low, size, sub}
use Rattle.bounds.proofs.Signed.{plus, minus, R}
use Rattle.bounds.proofs.Errors.{dist, dist-in, by_all}
use Rattle.bounds.proofs.Within.{U, Within, Off, unit-scale}
use Rattle.bounds.proofs.SumBounds.{off-by, r-sub}

abbrev pub E : Format → ℕ
E f = 2 ^ (low f - prec f)

unit-E : (f : Format) → U f ≡ 2 * 2 ^ (prec f - 1) * E f
unit-E binary32 = refl
unit-E binary64 = refl

pub big-E : (f : Format) → 2 ^ 120 ≤ E f
big-E binary32 = lit≤ tt
big-E binary64 = lit≤ tt

pub E-U : (f : Format) → 2 ^ 24 * E f ≤ U f
E-U binary32 = lit≤ tt
E-U binary64 = lit≤ tt

-- E is a float, and 1 + E is a tie that goes to 1
pub round-E : (f : Format) → R f (E f) ≡ E f
unfolding size
round-E binary32 = refl
round-E binary64 = refl

pub round-U : (f : Format) → R f (U f + E f) ≡ U f
unfolding size
round-U binary32 = refl
round-U binary64 = refl

-- x - y, where y is within k / 2 ^ 30 of x
pub o-sub-sharp : {f : Format} {c d : ℕ} {x y : Float} (k : ℕ) → Within f (U f) c x → Within f (U f) d y → T (leb (c + d) (2 ^ 60))
    → Off f (U f) k y (plus f x) (minus f x) → Off f (E f) (k + 1) (sub f x y) (plus f x + minus f y) (minus f x + plus f y)
o-sub-sharp {f} {c} {d} {x} {y} k h i l o =
    let A = plus f x + minus f y in
    let B = minus f x + plus f y in
    let D : 2 ^ 30 * dist A B ≤ k * U f = dist-in A B (k * U f) (omega (arith, o.lo)) (omega (arith, o.hi)) in
    let P = 2 ^ (prec f - 1) in
    off-by f (E f) (2 * P) P (k + 1) (sub f x y) A B (by_all f) (mul-pos (zero-lt-suc 1) (pow_pos (prec f - 1)))
    (fin P (E f) (U f) (dist A B) (unit-E f) D (le_trans (lit≤ tt) (big-E f))) (r-sub (unit-scale f) h i l)
  where
    fin : (P e u D : ℕ) → u ≡ 2 * P * e → 2 ^ 30 * D ≤ k * u → 2 ^ 30 ≤ e → 2 ^ 30 * D + 2 ^ 30 * P ≤ 2 * P * ((k + 1) * e)
    fin P e u D i h g = omega (arith, h, ap (λ (z : ℕ). k * z) i, mul-le-mul_left P g)
