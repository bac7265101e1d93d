-- What a float comparison x < y that fails says of the two numbers of units: y is at most x.
use mathlib.Core.Path.{◌≡◌, sym, ap, ◌∙◌, subst}
use Prim.Native.Nat.{ℕ, ◌+◌, ◌*◌, ◌^◌, ◌≤◌, ◌<◌, zero-le}
use native.Mathlib.Nat.{le_trans, le-add_left, le-add_right, mul_comm, mul-pos, zero-mul}
use native.Mathlib.Omega.{arith}
use mathlib.Core.Bool.{Bool, true, false, not}
use lib.Dec.{T, ltb, nltb→le}
use lib.Ieee.{Float, nan, inf, fin, Format, low, up, down, below, lt}
use lib.Ieee.Fits.{down_pos}
use Rattle.bounds.proofs.Signed.{mag, when, plus, minus, Num, value}
use Rattle.bounds.proofs.RoundedSums.{cross, cross-le}

pub not-below : (f : Format) (x y : Float) → Num f x → Num f y → lt x y ≡ false → plus f y + minus f x ≤ plus f x + minus f y
unfolding lt plus minus
not-below f nan y h k e = absurd h.finite
not-below f (inf s) y h k e = absurd h.finite
not-below f (fin s m i) nan h k e = absurd k.finite
not-below f (fin s m i) (inf t) h k e = absurd k.finite
not-below f (fin s m i) (fin t n j) h k e = by s t e
  where
    a : ℕ
    a = mag f (fin s m i)

    b : ℕ
    b = mag f (fin t n j)

    A : ℕ
    A = m * up i * down j

    B : ℕ
    B = n * up j * down i

    X : A * 2 ^ low f ≡ a * (down i * down j)
    X = cross (m * up i) (down j) (2 ^ low f) a (down i) (value f (fin s m i) h).1

    Y : B * 2 ^ low f ≡ b * (down i * down j)
    Y = cross (n * up j) (down i) (2 ^ low f) b (down j) (value f (fin t n j) k).1 ∙ ap (λ (z : ℕ). b * z) (mul_comm (down j) (down i))

    P : 0 < down i * down j
    P = mul-pos (down_pos i) (down_pos j)

    -- the units compare as the numbers over the common denominator do
    less : {M N m n : ℕ} → M * 2 ^ low f ≡ m * (down i * down j) → N * 2 ^ low f ≡ n * (down i * down j) → M ≤ N → m ≤ n
    less e g l = cross-le (2 ^ low f) (down i * down j) P e g l

    untrue : (b : Bool) → b ≡ false → T (not b)
    untrue true e = subst T e tt
    untrue false e = tt

    none : 0 * 2 ^ low f ≡ 0 * (down i * down j)
    none = zero-mul (2 ^ low f) ∙ sym (zero-mul (down i * down j))

    by : (s t : Bool) → below s A t B ≡ false → when (not t) b + when s a ≤ when (not s) a + when t b
    by false false e = sides (less Y X (nltb→le A B (untrue (ltb A B) e)))
      where
        sides : b ≤ a → b + 0 ≤ a + 0
        sides h = omega (arith, h)
    by false true e = zero-le
    by true false e = let l : A + B ≤ 0 = nltb→le 0 (A + B) (untrue (ltb 0 (A + B)) e) in
        both (less X none (le_trans (le-add_right A B) l)) (less Y none (le_trans (le-add_left B A) l))
      where
        both : a ≤ 0 → b ≤ 0 → b + a ≤ 0 + 0
        both h k = omega (arith, h, k)
    by true true e = sides (less X Y (nltb→le B A (untrue (ltb B A) e)))
      where
        sides : a ≤ b → 0 + a ≤ 0 + b
        sides h = omega (arith, h)
