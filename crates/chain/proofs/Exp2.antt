-- 2 to the power of a number in two parts whose sum z is in range: no NaN.
-- Above a half the nearest whole number is taken off first and the exponential of the rest is raised by it; up to a half the exponential itself is the result.
use mathlib.Core.Path.{◌≡◌, sym, subst}
use Prim.Native.Nat.{ℕ, suc, ◌+◌, ◌-◌, ◌*◌, ◌/◌, ◌%◌, ◌^◌, ◌≤◌, ◌<◌, zero-le}
use native.Mathlib.Nat.{le_trans, le_of_eq, lt_of_le_of_lt, le_of_suc-le-suc, mul-le-mul_right, lt_of_mul-lt-mul_right, add-zero}
use native.Mathlib.Omega.{arith}
use mathlib.Core.Bool.{Bool, true, false, not, cond}
use lib.Dec.{T, leb, ltb, ltb→lt, nltb→le}
use lib.Pow.{pow_pos}
use lib.Ieee.{Float, Format, emax, low, hid, ones, top, add, sub, to_bits}
use Rattle.power.specs.Width.{Width, Two}
use Rattle.power.specs.Chain.{raised_of, whole, exponential_of, parts_of, exp2_of}
use Rattle.power.specs.NoNan.{Number, Raisable, fraction_of}
use Rattle.bounds.proofs.Formats.{one, infinity}
use Rattle.bounds.proofs.Signed.{mag, Num}
use Rattle.bounds.proofs.Within.{U, Within, unit-scale, weaken}
use Rattle.bounds.proofs.SumBounds.{w-add}
use Rattle.bounds.proofs.Choice.{choose}
use Rattle.chain.proofs.Known.{Known}
use Rattle.chain.proofs.NoNan.{finite_number}
use Rattle.chain.proofs.Sizes.{ones-most}
use Rattle.chain.proofs.Raise.{raised-number, under_top}
use Rattle.chain.proofs.NearestWhole.{Rounded}
use Rattle.chain.proofs.Halves.{Limited, range-below, nearest-is, half-about}
use Rattle.chain.proofs.TwoTo.{whole_of, raising, exp-between, hi-alone, reduced}

module _ (w : Width) (K : Known w) where
  abbrev f : Format
  f = w.format

  abbrev B : ℕ
  B = 2 ^ w.below

  abbrev o : ℕ
  o = suc (ones w.format)

  abbrev t : ℕ
  t = top w.format / 2 ^ w.below

  module _ (p : Two) (H : Within f (U f) (2 ^ 42) p.hi) (L : Within f (U f) (2 ^ 36) p.lo) (range : Limited w K (add f p.lo p.hi)) where
    -- z, its high word, and that without the sign
    abbrev z : Float
    z = add w.format p.lo p.hi

    abbrev j : ℕ
    j = to_bits w.format (add w.format p.lo p.hi) / 2 ^ w.below

    abbrev m : ℕ
    m = j % t

    zn : Num f z
    zn = (w-add (unit-scale f) L H tt).num

    -- ---- above a half: the whole number
    size-most : (N : ℕ) → 2 * (N * U f) ≤ 2 * mag f z + U f → N ≤ o
    size-most N h = le_of_suc-le-suc (lt_of_mul-lt-mul_right (U f) (fin (N * U f) (mag f z) (U f) o h (range-below w K z zn range) (pow_pos (low f))))
      where
        fin : (a m u s : ℕ) → 2 * a ≤ 2 * m + u → m < u * s → 0 < u → a < suc s * u
        fin a m u s h k l = omega arith

    whole_in : Rounded f z (whole_of w p) → Within f (U f) (2 ^ 41) (whole_of w p).float
    whole_in R = record {
      num = R.num;
      le = subst (λ (y : ℕ). 2 ^ 30 * y ≤ 2 ^ 41 * U f) (sym R.siz) (fin (whole_of w p).size o (U f) (size-most (whole_of w p).size R.hi) (ones-most f));
    }
      where
        fin : (n o u : ℕ) → n ≤ o → o ≤ 2 ^ 11 → 2 ^ 30 * (n * u) ≤ 2 ^ 41 * u
        fin n o u a b = omega (arith, mul-le-mul_right u (le_trans a b))

    -- ---- the exponential and 2 to p are no NaNs, if past emax the raised word is infinity's at most
    pub exp2-raisable : (leb t j ≡ false → emax f < (whole_of w p).size → Rounded f z (whole_of w p)
        → to_bits f (raising w p) + (whole_of w p).size * hid f ≤ infinity f)
        → Raisable w p
    unfolding exp2_of fraction_of
    exp2-raisable most =
        let r = go (ltb ((one f - hid f) / B) m) (ltb→lt ((one f - hid f) / B) m) (nltb→le ((one f - hid f) / B) m) in
        record { exponential = r.0; answer = r.1 }
      where
        n : ℕ
        n = (whole_of w p).size

        e0 : Float
        e0 = exponential_of w (parts_of w p)

        go : (c : Bool) → (T c → (one f - hid f) / B < m) → (T (not c) → m ≤ (one f - hid f) / B)
            → Number (exponential_of w (parts_of w (cond c (record { hi = sub f p.hi (whole_of w p).float; lo = p.lo }) p)))
            × Number (cond c (raised_of w (raising w p) (cond (leb t j) (whole w - n) (whole w + n))) (raised_of w e0 (whole w)))
        go true a b =
            let R = nearest-is w K z zn range (lt_of_le_of_lt (le_of_eq (sym K.half_high)) (a tt)) in
            let bt = reduced w K H L (whole_in R) R.sgn (subst (λ (y : ℕ). 2 * mag f z ≤ 2 * y + U f) (sym R.siz) R.lo)
            (subst (λ (y : ℕ). 2 * y ≤ 2 * mag f z + U f) (sym R.siz) R.hi) in (
              finite_number (raising w p) bt.num.finite,
              raised-number w K (raising w p) bt n (size-most n R.hi) (leb t j)
                  (λ e. choose (ltb (emax f) n) (λ c. most e (ltb→lt (emax f) n c) R) (λ c. under_top f (raising w p) bt n (nltb→le (emax f) n c))),
            )
        go false a b =
            let S = half-about w K z zn range (le_trans (b tt) (le_of_eq K.half_high)) in
            let bt = exp-between w K p (hi-alone w K H L S) (weaken (2 ^ 41) L tt) S in (
              finite_number e0 bt.num.finite,
              subst (λ (y : ℕ). Number (raised_of w e0 y)) (add-zero (whole w))
                  (raised-number w K e0 bt 0 zero-le false (λ (e : false ≡ false). under_top f e0 bt 0 zero-le)),
            )
