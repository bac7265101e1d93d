-- The range test: what it says of a product p = hi + lo that neither overflows nor underflows, and that 2 to it is then no NaN.
use mathlib.Core.Path.{◌≡◌, refl, sym}
use mathlib.Core.Logic.{◌⊎◌, inl, inr}
use Prim.Native.Nat.{ℕ, suc, ◌+◌, ◌-◌, ◌*◌, ◌/◌, ◌^◌, ◌≤◌, ◌<◌}
use native.Mathlib.Nat.{le_trans, le_of_eq, le_of_lt, lt_of_le_of_lt, lt_of_lt_of_le, mul_comm, mul-le-mul_left, mod-eq-sub-mod, mod-le, not-le_of_lt}
use native.Mathlib.Omega.{arith}
use mathlib.Core.Bool.{Bool, true, false, not, ◌||◌, ◌&&◌, cond}
use lib.Dec.{T, leb, ltb, eqb, nltb→le, lit≤}
use lib.Pow.{pow_pos}
use lib.Ieee.{Float, Format, binary32, binary64, emax, low, hid, top, add, sub, lt, le, to_bits}
use Rattle.power.specs.Width.{Width, Two}
use Rattle.power.specs.Places.{OVT}
use Rattle.power.specs.Chain.{fate_of, con}
use Rattle.power.specs.NoNan.{Raisable}
use Rattle.bounds.proofs.Formats.{infinity}
use Rattle.bounds.proofs.Signed.{mag, plus, minus, R, parts, one-zero}
use Rattle.bounds.proofs.RoundedSums.{Res, add-res}
use Rattle.bounds.proofs.Within.{U, Within, unit-least}
use Rattle.bounds.proofs.SumBounds.{near}
use Rattle.chain.proofs.Known.{Known}
use Rattle.chain.proofs.Sizes.{hid-pos, ones-most}
use Rattle.chain.proofs.NearestWhole.{Rounded}
use Rattle.chain.proofs.Halves.{Limited, range-below}
use Rattle.chain.proofs.TwoTo.{whole_of, raising}
use Rattle.chain.proofs.Exp2.{exp2-raisable}
use Rattle.chain.proofs.Product.{Split}

-- ---- |hi| from |lo| and |z|, where z is their rounded sum: off by half a unit in the 21st digit at most
pub hi-most : (f : Format) (hi lo z : Float)
    → Res f z (R f ((plus f lo + plus f hi) - (minus f lo + minus f hi))) (R f ((minus f lo + minus f hi) - (plus f lo + plus f hi)))
    → 2 ^ 21 * mag f hi ≤ 2 ^ 21 * (mag f lo + mag f z) + (mag f hi + mag f lo) + 2 ^ 20
hi-most f hi lo z e =
    let a = plus f lo + plus f hi in
    let b = minus f lo + minus f hi in
    let n = near f a b in
    fin (plus f hi) (minus f hi) (plus f lo) (minus f lo) (mag f hi) (mag f lo) (plus f z) (minus f z) (mag f z) (parts f hi)
    (parts f lo) (parts f z) (one-zero f hi)
    (at (plus f z) (minus f z) (R f (a - b)) (R f (b - a)) a b e.up e.lo n.0)
    (at (minus f z) (plus f z) (R f (b - a)) (R f (a - b)) b a e.lo e.up (turn (R f (b - a)) (R f (a - b)) a b n.1))
  where
    at : (p m x y a b : ℕ) → p ≡ x → m ≡ y → 2 ^ 21 * (x + b) ≤ 2 ^ 21 * (y + a) + (a + b) + 2 ^ 20 → 2 ^ 21 * (p + b) ≤ 2 ^ 21 * (m + a) + (a + b) + 2 ^ 20
    at p m x y a b e g h = omega arith

    turn : (x y a b : ℕ) → 2 ^ 21 * (x + a) ≤ 2 ^ 21 * (y + b) + (a + b) + 2 ^ 20 → 2 ^ 21 * (x + a) ≤ 2 ^ 21 * (y + b) + (b + a) + 2 ^ 20
    turn x y a b h = omega arith

    fin : (ph mh pl ml hi lo pz mz z : ℕ) → hi ≡ ph + mh → lo ≡ pl + ml → z ≡ pz + mz → (ph ≡ 0) ⊎ (mh ≡ 0)
        → 2 ^ 21 * (pz + (ml + mh)) ≤ 2 ^ 21 * (mz + (pl + ph)) + ((pl + ph) + (ml + mh)) + 2 ^ 20
        → 2 ^ 21 * (mz + (pl + ph)) ≤ 2 ^ 21 * (pz + (ml + mh)) + ((ml + mh) + (pl + ph)) + 2 ^ 20
        → 2 ^ 21 * hi ≤ 2 ^ 21 * (lo + z) + (hi + lo) + 2 ^ 20
    fin ph mh pl ml hi lo pz mz z a b c (inl o) h k = omega arith
    fin ph mh pl ml hi lo pz mz z a b c (inr o) h k = omega arith

both-num : (hi lo z u k : ℕ) → 2 ^ 21 * hi ≤ 2 ^ 21 * (lo + z) + (hi + lo) + 2 ^ 20 → 2 ^ 6 * lo ≤ hi + k → k ≤ u → z ≤ 2 ^ 11 * u → 0 < u
    → (hi ≤ 2 ^ 12 * u) × (lo ≤ 2 ^ 6 * u)
both-num hi lo z u k a b c d e = (omega arith, omega arith)

sixth : (f : Format) (hi lo : ℕ) → 2 * suc (emax f) * lo ≤ hi + 2 ^ 77 → 2 ^ 6 * lo ≤ hi + 2 ^ 77
sixth binary32 hi lo h = omega arith
sixth binary64 hi lo h = omega arith

-- ---- what the tests say of a power that neither overflows nor underflows:
-- z is in range, and where it is positive it is `large` at most, and at `large` the rest does not exceed it
module _ (w : Width) (K : Known w) (p : Two) where
  abbrev f : Format
  f = w.format

  abbrev z : Float
  z = add w.format p.lo p.hi

  abbrev x : ℕ
  x = to_bits w.format (add w.format p.lo p.hi)

  -- the overflow test at the limit
  abbrev test : Bool
  test = eqb x w.large && lt (sub f z p.hi) (add f p.lo (con w OVT))

  pub record Inside : Type 0 where
    pub range : Limited w K z
    pub upper : x < top f → (x ≤ w.large) × (test ≡ false)

  inside-up : x ≤ w.large → test ≡ false → Inside
  inside-up h e = record {
    range = lt_of_le_of_lt (mod-le x (top f)) (lt_of_le_of_lt (le_trans h (le_of_eq K.large_is)) (next (emax f) K.e (hid f) (hid-pos f)));
    upper = λ l. (h, e);
  }
    where
      next : (m e h : ℕ) → 0 < h → (m + e) * h < (m + suc e) * h
      next m e h k = omega arith

  inside-down : top f ≤ x → x ≤ top f + w.small → Inside
  inside-down h k = record {
    range = lt_of_le_of_lt (le_trans (le_of_eq (mod-eq-sub-mod h)) (le_trans (mod-le (x - top f) (top f)) (less x (top f) w.small k))) K.small-most;
    upper = λ l. absurd (not-le_of_lt l h);
  }
    where
      less : (x c s : ℕ) → x ≤ c + s → x - c ≤ s
      less x c s h = omega arith

  -- what holds of the three answers, of the last one where z is in range, holds of the fate's
  pub fate-by : {R : Type 0} (P : R → Type 0) (a b c : R) → P a → P b → (Inside → P c) → P (fate_of w a b c p)
  unfolding fate_of
  fate-by {R} P a b c A B C =
      go (ltb x (top f)) (nltb→le x (top f)) (ltb w.large x) (nltb→le w.large x) test refl
      (ltb (top f + w.small) x) (nltb→le (top f + w.small) x) (eqb x (top f + w.small) && le p.lo (sub f z p.hi))
    where
      go : (t : Bool) → (T (not t) → top f ≤ x) → (u : Bool) → (T (not u) → x ≤ w.large) → (u' : Bool) → u' ≡ test → (v : Bool)
          → (T (not v) → x ≤ top f + w.small) → (v' : Bool) → P (cond t (cond (u || u') a c) (cond (v || v') b c))
      go true q true r u' e v s v' = A
      go true q false r true e v s v' = A
      go true q false r false e v s v' = C (inside-up (r tt) (sym e))
      go false q u r u' e true s v' = B
      go false q u r u' e false s true = B
      go false q u r u' e false s false = C (inside-down (q tt) (s tt))

  -- ---- in range both parts of a product are bounded
  module _ (S : Split f p.hi p.lo) (I : Inside) where
    both : (mag f p.hi ≤ 2 ^ 12 * U f) × (mag f p.lo ≤ 2 ^ 6 * U f)
    both =
        let e = add-res f p.lo p.hi S.lo-num S.hi-num S.sum in
        let z-most : mag f z ≤ 2 ^ 11 * U f = le_of_lt
        (lt_of_lt_of_le (range-below w K z e.num I.range) (le_trans (mul-le-mul_left (U f) (ones-most f)) (le_of_eq (mul_comm (U f) (2 ^ 11))))) in
        both-num (mag f p.hi) (mag f p.lo) (mag f z) (U f) (2 ^ 77) (hi-most f p.hi p.lo z e)
        (sixth f (mag f p.hi) (mag f p.lo) S.small) (le_trans (lit≤ tt) (unit-least f)) z-most (pow_pos (low f))

    hi-in : Within f (U f) (2 ^ 42) p.hi
    hi-in = record { num = S.hi-num; le = fin (mag f p.hi) (U f) both.0 }
      where
        fin : (a u : ℕ) → a ≤ 2 ^ 12 * u → 2 ^ 30 * a ≤ 2 ^ 42 * u
        fin a u h = omega arith

    lo-in : Within f (U f) (2 ^ 36) p.lo
    lo-in = record { num = S.lo-num; le = fin (mag f p.lo) (U f) both.1 }
      where
        fin : (a u : ℕ) → a ≤ 2 ^ 6 * u → 2 ^ 30 * a ≤ 2 ^ 36 * u
        fin a u h = omega arith

    -- so its exponential and 2 to it are no NaNs, if past emax the raised word is infinity's at most
    pub within-raisable : (leb (top f / 2 ^ w.below) (x / 2 ^ w.below) ≡ false → emax f < (whole_of w p).size → Rounded f z (whole_of w p)
        → Within f (U f) (2 ^ 42) p.hi → Within f (U f) (2 ^ 36) p.lo → to_bits f (raising w p) + (whole_of w p).size * hid f ≤ infinity f)
        → Raisable w p
    within-raisable k = exp2-raisable w K p hi-in lo-in I.range (λ a b c. k a b c hi-in lo-in)
