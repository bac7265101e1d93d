-- The step at n = emax + 1: what is left of p there is 0 at most, so its exponential is 1 at most, and the raised word is infinity's at most.
-- By the range test z is below emax + 1, or it is emax + 1 and the rest that z lost is not above it.
use mathlib.Core.Path.{◌≡◌, sym, ap, ◌∙◌, subst}
use mathlib.Core.Logic.{◌⊎◌, inl, inr, ⊎_elim}
use Prim.Native.Nat.{ℕ, suc, ◌+◌, ◌-◌, ◌*◌, ◌/◌, ◌%◌, ◌^◌, ◌≤◌, ◌<◌}
use native.Mathlib.Nat.{le_trans, le_of_eq, le_of_lt, lt_of_le_of_lt, lt_of_lt_of_le, lt_irrefl, mul_comm, mul-le-mul_right, le_of_mul-le-mul_right}
use native.Mathlib.Nat.{mul-div_cancel, mul-mod_left, mod-lt, div-add-mod', lt_of_not-le, add-zero, not-le_of_lt}
use native.Mathlib.Omega.{arith}
use mathlib.Core.Bool.{Bool, true, false, not, ◌&&◌}
use lib.Dec.{T, leb, eqb, leb→le, not_T, nleb→lt, eqb→eq, lit≤}
use lib.Pow.{pow_pos}
use lib.Ieee.{Float, Format, emax, low, hid, top, add, sub, lt, to_bits}
use lib.Ieee.Fits.{eq→eqb}
use lib.Ieee.Bits.{is_false}
use Rattle.words.specs.Format.{units_at}
use Rattle.power.specs.Width.{Width, Two}
use Rattle.power.specs.Places.{OVT}
use Rattle.power.specs.Chain.{exponential_of, parts_of, chop, con}
use Rattle.bounds.proofs.Formats.{infinity}
use Rattle.bounds.proofs.Signed.{sign, mag, plus, minus, Num, R, round_mono, parts, one-zero, pos-parts}
use Rattle.bounds.proofs.Within.{U, Within, unit-scale, unit-least}
use Rattle.bounds.proofs.SumBounds.{w-add, o-add, r-add, r-sub}
use Rattle.bounds.proofs.Words.{word_of, mag-exact}
use Rattle.bounds.proofs.Compared.{not-below}
use Rattle.bounds.proofs.Exp.{Between}
use Rattle.bounds.proofs.Limit.{limit}
use Rattle.bounds.proofs.Choice.{strict}
use Rattle.chain.proofs.Known.{Known}
use Rattle.chain.proofs.Sizes.{hid-pos, emax-least, emax-range, units-at, size_below, positive-word, word-one}
use Rattle.chain.proofs.NearestWhole.{Rounded}
use Rattle.chain.proofs.TwoTo.{rest_in, rest_sum, reduced, raising, whole_of}
use Rattle.chain.proofs.Product.{Split}
use Rattle.chain.proofs.InRange.{Inside, hi-most}
use Rattle.chain.proofs.TopNumbers.{lo-bound, rest-bound, below-limit, at-limit}

module _ (w : Width) (K : Known w) (p : Two) (S : Split w.format p.hi p.lo) (I : Inside w K p)
    (pos : leb (top w.format / 2 ^ w.below) (to_bits w.format (add w.format p.lo p.hi) / 2 ^ w.below) ≡ false)
    (big : emax w.format < (whole_of w p).size)
    (N : Rounded w.format (add w.format p.lo p.hi) (whole_of w p))
    (H : Within w.format (U w.format) (2 ^ 42) p.hi) (L : Within w.format (U w.format) (2 ^ 36) p.lo) where
  abbrev f : Format
  f = w.format

  abbrev hi : Float
  hi = p.hi

  abbrev lo : Float
  lo = p.lo

  abbrev z : Float
  z = add w.format p.lo p.hi

  abbrev x : ℕ
  x = to_bits w.format (add w.format p.lo p.hi)

  abbrev n : Float
  n = (whole_of w p).float

  -- what the rounded sum lost at the limit, and what the test compares it with
  abbrev lost : Float
  lost = sub w.format (add w.format p.lo p.hi) p.hi

  abbrev ovt : Float
  ovt = add w.format p.lo (con w OVT)

  -- emax + 1, in units
  M : ℕ
  M = suc (emax f) * U f

  -- ---- z is positive, and by the tests below M, or M with the rest not above it
  zn : Num f z
  zn = (w-add (unit-scale f) L H tt).num

  x-top : x < top f
  x-top =
      let B = 2 ^ w.below in
      fin x (x / B) (x % B) B (top f / B) (top f) (div-add-mod' x B) (mod-lt x (pow_pos w.below)) K.top-high
      (mul-le-mul_right B (nleb→lt (top f / B) (x / B) (subst (λ (b : Bool). T (not b)) (sym pos) tt)))
    where
      fin : (x q r b t c : ℕ) → q * b + r ≡ x → r < b → t * b ≡ c → suc q * b ≤ t * b → x < c
      fin x q r b t c e1 e2 e3 e4 = omega arith

  z-s : sign z ≡ false
  z-s = (word_of f z zn).sgn ∙ is_false (leb (top f) x) (not_T (leb (top f) x) (λ h. not-le_of_lt x-top (leb→le (top f) x h)))

  z-size : mag f z ≡ units_at (hid f) (x / hid f) (x % hid f)
  z-size = (positive-word f z zn z-s).size

  z-parts : (plus f z ≡ mag f z) × (minus f z ≡ 0)
  z-parts = pos-parts f z z-s

  M-is : U f * 2 ^ K.e ≡ M
  unfolding M
  M-is = ap (λ (y : ℕ). U f * y) (sym K.e-is) ∙ mul_comm (U f) (suc (emax f))

  z-case : (mag f z < M) ⊎ ((mag f z ≡ M) × (lt lost ovt ≡ false))
  z-case = go (eqb x w.large) (eqb→eq x w.large) (λ (e : x ≡ w.large). eq→eqb e) (I.upper x-top).1
    where
      less : x < w.large → mag f z < M
      less h = lt_of_le_of_lt (le_of_eq z-size) (lt_of_lt_of_le (size_below f x K.e (lt_of_lt_of_le h (le_of_eq K.large_is))) (le_of_eq M-is))

      same : x ≡ w.large → mag f z ≡ M
      same e =
          let X : ℕ = emax f + K.e in
          z-size ∙ ap (λ (y : ℕ). units_at (hid f) (y / hid f) (y % hid f)) (e ∙ K.large_is)
          ∙ ap (λ (y : ℕ). units_at (hid f) y (X * hid f % hid f)) (mul-div_cancel X (hid-pos f)) ∙ ap (units_at (hid f) X) (mul-mod_left X (hid f))
          ∙ ap (λ (y : ℕ). units_at (hid f) y 0) (one_less (emax f) K.e (emax-least f)) ∙ ap (λ (y : ℕ). y * 2 ^ (emax f - 1 + K.e)) (add-zero (hid f))
          ∙ units-at f K.e ∙ M-is
        where
          one_less : (m e : ℕ) → 2 ≤ m → m + e ≡ suc (m - 1 + e)
          one_less m e h = omega arith

      go : (c : Bool) → (T c → x ≡ w.large) → (x ≡ w.large → T c) → (c && lt lost ovt) ≡ false → (mag f z < M) ⊎ ((mag f z ≡ M) × (lt lost ovt ≡ false))
      go true h q k = inr (same (h tt), k)
      go false h q k = inl (less (strict x w.large (I.upper x-top).0 q))

  z-most : mag f z ≤ M
  z-most = ⊎_elim (λ h. le_of_lt h) (λ h. le_of_eq h.0) z-case

  -- ---- the whole number is emax + 1
  size_is : (whole_of w p).size ≡ suc (emax f)
  unfolding M
  size_is = fin (whole_of w p).size (emax f) big
      (le_of_mul-le-mul_right (num (whole_of w p).size (suc (emax f)) (mag f z) (U f) N.hi z-most) (pow_pos (low f)))
    where
      num : (n m z u : ℕ) → 2 * (n * u) ≤ 2 * z + u → z ≤ m * u → 2 * n * u ≤ (2 * m + 1) * u
      num n m z u h k = omega arith

      fin : (n m : ℕ) → m < n → 2 * n ≤ 2 * suc m + 1 → n ≡ suc m
      fin n m h k = omega arith

  n-mag : mag f n ≡ M
  unfolding M
  n-mag = N.siz ∙ ap (λ (y : ℕ). y * U f) size_is

  n-parts : (plus f n ≡ M) × (minus f n ≡ 0)
  n-parts = let v = pos-parts f n (N.sgn ∙ z-s) in (v.0 ∙ n-mag, v.1)

  M-exact : R f M ≡ M
  M-exact = ap (R f) (sym n-mag) ∙ mag-exact f n N.num ∙ n-mag

  n-in : Within f (U f) (2 ^ 41) n
  unfolding M
  n-in = record { num = N.num; le = subst (λ (y : ℕ). 2 ^ 30 * y ≤ 2 ^ 41 * U f) (sym n-mag) (fin (suc (emax f)) (U f) (emax-range f).1) }
    where
      fin : (m u : ℕ) → m ≤ 2 ^ 10 → 2 ^ 30 * (m * u) ≤ 2 ^ 41 * u
      fin m u h = omega (arith, mul-le-mul_right u h)

  -- ---- the rest a = hi - n, and lo + a, which is 0 at most
  abbrev a : Float
  a = sub f hi n

  a-is : (plus f a ≡ R f (plus f hi - (minus f hi + M))) × (minus f a ≡ R f ((minus f hi + M) - plus f hi))
  a-is =
      let r = r-sub (unit-scale f) H n-in tt in (
        r.up ∙ ap (R f) (above (plus f hi) (minus f hi) (plus f n) (minus f n) M n-parts.0 n-parts.1),
        r.lo ∙ ap (R f) (under (plus f hi) (minus f hi) (plus f n) (minus f n) M n-parts.0 n-parts.1),
      )
    where
      above : (ph mh pn mn M : ℕ) → pn ≡ M → mn ≡ 0 → (ph + mn) - (mh + pn) ≡ ph - (mh + M)
      above ph mh pn mn M a b = omega arith

      under : (ph mh pn mn M : ℕ) → pn ≡ M → mn ≡ 0 → (mh + pn) - (ph + mn) ≡ (mh + M) - ph
      under ph mh pn mn M a b = omega arith

  lo-exact : R f (mag f lo) ≡ mag f lo
  lo-exact = mag-exact f lo L.num

  not-positive : plus f lo + plus f a ≤ minus f lo + minus f a
  not-positive = ⊎_elim first second z-case
    where
      first : mag f z < M → plus f lo + plus f a ≤ minus f lo + minus f a
      first h = below-limit f (plus f hi) (minus f hi) (plus f lo) (minus f lo) (plus f a) (minus f a) M (mag f lo) a-is.0
          a-is.1 (parts f lo) lo-exact (one-zero f lo)
          (le_of_lt (lt_of_not-le (λ (g : minus f lo + minus f hi + M ≤ plus f lo + plus f hi).
          let c : M ≤ (plus f lo + plus f hi) - (minus f lo + minus f hi) = back (plus f lo + plus f hi) (minus f lo + minus f hi) M g in
          let r = round_mono f M ((plus f lo + plus f hi) - (minus f lo + minus f hi)) c in
          lt_irrefl (mag f z) (lt_of_lt_of_le h
          (le_trans (le_of_eq (sym M-exact)) (le_trans r (le_of_eq (sym (r-add (unit-scale f) L H tt).up ∙ z-parts.0))))))))
        where
          back : (x y m : ℕ) → y + m ≤ x → m ≤ x - y
          back x y m h = omega arith

      second : (mag f z ≡ M) × (lt lost ovt ≡ false) → plus f lo + plus f a ≤ minus f lo + minus f a
      second h =
          let rc = r-sub (unit-scale f) (w-add (unit-scale f) L H tt) H tt in
          let rd = r-add (unit-scale f) L K.ovt.0 tt in
          let po = pos-parts f (con w OVT) K.ovt.1 in
          let up : plus f lost ≡ minus f a = rc.up ∙ ap (R f) (above (plus f hi) (minus f hi) (plus f z) (minus f z) M (z-parts.0 ∙ h.0) z-parts.1)
          ∙ sym a-is.1 in
          let dn : minus f lost ≡ plus f a = rc.lo ∙ ap (R f) (under (plus f hi) (minus f hi) (plus f z) (minus f z) M (z-parts.0 ∙ h.0) z-parts.1)
          ∙ sym a-is.0 in
          let s = plus f lo + plus f (con w OVT) in
          at-limit f (plus f lo) (minus f lo) (plus f (con w OVT)) (plus f ovt) (minus f ovt) (plus f a) (minus f a) (mag f lo)
          (rd.up ∙ ap (λ (y : ℕ). R f (s - y)) (none (minus f lo) (minus f (con w OVT)) po.1))
          (rd.lo ∙ ap (λ (y : ℕ). R f (y - s)) (none (minus f lo) (minus f (con w OVT)) po.1))
          (parts f lo) lo-exact (one-zero f lo) (rw (up, dn) at (not-below f lost ovt rc.num rd.num h.1))
        where
          above : (ph mh pz mz M : ℕ) → pz ≡ M → mz ≡ 0 → (pz + mh) - (mz + ph) ≡ (mh + M) - ph
          above ph mh pz mz M a b = omega arith

          under : (ph mh pz mz M : ℕ) → pz ≡ M → mz ≡ 0 → (mz + ph) - (pz + mh) ≡ ph - (mh + M)
          under ph mh pz mz M a b = omega arith

          none : (y m : ℕ) → m ≡ 0 → y + m ≡ y
          none y m h = omega arith

  -- ---- the bounds that the limit of the exponential asks
  lo-in : Within f (U f) 548000000 lo
  unfolding M
  lo-in = record {
    num = L.num;
    le = lo-bound f (mag f hi) (mag f lo) (mag f z) (U f) (hi-most f hi lo z (r-add (unit-scale f) L H tt))
        S.small z-most (le_trans (lit≤ tt) (unit-least f));
  }

  up-n : 2 * mag f z ≤ 2 * mag f n + U f
  up-n = subst (λ (y : ℕ). 2 * mag f z ≤ 2 * y + U f) (sym N.siz) N.lo

  dn-n : 2 * mag f n ≤ 2 * mag f z + U f
  dn-n = subst (λ (y : ℕ). 2 * y ≤ 2 * mag f z + U f) (sym N.siz) N.hi

  sum-in : Within f (U f) 600000000 (add f lo a)
  sum-in = rest_sum w K H L n-in N.sgn up-n dn-n

  a_in : Within f (U f) 1160000000 a
  a_in =
      let r = rest_in w K H L n-in N.sgn up-n dn-n in
      let o = o-add (unit-scale f) L r tt in
      let s = add f lo a in
      record {
        num = r.num;
        le = rest-bound (plus f lo) (minus f lo) (mag f lo) (plus f a) (minus f a) (mag f a) (plus f s) (minus f s) (mag f s) (U f)
            (parts f lo) (parts f a) (parts f s) (one-zero f a) lo-in.le sum-in.le o.hi o.lo;
      }

  most-one : plus f (raising w p) ≤ U f
  unfolding exponential_of parts_of chop
  most-one = limit K.exp K.limit a_in lo-in sum-in not-positive w.shorter K.lead-exp K.lead-exp-is K.lead-exp-least K.lead-exp-fine

  pub at_top : to_bits f (raising w p) + (whole_of w p).size * hid f ≤ infinity f
  at_top =
      let b : Between f (raising w p) = reduced w K H L n-in N.sgn up-n dn-n in
      let x1 = word-one f (raising w p) b (le_trans (le_of_eq (sym (pos-parts f (raising w p) b.sgn).0)) most-one) in
      rw size_is (fin (to_bits f (raising w p)) (emax f) (hid f) x1)
    where
      fin : (x m h : ℕ) → x ≤ m * h → x + suc m * h ≤ (2 * m + 1) * h
      fin x m h k = omega arith
