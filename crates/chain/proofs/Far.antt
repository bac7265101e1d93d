-- The logarithm of a reduced number, n + log2(z), at both widths by one argument: the second part is 1 / (4 * (emax + 1)) of the first at most.
-- Where n is 0 the first part is at least 2.51 of |s|, and the second is last digits of that; otherwise, and for z about 1.5, the first part is not near 0.
use mathlib.Core.Path.{◌≡◌, sym, ap, ◌∙◌}
use mathlib.Core.Logic.{◌⊎◌, inl, inr}
use Prim.Native.Nat.{ℕ, suc, ◌+◌, ◌-◌, ◌*◌, ◌/◌, ◌^◌, ◌≤◌, ◌<◌}
use native.Mathlib.Nat.{le_trans, le_of_eq, le_of_lt, le-add_right, mul-le-mul_right, mul-le-mul_left, add-mul, sub-eq-zero_of_le}
use native.Mathlib.Omega.{arith}
use lib.Dec.{leb→le, ltb, ltb→lt, nltb→le, lit≤}
use lib.Ieee.{Float, Format, binary32, binary64, prec, emax, of_bits}
use Rattle.power.specs.Width.{Width, Two}
use Rattle.power.specs.Places.{BP}
use Rattle.power.specs.Chain.{quotient_of, series_of, logarithm_of, log2_of, split_of, sum_of, far_at, head_of, exponent_of, con, chop}
use Rattle.bounds.proofs.Formats.{one}
use Rattle.bounds.proofs.Signed.{mag, minus, Num, parts}
use Rattle.bounds.proofs.Within.{U, Within, unit-scale, weaken, rebase}
use Rattle.bounds.proofs.SumBounds.{w-add}
use Rattle.bounds.proofs.Errors.{dist}
use Rattle.bounds.proofs.Ratio.{Ratio, s-scale, s-h-large}
use Rattle.bounds.proofs.Log.{z-h-in, z-h-least, z-l-in}
use Rattle.bounds.proofs.LogSum.{near-one}
use Rattle.bounds.proofs.Series.{Series, quotient, rest, by-ratio}
use Rattle.bounds.proofs.Halves.{Halves}
use Rattle.bounds.proofs.Away.{far-0, far-up, far-down, away}
use Rattle.bounds.proofs.Integer.{Int, int_is}
use Rattle.bounds.proofs.Choice.{choose, three, apart}
use Rattle.chain.proofs.Known.{Known}

-- a logarithm in two parts: finite, the second 1 / (4 * (emax + 1)) of the first at most, and the first 2 ^ 11 at most
abbrev pub Log : Format → Two → Type 0
Log f t = Halves f t.hi t.lo

nought : {f : Format} {S : ℕ} {x : Float} → Num f x → mag f x ≡ 0 → Within f S 0 x
nought {f} {S} {x} n e = record { num = n; le = fin (mag f x) e }
  where
    fin : (m : ℕ) → m ≡ 0 → 2 ^ 30 * m ≤ 0 * S
    fin m e = omega arith

-- ---- the whole part n as a float: e stands for n + middle, and n is 1200 at most either way
abbrev pub middle : Width → ℕ
middle w = prec w.format + emax w.format

pub record Ranged (w : Width) (e : ℕ) : Type 0 where
  pub hi : e ≤ middle w + 1200
  pub lo : middle w ≤ e + 1200

whole_part : (w : Width) (e : ℕ) → Ranged w e → Int w.format e (middle w) (exponent_of w e)
unfolding exponent_of
whole_part w e r = int_is w.format e (middle w) (le_trans r.hi (most w.format)) (le_trans (le-add_right (middle w) 1200) (most w.format))
  where
    most : (f : Format) → prec f + emax f + 1200 ≤ 2 ^ 20
    most binary32 = lit≤ tt
    most binary64 = lit≤ tt

whole-mag : (w : Width) (e : ℕ) → Ranged w e → mag w.format (exponent_of w e) ≡ dist e (middle w) * U w.format
whole-mag w e r =
    let f = w.format in
    let i = whole_part w e r in
    let k = middle w in
    parts f (exponent_of w e) ∙ ap (λ (p : ℕ). p + minus f (exponent_of w e)) i.up ∙ ap (λ (m : ℕ). (e - k) * U f + m) i.lo
    ∙ sym (add-mul (e - k) (k - e) (U f))

whole_in : (w : Width) (e : ℕ) → Ranged w e → Within w.format (U w.format) 1300000000000 (exponent_of w e)
whole_in w e r = record {
  num = (whole_part w e r).num;
  le = fin (mag w.format (exponent_of w e)) (dist e (middle w)) (U w.format) (whole-mag w e r)
      (mul-le-mul_right (U w.format) (few e (middle w) r.hi r.lo));
}
  where
    few : (e k : ℕ) → e ≤ k + 1200 → k ≤ e + 1200 → dist e k ≤ 1200
    few e k a b = omega arith

    fin : (a d u : ℕ) → a ≡ d * u → d * u ≤ 1200 * u → 2 ^ 30 * a ≤ 1300000000000 * u
    fin a d u e h = omega arith

whole-least : (w : Width) (e : ℕ) → Ranged w e → (e ≡ middle w → ⊥) → U w.format ≤ mag w.format (exponent_of w e)
whole-least w e r ne = fin (mag w.format (exponent_of w e)) (dist e (middle w)) (U w.format) (whole-mag w e r) (mul-le-mul_right (U w.format)
    (three e (middle w) (λ (h : e ≡ middle w). absurd (ne h)) (λ h. one e (middle w) h)))
  where
    one : (e k : ℕ) → (e < k) ⊎ (k < e) → 1 ≤ dist e k
    one e k (inl h) = omega arith
    one e k (inr h) = omega arith

    fin : (a d u : ℕ) → a ≡ d * u → 1 * u ≤ d * u → u ≤ a
    fin a d u e h = omega arith

module _ (w : Width) (K : Known w) where
  abbrev f : Format
  f = w.format

  abbrev #1 : Float
  #1 = of_bits w.format (one w.format)

  abbrev s-of : ℕ → ℕ → Float
  s-of x k = quotient w.format (of_bits w.format x) (con w k) (of_bits w.format (one w.format))

  abbrev sl-of : ℕ → ℕ → Float
  sl-of x k = rest w.format w.short (of_bits w.format x) (con w k) (head_of w x k) (of_bits w.format (one w.format))

  pub lead8 : 8 ≤ K.lead
  lead8 = le_trans (lit≤ tt) K.lead-least

  -- ---- no whole part, about 1
  pub far-one : (x e : ℕ) → Ratio f (of_bits f x) (con w BP) (head_of w x 0) #1 → e ≡ middle w → Log f (far_at w record { word = x; k = 0; e = e })
  unfolding far_at quotient_of series_of logarithm_of log2_of split_of sum_of chop
  far-one x e Q em =
      let j = w.short in
      let g = K.lead in
      let jg = K.lead_is in
      let r : Ranged w e = record { hi = le_trans (le_of_eq em) (le-add_right (middle w) 1200); lo = le_trans (le_of_eq (sym em)) (le-add_right e 1200) } in
      let S = s-scale Q j g jg K.lead-least in
      let ser = by-ratio Q j g jg K.lead-least in
      let zh = z-h-in K.log ser.scale ser.W-u ser.s-in ser.sl-in j g jg lead8 K.lead-series K.lead-log in
      let sm = least _ _ (s-h-large Q j g jg K.lead-least) in
      let zm = z-h-least K.log ser.scale ser.W-u ser.s-in ser.sl-in j g jg lead8 K.lead-series K.lead-log record { ge = sm } in
      let zl = z-l-in K.log ser.scale ser.W-u ser.s-in ser.sl-in j g jg lead8 K.lead-series K.lead-log in
      let zl' = weaken 2113000 (w-add S zl (nought K.dp-l-zero.0 K.dp-l-zero.1) tt) tt in
      let t0 = nought (whole_part w e r).num (none (mag f (exponent_of w e)) (dist e (middle w)) (U f) (whole-mag w e r) (zero e (middle w) em)) in
      let n = near-one S zh zm zl' (nought K.dp-h-zero.0 K.dp-h-zero.1) t0 j g jg lead8 in
      record {
        hi-num = n.0.num;
        lo-num = n.2.num;
        small = small_of (4 * suc (emax f)) (3386122690 / 2 ^ g + 36000) _ _ _
            (leb→le (4 * suc (emax f) * (3386122690 / 2 ^ g + 36000)) 2700000000 K.lead-one) n.1.ge n.2.le;
        most = under _ _ (U f) n.0.le ser.W-u;
      }
    where
      zero : (e k : ℕ) → e ≡ k → dist e k ≡ 0
      zero e k h = omega arith

      none : (a d u : ℕ) → a ≡ d * u → d ≡ 0 → a ≡ 0
      none a d u e h = omega (arith, e, ap (λ (z : ℕ). z * u) h)

      least : (s r : ℕ) → 127 * s ≤ 128 * r → 1065353216 * s ≤ 2 ^ 30 * r
      least s r h = omega arith

      small_of : (E c hi lo s : ℕ) → E * c ≤ 2700000000 → 2700000000 * s ≤ 2 ^ 30 * hi → 2 ^ 30 * lo ≤ c * s → E * lo ≤ hi
      small_of E c hi lo s a b d = fin (mul-le-mul_left E d) (mul-le-mul_right s a)
        where
          fin : E * (2 ^ 30 * lo) ≤ E * (c * s) → E * c * s ≤ 2700000000 * s → E * lo ≤ hi
          fin p q = omega (arith, p, q, b)

      under : (hi s u : ℕ) → 2 ^ 30 * hi ≤ 3386122690 * s → 2 ^ 30 * s ≤ 166000000 * u → hi ≤ 2 ^ 11 * u
      under hi s u h k = omega arith

  -- ---- a whole part, about 1
  pub far-whole : {W : ℕ} (x e : ℕ) → Series f W (s-of x 0) (sl-of x 0) → Ranged w e → (e ≡ middle w → ⊥) → Log f (far_at w record { word = x; k = 0; e = e })
  unfolding far_at quotient_of series_of logarithm_of log2_of split_of sum_of chop
  far-whole x e ser r ne =
      let j = w.short in
      let g = K.lead in
      let jg = K.lead_is in
      let zs = z-h-in K.log ser.scale ser.W-u ser.s-in ser.sl-in j g jg lead8 K.lead-series K.lead-log in
      let ls = z-l-in K.log ser.scale ser.W-u ser.s-in ser.sl-in j g jg lead8 K.lead-series K.lead-log in
      let zh = weaken 524000000 (rebase (U f) 166000000 zs ser.W-u) tt in
      let l0 = weaken 328000 (rebase (U f) 166000000 ls ser.W-u) tt in
      let zl = weaken 330000 (w-add (unit-scale f) l0 (weaken 1700 (nought {S = U f} K.dp-l-zero.0 K.dp-l-zero.1) tt) tt) tt in
      let dh = weaken 628200000 (nought {S = U f} K.dp-h-zero.0 K.dp-h-zero.1) tt in
      away zh zl dh (whole_in w e r) (far-0 zh zl dh (whole_in w e r) K.dp-h-zero.1 (whole-least w e r ne)) j g jg lead8 K.lead-whole

  -- ---- about 1.5
  pub far-half : {W : ℕ} (x e : ℕ) → Series f W (s-of x 1) (sl-of x 1) → 2 ^ 30 * W ≤ 108800000 * U f → Ranged w e
      → Log f (far_at w record { word = x; k = 1; e = e })
  unfolding far_at quotient_of series_of logarithm_of log2_of split_of sum_of chop
  far-half x e ser narrow r =
      let j = w.short in
      let g = K.lead in
      let jg = K.lead_is in
      let k = middle w in
      let zs = z-h-in K.log ser.scale ser.W-u ser.s-in ser.sl-in j g jg lead8 K.lead-series K.lead-log in
      let ls = z-l-in K.log ser.scale ser.W-u ser.s-in ser.sl-in j g jg lead8 K.lead-series K.lead-log in
      let zn = weaken 343000000 (rebase (U f) 108800000 zs narrow) tt in
      let zh = weaken 524000000 zn tt in
      let zl = weaken 330000 (w-add (unit-scale f) (weaken 328000 (rebase (U f) 166000000 ls ser.W-u) tt) K.dp-l-half tt) tt in
      let t = whole_in w e r in
      let i = whole_part w e r in
      away zh zl K.dp-h-half.0 t
      (choose (ltb e k)
      (λ h. far-down zh zl K.dp-h-half.0 t zn K.dp-h-half.1 (i.up ∙ nil e k (U f) (le_of_lt (ltb→lt e k h)))
      (whole-least w e r (λ (q : e ≡ k). apart e k (inl (ltb→lt e k h)) q)))
      (λ h. far-up zh zl K.dp-h-half.0 t zn K.dp-h-half.1 K.dp-h-half.2 (i.lo ∙ nil k e (U f) (nltb→le e k h))))
      j g jg lead8 K.lead-whole
    where
      nil : (a k u : ℕ) → a ≤ k → (a - k) * u ≡ 0
      nil a k u h = ap (λ (z : ℕ). z * u) (sub-eq-zero_of_le h) ∙ zero u
        where
          zero : (u : ℕ) → 0 * u ≡ 0
          zero u = omega arith
