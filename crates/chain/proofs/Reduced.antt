-- The logarithm of every positive finite number but 1, at both widths: its second part is small against its first.
-- The three kinds of reduced numbers one by one; a subnormal number, multiplied by TWO, has a small field, and so a whole part that is not 0.
use mathlib.Core.Path.{◌≡◌, refl, sym, ap, ◌∙◌, subst}
use mathlib.Core.Logic.{◌⊎◌, inl, inr, ⊎_elim}
use Prim.Native.Nat.{ℕ, zero, suc, ◌+◌, ◌-◌, ◌*◌, ◌/◌, ◌%◌, ◌^◌, ◌≤◌, ◌<◌}
use native.Mathlib.Nat.{le_trans, le_of_eq, le_of_lt, lt_of_le_of_lt, lt_of_lt_of_le, le-add_right, add_left_cancel, mul-le-mul_right}
use native.Mathlib.Nat.{mul-lt-mul_of_pos_right, div-add-mod', mod-lt, mod-eq_of_lt, div-eq_of_lt, div-lt_iff_lt-mul, add-zero, zero-lt-suc}
use native.Mathlib.Omega.{arith}
use mathlib.Core.Bool.{Bool, true, false, not, cond}
use lib.Dec.{T, ltb, ltb→lt, nltb→le, lit≤, lit<}
use lib.Pow.{pow_pos}
use lib.Ieee.{Float, Format, binary32, binary64, prec, emax, low, hid, ones, top, unlike, mul, of_bits, to_bits}
use lib.Ieee.Scale.{overflow}
use borrow.Author.Tests.{lt-leb}
use Rattle.words.specs.Format.{units_at}
use Rattle.power.specs.Width.{Width}
use Rattle.power.specs.Places.{TWO}
use Rattle.power.specs.Chain.{far_at, far_of, reduced_of, interval_of, head_of, con}
use Rattle.bounds.proofs.Formats.{one, infinity}
use Rattle.bounds.proofs.Grid.{rq, rq-same, rq-exact}
use Rattle.bounds.proofs.Signed.{sign, mag}
use Rattle.bounds.proofs.RoundedProducts.{mul-siz}
use Rattle.bounds.proofs.Within.{U, cap}
use Rattle.bounds.proofs.Words.{word}
use Rattle.bounds.proofs.Measured.{Measured, ratio, nearer, ax-in, th-in, c1-in}
use Rattle.bounds.proofs.Series.{Series, quotient, rest, by-ratio, closer, by_equal}
use Rattle.bounds.proofs.Choice.{three, apart}
use Rattle.chain.proofs.Known.{Known}
use Rattle.chain.proofs.Sizes.{hid-pos, field-most, positive-word}
use Rattle.chain.proofs.Measures.{above-one, about-half, half-close, below_one}
use Rattle.chain.proofs.Far.{Log, Ranged, middle, far-one, far-whole, far-half}

module _ (w : Width) (K : Known w) where
  abbrev f : Format
  f = w.format

  abbrev h : ℕ
  h = hid w.format

  abbrev #1 : Float
  #1 = of_bits w.format (one w.format)

  -- ---- the three kinds
  -- z is its fixed point: the quotient is 0
  fixed : {q u a b h : ℕ} (x k : ℕ) → Measured f q u a b h (of_bits f x) (con w k) (head_of w x k) #1 → u ≤ a → of_bits f x ≡ con w k
      → Series f (2 ^ 100) (quotient f (of_bits f x) (con w k) #1) (rest f w.short (of_bits f x) (con w k) (head_of w x k) #1)
  fixed {q} {u} {a} x k M l e =
      let one-most = le_trans (le_of_eq M.unit) (le_trans (mul-le-mul_right q l) (le_of_eq (sym M.ax-is.siz))) in
      subst (λ (v : Float). Series f (2 ^ 100) (quotient f (of_bits f x) v #1) (rest f w.short (of_bits f x) v (head_of w x k) #1)) e
      (by_equal (ax-in M) (th-in M) (c1-in M) M.ax-is.sgn one-most w.short K.lead K.lead_is)

  above : (t e : ℕ) → t < w.first → Ranged w e → (e ≡ middle w → t ≡ 0 → ⊥) → Log f (far_at w record { word = one f + t; k = 0; e = e })
  above t e l r ne =
      let M = above-one w K t l in
      let x = one f + t in
      three e (middle w)
      (λ (n : e ≡ middle w). far-one w K x e (ratio M (inr (more h t (ne n)))) n)
      (λ (n : (e < middle w) ⊎ (middle w < e)).
      let no : e ≡ middle w → ⊥ = apart e (middle w) n in
      three t 0
      (λ (z : t ≡ 0). far-whole w K x e
      (fixed x 0 M (le-add_right h t) (ap (λ (y : ℕ). of_bits f (one f + y)) z ∙ ap (of_bits f) (add-zero (one f)) ∙ sym K.bp-one)) r no)
      (λ (z : (t < 0) ⊎ (0 < t)). far-whole w K x e
      (by-ratio (ratio M (inr (more h t (λ (y : t ≡ 0). apart t 0 z y)))) w.short K.lead K.lead_is K.lead-least) r no))
    where
      more : (h t : ℕ) → (t ≡ 0 → ⊥) → h < h + t
      more h zero k = absurd (k refl)
      more h (suc t) k = fin h t
        where
          fin : (h t : ℕ) → h < h + suc t
          fin h t = omega arith

  about : (t e : ℕ) → w.first ≤ t → t < w.second → Ranged w e → Log f (far_at w record { word = one f + t; k = 1; e = e })
  about t e a b r =
      let M = about-half w K t a b in
      let x = one f + t in
      three t (h / 2)
      (λ (z : t ≡ h / 2). far-half w K x e (fixed x 1 M (le-add_right h t) (ap (λ (y : ℕ). of_bits f (one f + y)) z ∙ sym K.bp-half)) (tiny f) r)
      (λ (z : (t < h / 2) ⊎ (h / 2 < t)).
      let Q = ratio M (⊎_elim (λ l. inl (shift h t (h / 2) l)) (λ l. inr (shift h (h / 2) t l)) z) in
      let c = half-close w K t a b in
      let n = nearer M c.0 c.1 c.2 in
      far-half w K x e (by-ratio Q w.short K.lead K.lead_is K.lead-least)
      (closer Q w.short K.lead K.lead_is K.lead-least n.0 n.1 n.2) r)
    where
      shift : (h a b : ℕ) → a < b → h + a < h + b
      shift h a b l = omega arith

      tiny : (f : Format) → 2 ^ 30 * 2 ^ 100 ≤ 108800000 * U f
      tiny binary32 = lit≤ tt
      tiny binary64 = lit≤ tt

  below : (t e : ℕ) → w.second ≤ t → t < h → Ranged w e → Log f (far_at w record { word = one f + t - h; k = 0; e = e })
  below t e a b r =
      let Q = ratio (below_one w K t a b) (inl (less h t b)) in
      let x = one f + t - h in
      three e (middle w)
      (λ (n : e ≡ middle w). far-one w K x e Q n)
      (λ (n : (e < middle w) ⊎ (middle w < e)). far-whole w K x e (by-ratio Q w.short K.lead K.lead_is K.lead-least) r (apart e (middle w) n))
    where
      less : (h t : ℕ) → t < h → h + t < 2 * h
      less h t l = omega arith

  -- which kind it is
  interval : (y e : ℕ) → Ranged w (e + y / h) → Ranged w (e + y / h + 1) → (e + y / h ≡ middle w → y % h ≡ 0 → ⊥) → Log f (far_at w (interval_of w y e))
  unfolding interval_of
  interval y e r r' ne = go (ltb t w.first) (ltb→lt t w.first) (nltb→le t w.first) (ltb t w.second) (ltb→lt t w.second) (nltb→le t w.second)
    where
      t : ℕ
      t = y % h

      n : ℕ
      n = e + y / h

      go : (b : Bool) → (T b → t < w.first) → (T (not b) → w.first ≤ t) → (c : Bool) → (T c → t < w.second) → (T (not c) → w.second ≤ t)
          → Log f (far_at w (cond b (record { word = one f + t; k = 0; e = n })
          (cond c (record { word = one f + t; k = 1; e = n }) (record { word = one f + t - h; k = 0; e = n + 1 }))))
      go true p q c i j = above t n (p tt) r ne
      go false p q true i j = about t n (q tt) (i tt) r
      go false p q false i j = below t (n + 1) (j tt) (mod-lt y (hid-pos f)) r'

  -- ---- a subnormal number, multiplied by TWO, has a field of prec at most
  scaled : (ix : ℕ) → ix < h → to_bits f (mul f (of_bits f ix) (con w TWO)) / h ≤ prec f
  scaled ix l =
      let z = mul f (of_bits f ix) (con w TWO) in
      let lt : ix < top f = lt_of_lt_of_le l (less-top h (ones f)) in
      let small : ix % top f ≡ ix = mod-eq_of_lt lt in
      let x = word f ix (lt_of_le_of_lt (le_of_eq small) (lt_of_lt_of_le l (less-inf h (emax f)))) in
      let xm : mag f (of_bits f ix) ≡ ix =
      x.mag ∙ ap (λ (m : ℕ). units_at h (m / h) (m % h)) small ∙ ap (λ (m : ℕ). units_at h m (ix % h)) (div-eq_of_lt l) ∙ mod-eq_of_lt l in
      let e : rq (prec f) (mag f (of_bits f ix) * mag f (con w TWO)) (U f) ≡ ix * 2 ^ prec f =
      ap (λ (m : ℕ). rq (prec f) (m * mag f (con w TWO)) (U f)) xm ∙ ap (λ (m : ℕ). rq (prec f) (ix * m) (U f)) K.two.2
      ∙ rq-same (prec f) (ix * (2 ^ prec f * U f)) (U f) (ix * 2 ^ prec f) 1 (pow_pos (low f)) (zero-lt-suc 0) (re ix (2 ^ prec f) (U f))
      ∙ rq-exact (prec f) ix (prec f) (lt_of_lt_of_le l (half-digits f)) in
      let s = mul-siz f (of_bits f ix) (con w TWO) x.num K.two.0 (lt_of_le_of_lt (le_of_eq e) (fits f l)) in
      let pos : sign z ≡ false = s.sgn ∙ ap (λ (b : Bool). unlike b (sign (con w TWO))) (x.sgn ∙ lt-leb (top f) ix lt) ∙ ap (unlike false) K.two.1 in
      field-most h (to_bits f z / h) (to_bits f z % h) (prec f)
      (lt_of_le_of_lt (le_of_eq (sym (positive-word f z s.num pos).size ∙ s.mag ∙ e)) (mul-lt-mul_of_pos_right l (pow_pos (prec f))))
    where
      less-inf : (h e : ℕ) → h ≤ (2 * e + 1) * h
      less-inf h e = omega arith

      less-top : (h o : ℕ) → h ≤ h * suc o
      less-top h o = omega arith

      re : (i p u : ℕ) → i * (p * u) * 1 ≡ i * p * u
      re i p u = omega arith

      half-digits : (f : Format) → hid f ≤ 2 ^ prec f
      half-digits binary32 = lit≤ tt
      half-digits binary64 = lit≤ tt

      over : (f : Format) → hid f * 2 ^ prec f < 2 ^ 72 * U f
      over binary32 = lit< tt
      over binary64 = lit< tt

      fits : (f : Format) {ix : ℕ} → ix < hid f → ix * 2 ^ prec f < overflow f
      fits f l = lt_of_lt_of_le (lt_of_le_of_lt (mul-le-mul_right (2 ^ prec f) (le_of_lt l)) (over f)) (cap f)

  -- ---- every size but 1's
  pub far : (ix : ℕ) → ix < infinity f → (ix ≡ one f → ⊥) → Log f (far_of w ix)
  unfolding far_of reduced_of
  far ix l ne = go (ltb ix h) (ltb→lt ix h)
    where
      lows : (f : Format) (X : ℕ) → X ≤ prec f → (0 + X + 1 ≤ prec f + emax f + 1200) × (prec f + emax f ≤ 0 + X + 1200)
      lows binary32 X l = (omega arith, omega arith)
      lows binary64 X l = (omega arith, omega arith)

      highs : (f : Format) (X : ℕ) → X < ones f → (prec f + X + 1 ≤ prec f + emax f + 1200) × (prec f + emax f ≤ prec f + X + 1200)
      highs binary32 X l = (omega arith, omega arith)
      highs binary64 X l = (omega arith, omega arith)

      ranged : (e : ℕ) → (e + 1 ≤ middle w + 1200) × (middle w ≤ e + 1200) → Ranged w e × Ranged w (e + 1)
      ranged e a = (record { hi = n1 e (middle w + 1200) a.0; lo = a.1 }, record { hi = a.0; lo = n2 e (middle w) a.1 })
        where
          n1 : (e k : ℕ) → e + 1 ≤ k → e ≤ k
          n1 e k h = omega arith

          n2 : (e k : ℕ) → k ≤ e + 1200 → k ≤ e + 1 + 1200
          n2 e k h = omega arith

      never : (f : Format) (X : ℕ) → X ≤ prec f → 0 + X ≡ prec f + emax f → ⊥
      never binary32 X l e = omega arith
      never binary64 X l e = omega arith

      go : (b : Bool) → (T b → ix < h) → Log f (far_at w (cond b (interval_of w (to_bits f (mul f (of_bits f ix) (con w TWO))) 0) (interval_of w ix (prec f))))
      go true p =
          let X = scaled ix (p tt) in
          let y = to_bits f (mul f (of_bits f ix) (con w TWO)) in
          let r = ranged (0 + y / h) (lows f (y / h) X) in
          interval y 0 r.0 r.1 (λ (e : 0 + y / h ≡ middle w) (z : y % h ≡ 0). never f (y / h) X e)
      go false p =
          let r = ranged (prec f + ix / h) (highs f (ix / h) ((div-lt_iff_lt-mul (hid-pos f)).1 l)) in
          interval ix (prec f) r.0 r.1 (λ (e : prec f + ix / h ≡ middle w) (z : ix % h ≡ 0).
          ne (fin ix (ix / h) (ix % h) h (emax f) (div-add-mod' ix h) (add_left_cancel (prec f) e) z))
        where
          fin : (x q r h m : ℕ) → q * h + r ≡ x → q ≡ m → r ≡ 0 → x ≡ m * h
          fin x q r h m a b c = omega (arith, a, c, ap (λ (z : ℕ). z * h) b)
