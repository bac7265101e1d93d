-- The three kinds of reduced numbers, measured in one common size: z, its fixed point bp, and the leading digits of their sum, which the chain calls t_h.
-- z is from 1 to 1.2247 with bp = 1, from there to 1.7320 with bp = 1.5, or from 0.866 to 1 with bp = 1.
use mathlib.Core.Path.{◌≡◌, refl, sym, ap, ◌∙◌, subst}
use Prim.Native.Nat.{ℕ, suc, ◌+◌, ◌-◌, ◌*◌, ◌/◌, ◌%◌, ◌^◌, ◌≤◌, ◌<◌}
use native.Mathlib.Nat.{le_trans, le_of_eq, lt_of_le_of_lt, div-add-mod', mod-lt, mul-add-div_right, add-mul, add-zero, le-suc, sub-le}
use native.Mathlib.Omega.{arith}
use lib.Pow.{pow_pos}
use lib.Ieee.{Float, Format, binary32, binary64, emax, hid, ones, top, of_bits}
use Rattle.power.specs.Width.{Width}
use Rattle.power.specs.Places.{BP}
use Rattle.power.specs.Chain.{head_of, con}
use Rattle.bounds.proofs.Formats.{one}
use Rattle.bounds.proofs.Within.{U}
use Rattle.bounds.proofs.Measured.{Whole, Measured}
use Rattle.chain.proofs.Known.{Known}
use Rattle.chain.proofs.Sizes.{double-left, hid-pos, unit-is, unit-half, power-half, power-large}
use Rattle.chain.proofs.Sizes.{emax-suc, emax-field, field-half, field-one, field-two, at_field}

quarter-top : (f : Format) → top f / 4 ≡ (emax f + 1) * (hid f / 2)
quarter-top binary32 = refl
quarter-top binary64 = refl

half-hid : (f : Format) → 2 * (hid f / 2) ≡ hid f
half-hid binary32 = refl
half-hid binary64 = refl

quarter-hid : (f : Format) → 4 * (hid f / 4) ≡ hid f
quarter-hid binary32 = refl
quarter-hid binary64 = refl

-- ---- what is asked of z = a, bp = b and t_h = h, where 1 is u: 1.865 ≤ z + bp ≤ 3.5, t_h is their sum but for 2 ^ -9, and |z - bp| is 2/7 at most
record Shape (u a b h : ℕ) : Type 0 where
  ax-most : a ≤ 2 * u
  bp-most : b ≤ 2 * u
  th-most : h ≤ 4 * u
  sum-lo : 1865 * u ≤ 1000 * (a + b)
  sum-hi : 2 * (a + b) ≤ 7 * u
  head-hi : h ≤ a + b
  head-lo : 2 ^ 9 * (a + b) ≤ 2 ^ 9 * h + u
  close-hi : 7 * a ≤ 7 * b + 2 * u
  close-lo : 7 * b ≤ 7 * a + 2 * u

measured : {f : Format} {q u a b h : ℕ} {ax bp th c1 : Float} → Shape u a b h → 2 ^ 100 ≤ q → U f ≡ u * q → Whole f q a ax
    → Whole f q b bp → Whole f q h th → Whole f q u c1
    → Measured f q u a b h ax bp th c1
measured s l e ax bp th c1 =
    record {
      q-least = l;
      unit = e;
      ax-is = ax;
      bp-is = bp;
      th-is = th;
      c1-is = c1;
      ax-most = s.ax-most;
      bp-most = s.bp-most;
      th-most = s.th-most;
      sum-lo = s.sum-lo;
      sum-hi = s.sum-hi;
      head-hi = s.head-hi;
      head-lo = s.head-lo;
      close-hi = s.close-hi;
      close-lo = s.close-lo;
    }

module _ (w : Width) (K : Known w) where
  abbrev f : Format
  f = w.format

  abbrev h : ℕ
  h = hid w.format

  abbrev B : ℕ
  B = 2 ^ w.short

  abbrev P : ℕ
  P = 2 ^ (emax w.format - 1)

  abbrev Q : ℕ
  Q = 2 ^ (emax w.format - 2)

  -- ---- the digits of z that the head keeps, and the head's word
  unfoldable pub kept : ℕ → ℕ
  kept t = t / 2 / B * B

  kept-is : (t : ℕ) → (2 * kept t ≤ t) × (t < 2 * kept t + 2 + 2 * B)
  unfolding kept
  kept-is t = fin t (t / 2 / B * B) (t / 2 % B) B (div-add-mod' (t / 2) B) (mod-lt (t / 2) (pow_pos w.short))
    where
      fin : (t c r b : ℕ) → c + r ≡ t / 2 → r < b → (2 * c ≤ t) × (t < 2 * c + 2 + 2 * b)
      fin t c r b e l = (omega arith, omega arith)

  head-word : (X t k : ℕ) → (X * h + t) / 2 / B * B + top f / 4 + h / 2 + k * (h / 4) ≡ X * (h / 2) + kept t + (emax f + 1) * (h / 2) + h / 2 + k * (h / 4)
  unfolding kept
  head-word X t k = rw (cut, quarter-top f)
    where
      halved : (X * h + t) / 2 ≡ X * K.heads * B + t / 2
      halved = ap (λ (z : ℕ). z / 2) (re h (h / 2) X K.heads B t (half-hid f) K.heads-is) ∙ two (X * K.heads * B) t
        where
          re : (h g e m b t : ℕ) → 2 * g ≡ h → g ≡ m * b → e * h + t ≡ 2 * (e * m * b) + t
          re h g e m b t k l = omega (arith, ap (λ (z : ℕ). e * z) k, ap (λ (z : ℕ). e * z) l)

          two : (a t : ℕ) → (2 * a + t) / 2 ≡ a + t / 2
          two a t = omega arith

      cut : (X * h + t) / 2 / B * B ≡ X * (h / 2) + t / 2 / B * B
      cut = ap (λ (z : ℕ). z / B * B) halved ∙ ap (λ (z : ℕ). z * B) (mul-add-div_right (pow_pos w.short) (X * K.heads) (t / 2))
          ∙ add-mul (X * K.heads) (t / 2 / B) B
          ∙ ap (λ (z : ℕ). z + t / 2 / B * B) (re X K.heads B (h / 2) K.heads-is)
        where
          re : (x m b g : ℕ) → g ≡ m * b → x * m * b ≡ x * g
          re x m b g e = omega (arith, ap (λ (z : ℕ). x * z) e)

  -- ---- 1, z and t_h at the fields emax and emax + 1
  emax-ones : emax f < ones f
  emax-ones = lt_of_le_of_lt (le-suc (emax f)) (emax-field f)

  P-least : 2 ^ 100 ≤ P
  P-least = le_trans (power-large f) (le_trans (more Q) (le_of_eq (sym (power-half f))))
    where
      more : (q : ℕ) → q ≤ 2 * q
      more q = omega arith

  ax-P : (t : ℕ) → t < h → Whole f P (h + t) (of_bits f (one f + t))
  ax-P t l = at_field f (one f + t) (emax f) t P (h + t) refl l emax-ones (field-one f t)

  one-P : Whole f P h (of_bits f (one f))
  one-P = at_field f (one f) (emax f) 0 P h (sym (add-zero (one f))) (hid-pos f) emax-ones (field-one f 0 ∙ ap (λ (z : ℕ). z * P) (add-zero h))

  pub one-Q : Whole f Q (2 * h) (of_bits f (one f))
  one-Q = record { num = one-P.num; sgn = one-P.sgn; siz = one-P.siz ∙ sym (unit-is f) ∙ unit-half f }

  th-P : (t k c : ℕ) → kept t + k * (h / 4) ≡ c → c < h → Whole f P (2 * (h + c)) (head_of w (one f + t) k)
  unfolding head_of
  th-P t k c e l = at_field f ((emax f * h + t) / 2 / B * B + top f / 4 + h / 2 + k * (h / 4)) (suc (emax f)) c P (2 * (h + c))
      (head-word (emax f) t k ∙ fin (emax f) h (h / 2) (kept t) (k * (h / 4)) c (half-hid f) e) l (emax-field f) (field-two f c ∙ double-left (h + c) P)
    where
      fin : (e h g d i c : ℕ) → 2 * g ≡ h → d + i ≡ c → e * g + d + (e + 1) * g + g + i ≡ suc e * h + c
      fin e h g d i c a b = omega (arith, b, ap (λ (z : ℕ). suc e * z) a)

  -- ---- above 1, k = 0
  pub above-one : (t : ℕ) → t < w.first
      → Measured f P h (h + t) h (2 * (h + kept t)) (of_bits f (one f + t)) (con w BP) (head_of w (one f + t) 0) (of_bits f (one f))
  above-one t l =
      let n = num h t (kept t) B w.first K.first-most l (kept-is t).0 (kept-is t).1 K.head-cut (hid-pos f) in
      measured n.2 P-least (unit-is f) (ax-P t n.0) (subst (λ (v : Float). Whole f P h v) (sym K.bp-one) one-P)
      (th-P t 0 (kept t) (none (kept t) (h / 4)) n.1) one-P
    where
      none : (c q : ℕ) → c + 0 * q ≡ c
      none c q = omega arith

      num : (h t c b s : ℕ) → 10000 * s ≤ 2248 * h → t < s → 2 * c ≤ t → t < 2 * c + 2 + 2 * b → (2 + 2 * b) * 2 ^ 9 ≤ h → 0 < h
          → (t < h) × (c < h) × Shape h (h + t) h (2 * (h + c))
      num h t c b s a l d e r p = (
        omega arith,
        omega arith,
        record {
          ax-most = omega arith;
          bp-most = omega arith;
          th-most = omega arith;
          sum-lo = omega arith;
          sum-hi = omega arith;
          head-hi = omega arith;
          head-lo = omega arith;
          close-hi = omega arith;
          close-lo = omega arith;
        },
      )

  -- ---- about 1.5, k = 1
  pub about-half : (t : ℕ) → w.first ≤ t → t < w.second
      → Measured f P h (h + t) (h + h / 2) (2 * (h + (kept t + 1 * (h / 4)))) (of_bits f (one f + t)) (con w (BP + 1)) (head_of w (one f + t) 1)
      (of_bits f (one f))
  about-half t k l =
      let n = num h (h / 2) (h / 4) t (kept t) B w.first w.second (half-hid f) (quarter-hid f) K.first-least K.second-most
      k l (kept-is t).0 (kept-is t).1 K.head-cut (hid-pos f) in
      measured n.2 P-least (unit-is f) (ax-P t n.0)
      (subst (λ (v : Float). Whole f P (h + h / 2) v) (sym K.bp-half) (ax-P (h / 2) (less h (h / 2) (half-hid f) (hid-pos f))))
      (th-P t 1 (kept t + 1 * (h / 4)) refl n.1) one-P
    where
      less : (h g : ℕ) → 2 * g ≡ h → 0 < h → g < h
      less h g e p = omega arith

      num : (h g q t c b s s' : ℕ) → 2 * g ≡ h → 4 * q ≡ h → 2247 * h ≤ 10000 * s → 10000 * s' ≤ 7321 * h → s ≤ t → t < s' → 2 * c ≤ t → t < 2 * c + 2 + 2 * b
          → (2 + 2 * b) * 2 ^ 9 ≤ h → 0 < h → (t < h) × (c + 1 * q < h) × Shape h (h + t) (h + g) (2 * (h + (c + 1 * q)))
      num h g q t c b s s' e1 e2 a a' k l d e r p = (
        omega arith,
        omega arith,
        record {
          ax-most = omega arith;
          bp-most = omega arith;
          th-most = omega arith;
          sum-lo = omega arith;
          sum-hi = omega arith;
          head-hi = omega arith;
          head-lo = omega arith;
          close-hi = omega arith;
          close-lo = omega arith;
        },
      )

  -- there |z - bp| is 0.2754 at most, and the sum is at least 2.7247
  pub half-close : (t : ℕ) → w.first ≤ t → t < w.second
      → (27247 * h ≤ 10000 * (h + t + (h + h / 2))) × (10000 * (h + t) ≤ 10000 * (h + h / 2) + 2754 * h) × (10000 * (h + h / 2) ≤ 10000 * (h + t) + 2754 * h)
  half-close t k l = num h (h / 2) t w.first w.second (half-hid f) K.first-least K.second-most k l
    where
      num : (h g t s s' : ℕ) → 2 * g ≡ h → 2247 * h ≤ 10000 * s → 10000 * s' ≤ 7321 * h → s ≤ t → t < s'
          → (27247 * h ≤ 10000 * (h + t + (h + g))) × (10000 * (h + t) ≤ 10000 * (h + g) + 2754 * h) × (10000 * (h + g) ≤ 10000 * (h + t) + 2754 * h)
      num h g t s s' e a b c d = (omega arith, omega arith, omega arith)

  -- ---- below 1, k = 0
  lower_word : (t : ℕ) → one f + t - h ≡ (emax f - 1) * h + t
  lower_word t = fin (emax f - 1) (emax f) h t (emax-suc f)
    where
      fin : (d e h t : ℕ) → e ≡ suc d → e * h + t - h ≡ d * h + t
      fin d e h t k = omega (arith, ap (λ (z : ℕ). z * h) k)

  pub below_one : (t : ℕ) → w.second ≤ t → t < h
      → Measured f Q (2 * h) (h + t) (2 * h) (2 * (h + (h / 2 + kept t))) (of_bits f (one f + t - h)) (con w BP) (head_of w (one f + t - h) 0) (of_bits f (one f))
  unfolding head_of
  below_one t k l =
      let n = num h (h / 2) t (kept t) B w.second (half-hid f) K.second-least k l (kept-is t).0 (kept-is t).1 K.head-cut (hid-pos f) in
      let c : ℕ = h / 2 + kept t in
      measured n.1 (power-large f) (unit-half f)
      (at_field f (one f + t - h) (emax f - 1) t Q (h + t) (lower_word t) l (lt_of_le_of_lt (sub-le (emax f) 1) emax-ones) (field-half f t))
      (subst (λ (v : Float). Whole f Q (2 * h) v) (sym K.bp-one) one-Q)
      (at_field f ((one f + t - h) / 2 / B * B + top f / 4 + h / 2 + 0 * (h / 4)) (emax f) c Q (2 * (h + c))
      (ap (λ (x : ℕ). x / 2 / B * B + top f / 4 + h / 2 + 0 * (h / 4)) (lower_word t) ∙ head-word (emax f - 1) t 0
      ∙ fin (emax f - 1) (emax f) h (h / 2) (h / 4) (kept t) (emax-suc f) (half-hid f))
      n.0 emax-ones (field-one f c ∙ ap (λ (z : ℕ). (h + c) * z) (power-half f) ∙ double-left (h + c) Q)) one-Q
    where
      fin : (d e h g i c : ℕ) → e ≡ suc d → 2 * g ≡ h → d * g + c + (e + 1) * g + g + 0 * i ≡ e * h + (g + c)
      fin d e h g i c a k = omega (arith, ap (λ (z : ℕ). e * z) k, ap (λ (z : ℕ). z * g) a)

      num : (h g t c b s : ℕ) → 2 * g ≡ h → 7320 * h ≤ 10000 * s → s ≤ t → t < h → 2 * c ≤ t → t < 2 * c + 2 + 2 * b → (2 + 2 * b) * 2 ^ 9 ≤ h → 0 < h
          → (g + c < h) × Shape (2 * h) (h + t) (2 * h) (2 * (h + (g + c)))
      num h g t c b s e1 a k l d e r p = (
        omega arith,
        record {
          ax-most = omega arith;
          bp-most = omega arith;
          th-most = omega arith;
          sum-lo = omega arith;
          sum-hi = omega arith;
          head-hi = omega arith;
          head-lo = omega arith;
          close-hi = omega arith;
          close-lo = omega arith;
        },
      )
