-- The logarithm where |y| is huge and x is near 1, at both widths: its second part is small against its first.
-- x and 1 are whole numbers of 2 ^ (emax - 2) units and within 2 ^ -20 of each other, so x - 1 is exact but for a rounding, and is not 0.
use mathlib.Core.Path.{◌≡◌, sym, ap, ◌∙◌}
use mathlib.Core.Bool.{false}
use Prim.Native.Nat.{ℕ, suc, ◌+◌, ◌-◌, ◌*◌, ◌/◌, ◌^◌, ◌≤◌, ◌<◌}
use native.Mathlib.Nat.{le_trans, le_of_eq, le_of_lt, lt_of_le_of_lt, mul-le-mul_left, mul-le-mul_right, le-div_iff_mul-le, sub-le, le-suc}
use native.Mathlib.Omega.{arith}
use lib.Dec.{ltb, ltb→lt, nltb→le, lit≤}
use lib.Pow.{pow_pos}
use lib.Ieee.{Float, Format, emax, hid, sub, of_bits}
use borrow.Author.Tests.{ltb-false}
use Rattle.power.specs.Width.{Width}
use Rattle.power.specs.Chain.{near_of, split_of, chop}
use Rattle.bounds.proofs.Formats.{one}
use Rattle.bounds.proofs.Signed.{mag, plus, minus, parts, pos-parts}
use Rattle.bounds.proofs.Within.{U, Scale, Within, unit-scale}
use Rattle.bounds.proofs.SumBounds.{r-sub}
use Rattle.bounds.proofs.Measured.{Whole}
use Rattle.bounds.proofs.Errors.{dist, both-law}
use Rattle.bounds.proofs.Close.{close, tight}
use Rattle.bounds.proofs.Choice.{choose, strict}
use Rattle.chain.proofs.Known.{Known}
use Rattle.chain.proofs.Sizes.{double-left, hid-pos, unit-half, power-half, power-large}
use Rattle.chain.proofs.Sizes.{emax-suc, emax-field, field-half, field-one, at_field, high-most}
use Rattle.chain.proofs.Measures.{one-Q}
use Rattle.chain.proofs.Far.{Log, lead8}

-- ---- a size near 1's, but not 1's: n of 2 ^ (emax - 2) units, of which 1 has 2 * hid
pub record Beside (f : Format) (x : Float) : Type 0 where
  pub n : ℕ
  pub is : Whole f (2 ^ (emax f - 2)) n x
  pub hi : 2 ^ 20 * n ≤ 2 ^ 20 * (2 * hid f) + 2 * hid f
  pub lo : 2 ^ 20 * (2 * hid f) ≤ 2 ^ 20 * n + 2 * hid f
  pub ne : n ≡ 2 * hid f → ⊥

beside-below : (f : Format) (m t : ℕ) → m ≡ (emax f - 1) * hid f + t → t < hid f → 2 ^ 20 * hid f ≤ 2 ^ 20 * t + hid f → Beside f (of_bits f m)
beside-below f m t e h k =
    let b = num (hid f) t h k in
    let less = lt_of_le_of_lt (le_trans (sub-le (emax f) 1) (le-suc (emax f))) (emax-field f) in
    record { n = hid f + t; is = at_field f m (emax f - 1) t (2 ^ (emax f - 2)) (hid f + t) e h less (field-half f t); hi = b.0; lo = b.1; ne = b.2 }
  where
    num : (h t : ℕ) → t < h → 2 ^ 20 * h ≤ 2 ^ 20 * t + h
        → (2 ^ 20 * (h + t) ≤ 2 ^ 20 * (2 * h) + 2 * h) × (2 ^ 20 * (2 * h) ≤ 2 ^ 20 * (h + t) + 2 * h) × (h + t ≡ 2 * h → ⊥)
    num h t a b = (omega arith, omega arith, λ (e : h + t ≡ 2 * h). omega arith)

beside-above : (f : Format) (m t : ℕ) → m ≡ emax f * hid f + t → t < hid f → 2 ^ 20 * t ≤ hid f → (t ≡ 0 → ⊥) → Beside f (of_bits f m)
beside-above f m t e h k ne =
    let Q = 2 ^ (emax f - 2) in
    let b = num (hid f) t k in
    let size = field-one f t ∙ ap (λ (z : ℕ). (hid f + t) * z) (power-half f) ∙ double-left (hid f + t) Q in
    record {
      n = 2 * (hid f + t);
      is = at_field f m (emax f) t Q (2 * (hid f + t)) e h (lt_of_le_of_lt (le-suc (emax f)) (emax-field f)) size;
      hi = b.0;
      lo = b.1;
      ne = λ (z : 2 * (hid f + t) ≡ 2 * hid f). ne (none (hid f) t z);
    }
  where
    num : (h t : ℕ) → 2 ^ 20 * t ≤ h → (2 ^ 20 * (2 * (h + t)) ≤ 2 ^ 20 * (2 * h) + 2 * h) × (2 ^ 20 * (2 * h) ≤ 2 ^ 20 * (2 * (h + t)) + 2 * h)
    num h t a = (omega arith, omega arith)

    none : (h t : ℕ) → 2 * (h + t) ≡ 2 * h → t ≡ 0
    none h t e = omega arith

-- a word within hid / 2 ^ 20 of 1's
beside : (f : Format) (m : ℕ) → 2 ^ 20 * one f ≤ 2 ^ 20 * m + hid f → 2 ^ 20 * m ≤ 2 ^ 20 * one f + hid f → (m ≡ one f → ⊥) → Beside f (of_bits f m)
beside f m a b ne = choose (ltb m (one f))
    (λ c.
    let n = low m (one f) (emax f - 1) (hid f) (ap (λ (e : ℕ). e * hid f) (emax-suc f)) a (ltb→lt m (one f) c) (hid-pos f) in
    beside-below f m (m - (emax f - 1) * hid f) n.0 n.1 n.2)
    (λ c.
    let n = high m (one f) (hid f) b (nltb→le m (one f) c) (hid-pos f) in
    beside-above f m (m - one f) n.0 n.1 n.2 (λ (z : m - one f ≡ 0). ne (n.3 z)))
  where
    low : (m o d h : ℕ) → o ≡ suc d * h → 2 ^ 20 * o ≤ 2 ^ 20 * m + h → m < o → 0 < h
        → (m ≡ d * h + (m - d * h)) × (m - d * h < h) × (2 ^ 20 * h ≤ 2 ^ 20 * (m - d * h) + h)
    low m o d h e a b p = (omega arith, omega arith, omega arith)

    high : (m o h : ℕ) → 2 ^ 20 * m ≤ 2 ^ 20 * o + h → o ≤ m → 0 < h → (m ≡ o + (m - o)) × (m - o < h) × (2 ^ 20 * (m - o) ≤ h) × (m - o ≡ 0 → m ≡ o)
    high m o h a b p = (omega arith, omega arith, omega arith, λ (z : m - o ≡ 0). omega arith)

-- ---- x - 1, exactly: it is not 0, and 2 ^ -20 at most
exact-rest : (n c px mx pc mc q : ℕ) → px ≡ n * q → mx ≡ 0 → pc ≡ c * q → mc ≡ 0 → 2 ^ 20 * n ≤ 2 ^ 20 * c + c → 2 ^ 20 * c ≤ 2 ^ 20 * n + c → (n ≡ c → ⊥)
    → (q ≤ dist (px + mc) (mx + pc)) × (2 ^ 20 * dist (px + mc) (mx + pc) ≤ c * q)
exact-rest n c px mx pc mc q e1 e2 e3 e4 h k ne =
    let a : px + mc ≡ n * q = omega arith in
    let b : mx + pc ≡ c * q = omega arith in
    choose (ltb n c)
    (λ t. under (px + mc) (mx + pc) a b (mul-le-mul_right q (ltb→lt n c t)) (mul-le-mul_right q k))
    (λ t. over (px + mc) (mx + pc) a b (mul-le-mul_right q (strict c n (nltb→le n c t) (λ (e : c ≡ n). ne (sym e)))) (mul-le-mul_right q h))
  where
    under : (a b : ℕ) → a ≡ n * q → b ≡ c * q → suc n * q ≤ c * q → 2 ^ 20 * c * q ≤ (2 ^ 20 * n + c) * q → (q ≤ dist a b) × (2 ^ 20 * dist a b ≤ c * q)
    under a b u v s t = (omega (arith, u, v, s), omega (arith, u, v, s, t))

    over : (a b : ℕ) → a ≡ n * q → b ≡ c * q → suc c * q ≤ n * q → 2 ^ 20 * n * q ≤ (2 ^ 20 * c + c) * q → (q ≤ dist a b) × (2 ^ 20 * dist a b ≤ c * q)
    over a b u v s t = (omega (arith, u, v, s), omega (arith, u, v, s, t))

module _ (w : Width) (K : Known w) where
  abbrev f : Format
  f = w.format

  abbrev B : ℕ
  B = 2 ^ w.below

  abbrev Q : ℕ
  Q = 2 ^ (emax w.format - 2)

  abbrev #1 : Float
  #1 = of_bits w.format (one w.format)

  -- an x between `less` and `more`
  pub near-x : (m : ℕ) → (m ≡ one f → ⊥) → ltb (m / B) w.less ≡ false → ltb w.more (m / B) ≡ false → Beside f (of_bits f m)
  near-x m ne a b =
      let lo : w.less * B ≤ m = (le-div_iff_mul-le (pow_pos w.below)).0 (ltb-false (m / B) w.less a) in
      let hi : m < suc w.more * B = high-most w.below w.more m b in
      beside f m (least m (w.less * B) (one f) (hid f) lo K.less-least) (le_trans (mul-le-mul_left (2 ^ 20) (le_of_lt hi)) K.more-most) ne
    where
      least : (m l o h : ℕ) → l ≤ m → 2 ^ 20 * o ≤ 2 ^ 20 * l + h → 2 ^ 20 * o ≤ 2 ^ 20 * m + h
      least m l o h a b = omega arith

  -- ---- t = x - 1
  x-in : (x : Float) (n : ℕ) → Whole f Q n x → 2 ^ 20 * n ≤ 2 ^ 20 * (2 * hid f) + 2 * hid f → Within f (U f) (2 ^ 31) x
  x-in x n b h = record { num = b.num; le = fin (mag f x) (U f) n (2 * hid f) Q b.siz (unit-half f) (mul-le-mul_right Q h) }
    where
      fin : (m u n c q : ℕ) → m ≡ n * q → u ≡ c * q → 2 ^ 20 * n * q ≤ (2 ^ 20 * c + c) * q → 2 ^ 30 * m ≤ 2 ^ 31 * u
      fin m u n c q a b h = omega arith

  -- a scale of its own, and 1100 / 2 ^ 30 at most
  small-t : (x : Float) → Beside f x → Scale f (mag f (sub f x #1)) × Within f (U f) 1100 (sub f x #1)
  small-t x b =
      let t = sub f x #1 in
      let one = one-Q w K in
      let X = x-in x b.n b.is b.hi in
      let C = x-in #1 (2 * hid f) one (more (2 * hid f)) in
      let r = r-sub (unit-scale f) X C tt in
      let l = both-law f (mag f t) (plus f t) (minus f t) (plus f x + minus f #1) (minus f x + plus f #1) (parts f t) r.up r.lo in
      let px = pos-parts f x b.is.sgn in
      let pc = pos-parts f #1 one.sgn in
      let d = dist (plus f x + minus f #1) (minus f x + plus f #1) in
      let dn = exact-rest b.n (2 * hid f) (plus f x) (minus f x) (plus f #1) (minus f #1) Q (px.0 ∙ b.is.siz) px.1
      (pc.0 ∙ one.siz) pc.1 b.hi b.lo b.ne in
      let big : 2 ^ 100 ≤ d = le_trans (power-large f) dn.0 in
      let s = tiny (mag f t) d (U f) l.0 (le_trans dn.1 (le_of_eq (sym (unit-half f)))) big in
      (record { least = least (mag f t) d l.1 big; most = most (mag f t) (U f) s }, record { num = r.num; le = s })
    where
      more : (c : ℕ) → 2 ^ 20 * c ≤ 2 ^ 20 * c + c
      more c = omega arith

      least : (m d : ℕ) → 2 ^ 21 * d ≤ 2 ^ 21 * m + d + 2 ^ 21 → 2 ^ 100 ≤ d → 2 ^ 90 ≤ m
      least m d a b = step m d (half m d a) b
        where
          half : (m d : ℕ) → 2 ^ 21 * d ≤ 2 ^ 21 * m + d + 2 ^ 21 → d ≤ 2 * m + 2
          half m d h = omega arith

          step : (m d : ℕ) → d ≤ 2 * m + 2 → 2 ^ 100 ≤ d → 2 ^ 90 ≤ m
          step m d h k = omega arith

      tiny : (m d u : ℕ) → 2 ^ 21 * m ≤ 2 ^ 21 * d + d + 2 ^ 21 → 2 ^ 20 * d ≤ u → 2 ^ 100 ≤ d → 2 ^ 30 * m ≤ 1100 * u
      tiny m d u a b c = fin m d u (half m d a) b (le_trans (lit≤ tt) c)
        where
          half : (m d : ℕ) → 2 ^ 21 * m ≤ 2 ^ 21 * d + d + 2 ^ 21 → 1000 * m ≤ 1001 * d + 1000
          half m d h = omega arith

          fin : (m d u : ℕ) → 1000 * m ≤ 1001 * d + 1000 → 2 ^ 20 * d ≤ u → 2 ^ 20 ≤ d → 2 ^ 30 * m ≤ 1100 * u
          fin m d u a b c = omega arith

      most : (m u : ℕ) → 2 ^ 30 * m ≤ 1100 * u → m ≤ 2 ^ 40 * u
      most m u h = omega arith

  -- ---- the logarithm, and that its first part is 2 ^ -19 at most
  pub near-log : (ix : ℕ) → Beside f (of_bits f ix) → Log f (near_of w ix)
  unfolding near_of split_of chop
  near-log ix b = let s = small-t (of_bits f ix) b in close K.near s.0 s.1 w.short K.lead K.lead_is (lead8 w K) K.lead_near

  pub near-tight : (ix : ℕ) → Beside f (of_bits f ix) → 2 ^ 19 * mag f (near_of w ix).hi ≤ U f
  unfolding near_of split_of chop
  near-tight ix b = let s = small-t (of_bits f ix) b in tight K.near s.0 s.1 w.short K.lead K.lead_is (lead8 w K) K.lead_near
