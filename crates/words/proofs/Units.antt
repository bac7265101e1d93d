-- Units of a word by its fields, and of a word that is put together from a field and digits. Over any format. Assumes nothing.
use mathlib.Core.Path.{◌≡◌, refl, sym, ap, ◌∙◌, subst}
use mathlib.Core.Logic.{◌⊎◌, inl, inr}
use Prim.Native.Nat.{ℕ, zero, suc, ◌+◌, ◌-◌, ◌*◌, ◌/◌, ◌%◌, ◌^◌, ◌≤◌, ◌<◌}
use native.Mathlib.Nat.{le_refl, le_trans, le-suc, lt_trans, eq-or-lt_of_le, eq-zero-or-pos, add-suc, pow-succ', div-add-mod', mod-lt, le-div_iff_mul-le, mul-one, mul_assoc, mul-add-div_right, mul-add-mod_self_right, div-eq_of_lt, mod-eq_of_lt}
use native.Mathlib.Omega.{arith}
use native.Mathlib.Decide.{dec_lt}
use lib.Pow.{pow_pos, pow-add}
use Rattle.words.specs.Format.{Format, hid, infinity, units, units_at}
use Rattle.words.proofs.Digits.{twice_hid}

pub units-sub : (f : Format) (w : ℕ) → w / hid f ≡ 0 → w % hid f ≡ units f w
unfolding units
units-sub f w e = ap (λ (x : ℕ). units_at (hid f) x (w % hid f)) (sym e)

pub units-normal : (f : Format) (w y : ℕ) → w / hid f ≡ suc y → (hid f + w % hid f) * 2 ^ y ≡ units f w
unfolding units
units-normal f w y e = ap (λ (x : ℕ). units_at (hid f) x (w % hid f)) (sym e)

pub units-word : (f : Format) (k n : ℕ) → 0 < f.digits → n < 2 ^ f.digits → (0 < k → hid f ≤ n) → units f (k * hid f + n) ≡ n * 2 ^ k
unfolding units
units-word f k n P N K = elim (dec_lt n (hid f)) [ yes l ↦ low l (eq-zero-or-pos k) | no l ↦ high (at_most n (hid f) l) ]
  where
    H : 0 < hid f
    H = pow_pos (f.digits - 1)

    at_most : (a b : ℕ) → ¬ (a < b) → b ≤ a
    at_most a b l = omega arith

    two : 2 ^ f.digits ≡ 2 * hid f
    two = twice_hid f.digits P

    fields : (y t : ℕ) → t < hid f → k * hid f + n ≡ y * hid f + t → units_at (hid f) ((k * hid f + n) / hid f) ((k * hid f + n) % hid f) ≡ units_at (hid f) y t
    fields y t T e =
        let a : (k * hid f + n) / hid f ≡ y = ap (λ (z : ℕ). z / hid f) e ∙ mul-add-div_right H y t ∙ ap (λ (z : ℕ). y + z) (div-eq_of_lt T) ∙ flat y in
        let b : (k * hid f + n) % hid f ≡ t = ap (λ (z : ℕ). z % hid f) e ∙ mul-add-mod_self_right y (hid f) t ∙ mod-eq_of_lt T in
        λ i. units_at (hid f) (a i) (b i)
      where
        flat : (y : ℕ) → y + 0 ≡ y
        flat y = omega arith

    no_both : (a b : ℕ) → a < b → b ≤ a → ⊥
    no_both a b h l = omega arith

    low : n < hid f → (k ≡ 0) ⊎ (0 < k) → units_at (hid f) ((k * hid f + n) / hid f) ((k * hid f + n) % hid f) ≡ n * 2 ^ k
    low l (inl z) = fields 0 n l (ap (λ (i : ℕ). i * hid f + n) z) ∙ sym (ap (λ (i : ℕ). n * 2 ^ i) z ∙ mul-one n)
    low l (inr p) = absurd (no_both n (hid f) l (K p))

    high : hid f ≤ n → units_at (hid f) ((k * hid f + n) / hid f) ((k * hid f + n) % hid f) ≡ n * 2 ^ k
    high l = fields (suc k) (n - hid f) (less n (hid f) (2 ^ f.digits) two N l) (split k (hid f) n l) ∙ ap (λ (z : ℕ). z * 2 ^ k) (back (hid f) n l)
      where
        less : (n h w : ℕ) → w ≡ 2 * h → n < w → h ≤ n → n - h < h
        less n h w e a b = omega arith

        split : (k h n : ℕ) → h ≤ n → k * h + n ≡ suc k * h + (n - h)
        split k h n l = omega arith

        back : (h n : ℕ) → h ≤ n → h + (n - h) ≡ n
        back h n l = omega arith

-- the digits may also be the carry, 2 ^ digits
pub units-carry : (f : Format) (k n : ℕ) → 0 < f.digits → n ≤ 2 ^ f.digits → (0 < k → hid f ≤ n) → units f (k * hid f + n) ≡ n * 2 ^ k
units-carry f k n P N K = elim (eq-or-lt_of_le N) [
  | inl e ↦
      let two : n ≡ 2 * hid f = e ∙ twice_hid f.digits P in
      ap (units f) (into-field k (hid f) n two)
      ∙ units-word f (suc k) (hid f) P (subst (λ (z : ℕ). hid f < z) (sym (twice_hid f.digits P)) (more (hid f) (pow_pos (f.digits - 1)))) (λ h. le_refl (hid f))
      ∙ ap (λ (z : ℕ). hid f * z) (pow-succ' 2 k)
      ∙ doubled (hid f) (2 ^ k) n two
  | inr l ↦ units-word f k n P l K
]
  where
    into-field : (k h n : ℕ) → n ≡ 2 * h → k * h + n ≡ suc k * h + h
    into-field k h n e = omega arith

    more : (h : ℕ) → 0 < h → h < 2 * h
    more h p = omega arith

    doubled : (h u n : ℕ) → n ≡ 2 * h → h * (2 * u) ≡ n * u
    doubled h u n e = omega (arith, ap (λ (z : ℕ). z * u) e)

-- the next word has more units
pub units-step : (f : Format) → 0 < f.digits → (w : ℕ) → units f w < units f (suc w)
units-step f P w = elim (dec_lt w (hid f)) [
  | yes l ↦ go 0 w w (sym (zero_field (hid f) w)) (lt_trans l (below (hid f) (2 ^ f.digits) H two)) (λ h. absurd (never h))
  | no l ↦
      go (w / hid f - 1) (hid f + w % hid f) w (sym (split w (hid f) (w / hid f) (w / hid f - 1) (w % hid f) (back (w / hid f) ((le-div_iff_mul-le H).1 (at_least w (hid f) l))) (div-add-mod' w (hid f)))) (full (w % hid f) (hid f) (2 ^ f.digits) two (mod-lt w H)) (λ h. grown (hid f) (w % hid f))
]
  where
    H : 0 < hid f
    H = pow_pos (f.digits - 1)

    two : 2 ^ f.digits ≡ 2 * hid f
    two = twice_hid f.digits P

    below : (h t : ℕ) → 0 < h → t ≡ 2 * h → h < t
    below h t p e = omega arith

    never : 0 < 0 → ⊥
    never h = omega arith

    zero_field : (h w : ℕ) → 0 * h + w ≡ w
    zero_field h w = omega arith

    at_least : (w h : ℕ) → ¬ (w < h) → 1 * h ≤ w
    at_least w h l = omega arith

    back : (y : ℕ) → 1 ≤ y → y ≡ y - 1 + 1
    back y l = omega arith

    split : (w h y x t : ℕ) → y ≡ x + 1 → y * h + t ≡ w → x * h + (h + t) ≡ w
    split w h y x t n e = omega (arith, e, ap (λ (z : ℕ). z * h) n)

    full : (t h u : ℕ) → u ≡ 2 * h → t < h → h + t < u
    full t h u e l = omega arith

    grown : (h t : ℕ) → h ≤ h + t
    grown h t = omega arith

    go : (k n w : ℕ) → w ≡ k * hid f + n → n < 2 ^ f.digits → (0 < k → hid f ≤ n) → units f w < units f (suc w)
    go k n w e N K =
        subst (λ (z : ℕ). units f z < units f (suc z)) (sym e)
        (less (units f (k * hid f + n)) (units f (suc (k * hid f + n))) n (2 ^ k) (pow_pos k) (units-word f k n P N K) (ap (units f) (sym (add-suc (k * hid f) n)) ∙ units-carry f k (suc n) P N (λ h. le_trans (K h) (le-suc n))))
      where
        less : (x y n u : ℕ) → 0 < u → x ≡ n * u → y ≡ suc n * u → x < y
        less x y n u U a b = omega arith

-- ---- the largest finite number, and what would be the next
module _ (f : Format) (P : 0 < f.digits) (E : 1 ≤ f.emax) where
  H : 0 < hid f
  H = pow_pos (f.digits - 1)

  two : 2 ^ f.digits ≡ 2 * hid f
  two = twice_hid f.digits P

  back : (e : ℕ) → 1 ≤ e → 2 * e ≡ 2 * e - 1 + 1
  back e h = omega arith

  pub units-largest : units f (infinity f - 1) ≡ (2 ^ f.digits - 1) * 2 ^ (2 * f.emax - 1)
  units-largest =
      ap (units f) (last (hid f) f.emax (2 * f.emax - 1) (2 ^ f.digits) H (back f.emax E) two)
      ∙ units-carry f (2 * f.emax - 1) (2 ^ f.digits - 1) P (less (2 ^ f.digits)) (λ h. full (hid f) (2 ^ f.digits) H two)
    where
      last : (h e d t : ℕ) → 0 < h → 2 * e ≡ d + 1 → t ≡ 2 * h → (2 * e + 1) * h - 1 ≡ d * h + (t - 1)
      last h e d t p n w = omega (arith, ap (λ (z : ℕ). z * h) n)

      less : (t : ℕ) → t - 1 ≤ t
      less t = omega arith

      full : (h t : ℕ) → 0 < h → t ≡ 2 * h → h ≤ t - 1
      full h t p w = omega arith

  pub units-infinity : units f (infinity f) ≡ 2 ^ f.digits * 2 ^ (2 * f.emax - 1)
  units-infinity =
      ap (units f) (end (hid f) f.emax (2 * f.emax - 1) (2 ^ f.digits) (back f.emax E) two)
      ∙ units-carry f (2 * f.emax - 1) (2 ^ f.digits) P (le_refl (2 ^ f.digits)) (λ h. full (hid f) (2 ^ f.digits) two)
    where
      end : (h e d t : ℕ) → 2 * e ≡ d + 1 → t ≡ 2 * h → (2 * e + 1) * h ≡ d * h + t
      end h e d t n w = omega (arith, ap (λ (z : ℕ). z * h) n)

      full : (h t : ℕ) → t ≡ 2 * h → h ≤ t
      full h t w = omega arith

-- n more in the exponent's field of a normal number is 2 ^ n times the number
pub units-raised : (f : Format) (n r : ℕ) → 0 < f.digits → hid f ≤ r → units f (n * hid f + r) ≡ units f r * 2 ^ n
units-raised f n r P h = by (r / hid f) refl
  where
    digits : r / hid f * hid f + r % hid f ≡ r
    digits = div-add-mod' r (hid f)

    below : r % hid f < hid f
    below = mod-lt r (pow_pos (f.digits - 1))

    by : (y : ℕ) → r / hid f ≡ y → units f (n * hid f + r) ≡ units f r * 2 ^ n
    by zero e = absurd (omega (arith, digits, below, h, ap (λ (z : ℕ). z * hid f) e))
    by (suc y) e =
        let m : ℕ = hid f + r % hid f in
        let is : n * hid f + r ≡ (y + n) * hid f + m = omega (arith, digits, ap (λ (z : ℕ). z * hid f) e) in
        ap (units f) is
        ∙ units-word f (y + n) m P (omega (arith, below, twice_hid f.digits P)) (λ l. omega arith)
        ∙ ap (λ (z : ℕ). m * z) (pow-add 2 y n)
        ∙ sym (mul_assoc m (2 ^ y) (2 ^ n))
        ∙ ap (λ (z : ℕ). z * 2 ^ n) (units-normal f r y e)
