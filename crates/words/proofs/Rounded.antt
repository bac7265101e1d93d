-- What is kept of num / den units, and what it rounds to: equal fractions alike, nothing to nothing, never past infinity. Over any format. Assumes nothing.
use mathlib.Core.Path.{◌≡◌, refl, sym, ap, ◌∙◌, subst}
use Prim.Native.Nat.{ℕ, zero, suc, ◌+◌, ◌-◌, ◌*◌, ◌/◌, ◌%◌, ◌^◌, ◌≤◌, ◌<◌, min}
use native.Mathlib.Nat.{zero-div, zero-mod, le_trans, le_of_eq, mul-one, mul_comm, mul-div-mul_left, div-div-eq-div-mul, le-div_iff_mul-le, div-add-mod', mod-lt}
use native.Mathlib.Omega.{arith}
use mathlib.Core.Bool.{Bool, true, false}
use lib.Dec.{eqb}
use lib.Pow.{pow-add, pow_pos}
use lib.Ieee.{size}
use lib.Ieee.Digits.{size_reaches}
use lib.Ieee.Fits.{kept-lt}
use Rattle.words.specs.Format.{Format, hid, infinity, units, units_at}
use Rattle.words.specs.Rounding.{Rule, even, odd, bit, most, places, kept, word_at, rounded_at, rounded}
use Rattle.words.proofs.Words.{infinity-some}
use Rattle.words.proofs.Digits.{twice_hid}
use Rattle.words.proofs.Units.{units-sub, units-normal}
use Rattle.words.proofs.Cut.{cut-same, cut_left}

bit_le : (b : Bool) → bit b ≤ 1
bit_le true = omega arith
bit_le false = omega arith

most-le : (r : Rule) (f : Format) → most r f ≤ infinity f
most-le r f = omega (arith, infinity-some f, bit_le (r true true true))

pub rounded-le : (r : Rule) (f : Format) (k q : ℕ) (more : Bool) → rounded_at r f k q more ≤ infinity f
unfolding rounded_at
rounded-le r f k q more = omega (arith, most-le r f)

-- ---- equal fractions round alike
pub rounded-same : (f : Format) (a b c d : ℕ) → 0 < b → 0 < d → a * d ≡ c * b → rounded f a b ≡ rounded f c d
rounded-same f a b c d B D e = let v = cut-same f a b c d B D e in sym (λ i. rounded_at even f (v.places-are i) (v.kept-is i) (v.rest-is i))

-- ---- nothing rounds to nothing: 0 units, however they are written
pub units-nothing : (f : Format) → units f 0 ≡ 0
unfolding units
units-nothing f = (λ i. units_at (hid f) (zero-div (hid f) i) (zero-mod (hid f) i))

pub rounded-nothing : (f : Format) (n den : ℕ) → 0 < f.digits → 0 < den → rounded f (units f 0 * n) den ≡ 0
unfolding rounded_at word_at
rounded-nothing f n den P D =
    let v = cut_left f 0 0 P (pow_pos f.digits) (λ h. absurd (none h)) in
    rounded-same f (units f 0 * n) den (0 * 2 ^ 0) 1 D (omega arith) (nothing (units f 0) n den (units-nothing f))
    ∙ sym (λ i. rounded_at even f (v.places-are i) (v.kept-is i) (v.rest-is i))
    ∙ least (hid f) (most even f)
  where
    none : 0 < 0 → ⊥
    none h = omega arith

    nothing : (u n d : ℕ) → u ≡ 0 → u * n * 1 ≡ 0 * d
    nothing u n d e = omega (arith, ap (λ (z : ℕ). z * n) e)

    least : (h m : ℕ) → min (0 * h + 0 + 0) m ≡ 0
    least h m = omega arith

-- ---- half of what is kept is the whole part
module _ (f : Format) (num den : ℕ) (P : 0 < f.digits) (D : 0 < den) where
  half-kept : kept f num den / 2 ≡ num / (den * 2 ^ places f num den)
  half-kept =
      let u = den * 2 ^ places f num den in
      div-div-eq-div-mul (2 * num) u 2 ∙ ap (λ (z : ℕ). 2 * num / z) (mul_comm u 2) ∙ mul-div-mul_left num u (omega arith)

  pub half-below : kept f num den / 2 < 2 ^ f.digits
  half-below = subst (λ (z : ℕ). z < 2 ^ f.digits) (div-div-eq-div-mul num den (2 ^ places f num den) ∙ sym half-kept) (kept-lt f.digits (num / den))

  pub half_full : 0 < places f num den → hid f ≤ kept f num den / 2
  half_full K =
      let k = places f num den in
      let p = f.digits in
      let a : 2 ^ (p - 1) * 2 ^ k ≤ num / den = le_trans (le_of_eq (sym (pow-add 2 (p - 1) k))) (size_reaches (num / den) (p - 1 + k) (all_in_use (size (num / den)) p P K)) in
      subst (λ (z : ℕ). hid f ≤ z) (div-div-eq-div-mul num den (2 ^ k) ∙ sym half-kept) ((le-div_iff_mul-le (pow_pos k)).1 a)
    where
      all_in_use : (z p : ℕ) → 0 < p → 0 < z - p → p - 1 + (z - p) < z
      all_in_use z p P h = omega arith

-- ---- a finite number of the format is rounded to itself, however its units are written
pub rounded-exact : (f : Format) (w num den : ℕ) → 0 < f.digits → w < infinity f → 0 < den → units f w * den ≡ num → rounded f num den ≡ w
unfolding rounded_at word_at
rounded-exact f w num den P B D e = by (w / hid f) refl
  where
    h : ℕ
    h = hid f

    digits : w / h * h + w % h ≡ w
    digits = div-add-mod' w h

    below : w % h < h
    below = mod-lt w (pow_pos (f.digits - 1))

    -- m digits with k places behind them, where k * h + m is the word
    at : (k m : ℕ) → k * h + m ≡ w → m < 2 ^ f.digits → (0 < k → h ≤ m) → units f w ≡ m * 2 ^ k → rounded f num den ≡ w
    at k m is M K u =
        let v = cut_left f m k P M K in
        rounded-same f num den (m * 2 ^ k) 1 D (omega arith) (ap (λ (z : ℕ). z * 1) (sym e ∙ ap (λ (z : ℕ). z * den) u) ∙ mul-one (m * 2 ^ k * den))
        ∙ sym (λ i. rounded_at even f (v.places-are i) (v.kept-is i) (v.rest-is i))
        ∙ whole (2 * m) (half m) (even-not m)
      where
        half : (m : ℕ) → 2 * m / 2 ≡ m
        half m = omega arith

        even-not : (m : ℕ) → eqb (2 * m % 2) 1 ≡ false
        even-not m = ap (λ (z : ℕ). eqb z 1) (rem m)
          where
            rem : (m : ℕ) → 2 * m % 2 ≡ 0
            rem m = omega arith

        whole : (q : ℕ) → q / 2 ≡ m → odd q ≡ false → min (k * h + q / 2 + bit (even (odd (q / 2)) (odd q) false)) (most even f) ≡ w
        whole q a b = ap (λ (t : Bool). min (k * h + q / 2 + bit (even (odd (q / 2)) t false)) (most even f)) b ∙ least (k * h + q / 2) (most even f) (ap (λ (z : ℕ). k * h + z) a ∙ is) (omega (arith, B))
          where
            least : (n o : ℕ) → n ≡ w → w ≤ o → min (n + 0) o ≡ w
            least n o p l = omega arith

    by : (y : ℕ) → w / h ≡ y → rounded f num den ≡ w
    by zero z = at 0 (w % h) (omega (arith, digits, ap (λ (k : ℕ). k * h) z)) (omega (arith, below, twice_hid f.digits P)) (λ l. absurd (none l)) (sym (units-sub f w z) ∙ sym (mul-one (w % h)))
      where
        none : 0 < 0 → ⊥
        none l = omega arith
    by (suc y) z = at y (h + w % h) (omega (arith, digits, ap (λ (k : ℕ). k * h) z)) (omega (arith, below, twice_hid f.digits P)) (λ l. omega arith) (sym (units-normal f w y z))
