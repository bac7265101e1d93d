-- The high word of a float in places, q * (g * o) + (Y * g + s): sign q, field Y, high digits s, g = 2 ^ high; and its nearest whole number in them.
use mathlib.Core.Path.{◌≡◌, sym, ap, ◌∙◌}
use Prim.Native.Nat.{ℕ, zero, suc, ◌+◌, ◌-◌, ◌*◌, ◌/◌, ◌%◌, ◌^◌, ◌≤◌, ◌<◌}
use native.Mathlib.Nat.{le_of_eq, lt_of_lt_of_le, mul-le-mul_right}
use native.Mathlib.Omega.{arith}
use lib.Pow.{pow-add}
use lib.Ieee.{Format, prec, emax, hid, ones, top, of_bits}
use Rattle.words.specs.Format.{units_at}
use Rattle.power.specs.Width.{Width, Nearest}
use Rattle.power.specs.Chain.{nearest_of}
use Rattle.bounds.proofs.Within.{U}
use Rattle.bounds.proofs.Words.{quo, rem}
use Rattle.chain.proofs.Known.{Known}
use Rattle.chain.proofs.Sizes.{unit-half, emax-least}

-- two places: s < g below a field Y < o
pub in-places : (Y o g s : ℕ) → s < g → Y < o → Y * g + s < o * g
in-places Y o g s a b = omega (arith, a, mul-le-mul_right g b)

module _ (w : Width) (K : Known w) where
  abbrev f : Format
  f = w.format

  abbrev B : ℕ
  B = 2 ^ w.below

  abbrev o : ℕ
  o = suc (ones w.format)

  abbrev g : ℕ
  g = 2 ^ K.high

  -- ---- the chain's definition, by these places: n has a half added already
  pub cut_of : ℕ → ℕ → ℕ → ℕ → Nearest
  cut_of h t D n =
      let d = D - (n % t / h - emax f) in
      record { size = (h + n % h) / 2 ^ d; float = of_bits f (n / 2 ^ d * 2 ^ d * 2 ^ w.below) }

  pub nearest-cut : (j : ℕ) → nearest_of w j ≡ cut_of g (g * o) K.high (j + g / 2 ^ (j % (g * o) / g - (emax f - 1)))
  unfolding nearest_of cut_of
  nearest-cut j =
      ap (λ (h : ℕ). cut_of h (top f / B) (prec f - 1 - w.below) (j + h / 2 ^ (j % (top f / B) / h - (emax f - 1)))) K.high_is
      ∙ ap (λ (t : ℕ). cut_of g t (prec f - 1 - w.below) (j + g / 2 ^ (j % t / g - (emax f - 1)))) (K.top-hid ∙ ap (λ (h : ℕ). h * o) K.high_is)
      ∙ ap (λ (D : ℕ). cut_of g (g * o) D (j + g / 2 ^ (j % (g * o) / g - (emax f - 1)))) K.high-digits

  -- n has the digits s = c * A + e; cut below the digit A, the size is K + c and the float's word has the digits c * A
  pub cut-is : (n q Y s d c e A k : ℕ) → n ≡ q * (g * o) + (Y * g + s) → s < g → Y < o → K.high - (Y - emax f) ≡ d → 2 ^ d ≡ A
      → g ≡ k * A → s ≡ c * A + e → e < A
      → ((cut_of g (g * o) K.high n).size ≡ k + c) × ((cut_of g (g * o) K.high n).float ≡ of_bits f ((q * (g * o) + (Y * g + c * A)) * B))
  unfolding cut_of
  cut-is n q Y s d c e A k n-is sg Yo d-eq A-is g-is s-is eA =
      let big : Y * g + s < g * o = lt_of_lt_of_le (in-places Y o g s sg Yo) (le_of_eq (swap o g)) in
      let m : n % (g * o) / g ≡ Y = ap (λ (z : ℕ). z % (g * o) / g) n-is ∙ ap (λ (z : ℕ). z / g) (rem q (g * o) (Y * g + s) big) ∙ quo Y g s sg in
      let dd : 2 ^ (K.high - (n % (g * o) / g - emax f)) ≡ A = ap (λ (z : ℕ). 2 ^ (K.high - (z - emax f))) m ∙ ap (λ (z : ℕ). 2 ^ z) d-eq ∙ A-is in
      let r : n % g ≡ s = ap (λ (z : ℕ). z % g) (n-is ∙ flat q g o Y s) ∙ rem (q * o + Y) g s sg in (
        ap (λ (z : ℕ). (g + n % g) / z) dd ∙ ap (λ (z : ℕ). (g + z) / A) r ∙ ap (λ (z : ℕ). z / A) (sizes g k A s c e g-is s-is) ∙ quo (k + c) A e eA,
        ap (λ (z : ℕ). of_bits f (n / z * z * B)) dd
            ∙ ap (λ (z : ℕ). of_bits f (z * A * B)) (ap (λ (z : ℕ). z / A) (n-is ∙ all q g o Y s c e A k g-is s-is) ∙ quo ((q * o + Y) * k + c) A e eA)
            ∙ ap (λ (z : ℕ). of_bits f (z * B)) (back q g o Y c A k g-is),
      )
    where
      swap : (a b : ℕ) → a * b ≡ b * a
      swap a b = omega arith

      flat : (q g o Y s : ℕ) → q * (g * o) + (Y * g + s) ≡ (q * o + Y) * g + s
      flat q g o Y s = omega arith

      sizes : (g K A s c e : ℕ) → g ≡ K * A → s ≡ c * A + e → g + s ≡ (K + c) * A + e
      sizes g K A s c e a b = omega arith

      all : (q g o Y s c e A K : ℕ) → g ≡ K * A → s ≡ c * A + e → q * (g * o) + (Y * g + s) ≡ ((q * o + Y) * K + c) * A + e
      all q g o Y s c e A K a b = omega (arith, b, ap (λ (z : ℕ). (q * o + Y) * z) a)

      back : (q g o Y c A K : ℕ) → g ≡ K * A → ((q * o + Y) * K + c) * A ≡ q * (g * o) + (Y * g + c * A)
      back q g o Y c A K a = omega (arith, ap (λ (z : ℕ). (q * o + Y) * z) a)

  -- ---- the whole word's places from the high word's
  pub hid-is : g * B ≡ hid f
  hid-is = ap (λ (h : ℕ). h * B) (sym K.high_is) ∙ K.hid-high

  pub whole_word : (q Y v lo : ℕ) → (q * (g * o) + (Y * g + v)) * B + lo ≡ q * top f + (Y * hid f + (v * B + lo))
  whole_word q Y v lo = fin q Y v lo g o B (hid f) hid-is
    where
      fin : (q Y v lo g o b h : ℕ) → g * b ≡ h → (q * (g * o) + (Y * g + v)) * b + lo ≡ q * (h * o) + (Y * h + (v * b + lo))
      fin q Y v lo g o b h e = omega (arith, ap (λ (z : ℕ). q * (z * o)) e, ap (λ (z : ℕ). Y * z) e)

  pub in-hid : (v lo : ℕ) → v < g → lo < B → v * B + lo < hid f
  in-hid v lo a b = lt_of_lt_of_le (in-places v g B lo b a) (le_of_eq hid-is)

  -- ---- sizes: at a field of emax - 1 + k, and a unit by the digit A = g / 2 ^ k
  pub field-size : (k t F : ℕ) → F ≡ emax f - 1 + k → units_at (hid f) F t ≡ (hid f + t) * (2 ^ (emax f - 2) * 2 ^ k)
  field-size k t zero e = absurd (no (emax f) k (emax-least f) e)
    where
      no : (m k : ℕ) → 2 ≤ m → 0 ≡ m - 1 + k → ⊥
      no m k a b = omega arith
  field-size k t (suc F) e = ap (λ (z : ℕ). (hid f + t) * z) (ap (λ (z : ℕ). 2 ^ z) (less (emax f) k F (emax-least f) e) ∙ pow-add 2 (emax f - 2) k)
    where
      less : (m k F : ℕ) → 2 ≤ m → suc F ≡ m - 1 + k → F ≡ m - 2 + k
      less m k F a b = omega arith

  pub unit-digit : (A k : ℕ) → g ≡ k * A → U f ≡ 2 * A * B * (2 ^ (emax f - 2) * k)
  unit-digit A k e = unit-half f ∙ fin (hid f) g B A k (2 ^ (emax f - 2)) hid-is e
    where
      fin : (h g b A k q : ℕ) → g * b ≡ h → g ≡ k * A → 2 * h * q ≡ 2 * A * b * (q * k)
      fin h g b A k q c d = ap (λ (z : ℕ). 2 * z * q) (sym c ∙ ap (λ (z : ℕ). z * b) d) ∙ re k A b q
        where
          re : (k A b q : ℕ) → 2 * (k * A * b) * q ≡ 2 * A * b * (q * k)
          re k A b q = omega arith
