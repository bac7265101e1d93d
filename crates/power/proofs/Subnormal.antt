-- Subnormal numbers in the chain, in whole numbers: an operand times 2 ^ prec is shifted, and a power below the normal numbers is rounded once, a tie to even. Over every width. Assumes nothing.
use Prim.Native.Nat.{ℕ, zero, suc, ◌+◌, ◌-◌, ◌*◌, ◌/◌, ◌%◌, ◌^◌, ◌<◌, ◌≤◌}
use mathlib.Core.Path.{◌≡◌, refl, sym, ap, ◌∙◌}
use mathlib.Core.Bool.{Bool, true, false, cond}
use native.Mathlib.Nat.{zero-mod, le-add_left, le_trans, lt_trans, le_of_eq, lt_of_lt_of_le, lt_of_le_of_lt}
use native.Mathlib.Nat.{mul-one, mul_comm, mul_assoc, mul-le-mul_left, mul-le-mul_right, mul-div-mul_left, div-div-eq-div-mul, div-add-mod', mod-lt}
use native.Mathlib.Omega.{arith}
use native.Mathlib.Decide.{dec_le}
use lib.Dec.{ltb}
use lib.Arith.{digits_div}
use lib.Pow.{pow_pos, pow-add, pow_mono}
use lib.IntN.{ℤ, pos, negsuc, sub_ℕ}
use lib.ListN.{get_or}
use lib.Ieee.{Float, Format, binary32, binary64, prec, emax, hid, top, mul, of_bits, to_bits}
use lib.Ieee.Fits.{two, two-le_pos}
use lib.Ieee.Nearest.{closest}
use borrow.Author.Tests.{lt-ltb, ltb-true, ltb-false, eqb-true, eqb-false}
use Rattle.words.specs.Format.{infinity, units, ours}
use Rattle.words.specs.Rounding.{even, odd, bit, rounded}
use Rattle.words.proofs.Digits.{twice_hid}
use Rattle.words.proofs.Even.{evenly}
use Rattle.words.proofs.Rounded.{rounded-exact}
use Rattle.words.proofs.Units.{units-word}
use Rattle.words.proofs.Words.{infinity-below, infinity-some, below-fits}
use Rattle.scale.specs.Scale.{scaled, power}
use Rattle.scale.proofs.Scaled.{scaled-is, scaled-zero}
use Rattle.scale.proofs.Sums.{rounded-alone}
use Rattle.scale.proofs.Tiny.{scaled-word, digits, by_digits}
use Rattle.power.specs.Width.{Width}
use Rattle.power.specs.Table32.{table32}
use Rattle.power.specs.Table64.{table64}
use Rattle.power.specs.Places.{TWO}
use Rattle.power.specs.Chain.{con}
use Rattle.power.specs.Power.{single, double}

one : (f : Format) → 0 < prec f
one f = two-le_pos (prec f) (two f)

scaled-float : (f : Format) (x : ℕ) (n : ℤ) → x < infinity (ours f) → to_bits f (mul f (of_bits f x) (power n)) ≡ scaled (ours f) x n
scaled-float f x n h = scaled-is f x n (below-fits (ours f) x (lt_trans h (infinity-below (ours f))))

-- ---- the constant TWO is 2 ^ prec, by its word in the table: so it is at both widths
abbrev pub TwoWord : Width → Type 0
TwoWord w = get_or w.table TWO 0 ≡ (emax w.format + prec w.format) * hid w.format

pub two32 : TwoWord single
unfolding table32
two32 = refl

pub two64 : TwoWord double
unfolding table64
two64 = refl

power-word : (f : Format) → of_bits f ((emax f + prec f) * hid f) ≡ power (pos (prec f))
unfolding of_bits
power-word binary32 = refl
power-word binary64 = refl

two-power : (w : Width) → TwoWord w → con w TWO ≡ power (pos (prec w.format))
unfolding con
two-power w e = ap (of_bits w.format) e ∙ power-word w.format

-- ---- m units times 2 ^ prec: m is shifted by s, until it has all the digits, and the exponent's field is what is left of prec
module _ (f : Format) (m s : ℕ) (L : hid f ≤ m * 2 ^ s) (H : m * 2 ^ s < 2 * hid f) where
  abbrev n : ℕ
  n = m * 2 ^ s

  full : 2 ^ prec f ≡ 2 * hid f
  full = twice_hid (prec f) (one f)

  some : 0 < m
  some = by m L
    where
      by : (m : ℕ) → hid f ≤ m * 2 ^ s → 0 < m
      by zero l = absurd (omega (arith, l, pow_pos (prec f - 1)))
      by (suc m) l = omega arith

  at_most : s ≤ prec f
  at_most = elim (dec_le s (prec f)) [
    | yes l ↦ l
    | no l ↦ absurd (never (2 ^ prec f) (2 ^ s) (2 * hid f) n full (pow_mono {i = prec f} {j = s} (omega arith)) (mul-le-mul_right (2 ^ s) some) H)
  ]
    where
      never : (a b c d : ℕ) → a ≡ c → a ≤ b → 1 * b ≤ d → d < c → ⊥
      never a b c d e l k h = omega arith

  grown : m ≤ n
  grown = le_trans (le_of_eq (sym (mul-one m))) (mul-le-mul_left m (pow_pos s))

  small : n < 2 ^ prec f
  small = lt_of_lt_of_le H (le_of_eq (sym full))

  finite : (prec f - s) * hid f + n < infinity (ours f)
  finite = lt_of_lt_of_le (below (prec f - s) (hid f) n H) (mul-le-mul_right (hid f) (room f s))
    where
      below : (k h d : ℕ) → d < 2 * h → k * h + d < (k + 2) * h
      below k h d l = omega arith

      room : (f : Format) (s : ℕ) → prec f - s + 2 ≤ 2 * emax f + 1
      room binary32 s = omega arith
      room binary64 s = omega arith

  units-are : units (ours f) ((prec f - s) * hid f + n) ≡ m * 2 ^ prec f
  units-are =
      units-word (ours f) (prec f - s) n (one f) small (λ h. L)
      ∙ mul_assoc m (2 ^ s) (2 ^ (prec f - s))
      ∙ ap (λ (z : ℕ). m * z) (sym (pow-add 2 s (prec f - s)) ∙ ap (λ (z : ℕ). 2 ^ z) (back s (prec f) at_most))
    where
      back : (s p : ℕ) → s ≤ p → s + (p - s) ≡ p
      back s p l = omega arith

  shifted : to_bits f (mul f (of_bits f m) (power (pos (prec f)))) ≡ (prec f - s) * hid f + m * 2 ^ s
  shifted =
      scaled-float f m (pos (prec f)) (lt_of_le_of_lt (le_trans grown (le-add_left n ((prec f - s) * hid f))) finite)
      ∙ scaled-word f m (lt_of_le_of_lt grown small) (pos (prec f))
      ∙ rounded-exact (ours f) ((prec f - s) * hid f + n) (m * 2 ^ prec f) 1 (one f) finite (omega arith) (mul-one _ ∙ units-are)

module _ (w : Width) (e : TwoWord w) where
  pub times-two : (m s : ℕ) → hid w.format ≤ m * 2 ^ s → m * 2 ^ s < 2 * hid w.format
      → to_bits w.format (mul w.format (of_bits w.format m) (con w TWO)) ≡ (prec w.format - s) * hid w.format + m * 2 ^ s
  times-two m s L H = ap (λ (v : Float). to_bits w.format (mul w.format (of_bits w.format m) v)) (two-power w e) ∙ shifted w.format m s L H

  pub zero-times-two : to_bits w.format (mul w.format (of_bits w.format 0) (con w TWO)) ≡ 0
  zero-times-two =
      let f = w.format in
      ap (λ (v : Float). to_bits f (mul f (of_bits f 0) v)) (two-power w e)
      ∙ scaled-float f 0 (pos (prec f)) (infinity-some (ours f))
      ∙ scaled-zero (ours f) 0 (pos (prec f)) (one f) (below-fits (ours f) 0 (lt_trans (infinity-some (ours f)) (infinity-below (ours f)))) (zero-mod (top f))

-- ---- n / 2v rounded to nearest, a tie to even: v - 1 is added, and 1 more where the whole part is odd
half-even : (n u v : ℕ) → 0 < v → u ≡ 2 * v → closest n u ≡ (n + (v - 1 + n / u % 2)) / u
half-even n u v P e = sym (evenly n u U) ∙ by (odd q) (odd k) (ltb 0 r) refl refl refl ∙ ap (λ (z : ℕ). (n + (v - 1 + z % 2)) / u) half
  where
    U : 0 < u
    U = omega arith

    k : ℕ
    k = 2 * n / u

    r : ℕ
    r = 2 * n % u

    q : ℕ
    q = k / 2

    half : q ≡ n / u
    half = div-div-eq-div-mul (2 * n) u 2 ∙ ap (λ (z : ℕ). 2 * n / z) (mul_comm u 2) ∙ mul-div-mul_left n u (omega arith)

    at : (a t : ℕ) → t < u → n + (v - 1 + q % 2) ≡ a * u + t → a ≡ (n + (v - 1 + q % 2)) / u
    at a t l i = sym (ap (λ (z : ℕ). z / u) i ∙ digits_div a l)

    sum : k * u + r ≡ 2 * n
    sum = div-add-mod' (2 * n) u

    rest : r < u
    rest = mod-lt (2 * n) U

    even_is : (k : ℕ) → (k % 2 ≡ 1 → ⊥) → k ≡ 2 * (k / 2)
    even_is k h = omega arith

    odd_is : (k : ℕ) → k % 2 ≡ 1 → k ≡ 2 * (k / 2) + 1
    odd_is k h = omega arith

    below : (k q r b : ℕ) → k ≡ 2 * q → k * u + r ≡ 2 * n → n + (v - 1 + b) ≡ q * u + (r / 2 + (v - 1 + b))
    below k q r b i h = omega (arith, h, ap (λ (z : ℕ). z * u) i)

    above : (k q r b : ℕ) → k ≡ 2 * q + 1 → k * u + r ≡ 2 * n → 0 < r → n + (v - 1 + b) ≡ (q + 1) * u + (r / 2 - 1 + b)
    above k q r b i h l = omega (arith, h, l, ap (λ (z : ℕ). z * u) i)

    tie_up : (k q r b : ℕ) → k ≡ 2 * q + 1 → k * u + r ≡ 2 * n → r ≤ 0 → b ≡ 1 → n + (v - 1 + b) ≡ (q + 1) * u + 0
    tie_up k q r b i h l o = omega (arith, h, l, o, ap (λ (z : ℕ). z * u) i)

    tie_down : (k q r b : ℕ) → k ≡ 2 * q + 1 → k * u + r ≡ 2 * n → r ≤ 0 → b ≡ 0 → n + (v - 1 + b) ≡ q * u + (u - 1)
    tie_down k q r b i h l o = omega (arith, h, l, o, ap (λ (z : ℕ). z * u) i)

    less : (r b : ℕ) → b < 2 → r < u → r / 2 + (v - 1 + b) < u
    less r b l h = omega arith

    less' : (r b : ℕ) → b < 2 → r < u → r / 2 - 1 + b < u
    less' r b l h = omega arith

    none : (b : ℕ) → b < 2 → (b ≡ 1 → ⊥) → b ≡ 0
    none b l h = omega arith

    flat : (q : ℕ) → q + 0 ≡ q
    flat q = omega arith

    bound : q % 2 < 2
    bound = mod-lt q (omega arith)

    by : (a b c : Bool) → odd q ≡ a → odd k ≡ b → ltb 0 r ≡ c → q + bit (even a b c) ≡ (n + (v - 1 + q % 2)) / u
    by a false c x y z = flat q ∙ at q (r / 2 + (v - 1 + q % 2)) (less r (q % 2) bound rest) (below k q r (q % 2) (even_is k (eqb-false (k % 2) 1 y)) sum)
    by a true true x y z = at (q + 1) (r / 2 - 1 + q % 2) (less' r (q % 2) bound rest) (above k q r (q % 2) (odd_is k (eqb-true (k % 2) 1 y)) sum (ltb-true 0 r z))
    by true true false x y z = at (q + 1) 0 U (tie_up k q r (q % 2) (odd_is k (eqb-true (k % 2) 1 y)) sum (ltb-false 0 r z) (eqb-true (q % 2) 1 x))
    by false true false x y z =
        flat q ∙ at q (u - 1) (omega arith) (tie_down k q r (q % 2) (odd_is k (eqb-true (k % 2) 1 y)) sum (ltb-false 0 r z) (none (q % 2) bound (eqb-false (q % 2) 1 x)))

-- ---- a normal number's word x times 2 ^ (e - whole), where s of its digits fall below the last place of a word
subℕ-less : (a d : ℕ) → sub_ℕ a (a + suc d) ≡ negsuc d
subℕ-less a d = ap (λ (b : Bool). cond b (negsuc (a + suc d - suc a)) (pos (a - (a + suc d)))) (lt-ltb a (a + suc d) (omega arith)) ∙ ap negsuc (omega arith)

module _ (f : Format) (x s : ℕ) (S : 1 ≤ s) where
  abbrev m : ℕ
  m = hid f + x % hid f

  twice : 2 ^ s ≡ 2 * 2 ^ (s - 1)
  twice = twice_hid s S

  below : m < hid f * 2 ^ s
  below = by (hid f) (x % hid f) (2 ^ (s - 1)) (2 ^ s) (mod-lt x (pow_pos (prec f - 1))) twice (mul-le-mul_left (hid f) (pow_pos (s - 1)))
    where
      by : (h t v u : ℕ) → t < h → u ≡ 2 * v → h * 1 ≤ h * v → h + t < h * u
      by h t v u l e k = omega (arith, l, k, ap (λ (z : ℕ). h * z) e)

  closest-is : closest m (2 ^ s) ≡ (m + (2 ^ (s - 1) - 1 + m / 2 ^ s % 2)) / 2 ^ s
  closest-is = half-even m (2 ^ s) (2 ^ (s - 1)) (pow_pos (s - 1)) twice

  module _ (e : ℕ) (N : hid f ≤ x) (I : x < infinity (ours f)) (E : x / hid f + e + s ≡ 4 * (emax f + 1) + 1) where
    is-closest : to_bits f (mul f (of_bits f x) (power (sub_ℕ e (4 * (emax f + 1))))) ≡ closest m (2 ^ s)
    is-closest = by (x / hid f) refl
      where
        exponent : (y e s o : ℕ) → 1 ≤ s → suc y + e + s ≡ o + 1 → o ≡ e + suc (y + (s - 1))
        exponent y e s o l h = omega arith

        places : (y d : ℕ) → suc (y + d) ≡ y + suc d
        places y d = omega arith

        back : (s : ℕ) → 1 ≤ s → suc (s - 1) ≡ s
        back s l = omega arith

        by : (y : ℕ) → x / hid f ≡ y → to_bits f (mul f (of_bits f x) (power (sub_ℕ e (4 * (emax f + 1))))) ≡ closest m (2 ^ s)
        by zero q = absurd (never (x / hid f) (hid f) (x % hid f) x q (div-add-mod' x (hid f)) (mod-lt x (pow_pos (prec f - 1))) N)
          where
            never : (y h t x : ℕ) → y ≡ 0 → y * h + t ≡ x → t < h → h ≤ x → ⊥
            never y h t x e i l k = omega (arith, i, ap (λ (z : ℕ). z * h) e)
        by (suc y) q =
            let d = s - 1 in
            let o = 4 * (emax f + 1) in
            let w : o ≡ e + suc (y + d) = exponent y e s o S (ap (λ (z : ℕ). z + e + s) (sym q) ∙ E) in
            scaled-float f x (sub_ℕ e o) I
            ∙ ap (scaled (ours f) x) (ap (sub_ℕ e) w ∙ subℕ-less e (y + d))
            ∙ sym (by_digits f x y I q (negsuc (y + d)))
            ∙ ap (scaled (ours f) m) (ap (sub_ℕ y) (places y d) ∙ subℕ-less y d)
            ∙ scaled-word f m (digits f x y I q) (negsuc d)
            ∙ ap (λ (z : ℕ). rounded (ours f) z (2 ^ suc d)) (mul-one m)
            ∙ ap (λ (z : ℕ). rounded (ours f) m (2 ^ z)) (back s S)
            ∙ rounded-alone f m (2 ^ s) (pow_pos s) below

-- the exact product is (hid + x % hid) / 2 ^ s units, with s as large as it likes: the word is that, to nearest, a tie to even
pub lowered : (f : Format) (x e s : ℕ) → hid f ≤ x → x < infinity (ours f) → 1 ≤ s → x / hid f + e + s ≡ 4 * (emax f + 1) + 1
    → to_bits f (mul f (of_bits f x) (power (sub_ℕ e (4 * (emax f + 1))))) ≡ (hid f + x % hid f + (2 ^ (s - 1) - 1 + (hid f + x % hid f) / 2 ^ s % 2)) / 2 ^ s
lowered f x e s N I S E = is-closest f x s S e N I E ∙ closest-is f x s S
