-- `rounded` is IEEE 754's rounding to nearest, ties to even, and no other word meets what that asks. Over any format.
-- The words' units rise; num / den units lie at or above those of one word and below those of the next, and the rule takes the one or the other by the middle (Ties), which distances say too (Grid). Assumes nothing.
use mathlib.Core.Path.{◌≡◌, sym, ap, ◌∙◌, subst}
use Prim.Native.Nat.{ℕ, suc, ◌+◌, ◌-◌, ◌*◌, ◌/◌, ◌%◌, ◌^◌, ◌≤◌, ◌<◌, min}
use native.Mathlib.Nat.{le_refl, lt_of_not-le, div-mul-le_self, div-add-mod', mod-lt, mul-pos, mul-lt-mul_of_pos_right}
use native.Mathlib.Omega.{arith}
use native.Mathlib.Decide.{dec_le}
use borrow.Author.Tests.{ltb-true, ltb-false}
use lib.Pow.{pow-add, pow_pos}
use lib.Ieee.Fits.{two-le_pos}
use Rattle.words.specs.Format.{Format, hid, infinity, units}
use Rattle.words.specs.Rounding.{even, places, kept, rest, word_at, rounded_at, rounded}
use Rattle.words.specs.Nearest.{overflow_from, Nearest}
use Rattle.words.proofs.Words.{infinity-some}
use Rattle.words.proofs.Units.{units-step, units-largest, units-infinity}
use Rattle.words.proofs.Rounded.{half-below, half_full}
use Rattle.words.proofs.Grid.{Between, Closest, between-closest, between-past, between-before, closest-unique}
use Rattle.words.proofs.Ties.{units-floor, units-next, hid-even, word-parity, cut-between}

-- ---- where infinity begins: half a spacing above the largest finite number, and so in the middle between it and what would be the next
module _ (f : Format) (P : 0 < f.digits) (E : 1 ≤ f.emax) where
  ones-twice : 2 ^ (f.digits + 1) - 1 ≡ (2 ^ f.digits - 1) + 2 ^ f.digits
  ones-twice = go (2 ^ (f.digits + 1)) (2 ^ f.digits) (pow_pos f.digits) (pow-add 2 f.digits 1)
    where
      go : (w t : ℕ) → 0 < t → w ≡ t * 2 → w - 1 ≡ (t - 1) + t
      go w t T e = omega arith

  pub overflow-middle : overflow_from f ≡ units f (infinity f - 1) + units f (infinity f)
  overflow-middle = go (2 ^ (f.digits + 1) - 1) (2 ^ f.digits - 1) (2 ^ f.digits) (2 ^ (2 * f.emax - 1)) ones-twice ∙ sym (λ i. units-largest f P E i + units-infinity f P E i)
    where
      go : (c m t s : ℕ) → c ≡ m + t → c * s ≡ m * s + t * s
      go c m t s e = omega (arith, ap (λ (z : ℕ). z * s) e)

  pub overflow-half : overflow_from f ≡ 2 * units f (infinity f - 1) + 2 ^ (2 * f.emax - 1)
  overflow-half =
      go (2 ^ (f.digits + 1) - 1) (2 ^ f.digits - 1) (2 ^ f.digits) (2 ^ (2 * f.emax - 1)) ones-twice (whole (2 ^ f.digits) (pow_pos f.digits))
      ∙ sym (ap (λ (z : ℕ). 2 * z + 2 ^ (2 * f.emax - 1)) (units-largest f P E))
    where
      whole : (t : ℕ) → 0 < t → t ≡ (t - 1) + 1
      whole t h = omega arith

      go : (c m t s : ℕ) → c ≡ m + t → t ≡ m + 1 → c * s ≡ 2 * (m * s) + s
      go c m t s e g = omega (arith, ap (λ (z : ℕ). z * s) e, ap (λ (z : ℕ). z * s) g)

-- ---- words' units, over den
abbrev scaled : Format → ℕ → ℕ → ℕ
scaled f den w = units f w * den

scaled-step : (f : Format) (den : ℕ) → 0 < f.digits → 0 < den → (w : ℕ) → scaled f den w < scaled f den (suc w)
scaled-step f den P D w = mul-lt-mul_of_pos_right (units-step f P w) D

rounded-capped : (f : Format) (num den : ℕ) → rounded f num den ≡ min (word_at even f (places f num den) (kept f num den) (rest f num den)) (infinity f)
unfolding rounded_at
rounded-capped f num den = ap (λ (z : ℕ). min (word_at even f (places f num den) (kept f num den) (rest f num den)) z) (whole (infinity f) (infinity-some f))
  where
    whole : (n : ℕ) → 0 < n → n - 1 + 1 ≡ n
    whole n h = omega arith

-- ---- the word, its exponent without limit, is at or between the middles around it
module _ (f : Format) (num den : ℕ) (P : 2 ≤ f.digits) (D : 0 < den) where
  abbrev k : ℕ
  k = places f num den

  abbrev q : ℕ
  q = kept f num den

  abbrev floor : ℕ
  floor = k * hid f + q / 2

  P1 : 0 < f.digits
  P1 = two-le_pos f.digits P

  over-den : (n s d m : ℕ) → m ≡ n * s → m * d ≡ n * (d * s)
  over-den n s d m e = omega (arith, ap (λ (z : ℕ). z * d) e)

  word-between : Between (scaled f den) (λ (m : ℕ). m) (2 * num) (word_at even f k q (rest f num den))
  unfolding word_at
  word-between =
      cut-between (scaled f den) (λ (m : ℕ). m) (scaled-step f den P1 D) (λ w. le_refl (suc w)) (2 * num) floor (den * 2 ^ k) q
      (over-den (q / 2) (2 ^ k) den (units f floor) (units-floor f k (q / 2) P1 (half-below f num den P1 D) (half_full f num den P1 D)))
      (over-den (suc (q / 2)) (2 ^ k) den (units f (suc floor)) (units-next f k (q / 2) P1 (half-below f num den P1 D) (half_full f num den P1 D)))
      (word-parity f k (q / 2) P)
      (div-mul-le_self (2 * num) (den * 2 ^ k))
      (past (2 * num) q (den * 2 ^ k) (2 * num % (den * 2 ^ k)) sum (mod-lt (2 * num) (mul-pos D (pow_pos k))))
      (rest f num den)
      (λ e. left (2 * num) (q * (den * 2 ^ k)) (2 * num % (den * 2 ^ k)) sum (ltb-true 0 (2 * num % (den * 2 ^ k)) e))
      (λ e. none (2 * num) (q * (den * 2 ^ k)) (2 * num % (den * 2 ^ k)) sum (ltb-false 0 (2 * num % (den * 2 ^ k)) e))
    where
      sum : q * (den * 2 ^ k) + 2 * num % (den * 2 ^ k) ≡ 2 * num
      sum = div-add-mod' (2 * num) (den * 2 ^ k)

      past : (n c d r : ℕ) → c * d + r ≡ n → r < d → n < suc c * d
      past n c d r e l = omega arith

      left : (n c r : ℕ) → c + r ≡ n → 0 < r → c < n
      left n c r e l = omega arith

      none : (n c r : ℕ) → c + r ≡ n → r ≤ 0 → c ≡ n
      none n c r e l = omega arith

-- ---- the laws. An exponent's range of at least 1 is asked because without it no number is normal, and the spacing below infinity is not what IEEE 754's formula says; two digits because with one only the exponent's field tells even from odd.
pub rounded-is-nearest : (f : Format) (num den : ℕ) → 2 ≤ f.digits → 1 ≤ f.emax → 0 < den → Nearest f num den (rounded f num den)
rounded-is-nearest f num den P E D = record {
  infinite = λ h. is ∙ capped word (infinity f) (between-past (scaled f den) step num word end between even (subst (λ (z : ℕ). z ≤ 2 * num) middle h));
  finite = λ h. subst (λ (z : ℕ). z < infinity f) (sym is) (free word (infinity f) (infinity-some f) (between-before (scaled f den) step num word end between even (subst (λ (z : ℕ). 2 * num < z) middle h)));
  none-nearer = λ h w W. (closest-is h).none-nearer w W;
  ties-even = λ h w W. (closest-is h).ties-even w W;
}
  where
    P1 : 0 < f.digits
    P1 = two-le_pos f.digits P

    word : ℕ
    word = word_at even f (places f num den) (kept f num den) (rest f num den)

    end : ℕ
    end = infinity f - 1

    is : rounded f num den ≡ min word (infinity f)
    is = rounded-capped f num den

    between : Between (scaled f den) (λ (m : ℕ). m) (2 * num) word
    between = word-between f num den P D

    step : (w : ℕ) → scaled f den w < scaled f den (suc w)
    step = scaled-step f den P1 D

    next : suc end ≡ infinity f
    next = whole (infinity f) (infinity-some f)
      where
        whole : (n : ℕ) → 0 < n → suc (n - 1) ≡ n
        whole n h = omega arith

    even : suc end % 2 ≡ 0
    even = ap (λ (z : ℕ). z % 2) next ∙ go (2 * f.emax + 1) (hid f) (2 ^ (f.digits - 1 - 1)) (hid-even f P)
      where
        go : (o h j : ℕ) → h ≡ 2 * j → o * h % 2 ≡ 0
        go o h j e = omega (arith, ap (λ (z : ℕ). o * z) e)

    middle : overflow_from f * den ≡ scaled f den end + scaled f den (suc end)
    middle = ap (λ (z : ℕ). z * den) (overflow-middle f P1 E) ∙ spread (units f end) (units f (infinity f)) den ∙ ap (λ (z : ℕ). scaled f den end + scaled f den z) (sym next)
      where
        spread : (a b d : ℕ) → (a + b) * d ≡ a * d + b * d
        spread a b d = omega arith

    capped : (w n : ℕ) → n - 1 < w → min w n ≡ n
    capped w n h = omega arith

    free : (w n : ℕ) → 0 < n → w ≤ n - 1 → min w n < n
    free w n p h = omega arith

    closest-is : rounded f num den < infinity f → Closest (scaled f den) num (infinity f) (rounded f num den)
    closest-is h = between-closest (scaled f den) step num (infinity f) (rounded f num den) (subst (λ (z : ℕ). Between (scaled f den) (λ (m : ℕ). m) (2 * num) z) (sym (same (rounded f num den) word (infinity f) is h)) between)
      where
        same : (r w n : ℕ) → r ≡ min w n → r < n → r ≡ w
        same r w n e l = omega arith

-- infinity only from there on
pub infinite-only : (f : Format) (num den r : ℕ) → Nearest f num den r → r ≡ infinity f → overflow_from f * den ≤ 2 * num
infinite-only f num den r n e = elim (dec_le (overflow_from f * den) (2 * num)) [ yes l ↦ l | no l ↦ absurd (apart r (infinity f) (n.finite (lt_of_not-le l)) e) ]
  where
    apart : (a b : ℕ) → a < b → a ≡ b → ⊥
    apart a b h g = omega arith

pub nearest-unique : (f : Format) (num den r s : ℕ) → 0 < f.digits → 0 < den → Nearest f num den r → Nearest f num den s → r ≡ s
nearest-unique f num den r s P D x y = elim (dec_le (overflow_from f * den) (2 * num)) [
  | yes l ↦ x.infinite l ∙ sym (y.infinite l)
  | no l ↦
      let R : r < infinity f = x.finite (lt_of_not-le l) in
      let S : s < infinity f = y.finite (lt_of_not-le l) in
      closest-unique (scaled f den) (scaled-step f den P D) num (infinity f) r s R S (closest-of r x R) (closest-of s y S)
]
  where
    closest-of : (t : ℕ) → Nearest f num den t → t < infinity f → Closest (scaled f den) num (infinity f) t
    closest-of t n h = record { none-nearer = n.none-nearer h; ties-even = n.ties-even h }
