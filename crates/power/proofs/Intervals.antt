-- The interval in which z lies, of a word x by sums alone as the code makes it: what `second` lacks to the next exponent is added, so n is one more from there on,
-- and the sign's place is reached by what `first` lacks to it. Over every width. Assumes nothing.
use Prim.Native.Nat.{ℕ, ◌+◌, ◌-◌, ◌*◌, ◌/◌, ◌%◌, ◌<◌, ◌≤◌}
use mathlib.Core.Path.{◌≡◌, refl, sym, ap, ◌∙◌}
use native.Mathlib.Nat.{mod-lt, mod-eq_of_lt, div-eq_of_lt, add_assoc, div-add-mod'}
use native.Mathlib.Omega.{arith}
use native.Mathlib.Decide.{dec_le}
use lib.Arith.{digits_div}
use lib.Pow.{pow_pos}
use lib.Dec.{lit≤}
use lib.Ieee.{hid, top, prec}
use borrow.Author.Tests.{lt-ltb, le-ltb}
use Rattle.words.specs.Format.{one, ours}
use Rattle.power.specs.Width.{Width, Reduction}
use Rattle.power.specs.Chain.{interval_of}
use Rattle.power.specs.Power.{single, double}

-- how the numbers of a width stand to each other
pub record Spaced (w : Width) : Type 0 where
  pub order : w.first ≤ w.second
  pub digits : w.second ≤ hid w.format
  pub low : hid w.format ≤ one (ours w.format)
  pub high : one (ours w.format) + w.first ≤ top w.format

pub spaced32 : Spaced single
spaced32 = record { order = lit≤ tt; digits = lit≤ tt; low = lit≤ tt; high = lit≤ tt }

pub spaced64 : Spaced double
spaced64 = record { order = lit≤ tt; digits = lit≤ tt; low = lit≤ tt; high = lit≤ tt }

-- ---- over numbers: x = q * h + j, the exponent of 1 at o, the sign at t, and the borders f and s
module _ (x h o t f s q j : ℕ) (B : q * h + j ≡ x) (X : x < t) (J : j < h) (F : f ≤ s) (S : s ≤ h) (O : h ≤ o) (T : o + f ≤ t) where
  abbrev n : ℕ
  n = (x + (h - s)) / h

  abbrev word : ℕ → ℕ
  word m = x + o - m * h % (2 * t)

  abbrev place : ℕ → ℕ
  place z = (z + (t - o - f)) / t

  Found : ℕ → ℕ → ℕ → Type 0
  Found a b c = (word n ≡ a) × (place (word n) ≡ b) × (n ≡ c)

  found : (a b c : ℕ) → n ≡ c → word c ≡ a → place a ≡ b → Found a b c
  unfolding Found
  found a b c u v p = let z = ap word u ∙ v in (z, ap place z ∙ p, u)

  n-low : j < s → n ≡ q
  n-low b = ap (λ (z : ℕ). z / h) sum ∙ digits_div q (omega arith)
    where
      sum : x + (h - s) ≡ q * h + (j + (h - s))
      sum = omega (arith, B)

  n-high : s ≤ j → n ≡ q + 1
  n-high b = ap (λ (z : ℕ). z / h) sum ∙ digits_div (q + 1) (omega arith)
    where
      sum : x + (h - s) ≡ (q + 1) * h + (j - s)
      sum = omega (arith, B)

  word_low : word q ≡ o + j
  word_low = ap (λ (z : ℕ). x + o - z) (mod-eq_of_lt small) ∙ omega (arith, B)
    where
      small : q * h < 2 * t
      small = omega (arith, B)

  word-high : word (q + 1) ≡ o + j - h
  word-high = ap (λ (z : ℕ). x + o - z) (mod-eq_of_lt small) ∙ omega (arith, B)
    where
      small : (q + 1) * h < 2 * t
      small = omega (arith, B)

  first : j < f → Found (o + j) 0 q
  first b = found (o + j) 0 q (n-low (omega arith)) word_low (div-eq_of_lt (omega arith))

  second : f ≤ j → j < s → Found (o + j) 1 q
  second b l = found (o + j) 1 q (n-low l) word_low (ap (λ (z : ℕ). z / t) sum ∙ digits_div 1 (omega arith))
    where
      sum : o + j + (t - o - f) ≡ 1 * t + (j - f)
      sum = omega arith

  last : s ≤ j → Found (o + j - h) 0 (q + 1)
  last b = found (o + j - h) 0 (q + 1) (n-high b) word-high (div-eq_of_lt (omega arith))

same : (a b c i k m e : ℕ) → (a ≡ i) × (b ≡ k) × (c ≡ m) → ◌≡◌ {A = Reduction} (record { word = a; k = b; e = e + c }) (record { word = i; k = k; e = e + m })
same a b c i k m e u =
    ap (λ (z : ℕ). record { word = z; k = b; e = e + c }) u.0
    ∙ ap (λ (z : ℕ). record { word = i; k = z; e = e + c }) u.1
    ∙ ap (λ (z : ℕ). record { word = i; k = k; e = e + z }) u.2

-- ---- over a width: n, the word of z and k, as the code makes them
module _ (w : Width) (W : Spaced w) (x e : ℕ) (X : x < top w.format) where
  abbrev exponent-by : ℕ
  exponent-by = (x + (hid w.format - w.second)) / hid w.format

  abbrev word-by : ℕ
  word-by = x + one (ours w.format) - exponent-by * hid w.format % (2 * top w.format)

  abbrev place-by : ℕ
  place-by = (word-by + (top w.format - one (ours w.format) - w.first)) / top w.format

  pub interval-by-sums : record { word = word-by; k = place-by; e = e + exponent-by } ≡ interval_of w x e
  unfolding interval_of Found
  interval-by-sums = elim (dec_le w.first j) [
    | no a ↦ let l : j < f = omega arith in same _ _ _ _ _ _ e (first x h o t f s q j B X J F S O T l) ∙ rw (lt-ltb j f l) refl
    | yes a ↦ elim (dec_le s j) [
      | no b ↦ let l : j < s = omega arith in same _ _ _ _ _ _ e (second x h o t f s q j B X J F S O T a l) ∙ rw (le-ltb j f a, lt-ltb j s l) refl
      | yes b ↦ same _ _ _ _ _ _ e (last x h o t f s q j B X J F S O T b) ∙ rw (le-ltb j f a, le-ltb j s b) (ap (λ (z : ℕ). record { word = o + j - h; k = 0; e = z }) (sym (add_assoc e q 1)))
    ]
  ]
    where
      h : ℕ
      h = hid w.format

      o : ℕ
      o = one (ours w.format)

      t : ℕ
      t = top w.format

      f : ℕ
      f = w.first

      s : ℕ
      s = w.second

      q : ℕ
      q = x / h

      j : ℕ
      j = x % h

      B : q * h + j ≡ x
      B = div-add-mod' x h

      J : j < h
      J = mod-lt x (pow_pos (prec w.format - 1))

      F : f ≤ s
      F = W.order

      S : s ≤ h
      S = W.digits

      O : h ≤ o
      O = W.low

      T : o + f ≤ t
      T = W.high
