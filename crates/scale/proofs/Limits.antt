-- Beyond every exponent a finite word but a zero goes to its limit: far up its sign's infinity, and far down its sign's zero. Over the kit's formats. Assumes nothing.
use mathlib.Core.Path.{◌≡◌, refl, sym, ap, ◌∙◌, subst}
use mathlib.Core.Logic.{◌⊎◌, inl, inr}
use Prim.Native.Nat.{ℕ, zero, suc, ◌+◌, ◌*◌, ◌/◌, ◌%◌, ◌^◌, ◌≤◌, ◌<◌, zero-le}
use native.Mathlib.Nat.{eq-zero-or-pos, le_of_lt, lt_irrefl, lt_of_le_of_lt, lt_trans, div-add-mod'}
use native.Mathlib.Omega.{arith}
use mathlib.Core.Bool.{Bool, true, false, not, cond}
use lib.Dec.{T, leb, ltb→lt, nltb→le, lit≤}
use lib.IntN.{ℤ, pos, negsuc}
use lib.Signed.{lt_z}
use lib.Ieee.{Float, nan, inf, fin, Format, binary32, binary64, emax, low, mul, of_bits, to_bits, fits}
use lib.Ieee.Bits.{of_bits-fits}
use lib.Ieee.Exact.{HasValue}
use lib.Ieee.Fits.{two}
use Rattle.words.specs.Format.{top, infinity, signed, units, ours}
use Rattle.words.proofs.Floats.{word-val}
use Rattle.words.proofs.Round.{to_bits_inf}
use Rattle.words.proofs.Units.{units-step}
use Rattle.words.proofs.Words.{sign-and-size}
use Rattle.scale.specs.Scale.{scaled, power}
use Rattle.scale.proofs.Powers.{held}
use Rattle.scale.proofs.Far.{far-up, far-down}
use Rattle.scale.proofs.Scaled.{scaled-is}

-- n is more than 277 or 2098 places up or down
abbrev pub Beyond : Format → ℤ → Type 0
Beyond f n = (lt_z (pos (low f + suc (emax f))) n ≡ true) ⊎ (lt_z n (negsuc (low f + emax f)) ≡ true)

zero_word : (f : Format) (s : Bool) → to_bits f (fin s 0 (pos 0)) ≡ signed (ours f) s 0
unfolding to_bits
zero_word binary32 true = refl
zero_word binary32 false = refl
zero_word binary64 true = refl
zero_word binary64 false = refl

-- far down, whatever number the format holds
to-zero : (f : Format) (x : Float) (s : Bool) (a n : ℕ) → T (fits f x) → HasValue x s a (2 ^ low f) → low f + suc (emax f) ≤ n → mul f x (power (negsuc n)) ≡ fin s 0 (pos 0)
to-zero f nan s a n F v h = absurd v
to-zero f (inf t) s a n F v h = absurd v
to-zero f (fin t m e) s a n F v h = let k = held f (fin t m e) F in far-down f (fin t m e) t (k.0 * 2 ^ k.1) n k.4 k.3 h ∙ ap (λ (b : Bool). fin b 0 (pos 0)) v.0

-- the size is neither zero nor an infinity
module _ (f : Format) (w : ℕ) (W : w < 2 * top (ours f)) (some : w % top (ours f) ≡ 0 → ⊥) (finite : w % top (ours f) < infinity (ours f)) where
  abbrev t : ℕ
  t = top (ours f)

  sign : cond (leb t w) t 0 ≡ w / t * t
  sign = same (cond (leb t w) t 0) (w / t * t) (w % t) w (sign-and-size t w W) (div-add-mod' w t)
    where
      same : (a b m w : ℕ) → a + m ≡ w → b + m ≡ w → a ≡ b
      same a b m w x y = omega arith

  counted : 0 < units (ours f) (w % t)
  counted = go (w % t) some
    where
      go : (m : ℕ) → (m ≡ 0 → ⊥) → 0 < units (ours f) m
      go zero h = absurd (h refl)
      go (suc m) h = lt_of_le_of_lt zero-le (units-step (ours f) (lt_trans (lit≤ tt) (two f)) m)

  value : HasValue (of_bits f w) (leb t w) (units (ours f) (w % t)) (2 ^ low f)
  value = word-val f w finite

  pub limit-up : (n : ℤ) → Beyond f n → lt_z (pos 0) n ≡ true → w / t * t + infinity (ours f) ≡ scaled (ours f) w n
  limit-up (pos a) (inl l) u =
      ap (λ (z : ℕ). z + infinity (ours f)) (sym sign)
      ∙ sym (to_bits_inf f (leb t w))
      ∙ ap (to_bits f) (sym (far-up f (of_bits f w) (leb t w) (units (ours f) (w % t)) a value (le_of_lt (ltb→lt (low f + suc (emax f)) a (subst T (sym l) tt))) ∙ not-zero (eq-zero-or-pos (units (ours f) (w % t)))))
      ∙ scaled-is f w (pos a) W
    where
      not-zero : (d : (units (ours f) (w % t) ≡ 0) ⊎ (0 < units (ours f) (w % t))) → (elim d [ inl z ↦ fin (leb t w) 0 (pos 0) | inr z ↦ inf (leb t w) ]) ≡ inf (leb t w)
      not-zero (inl z) = absurd (lt_irrefl 0 (subst (λ (a : ℕ). 0 < a) z counted))
      not-zero (inr z) = refl
  limit-up (pos a) (inr l) u = absurd (subst T (sym l) tt)
  limit-up (negsuc a) b u = absurd (subst T (sym u) tt)

  pub limit-down : (n : ℤ) → Beyond f n → lt_z (pos 0) n ≡ false → w / t * t ≡ scaled (ours f) w n
  limit-down (pos a) (inl l) u = absurd (none a (ltb→lt (low f + suc (emax f)) a (subst T (sym l) tt)) (nltb→le 0 a (subst (λ (b : Bool). T (not b)) (sym u) tt)))
    where
      none : (a : ℕ) → low f + suc (emax f) < a → a ≤ 0 → ⊥
      none a h l = omega arith
  limit-down (pos a) (inr l) u = absurd (subst T (sym l) tt)
  limit-down (negsuc a) (inl l) u = absurd (subst T (sym l) tt)
  limit-down (negsuc a) (inr l) u =
      sym sign
      ∙ none (cond (leb t w) t 0)
      ∙ sym (zero_word f (leb t w))
      ∙ ap (to_bits f) (sym (to-zero f (of_bits f w) (leb t w) (units (ours f) (w % t)) a (of_bits-fits f w) value (past (low f) (emax f) a (ltb→lt (low f + emax f) a (subst T (sym l) tt)))))
      ∙ scaled-is f w (negsuc a) W
    where
      none : (a : ℕ) → a ≡ a + 0
      none a = omega arith

      past : (l e a : ℕ) → l + e < a → l + suc e ≤ a
      past l e a h = omega arith
