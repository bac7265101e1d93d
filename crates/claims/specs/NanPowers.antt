-- No NaN arises in the open chain, and a power is a NaN where rules 3, 6 and 7 of document 01 say so and nowhere else. Definitions only.
-- Rule 5's root gives none, since its operand is a number whose sign bit is clear; neither do its other operations.
use Rattle.std.specs.Prelude.{ℕ, ◌+◌, ◌*◌, ◌/◌, ◌^◌, ◌<◌, ◌≡◌, ◌⊎◌, Bool, true, false}
use Rattle.words.specs.Format.{Format, top, infinity, one, quiet, magnitude, negative, is_nan_word, ours}
use Rattle.power.specs.Numbers.{whole}
use Rattle.power.specs.Width.{Width}
use Rattle.power.specs.Chain.{at, log_of, open_of}
use Rattle.power.specs.NoNan.{OpenPair, Reaches, Walked}
use Rattle.power.specs.Power.{pow_of}

module _ (w : Width) where
  abbrev pub f : Format
  f = ours w.format

  -- No NaN arises in the open chain, for finite x but 1 and -1 and finite y: not in its answer, of either sign, and where the chain is walked to its end not on the way there.
  pub record OpenNumbers : Type 0 where
    pub answer : (x y : ℕ) (s : Bool) → OpenPair f x y → is_nan_word f (open_of w x y s) ≡ false
    pub way : (x y : ℕ) (s : Bool) → OpenPair f x y → Reaches w (magnitude f x / 2 ^ w.below) (magnitude f y / 2 ^ w.below)
        → Walked w (at w y) (log_of w (magnitude f x) (magnitude f y / 2 ^ w.below)) s

  -- a rule that answers NaN for x and y
  pub data NanRule (x y : ℕ) : Type 0 where
    -- rules 1 and 2 do not answer, and x or y is a NaN
    rule-3 : ¬ (magnitude f y ≡ 0) → ¬ (x ≡ one f) → (is_nan_word f x ≡ true) ⊎ (is_nan_word f y ≡ true) → NanRule x y
    -- x is -1, and y is finite and not whole
    rule-6 : x ≡ top f + one f → magnitude f y < infinity f → whole f (magnitude f y) ≡ false → NanRule x y
    -- x is finite, below 0 and not -1, and y is finite and not whole
    rule-7 : negative f x ≡ true → 0 < magnitude f x → magnitude f x < infinity f → ¬ (magnitude f x ≡ one f)
        → magnitude f y < infinity f → whole f (magnitude f y) ≡ false → NanRule x y

  -- a power is a NaN, the quiet one, exactly where a rule says so
  pub record NanExactly : Type 0 where
    pub there : (x y : ℕ) → NanRule x y → pow_of w x y ≡ quiet f
    pub nowhere-else : (x y : ℕ) → x < 2 * top f → is_nan_word f (pow_of w x y) ≡ true → NanRule x y
