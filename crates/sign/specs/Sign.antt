-- What changing the sign of x does to the bits of x to the y, for an x that is no NaN and a finite whole y. Definitions only.
use Rattle.std.specs.Prelude.{ℕ, ◌*◌, ◌<◌, ◌≡◌, true, false, not}
use Rattle.words.specs.Format.{Format, top, infinity, magnitude, negative, signed, is_nan_word, ours}
use Rattle.power.specs.Numbers.{whole, odd}
use Rattle.power.specs.Width.{Width}
use Rattle.power.specs.Power.{pow_of}

-- the word with the other sign bit and no other bit changed
abbrev pub flipped : Format → ℕ → ℕ
flipped f x = signed f (not (negative f x)) (magnitude f x)

module _ (w : Width) where
  abbrev pub f : Format
  f = ours w.format

  -- x is a word that is no NaN's; y is a finite number's word
  pub record Signs : Type 0 where
    -- (-x) ^ y is -(x ^ y) for y odd: exactly the sign bit changes
    pub odd-flips : (x y : ℕ) → x < 2 * top f → is_nan_word f x ≡ false → magnitude f y < infinity f → odd f (magnitude f y) ≡ true
        → pow_of w (flipped f x) y ≡ flipped f (pow_of w x y)
    -- (-x) ^ y is x ^ y for y even, which is whole and not odd, 0 among them: no bit changes
    pub even-keeps : (x y : ℕ) → x < 2 * top f → is_nan_word f x ≡ false → magnitude f y < infinity f → whole f (magnitude f y) ≡ true → odd f (magnitude f y) ≡ false
        → pow_of w (flipped f x) y ≡ pow_of w x y
