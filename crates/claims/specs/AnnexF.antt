-- Demand 2 for power's settled pairs: the sentences of C's Annex F on pow, in its order, of a width's power. Definitions only.
-- Annex F's flags are left out: document 01 asks for none here. A word's sign is true for negative.
use Rattle.std.specs.Prelude.{ℕ, ◌+◌, ◌<◌, ◌≤◌, ◌≡◌, Bool, true, false, cond}
use Rattle.words.specs.Format.{Format, top, infinity, one, quiet, magnitude, negative, signed, ours}
use Rattle.root.specs.Root.{root_word}
use Rattle.power.specs.Numbers.{whole, odd}
use Rattle.power.specs.Sorting.{two_word, half_word, over, square}
use Rattle.power.specs.Width.{Width}
use Rattle.power.specs.Power.{pow_of}

module _ (w : Width) where
  abbrev pub f : Format
  f = ours w.format

  -- what is said of a y: finite and not zero, an odd integer, below 0, infinite
  abbrev pub Finite : ℕ → Type 0
  Finite y = (0 < magnitude f y) × (magnitude f y < infinity f)

  abbrev pub is_odd : ℕ → Bool
  is_odd y = odd f (magnitude f y)

  abbrev pub is_whole : ℕ → Bool
  is_whole y = whole f (magnitude f y)

  abbrev pub Infinite : ℕ → Type 0
  Infinite y = magnitude f y ≡ infinity f

  pub record AnnexF : Type 0 where
    -- pow(±0, y) returns ±∞ for y an odd integer < 0
    pub zero-odd-below : (s : Bool) (y : ℕ) → Finite y → is_odd y ≡ true → negative f y ≡ true → pow_of w (signed f s 0) y ≡ signed f s (infinity f)
    -- pow(±0, y) returns +∞ for y < 0, finite, and not an odd integer
    pub zero-below : (s : Bool) (y : ℕ) → Finite y → is_odd y ≡ false → negative f y ≡ true → pow_of w (signed f s 0) y ≡ infinity f
    -- pow(±0, -∞) returns +∞
    pub zero-minus-infinity : (s : Bool) (y : ℕ) → Infinite y → negative f y ≡ true → pow_of w (signed f s 0) y ≡ infinity f
    -- pow(±0, y) returns ±0 for y an odd integer > 0
    pub zero-odd-above : (s : Bool) (y : ℕ) → Finite y → is_odd y ≡ true → negative f y ≡ false → pow_of w (signed f s 0) y ≡ signed f s 0
    -- pow(±0, y) returns +0 for y > 0 and not an odd integer
    pub zero-above : (s : Bool) (y : ℕ) → Finite y → is_odd y ≡ false → negative f y ≡ false → pow_of w (signed f s 0) y ≡ 0
    pub zero-plus-infinity : (s : Bool) (y : ℕ) → Infinite y → negative f y ≡ false → pow_of w (signed f s 0) y ≡ 0
    -- pow(-1, ±∞) returns 1
    pub minus-one-infinite : (y : ℕ) → Infinite y → pow_of w (top f + one f) y ≡ one f
    -- pow(+1, y) returns 1 for any y, even a NaN
    pub one-any : (y : ℕ) → pow_of w (one f) y ≡ one f
    -- pow(x, ±0) returns 1 for any x, even a NaN
    pub any-zero : (x y : ℕ) → magnitude f y ≡ 0 → pow_of w x y ≡ one f
    -- pow(x, y) returns a NaN for finite x < 0 and finite non-integer y
    pub negative-not-whole : (x y : ℕ) → Finite x → negative f x ≡ true → Finite y → is_whole y ≡ false → pow_of w x y ≡ quiet f
    -- pow(x, -∞) returns +∞ for |x| < 1, and pow(x, +∞) returns +0
    pub inside-infinite : (x y : ℕ) → magnitude f x < one f → Infinite y → pow_of w x y ≡ cond (negative f y) (infinity f) 0
    -- pow(x, -∞) returns +0 for |x| > 1, and pow(x, +∞) returns +∞
    pub outside-infinite : (x y : ℕ) → one f < magnitude f x → magnitude f x ≤ infinity f → Infinite y → pow_of w x y ≡ cond (negative f y) 0 (infinity f)
    -- pow(-∞, y) returns -0 for y an odd integer < 0, and pow(+∞, y) returns +0
    pub infinity-odd-below : (s : Bool) (y : ℕ) → Finite y → is_odd y ≡ true → negative f y ≡ true → pow_of w (signed f s (infinity f)) y ≡ signed f s 0
    -- pow(-∞, y) returns +0 for y < 0 and not an odd integer, and so does pow(+∞, y)
    pub infinity-below : (s : Bool) (y : ℕ) → Finite y → is_odd y ≡ false → negative f y ≡ true → pow_of w (signed f s (infinity f)) y ≡ 0
    -- pow(-∞, y) returns -∞ for y an odd integer > 0, and pow(+∞, y) returns +∞
    pub infinity-odd-above : (s : Bool) (y : ℕ) → Finite y → is_odd y ≡ true → negative f y ≡ false → pow_of w (signed f s (infinity f)) y ≡ signed f s (infinity f)
    -- pow(-∞, y) returns +∞ for y > 0 and not an odd integer, and so does pow(+∞, y)
    pub infinity-above : (s : Bool) (y : ℕ) → Finite y → is_odd y ≡ false → negative f y ≡ false → pow_of w (signed f s (infinity f)) y ≡ infinity f

  -- The two places where Annex F is silent: finite x but zero (and but 1, of which it is not) to 1, -1, 2 and 0.5 is a single IEEE 754 operation, and -1 to a finite whole y is exact.
  pub record Silent : Type 0 where
    pub to_one : (x : ℕ) → Finite x → ¬ (x ≡ one f) → pow_of w x (one f) ≡ x
    pub to-minus-one : (x : ℕ) → Finite x → ¬ (x ≡ one f) → pow_of w x (top f + one f) ≡ over w.format x
    pub to-two : (x : ℕ) → Finite x → ¬ (x ≡ one f) → pow_of w x (two_word f) ≡ square w.format x
    pub to-half : (x : ℕ) → Finite x → ¬ (x ≡ one f) → negative f x ≡ false → pow_of w x (half_word f) ≡ root_word f x
    pub minus-one-whole : (y : ℕ) → Finite y → is_whole y ≡ true → pow_of w (top f + one f) y ≡ signed f (is_odd y) (one f)
