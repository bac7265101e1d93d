-- Request 12, the facts of roots that planners rely on, under nearest even. Definitions only.
-- A value is a whole number of units; 2 ^ k is up k / down k.
use Rattle.std.specs.Prelude.{ℕ, ◌*◌, ◌≤◌, ◌<◌, ◌≡◌, ◌⊎◌, ℤ}
use Rattle.std.specs.Float.Ieee.{up, down}
use Rattle.words.specs.Format.{Format, hid, infinity, magnitude, units}
use Rattle.root.specs.Root.{root_word}
use Rattle.scale.specs.Scale.{scaled}

-- ---- a root never falls when a nonnegative operand grows

-- a zero of either sign, a positive number, or +inf
abbrev pub Nonnegative : Format → ℕ → Type 0
Nonnegative f x = (magnitude f x ≡ 0) ⊎ (x ≤ infinity f)

-- x is at most y, of two nonnegative words in the order of their values: +inf is the largest, and the two zeros are equal
abbrev pub AtMost : Format → ℕ → ℕ → Type 0
AtMost f x y = (y ≡ infinity f) ⊎ ((magnitude f x < infinity f) × (magnitude f y < infinity f) × (units f (magnitude f x) ≤ units f (magnitude f y)))

pub record RootRises (f : Format) : Type 0 where
  pub nonnegative : (x : ℕ) → Nonnegative f x → Nonnegative f (root_word f x)
  pub rises : (x y : ℕ) → Nonnegative f x → Nonnegative f y → AtMost f x y → AtMost f (root_word f x) (root_word f y)

-- ---- if x and 4 ^ k * x are both positive normal numbers, the root of the second is 2 ^ k times that of the first, bit for bit

abbrev pub PositiveNormal : Format → ℕ → Type 0
PositiveNormal f x = (hid f ≤ x) × (x < infinity f)

-- y is 4 ^ k * x, k of either sign
abbrev pub FourTimes : Format → ℤ → ℕ → ℕ → Type 0
FourTimes f k x y = units f y * (down k * down k) ≡ units f x * (up k * up k)

-- 2 ^ k times: as a value, and bit for bit, as the word that scaling gives
pub record RootFour (f : Format) : Type 0 where
  pub value : (k : ℤ) (x y : ℕ) → PositiveNormal f x → PositiveNormal f y → FourTimes f k x y → units f (root_word f y) * down k ≡ units f (root_word f x) * up k
  pub word : (k : ℤ) (x y : ℕ) → PositiveNormal f x → PositiveNormal f y → FourTimes f k x y → root_word f y ≡ scaled f (root_word f x) k
