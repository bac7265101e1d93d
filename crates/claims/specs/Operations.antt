-- Demand 2 for root and scaling: what IEEE 754 says of squareRoot and scaleB, of every word. Definitions only.
-- Nothing here speaks of how a result is found: a finite result is the word that no finite word is nearer than, ties to even (words/specs/Nearest.antt).
use Rattle.std.specs.Prelude.{ℕ, ◌*◌, ◌^◌, ◌<◌, ◌≡◌, true, false, ℤ}
use Rattle.std.specs.Float.Ieee.{up, down}
use Rattle.words.specs.Format.{Format, low, infinity, quiet, magnitude, negative, is_nan_word, signed, units}
use Rattle.words.specs.Nearest.{Nearest, NearestRoot}

-- r is the root of the word x
pub record SquareRoot (f : Format) (x r : ℕ) : Type 0 where
  pub of_zero : magnitude f x ≡ 0 → r ≡ x
  pub of_nan : is_nan_word f x ≡ true → r ≡ quiet f
  pub of_negative : negative f x ≡ true → ¬ (magnitude f x ≡ 0) → r ≡ quiet f
  pub of-infinity : x ≡ infinity f → r ≡ x
  pub of-finite : 0 < x → x < infinity f → NearestRoot f (units f x * 2 ^ low f) r

-- r is the word x times 2 ^ n, which is up n / down n
pub record ScaleB (f : Format) (x : ℕ) (n : ℤ) (r : ℕ) : Type 0 where
  pub of_nan : is_nan_word f x ≡ true → r ≡ quiet f
  pub of-infinity : magnitude f x ≡ infinity f → r ≡ x
  pub of-finite : magnitude f x < infinity f → (m : ℕ) × (r ≡ signed f (negative f x) m) × Nearest f (units f (magnitude f x) * up n) (down n) m
  pub of_zero : magnitude f x ≡ 0 → r ≡ x

-- r is 1 / x for a finite x but zero; 1 is 2 ^ low units, so 1 / x is 2 ^ low * 2 ^ low / units
pub record Reciprocal (f : Format) (x r : ℕ) : Type 0 where
  pub size : ℕ
  pub word : r ≡ signed f (negative f x) size
  pub nearest : Nearest f (2 ^ low f * 2 ^ low f) (units f (magnitude f x)) size

-- r is x * x for a finite x: units * units / 2 ^ low
pub record Square (f : Format) (x r : ℕ) : Type 0 where
  pub size : ℕ
  pub word : r ≡ signed f false size
  pub nearest : Nearest f (units f (magnitude f x) * units f (magnitude f x)) (2 ^ low f) size
