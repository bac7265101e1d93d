-- IEEE 754's rounding to nearest, ties to even, in its own words (4.3.1), of num / den units. Definitions only.
-- It speaks of distances to every finite number, and of no digits that are kept or dropped.
use Rattle.std.specs.Prelude.{◌≡◌, ℕ, ◌+◌, ◌-◌, ◌*◌, ◌%◌, ◌^◌, ◌≤◌, ◌<◌}
use Rattle.words.specs.Format.{Format, infinity, units}

-- how far apart two numbers are: one of the two differences is 0
abbrev pub distance : ℕ → ℕ → ℕ
distance a b = (a - b) + (b - a)

-- Twice the least size that is rounded to infinity, in units: 2 ^ emax * (2 - 2 ^ -digits), half a spacing above the largest finite number.
abbrev pub overflow_from : Format → ℕ
overflow_from f = (2 ^ (f.digits + 1) - 1) * 2 ^ (2 * f.emax - 1)

-- r is the word of num / den units, rounded to nearest: infinity from that size on and a finite word below it, no finite number is nearer, and of two that are equally near it is the one whose last digit is 0
pub record Nearest (f : Format) (num den r : ℕ) : Type 0 where
  pub infinite : overflow_from f * den ≤ 2 * num → r ≡ infinity f
  pub finite : 2 * num < overflow_from f * den → r < infinity f
  pub none-nearer : r < infinity f → (w : ℕ) → w < infinity f → distance (units f r * den) num ≤ distance (units f w * den) num
  pub ties-even : r < infinity f → (w : ℕ) → w < infinity f → ¬ (w ≡ r) → distance (units f w * den) num ≡ distance (units f r * den) num → r % 2 ≡ 0

abbrev pub square : ℕ → ℕ
square n = n * n

-- r is the finite word nearest to the square root of v, in units: the root is not below the middle between r and any smaller number, nor above that between r and any larger one, and at a middle only where r's last digit is 0.
-- A middle is half of a sum, so it stands to the root as the sum's square to 4 * v.
pub record NearestRoot (f : Format) (v r : ℕ) : Type 0 where
  pub finite : r < infinity f
  pub above : (w : ℕ) → w < infinity f → units f w < units f r → square (units f w + units f r) ≤ 4 * v
  pub below : (w : ℕ) → w < infinity f → units f r < units f w → 4 * v ≤ square (units f r + units f w)
  pub ties-even : (w : ℕ) → w < infinity f → ¬ (w ≡ r) → square (units f r + units f w) ≡ 4 * v → r % 2 ≡ 0
