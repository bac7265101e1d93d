-- What the private functions ask and promise: the engine by inequalities, the operand's parts by their range. Definitions only.
use Rattle.std.specs.Prelude.{ℕ, ◌+◌, ◌-◌, ◌*◌, ◌/◌, ◌%◌, ◌^◌, ◌≤◌, ◌<◌, ◌≡◌, ℤ, pos, negsuc}
use Rattle.words.specs.Rounding.{Held}

-- ---- the engines

-- W has p or p + 1 digits, and at most p + 1 rounds are asked
pub record Asked (p w k : ℕ) : Type 0 where
  pub small : p ≤ 60
  pub above : 2 ^ p ≤ 2 * w
  pub below : w < 2 ^ (p + 1)
  pub rounds : k ≤ p + 1

-- the digits q of W after k rounds, and the left-over
pub record Rounds (p w k q left : ℕ) : Type 0 where
  pub low : 2 ^ (p + 1) * (q * q) ≤ 4 ^ k * w
  pub high : 4 ^ k * w < 2 ^ (p + 1) * ((q + 1) * (q + 1))
  pub rest : left ≡ 2 ^ (k + 1) * w - 2 ^ (p + 2 - k) * (q * q)

-- ---- the operand's parts

-- r shifts bring m to exactly p digits
pub record Shifts (p m r : ℕ) : Type 0 where
  pub above : 2 ^ p ≤ 2 * (m * 2 ^ r)
  pub below : m * 2 ^ r < 2 ^ p

-- what is left of a whole number that is halved downward
unfoldable pub odd_z : ℤ → ℕ
odd_z (pos n) = n % 2
odd_z (negsuc n) = (n + 1) % 2

-- v is w * 4 ^ h, with w of p digits, or of p + 1 and even
pub record Split (p v w h : ℕ) : Type 0 where
  pub value : w * 4 ^ h ≡ v
  pub above : 2 ^ p ≤ 2 * w
  pub below : w + 1 < 2 ^ (p + 1)

-- ---- the table engine

-- v is m * 2 ^ n, with m of p digits
pub record Normalised (p m n v : ℕ) : Type 0 where
  pub above : 2 ^ p ≤ 2 * m
  pub below : m < 2 ^ p
  pub value : m * 2 ^ n ≡ v

-- the place in the table of an m of 53 digits, by its first nine; twice m is meant where odd is 1
abbrev pub place_of : ℕ → ℕ → ℕ
place_of m odd = m / 2 ^ 44 % 256 + (1 - odd) * 256

-- ---- a narrower format by the f64 root

-- f64 has more than twice the digits, and its bias differs by an even number
pub record Narrow (p e : ℕ) : Type 0 where
  pub held : Held p e
  pub digits : 2 * p + 2 ≤ 53
  pub odd : e % 2 ≡ 1
