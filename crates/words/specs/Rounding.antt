-- How a size between two neighbours becomes a word: once, by a rule. Definitions only.
use Rattle.std.specs.Prelude.{ℕ, ◌+◌, ◌-◌, ◌*◌, ◌/◌, ◌%◌, ◌^◌, ◌≤◌, min, Bool, true, ◌&&◌, ◌||◌, cond, ltb, eqb}
use Rattle.std.specs.Float.Ieee.{size}
use Rattle.words.specs.Format.{Format, hid, infinity}

-- Whether the larger neighbour is taken: by whether the last digit kept is odd, the first digit dropped is 1, and anything stands after that.
abbrev pub Rule : Type 0
Rule = Bool → Bool → Bool → Bool

-- to nearest, ties to even
abbrev pub even : Rule
even last half more = half && (more || last)

abbrev pub odd : ℕ → Bool
odd n = eqb (n % 2) 1

abbrev pub bit : Bool → ℕ
bit b = cond b 1 0

-- ---- a size that is cut: k places are dropped, q is what stays with one digit more, and `more` is whether anything stands after that

-- the rounded size as a word, the exponent without limit: the field says how many places are dropped, and the leading digit adds one to it
unfoldable pub word_at : Rule → Format → ℕ → ℕ → Bool → ℕ
word_at r f k q more = k * hid f + q / 2 + bit (r (odd (q / 2)) (odd q) more)

-- the largest word: infinity, or the largest finite one under a rule that does not go there
abbrev pub most : Rule → Format → ℕ
most r f = infinity f - 1 + bit (r true true true)

unfoldable pub rounded_at : Rule → Format → ℕ → ℕ → Bool → ℕ
rounded_at r f k q more = min (word_at r f k q more) (most r f)

-- ---- num / den units, cut: of the whole part the format's digits are kept

abbrev pub places : Format → ℕ → ℕ → ℕ
places f num den = size (num / den) - f.digits

abbrev pub kept : Format → ℕ → ℕ → ℕ
kept f num den = 2 * num / (den * 2 ^ places f num den)

abbrev pub rest : Format → ℕ → ℕ → Bool
rest f num den = ltb 0 (2 * num % (den * 2 ^ places f num den))

-- num / den units, rounded once by a rule, and to nearest even: the word of that size
abbrev pub rounded_by : Rule → Format → ℕ → ℕ → ℕ
rounded_by r f num den = rounded_at r f (places f num den) (kept f num den) (rest f num den)

abbrev pub rounded : Format → ℕ → ℕ → ℕ
rounded f num den = rounded_by even f num den

-- a format that 64 bits hold: a significand has a digit, and the exponents reach past its digits
pub record Held (p e : ℕ) : Type 0 where
  pub least : 1 ≤ p
  pub small : p ≤ 53
  pub room : p + 1 ≤ e
  pub high : e ≤ 1023
