-- What a list's lines are held to: for each format and operand a result's word and its flags, in TestFloat's bits. Definitions only.
use Rattle.std.specs.Prelude.{ℕ, ◌+◌, ◌*◌, ◌^◌, Bool, not, ◌&&◌, ◌||◌, leb, ltb, eqb}
use Rattle.words.specs.Format.{Format, low, hid, infinity, quiet, magnitude, negative, is_nan_word, units}
use Rattle.words.specs.Rounding.{bit}
use Rattle.words.specs.Nearest.{square}
use Rattle.root.specs.Root.{lifted, root_at, root_word}
use Rattle.root.specs.Partial.{positive}
use Rattle.lists.specs.declared.judge.Judged.{Judged}

-- what is held to be right
abbrev pub Judge : Type 0
Judge = Format → ℕ → Judged

-- ---- the root, with the flags of document 02, request 1

-- a NaN whose quiet bit is clear
abbrev pub signalling : Format → ℕ → Bool
signalling f x = is_nan_word f x && ltb (magnitude f x) (quiet f)

-- "Invalid: negative nonzero root, or a signalling NaN operand."
abbrev pub invalid : Format → ℕ → Bool
invalid f x = (not (is_nan_word f x) && (negative f x && ltb 0 (magnitude f x))) || signalling f x

-- the square of a positive finite operand's exact root, in units of the root squared
abbrev pub exact_square : Format → ℕ → ℕ
exact_square f x = units f x * 2 ^ low f

-- "Overflow: a finite operand's value, rounded without exponent limit, passes the largest finite size": `root_at` knows no limit
abbrev pub overflow : Format → ℕ → Bool
overflow f x = positive f x && leb (infinity f) (root_at f (lifted f (units f x)))

-- whether the root of a positive finite operand is the exact one
abbrev pub exact : Format → ℕ → Bool
exact f x = eqb (square (units f (root_word f x))) (exact_square f x)

-- "Inexact: a non-NaN result differs from the exact value": zeros and infinity are their own roots
abbrev pub inexact : Format → ℕ → Bool
inexact f x = positive f x && not (exact f x)

-- "Underflow: inexact, and the exact value is nonzero and below the least normal number in size", which is hid units
abbrev pub underflow : Format → ℕ → Bool
underflow f x = inexact f x && ltb (exact_square f x) (square (hid f))

-- TestFloat's bits: 16 invalid, 8 divide by zero, which a root never does, 4 overflow, 2 underflow, 1 inexact
unfoldable pub root_flags : Format → ℕ → ℕ
root_flags f x = 16 * bit (invalid f x) + 4 * bit (overflow f x) + 2 * bit (underflow f x) + bit (inexact f x)

abbrev pub root_judged : Judge
root_judged f x = record { word = root_word f x; flags = root_flags f x }
