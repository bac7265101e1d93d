-- Request 7: TestFloat's lists. What is said of a line of each width, and worked examples. Definitions only.
use Rattle.std.specs.Prelude.{ℕ, ◌+◌, ◌-◌, ◌*◌, ◌^◌, ◌≤◌, ◌<◌, min, ◌≡◌, Bool, true, ◌&&◌, cond, ◌⊎◌, List, [], ◌∷◌, ◌++◌, length}
use Rattle.words.specs.Format.{Format, infinity, magnitude, negative, is_nan_word}
use Rattle.words.specs.Rounding.{bit}
use Rattle.lists.specs.Digits.{number_of}
use Rattle.lists.specs.Judge.{Judge, signalling, exact_square, root_flags, root_judged}
use Rattle.lists.specs.Lines.{agree, verdict}
use Rattle.lists.specs.Grammar.{Fields}
use Rattle.lists.specs.Written.{hex_before, line_in}
use Rattle.lists.specs.Counts.{lines_of, is_malformed, is_agreed, is_disagreed, disagrees, count}
use Rattle.lists.specs.Reader.{line_of}
use Rattle.lists.specs.declared.line.Verdict.{Verdict}
use Rattle.lists.specs.declared.tally.Tally.{Tally}
use Rattle.lists.specs.declared.line.Verdict.TheVariants.{Agrees, Disagrees}

-- what is said of operand x, result r and flags g: whether they are the judge's
abbrev pub said : Judge → Format → ℕ → ℕ → ℕ → Verdict
said j f x r g = cond (agree (j f x) f r g) Agrees Disagrees

-- of a line of the grammar, words of w digits, it is said of the numbers that its fields stand for
abbrev pub ByGrammar : Format → ℕ → Type 0
ByGrammar f w = (j : Judge) (l : List ℕ) (d : Fields w l) → verdict j l ≡ said j f (number_of d.operand) (number_of d.result) (number_of d.flags)

-- a line that is written from three numbers, its letters from 65 on (capitals) or from 97 on, is read as those numbers
abbrev pub ByWriting : Format → ℕ → Type 0
ByWriting f w =
    (letter : ℕ) → (letter ≡ 65) ⊎ (letter ≡ 97) → (j : Judge) (x r g : ℕ) → x < 16 ^ w → r < 16 ^ w → g < 16 ^ 2
    → verdict j (line_in letter w x r g) ≡ said j f x r g

-- ---- the flags of a root, in TestFloat's bits: 1 inexact, 16 invalid; no root has another

pub record FlagsMeant (f : Format) : Type 0 where
  pub of_nan : (x : ℕ) → is_nan_word f x ≡ true → root_flags f x ≡ 16 * bit (signalling f x)
  pub of_negative : (x : ℕ) → magnitude f x ≤ infinity f → negative f x ≡ true → 0 < magnitude f x → root_flags f x ≡ 16
  pub of_zero : (x : ℕ) → magnitude f x ≡ 0 → root_flags f x ≡ 0
  pub of-infinity : (x : ℕ) → x ≡ infinity f → root_flags f x ≡ 0
  -- a positive finite operand: some whole number of units is its exact root, or none is
  pub of-exact : (x n : ℕ) → 0 < x → x < infinity f → n * n ≡ exact_square f x → root_flags f x ≡ 0
  pub of-inexact : (x : ℕ) → 0 < x → x < infinity f → ((n : ℕ) → ¬ (n * n ≡ exact_square f x)) → root_flags f x ≡ 1

-- ---- the first disagreeing line, as the tally r has it

-- it stands after lines of which none disagrees; its number counts from 1 and stops with the counts
abbrev pub FirstKept : List ℕ → Tally → Type 0
FirstKept s r =
    (before : List (List ℕ)) (l : List ℕ) (after : List (List ℕ)) → lines_of s ≡ before ++ l ∷ after → count (disagrees root_judged) before ≡ 0 → disagrees root_judged l ≡ true
    → (r.first ≡ line_of l) × (r.number ≡ min (length before + 1) (2 ^ 64 - 1))

-- where none disagrees there is none, and its number is 0
abbrev pub NoneKept : List ℕ → Tally → Type 0
NoneKept s r = count (disagrees root_judged) (lines_of s) ≡ 0 → (r.first ≡ line_of []) × (r.number ≡ 0)

-- ---- worked examples

pub data Example : Type 0 where
  agreeing : List ℕ → Example
  disagreeing : List ℕ → Example
  malformed : List ℕ → Example

abbrev pub holds : Example → Bool
holds (agreeing l) = is_agreed (verdict root_judged l)
holds (disagreeing l) = is_disagreed (verdict root_judged l)
holds (malformed l) = is_malformed (verdict root_judged l)

abbrev pub all_hold : List Example → Bool
all_hold [] = true
all_hold (e ∷ es) = holds e && all_hold es

-- a line in capital letters
abbrev pub line : ℕ → ℕ → ℕ → ℕ → List ℕ
line = line_in 65

abbrev pub examples : List Example
examples =
    agreeing (line 4 0x4000 0x3da8 0x01)
    ∷ agreeing (line 8 0x4000_0000 0x3fb5_04f3 0x01)
    ∷ agreeing (line_in 97 16 0x4000_0000_0000_0000 0x3ff6_a09e_667f_3bcd 0x01)
    -- exact, also a subnormal; the zeros and infinity
    ∷ agreeing (line 4 0x4400 0x4000 0x00)
    ∷ agreeing (line 8 0x0000_0002 0x1a80_0000 0x00)
    ∷ agreeing (line 8 0x8000_0000 0x8000_0000 0x00)
    ∷ agreeing (line 16 0x7ff0_0000_0000_0000 0x7ff0_0000_0000_0000 0x00)
    -- NaN of any pattern: of a negative number and of a signalling NaN with invalid, of a quiet NaN with no flag
    ∷ agreeing (line 8 0xbf80_0000 0xffc0_0000 0x10)
    ∷ agreeing (line 8 0x7f80_0001 0x7fff_ffff 0x10)
    ∷ agreeing (line 8 0xffc0_0000 0x7f80_0001 0x00)
    ∷ agreeing (line 4 0x7c01 0xfe00 0x10)
    ∷ agreeing (line 16 0x7ff8_0000_0000_0000 0xfff8_0000_0000_0000 0x00)
    ∷ agreeing (line 16 0xfff0_0000_0000_0000 0x7ff8_0000_0000_0000 0x10)
    ∷ disagreeing (line 8 0x7fc0_0000 0x7fc0_0000 0x10)
    ∷ disagreeing (line 8 0xbf80_0000 0x7f80_0000 0x10)
    -- a wrong flag, a flag that TestFloat has not, a wrong last digit, a zero of the other sign
    ∷ disagreeing (line 8 0x4000_0000 0x3fb5_04f3 0x00)
    ∷ disagreeing (line 8 0x4000_0000 0x3fb5_04f3 0x21)
    ∷ disagreeing (line 8 0x4000_0000 0x3fb5_04f4 0x01)
    ∷ disagreeing (line 8 0x8000_0000 0x0000_0000 0x00)
    -- no bytes; a carriage return; a blank before; a digit more; another width's result; a letter past f
    ∷ malformed []
    ∷ malformed (line 8 0x3f80_0000 0x3f80_0000 0x00 ++ 13 ∷ [])
    ∷ malformed (32 ∷ line 8 0x3f80_0000 0x3f80_0000 0x00)
    ∷ malformed (line 9 0x3f80_0000 0x3f80_0000 0x00)
    ∷ malformed (hex_before 65 4 0x3c00 (32 ∷ hex_before 65 8 0x3f80_0000 (32 ∷ 48 ∷ 48 ∷ [])))
    ∷ malformed (line_in 66 8 0xff80_0000 0xffc0_0000 0x10)
    ∷ []
