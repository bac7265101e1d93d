-- A line of a list, and what is said of it. Definitions only.
use Rattle.std.specs.Prelude.{ℕ, ◌+◌, Bool, ◌&&◌, cond, List, Option, Some, None, eqb, length, take, drop, get_or}
use Rattle.words.specs.Format.{Format, binary16, binary32, binary64, is_nan_word}
use Rattle.lists.specs.Digits.{hexadecimal, number_of}
use Rattle.lists.specs.Judge.{Judge}
use Rattle.lists.specs.declared.judge.Judged.{Judged}
use Rattle.lists.specs.declared.line.Numbers.{Numbers}
use Rattle.lists.specs.declared.line.Verdict.{Verdict}
use Rattle.lists.specs.declared.line.Verdict.TheVariants.{Malformed, Agrees, Disagrees}

-- ---- W, W and 2 hexadecimal digits, one blank between

abbrev pub operand_text : ℕ → List ℕ → List ℕ
operand_text w l = take w l

abbrev pub result_text : ℕ → List ℕ → List ℕ
result_text w l = take w (drop (w + 1) l)

abbrev pub flags_text : ℕ → List ℕ → List ℕ
flags_text w l = drop (w + 1 + w + 1) l

abbrev pub blank : ℕ
blank = 32

unfoldable pub well_formed : ℕ → List ℕ → Bool
well_formed w l =
    eqb (length l) (w + 1 + w + 1 + 2)
    && (((hexadecimal (operand_text w l) && hexadecimal (result_text w l)) && hexadecimal (flags_text w l))
    && (eqb (get_or l w 0) blank && eqb (get_or l (w + 1 + w) 0) blank))

-- ---- a line is held to a judge

-- NaN results compare as NaN
abbrev pub same_result : Format → ℕ → ℕ → Bool
same_result f a b = cond (is_nan_word f a) (is_nan_word f b) (eqb a b)

-- whether a result and flags are those that are held to be right
abbrev pub agree : Judged → Format → ℕ → ℕ → Bool
agree j f result flags = same_result f j.word result && eqb j.flags flags

-- what is said of a line whose words have w hexadecimal digits
unfoldable pub compared : Judge → Format → ℕ → List ℕ → Verdict
compared j f w l = cond (agree (j f (number_of (operand_text w l))) f (number_of (result_text w l)) (number_of (flags_text w l))) Agrees Disagrees

abbrev pub verdict_at : Judge → Format → ℕ → List ℕ → Verdict
verdict_at j f w l = cond (well_formed w l) (compared j f w l) Malformed

-- what is said of a line: W 4, 8 or 16 gives the width, and any other is malformed
unfoldable pub verdict : Judge → List ℕ → Verdict
verdict j l =
    cond (well_formed 4 l) (compared j binary16 4 l)
    (cond (well_formed 8 l) (compared j binary32 8 l)
    (cond (well_formed 16 l) (compared j binary64 16 l)
    Malformed))

-- ---- what the code reads of a line

-- the three numbers of a line whose words have w hexadecimal digits, if it is well formed
abbrev pub numbers : ℕ → List ℕ → Option Numbers
numbers w l =
    cond (well_formed w l) (Some (record { operand = number_of (operand_text w l); result = number_of (result_text w l); flags = number_of (flags_text w l) })) None
