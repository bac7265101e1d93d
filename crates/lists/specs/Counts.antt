-- What a whole stream gives: its lines, how many there are, agree and are malformed, and the first that disagrees. Definitions only.
use Rattle.std.specs.Prelude.{ℕ, ◌+◌, ◌-◌, ◌^◌, min, ◌≡◌, Bool, true, false, not, ◌&&◌, cond, List, [], ◌∷◌, ◌++◌, eqb, length}
use Rattle.lists.specs.Judge.{Judge}
use Rattle.lists.specs.Lines.{verdict}
use Rattle.lists.specs.declared.line.Verdict.{Verdict}
use Rattle.lists.specs.declared.line.Verdict.TheVariants.{Malformed, Agrees, Disagrees}

-- ---- lines

abbrev pub newline : ℕ
newline = 10

-- bytes after the last newline, if any, are a line
abbrev pub last_line : List ℕ → List (List ℕ)
last_line [] = []
last_line (b ∷ l) = (b ∷ l) ∷ []

-- the lines of l ++ s, where l is what is already seen of the line that is open: a newline ends it
unfoldable pub lines_from : List ℕ → List ℕ → List (List ℕ)
lines_from l [] = last_line l
lines_from l (b ∷ s) = cond (eqb b newline) (l ∷ lines_from [] s) (lines_from (l ++ b ∷ []) s)

abbrev pub lines_of : List ℕ → List (List ℕ)
lines_of s = lines_from [] s

-- lines written out, a newline after each
abbrev pub written : List (List ℕ) → List ℕ
written [] = []
written (l ∷ ls) = l ++ newline ∷ written ls

-- bytes without a newline, and lines of such bytes
abbrev pub plain : List ℕ → Bool
plain [] = true
plain (b ∷ l) = not (eqb b newline) && plain l

abbrev pub all_plain : List (List ℕ) → Bool
all_plain [] = true
all_plain (l ∷ ls) = plain l && all_plain ls

-- a stream as its lines that a newline ends, and the bytes after the last newline
pub record Lined (s : List ℕ) : Type 0 where
  pub closed : List (List ℕ)
  pub rest : List ℕ
  pub closed-plain : all_plain closed ≡ true
  pub rest_plain : plain rest ≡ true
  pub is : s ≡ written closed ++ rest

-- ---- counts

-- counts stop at 2 ^ 64 - 1
abbrev pub last_count : ℕ
last_count = 2 ^ 64 - 1

abbrev pub capped : ℕ → ℕ
capped n = min n last_count

-- a count goes up by one
abbrev pub one_more : ℕ → ℕ
one_more n = capped (n + 1)

-- the lines of each kind
abbrev pub is_malformed : Verdict → Bool
is_malformed Malformed = true
is_malformed Agrees = false
is_malformed Disagrees = false

abbrev pub is_agreed : Verdict → Bool
is_agreed Malformed = false
is_agreed Agrees = true
is_agreed Disagrees = false

abbrev pub is_disagreed : Verdict → Bool
is_disagreed Malformed = false
is_disagreed Agrees = false
is_disagreed Disagrees = true

abbrev pub malformed : Judge → List ℕ → Bool
malformed j l = is_malformed (verdict j l)

abbrev pub agrees : Judge → List ℕ → Bool
agrees j l = is_agreed (verdict j l)

abbrev pub disagrees : Judge → List ℕ → Bool
disagrees j l = is_disagreed (verdict j l)

-- how many lines are such
unfoldable pub count : (List ℕ → Bool) → List (List ℕ) → ℕ
count p [] = 0
count p (l ∷ ls) = cond (p l) (1 + count p ls) (count p ls)

-- the first line that is such, and its number, from 1 after n others: no bytes and 0 where there is none
unfoldable pub first_line : (List ℕ → Bool) → List (List ℕ) → List ℕ
first_line p [] = []
first_line p (l ∷ ls) = cond (p l) l (first_line p ls)

unfoldable pub first_number : (List ℕ → Bool) → ℕ → List (List ℕ) → ℕ
first_number p n [] = 0
first_number p n (l ∷ ls) = cond (p l) (n + 1) (first_number p (n + 1) ls)

-- ---- the report on a stream

pub record Totals : Type 0 where
  pub lines : ℕ
  pub agree : ℕ
  pub malformed : ℕ
  pub number : ℕ
  pub first : List ℕ

abbrev pub report_of : Judge → List (List ℕ) → Totals
report_of j ls = record {
  lines = capped (length ls);
  agree = capped (count (agrees j) ls);
  malformed = capped (count (malformed j) ls);
  number = capped (first_number (disagrees j) 0 ls);
  first = first_line (disagrees j) ls;
}

abbrev pub report : Judge → List ℕ → Totals
report j s = report_of j (lines_of s)
