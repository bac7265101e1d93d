-- The reader: what it keeps of a stream so far, and how a byte changes it. Definitions only; that it gives the report on the stream is proofs/Report.antt.
use Rattle.std.specs.Prelude.{ℕ, ◌-◌, ◌≡◌, cond, List, [], ◌∷◌, ◌++◌, eqb, length, take, replicate}
use Rattle.lists.specs.Judge.{Judge, root_judged}
use Rattle.lists.specs.Lines.{verdict}
use Rattle.lists.specs.Counts.{Totals, one_more, newline}
use Rattle.lists.specs.declared.line.Verdict.{Verdict}
use Rattle.lists.specs.declared.line.Verdict.TheVariants.{Malformed, Agrees, Disagrees}
use Rattle.lists.specs.declared.tally.Line.{Line}
use Rattle.lists.specs.declared.tally.Tally.{Tally}
use Rattle.lists.specs.declared.reader.State.{State}

-- ---- one line more

abbrev pub ended_by : Verdict → Totals → List ℕ → Totals
ended_by Malformed t l = record { lines = one_more t.lines; agree = t.agree; malformed = one_more t.malformed; number = t.number; first = t.first }
ended_by Agrees t l = record { lines = one_more t.lines; agree = one_more t.agree; malformed = t.malformed; number = t.number; first = t.first }
ended_by Disagrees t l =
    cond (eqb t.number 0)
    (record { lines = one_more t.lines; agree = t.agree; malformed = t.malformed; number = one_more t.lines; first = l })
    (record { lines = one_more t.lines; agree = t.agree; malformed = t.malformed; number = t.number; first = t.first })

unfoldable pub ended : Judge → Totals → List ℕ → Totals
ended j t l = ended_by (verdict j l) t l

-- ---- the bytes

-- the totals of the lines that ended, and the bytes of the one that did not
pub record Progress : Type 0 where
  pub totals : Totals
  pub line : List ℕ

-- the longest well-formed line has 36 bytes: one more is enough to tell that a line is longer
abbrev pub kept : ℕ
kept = 37

unfoldable pub step : Judge → Progress → ℕ → Progress
step j p b =
    cond (eqb b newline)
    (record { totals = ended j p.totals p.line; line = [] })
    (record { totals = p.totals; line = take kept (p.line ++ b ∷ []) })

unfoldable pub fed : Judge → Progress → List ℕ → Progress
fed j p [] = p
fed j p (b ∷ s) = fed j (step j p b) s

abbrev pub nothing : Totals
nothing = record { lines = 0; agree = 0; malformed = 0; number = 0; first = [] }

abbrev pub begun : Progress
begun = record { totals = nothing; line = [] }

-- the stream ends
unfoldable pub finished : Judge → Progress → Totals
finished j p = cond (eqb (length p.line) 0) p.totals (ended j p.totals p.line)

-- ---- a stream in pieces

abbrev pub fed_all : Judge → Progress → List (List ℕ) → Progress
fed_all j p [] = p
fed_all j p (s ∷ ss) = fed_all j (fed j p s) ss

abbrev pub joined : List (List ℕ) → List ℕ
joined [] = []
joined (s ∷ ss) = s ++ joined ss

-- ---- what the code's structs stand for

abbrev pub text_of : Line → List ℕ
text_of l = take l.held l.bytes

abbrev pub totals_of : Tally → Totals
totals_of t = record { lines = t.lines; agree = t.agree; malformed = t.malformed; number = t.number; first = text_of t.first }

abbrev pub progress_of : State → Progress
progress_of s = record { totals = totals_of s.tally; line = text_of s.line }

-- ---- and the structs that are handed out: zeros stand after the bytes that count

abbrev pub line_of : List ℕ → Line
line_of l = record { bytes = l ++ replicate (kept - length l) 0; held = length l }

abbrev pub tally_of : Totals → Tally
tally_of t = record { lines = t.lines; agree = t.agree; malformed = t.malformed; number = t.number; first = line_of t.first }

abbrev pub state_of : Progress → State
state_of p = record { tally = tally_of p.totals; line = line_of p.line }

-- ---- the contracts of `start`, `feed` and `finish`: for any state that is handed in

abbrev pub Started : State → Type 0
Started r = r ≡ state_of begun

abbrev pub Fed : State → List ℕ → State → Type 0
Fed state piece r = r ≡ state_of (fed root_judged (progress_of state) piece)

abbrev pub Finished : State → Tally → Type 0
Finished state r = r ≡ tally_of (finished root_judged (progress_of state))

-- ---- a run of the code

-- `feed` for one piece after the other
pub data Feeding : State → List (List ℕ) → State → Type 0 where
  none : {s : State} → Feeding s [] s
  next : {s t u : State} {p : List ℕ} {ps : List (List ℕ)} → Fed s p t → Feeding t ps u → Feeding s (p ∷ ps) u

-- the tally r comes of `start`, `feed` for each piece and `finish`
pub record Run (ps : List (List ℕ)) (r : Tally) : Type 0 where
  pub begin : State
  pub end : State
  pub starts : Started begin
  pub feeds : Feeding begin ps end
  pub finishes : Finished end r
