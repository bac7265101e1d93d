-- A stream may be cut anywhere: the reader keeps the same of it, and so gives the same report. For any judge. Assumes nothing.
use Prim.Native.Nat.{ℕ}
use mathlib.Core.Path.{◌≡◌, refl, sym, ap, subst, ◌∙◌}
use mathlib.Core.List.{List, [], ◌∷◌}
use Rattle.lists.specs.Judge.{Judge, root_judged}
use Rattle.lists.specs.Counts.{report}
use Rattle.lists.specs.Reader.{Progress, fed, finished, begun, fed_all, joined, progress_of, tally_of, state_of, Feeding, none, next, Run}
use Rattle.lists.specs.declared.reader.State.{State}
use Rattle.lists.specs.declared.tally.Tally.{Tally}
use Rattle.lists.proofs.Progress.{tallied, keeping}
use Rattle.lists.proofs.Keeping.{text-of-line}
use Rattle.lists.proofs.Pieces.{fed-append}
use Rattle.lists.proofs.Report.{reader-reports}

-- any number of pieces, of any sizes
pieces : (j : Judge) (p : Progress) (ss : List (List ℕ)) → fed_all j p ss ≡ fed j p (joined ss)
unfolding fed
pieces j p [] = refl
pieces j p (s ∷ ss) = pieces j (fed j p s) ss ∙ sym (fed-append j p s (joined ss))

-- the report on a stream in pieces is that on the stream
pieces-report : (j : Judge) (ss : List (List ℕ)) → finished j (fed_all j begun ss) ≡ report j (joined ss)
pieces-report j ss = ap (finished j) (pieces j begun ss) ∙ reader-reports j (joined ss)

-- ---- what the contracts of `start`, `feed` and `finish` say together

-- a state that is handed out says all of what was kept
kept-state : (p : Progress) → progress_of (state_of p) ≡ p
kept-state p i =
    let t = p.totals in
    keeping (tallied t.lines t.agree t.malformed t.number (text-of-line t.first i)) (text-of-line p.line i)

-- one state after the other
feeding : {s u : State} {ps : List (List ℕ)} (q : Progress) → s ≡ state_of q → Feeding s ps u → progress_of u ≡ fed_all root_judged q ps
feeding q e none = ap progress_of e ∙ kept-state q
feeding q e (next {s} {t} {u} {p} {ps} h f) = feeding (fed root_judged q p) (h ∙ ap (λ (r : Progress). state_of (fed root_judged r p)) (ap progress_of e ∙ kept-state q)) f

-- however the stream comes, what `finish` returns is the report on it
pub run-report : {ps : List (List ℕ)} {r : Tally} → Run ps r → r ≡ tally_of (report root_judged (joined ps))
run-report {ps} {r} d = d.finishes ∙ ap tally_of (ap (finished root_judged) (feeding begun d.starts d.feeds) ∙ pieces-report root_judged ps)

-- and there is a run over any pieces
feed-all : (s : State) (ps : List (List ℕ)) → (u : State) × Feeding s ps u
feed-all s [] = (s, none)
feed-all s (p ∷ ps) = let r = feed-all (state_of (fed root_judged (progress_of s) p)) ps in (r.0, next refl r.1)

pub runs : (ps : List (List ℕ)) → Run ps (tally_of (report root_judged (joined ps)))
runs ps =
    let d = feed-all (state_of begun) ps in
    let r : Run ps (tally_of (finished root_judged (progress_of d.0))) = record { begin = state_of begun; end = d.0; starts = refl; feeds = d.1; finishes = refl } in
    subst (Run ps) (run-report r) r
