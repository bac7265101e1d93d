-- `lists::reader::feed` meets its contract: a piece goes on with the open line, then come whole lines, and the rest is kept. Assumes nothing.
use Rattle.std.proofs.Common.{ℕ, ◌≡◌, ◌≤◌, ◌∙◌, refl, sym, ap, arith, true, List, [], ◌∷◌, ◌++◌, length, take}
use lib.Seq.{take_all}
use Rattle.lists.specs.Judge.{root_judged}
use Rattle.lists.specs.Counts.{Totals, plain}
use Rattle.lists.specs.Reader.{text_of, totals_of, line_of, state_of, fed, ended}
use Rattle.lists.specs.declared.tally.Line.{Line}
use Rattle.lists.proofs.Keeping.{text-of-line}
use Rattle.lists.proofs.Progress.{keeping}
use Rattle.lists.proofs.Pieces.{fed-plain, fed-line}
use Rattle.lists.proofs.Report.{ended-cut}
use Rattle.lists.proofs.reader.feed.Goals as goal

-- a line that ends, after what was kept of it
line : (t : Totals) (l m s : List ℕ) {r : List ℕ} {u : Totals} → length l ≤ 37 → r ≡ m ++ 10 ∷ s → plain m ≡ true → u ≡ ended root_judged t (l ++ m)
    → fed root_judged (keeping t l) r ≡ fed root_judged (keeping u []) s
line t l m s few is h e =
    ap (fed root_judged (keeping t l)) is
    ∙ fed-line root_judged t l m s (take_all 37 l few) h
    ∙ ap (λ (u : Totals). fed root_judged (keeping u []) s) (sym e)

pub returns-in_default : goal.returns-in_default
returns-in_default c =
    let t = totals_of c.args.state.tally in
    let text = text_of c.args.state.line in
    (λ i. record { tally = c.settled.ensures i; line = c.longer.ensures.value i })
    ∙ ap state_of (sym (fed-plain root_judged t c.args.piece.now text (take_all 37 text c.longer.ensures.few) c.in_default.ensures))

pub loop-line-preserved : goal.loop-line-preserved
loop-line-preserved c =
    let a = c.in-Some-cut in
    c.loop-line.invariant ∙ line (totals_of c.loop-line.tally) [] a.line.now a.next.now (omega arith) a.ensures.1 a.ensures.0 c.end-in-Some-cut.ensures

pub returns : goal.returns
returns c =
    let a = c.in-Some in
    let t = totals_of c.args.state.tally in
    let u = totals_of c.loop-line.tally in
    let text = text_of c.args.state.line in
    let rest = c.loop-line.rest.now in
    let first : totals_of c.end.new.self ≡ ended root_judged t (text ++ a.end.now) =
    c.end.ensures
    ∙ ap (ended root_judged t) (c.text.ensures ∙ ap text_of c.longer-2.ensures.value ∙ text-of-line (take 37 (text ++ a.end.now)))
    ∙ ended-cut root_judged t (text ++ a.end.now) in
    let kept = c.longer-3.ensures.value ∙ ap (λ (l : Line). line_of (take 37 (text_of l ++ rest))) c.empty.ensures in
    (λ i. record { tally = c.settled-2.ensures i; line = kept i })
    ∙ ap state_of (sym (line t text a.end.now a.rest.now c.longer-2.ensures.few a.ensures.1 a.ensures.0 first ∙ c.loop-line.invariant ∙ fed-plain root_judged u rest [] refl c.in_default-cut.ensures))
