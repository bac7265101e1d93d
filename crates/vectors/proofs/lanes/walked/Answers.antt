-- `vectors::lanes::walked` meets what the steps of a lane ask, by pow/proofs/Walked.antt: what is walked with is clear. Assumes nothing.
use Rattle.std.proofs.Common.{ℕ, ◌<◌, ◌≤◌, sym, subst, ◌∙◌, arith}
use lib.Ieee.{of_bits}
use Rattle.words.specs.Format.{infinity, magnitude, ours}
use Rattle.power.specs.Width.{Two}
use Rattle.power.specs.NoNan.{Finite, Number}
use Rattle.power.specs.Stages.{clear}
use Rattle.power.proofs.Clear.{Clear, clear-is, flag-most, walked-clear, y-finite}
use Rattle.power.proofs.Blocks.{reduced-small}
use Rattle.chain.proofs.ClearPair.{far-number, logarithm-number, parts-finite, ratio-number}
use Rattle.pow.specs.Parts.{of}
use Rattle.pow.proofs.Walked.{Started, Summed, Logged, flag, interval, logarithm, logarithm-two, product, word}
use Rattle.vectors.proofs.lanes.walked.Goals as goal
use Rattle.vectors.proofs.lanes.walked.Goals.{After-entered-entered, After-with_series-summed, After-with_logarithm-logged}
use Rattle.vectors.proofs.lanes.walked.Given.{Over}

-- a flag is 0 or 1
bit : (n : ℕ) → n ≤ 1 → n < 2
bit n h = omega arith

ready : (g : Over) (c : After-entered-entered g) → Clear (of g.F.Width.format g.F.Chain.width) (g.F.Word.Word.number c.entered-entered.result.w) (g.F.Word.Word.number c.entered-entered.result.e)
ready g c =
    let n = g.F.Word.Word.number in
    let e = c.entered-entered.ensures in
    clear-is (of g.F.Width.format g.F.Chain.width) _ _ (walked-clear (of g.F.Width.format g.F.Chain.width) g.met.F.Chain.room (n c.args.x) (n c.args.y) e.base e.exponent)

-- what each stage promised
started : (g : Over) (c : After-with_series-summed g) → Started (of g.F.Width.format g.F.Chain.width) g.F.Width.value g.F.Word.Word.number c.entered-entered.result c.started-started.result
started g c = let p = c.started-started.ensures in (p.interval, p.ratio, p.exponent, p.kept.0, p.kept.1)

summed : (g : Over) (c : After-with_series-summed g) → Summed (of g.F.Width.format g.F.Chain.width) g.F.Width.value g.F.Word.Word.number c.started-started.result c.with_series-summed.result
summed g c = let p = c.with_series-summed.ensures in (p.series, p.kept.0, p.kept.1, p.kept.2, p.kept.3, p.kept.4)

logged : (g : Over) (c : After-with_logarithm-logged g) → Logged (of g.F.Width.format g.F.Chain.width) g.F.Width.value g.F.Word.Word.number c.with_series-summed.result c.with_logarithm-logged.result
logged g c = let p = c.with_logarithm-logged.ensures in (p.logarithm, p.kept.0, p.kept.1, p.kept.2, p.kept.3)

pub started-started-requires : goal.started-started-requires
started-started-requires g c =
    let h = g.met.F.Chain in
    let a = ready g (goal.at.started-started-requires g c).After-entered-entered in
    (a.normal, a.positive, ratio-number (of g.F.Width.format g.F.Chain.width) h.known h.room a h.short)

pub with_logarithm-logged-requires : goal.with_logarithm-logged-requires
with_logarithm-logged-requires g c =
    let h = g.met.F.Chain in
    let a = ready g (goal.at.with_logarithm-logged-requires g c).After-entered-entered in
    let b = (goal.at.with_logarithm-logged-requires g c).After-with_series-summed in
    let e = logarithm (of g.F.Width.format g.F.Chain.width) g.F.Width.value g.F.Word.Word.number c.entered-entered.result c.started-started.result c.with_series-summed.result (started g b) (summed g b) in
    subst (λ (t : Two). Number t.lo) (sym e) (logarithm-number (of g.F.Width.format g.F.Chain.width) h.known h.room a h.short)

pub with_product-timed-requires : goal.with_product-timed-requires
with_product-timed-requires g c =
    let h = g.met.F.Chain in
    let n = g.F.Word.Word.number in
    let v = g.F.Width.value in
    let f = ours g.F.Width.format in
    let w = of g.F.Width.format g.F.Chain.width in
    let a = ready g (goal.at.with_product-timed-requires g c).After-entered-entered in
    let b = (goal.at.with_product-timed-requires g c).After-with_series-summed in
    let d = logged g (goal.at.with_product-timed-requires g c).After-with_logarithm-logged in
    let l = c.entered-entered.result in
    let s = c.started-started.result in
    let q = c.with_series-summed.result in
    let r = c.with_logarithm-logged.result in (
      subst (λ (y : g.row.F-Word.Denot). magnitude f (n y) < infinity f) (sym (word w v n l s q (started g b) (summed g b) r d)) (y-finite w h.room a),
      subst (λ (i : ℕ). i < 2) (sym (interval w v n l s q (started g b) (summed g b) r d)) (reduced-small w _),
      subst (λ (t : Two). Number t.lo) (sym (logarithm-two w v n l s q (started g b) (summed g b) r d)) (far-number w h.known h.room a),
    )

pub turned-turned-requires : goal.turned-turned-requires
turned-turned-requires g c =
    let h = g.met.F.Chain in
    let n = g.F.Word.Word.number in
    let v = g.F.Width.value in
    let w = of g.F.Width.format g.F.Chain.width in
    let a = ready g (goal.at.turned-turned-requires g c).After-entered-entered in
    let b = (goal.at.turned-turned-requires g c).After-with_series-summed in
    let d = logged g (goal.at.turned-turned-requires g c).After-with_logarithm-logged in
    let l = c.entered-entered.result in
    let s = c.started-started.result in
    let q = c.with_series-summed.result in
    let r = c.with_logarithm-logged.result in
    let p = c.with_product-timed.ensures in
    let e = p.product ∙ product w v n l s q (started g b) (summed g b) r d (of_bits g.F.Width.format) in
    let f = parts-finite w h.known h.room a in (
      subst (λ (t : Two). Finite t.hi) (sym e) f.0,
      subst (λ (t : Two). Finite t.lo) (sym e) f.1,
      subst (λ (b : g.row.F-Word.Denot). n b < 2) (sym (p.kept ∙ flag w v n l s q (started g b) (summed g b) r d))
          (bit _ (flag-most (clear w (n c.args.x) (n c.args.y)) c.entered-entered.ensures.flag)),
    )
