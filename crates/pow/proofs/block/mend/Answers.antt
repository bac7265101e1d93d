-- `pow::block::mend` meets its contract: one loop over a block: a pair whose flag is 0 is done, by power/proofs/Filled.antt. Assumes nothing.
use Rattle.std.proofs.Common.{◌∙◌, sym, ap, arith}
use Rattle.std.proofs.lemmas.List.{get_or_read_under}
use Rattle.power.proofs.Filled.{all, none, one_more}
use Rattle.pow.specs.declared.lane.Lane.{Lane}
use Rattle.pow.proofs.block.mend.Goals as goal
use Rattle.pow.proofs.block.mend.Goals.{then-wide-eq0, else-wide-eq0}

pub returns-then-found-eq0 : goal.returns-then-found-eq0
returns-then-found-eq0 g c j k = c.requires.done j k (c.requires.none c.if-found-eq0.true j k)

pub loop-i-init : goal.loop-i-init
loop-i-init g c = none c.requires.full.2

pub loop-i-preserved : goal.loop-i-preserved
loop-i-preserved g c =
    let z = g.F.Word.Word.ZERO in
    let i = c.loop-i.i in
    let t = c.loop-i-test.true in
    let r = c.requires.full in
    let u = c.loop-i.invariant in
    one_more u t (elim c.if-wide-eq0.branch [
      | then-wide-eq0 w ↦ w.out-is ∙ get_or_read_under c.loop-i.out i 64 w.index-out-i.result z w.index-out-i.is t (sym u.long) ∙ u.rest i (omega arith)
          ∙ c.requires.done i t (ap (λ (l : Lane _ _). g.F.Word.Word.number l.flag) (sym c.at.ensures) ∙ sym c.wide.ensures.value ∙ w.if-wide-eq0.true)
      | else-wide-eq0 w ↦ let x = get_or_read_under c.args.xs.now i 64 w.index-xs-i.result z w.index-xs-i.is t (sym r.0) in
          let y = get_or_read_under c.args.ys.now i 64 w.index-ys-i.result z w.index-ys-i.is t (sym r.1) in
          w.out-is ∙ w.pow.ensures ∙ (λ n. g.F.Pow.pow (x n) (y n))
    ])

pub returns : goal.returns
returns g c = all c.loop-i.invariant c.loop-i-test.false
