-- `pow::block::singly` meets its contract: one loop over a block, by power/proofs/Filled.antt. Assumes nothing.
use Rattle.std.proofs.Common.{◌∙◌, sym}
use Rattle.std.proofs.lemmas.List.{get_or_read_under}
use Rattle.power.proofs.Filled.{all, none, one_more}
use Rattle.pow.proofs.block.singly.Goals as goal

pub loop-i-init : goal.loop-i-init
loop-i-init g c = none c.requires.2

pub loop-i-preserved : goal.loop-i-preserved
loop-i-preserved g c =
    let z = g.F.Word.Word.ZERO in
    let i = c.loop-i.i in
    let x = get_or_read_under c.args.xs.now i 64 c.index-xs-i.result z c.index-xs-i.is c.loop-i-test.true (sym c.requires.0) in
    let y = get_or_read_under c.args.ys.now i 64 c.index-ys-i.result z c.index-ys-i.is c.loop-i-test.true (sym c.requires.1) in
    one_more c.loop-i.invariant c.loop-i-test.true (c.pow.ensures ∙ (λ n. g.F.Pow.pow (x n) (y n)))

pub returns : goal.returns
returns g c = all c.loop-i.invariant c.loop-i-test.false
