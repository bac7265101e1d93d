-- `pow::block::Room::each` meets its contract: one loop over the lanes. Assumes nothing.
use Rattle.std.proofs.Common.{subst, sym, ◌∙◌, arith}
use Rattle.pow.proofs.Stored.{none, one-more}
use Rattle.pow.specs.declared.lane.Lane.{Lane}
use Rattle.pow.proofs.block.Room+F+F+Word.each.Goals as goal

pub loop-i-init : goal.loop-i-init
loop-i-init g c = none _ _ c.whole.ensures

pub loop-i-preserved : goal.loop-i-preserved
loop-i-preserved g c =
    rw c.put.ensures (one-more _ _ c.loop-i.invariant c.loop-i-test.true c.step.result
    (subst (λ (a : Lane _ _). g.G.Fn.post c.args.step (a, tt) c.step.result) c.at.ensures c.step.ensures))

pub step-requires : goal.step-requires
step-requires g c = let e = c.at.ensures ∙ c.loop-i.invariant.rest c.loop-i.i (omega arith) in
    subst (λ (a : Lane _ _). g.G.Fn.pre c.args.step (a, tt)) (sym e) (c.requires c.loop-i.i c.loop-i-test.true)

pub returns : goal.returns
returns g c j h = c.loop-i.invariant.done j (omega arith)
