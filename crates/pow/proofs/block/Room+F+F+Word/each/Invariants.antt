-- `pow::block::Room::each` meets its contract: one loop over the lanes. Assumes nothing.
use Rattle.pow.proofs.Stored.{Upto}
use Rattle.pow.proofs.block.Room+F+F+Word.each.Given as goal

abbrev pub invariant-loop-i : goal.invariant-loop-i
invariant-loop-i g l = Upto g.F.Word.Word.ZERO g.F.Chain.ONE (λ j a b. g.G.Fn.post l.fn.step (a, tt) b) l.initial.self l.i l.self
