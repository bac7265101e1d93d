-- `pow::block::Room::enter` meets its contract: one loop over the lanes. Assumes nothing.
use Rattle.std.proofs.Common.{◌≤◌, ◌≡◌, cond, get_or}
use Rattle.power.specs.Stages.{clear, walked_with}
use Rattle.pow.specs.Parts.{of}
use Rattle.pow.proofs.Stored.{Upto}
use Rattle.pow.proofs.block.Room+F+F+Word.enter.Given as goal

abbrev pub invariant-loop-i : goal.invariant-loop-i
invariant-loop-i g l =
    let n = g.F.Word.Word.number in
    let z = g.F.Word.Word.ZERO in
    Upto z g.F.Chain.ONE (λ j a b.
    let x = n (get_or l.xs j z) in
    let y = n (get_or l.ys j z) in
    let t = clear (of g.F.Width.format g.F.Chain.width) x y in
    (n b.flag ≡ cond t 0 1) × (n b.w ≡ walked_with (of g.F.Width.format g.F.Chain.width) t x) × (n b.e ≡ walked_with (of g.F.Width.format g.F.Chain.width) t y)) l.initial.self l.i l.self
    × (l.found ≤ l.i)
