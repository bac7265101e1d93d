-- `pow::block::Room::end` meets its contract: one loop over the lanes; where none is counted, no flag is set. Assumes nothing.
use Rattle.std.proofs.Common.{◌≡◌, ◌<◌, ◌≤◌, ℕ}
use Rattle.std.specs.Prelude.{⊤}
use Rattle.power.specs.Stages.{Ended}
use Rattle.pow.specs.Lanes.{lane_at}
use Rattle.pow.specs.Parts.{of, two_in}
use Rattle.pow.proofs.Stored.{Told, Upto}
use Rattle.pow.proofs.block.Room+F+F+Word.end.Given as goal

abbrev pub invariant-loop-i : goal.invariant-loop-i
invariant-loop-i g l =
    let n = g.F.Word.Word.number in
    let z = g.F.Word.Word.ZERO in
    let o = g.F.Chain.ONE in
    record {
      upto : Upto z o (λ j a b. ⊤) l.initial.self l.i l.self;
      told : Told z o (λ j v b. let a = lane_at z o l.initial.self j in Ended (of g.F.Width.format g.F.Chain.width) (two_in g.F.Width.value a) (n a.w) (n a.flag) (n v) (n b.flag)) l.self l.i l.out;
      few : l.found ≤ l.i;
      none : l.found ≡ 0 → (j : ℕ) → j < l.i → n (lane_at z o l.self j).flag ≡ 0;
    }
