-- `pow::block::Room::end` meets its contract: one loop over the lanes; where none is counted, no flag is set. Assumes nothing.
use Rattle.std.proofs.Common.{◌≡◌, ◌<◌, ◌≤◌, ◌^◌, ◌+◌, ℕ, sym, subst, ◌∙◌, arith}
use Rattle.power.specs.Stages.{Ended}
use Rattle.pow.specs.declared.lane.Lane.{Lane}
use Rattle.pow.specs.Parts.{of, two_in}
use Rattle.pow.proofs.Stored.{none, none-told, one-more, one-more-told, unset}
use Rattle.pow.proofs.block.Room+F+F+Word.end.Goals as goal

-- a flag is 0 or 1
counted : (f v n i : ℕ) → n < 2 → v ≡ n → f ≤ i → i < 64 → (v < 2 ^ 32) × (f + v < 2 ^ 32) × (f + v ≤ i + 1)
counted f v n i h e k l = (omega arith, omega arith, omega arith)

both : (f v n : ℕ) → v ≡ n → f + v ≡ 0 → (f ≡ 0) × (n ≡ 0)
both f v n e h = (omega arith, omega arith)

below : (j : ℕ) → j < 0 → ⊥
below j h = omega arith

pub loop-i-init : goal.loop-i-init
loop-i-init g c = record {
  upto = none _ _ c.whole.ensures;
  told = none-told _ _ c.requires.full;
  few = omega arith;
  none = λ e j h. absurd (below j h);
}

pub ended-m-requires : goal.ended-m-requires
ended-m-requires g c =
    let e = c.at-l.ensures ∙ c.loop-i.invariant.upto.rest c.loop-i.i (omega arith) in
    subst (λ (a : Lane _ _). g.F.Word.Word.number a.flag < 2) (sym e) (c.requires.bits c.loop-i.i c.loop-i-test.true)

pub overflow_cast-found : goal.overflow_cast-found
overflow_cast-found g c = record { fits = (counted c.loop-i.found c.wide.result _ c.loop-i.i c.ended-m.ensures.ended.bit c.wide.ensures.value c.loop-i.invariant.few c.loop-i-test.true).0 }

pub overflow_add-found : goal.overflow_add-found
overflow_add-found g c = record { fits = (counted c.loop-i.found c.wide.result _ c.loop-i.i c.ended-m.ensures.ended.bit c.wide.ensures.value c.loop-i.invariant.few c.loop-i-test.true).1 }

pub loop-i-preserved : goal.loop-i-preserved
loop-i-preserved g c =
    let n = g.F.Word.Word.number in
    let m = c.ended-m.result in
    let i = c.loop-i.i in
    let l : Lane g.row.F.Denot g.row.F-Word.Denot = record { flag = m.flag; w = c.at-l.result.w; e = c.at-l.result.e; s = c.at-l.result.s; hi = c.at-l.result.hi; lo = c.at-l.result.lo; r = c.at-l.result.r; t = c.at-l.result.t } in
    let u = c.loop-i.invariant in
    let t = c.loop-i-test.true in
    let e = c.at-l.ensures ∙ u.upto.rest i (omega arith) in
    let p = subst (λ (a : Lane _ _). Ended (of g.F.Width.format g.F.Chain.width) (two_in g.F.Width.value a) (n a.w) (n a.flag) (n m.w) (n m.flag)) e c.ended-m.ensures.ended in
    rw c.put.ensures (record {
      upto = one-more _ _ u.upto t l tt;
      told = one-more-told _ _ u.upto.long u.told t m.w l p;
      few = (counted c.loop-i.found c.wide.result _ i c.ended-m.ensures.ended.bit c.wide.ensures.value u.few t).2;
      none = λ z. let b = both c.loop-i.found c.wide.result _ c.wide.ensures.value z in unset g.F.Word.Word.ZERO g.F.Chain.ONE n u.upto.long t l (u.none b.0) b.1;
    })

pub returns : goal.returns
returns g c = record {
  words = λ j k. c.loop-i.invariant.told.done j (omega arith);
  none = λ e j k. c.loop-i.invariant.none e j (omega arith);
}
