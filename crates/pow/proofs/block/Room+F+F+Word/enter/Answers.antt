-- `pow::block::Room::enter` meets its contract: one loop over the lanes. Assumes nothing.
use Rattle.std.proofs.Common.{◌≡◌, ◌<◌, ◌≤◌, ◌^◌, ◌+◌, ℕ, sym, arith}
use Rattle.std.proofs.lemmas.List.{get_or_read_under}
use Rattle.power.proofs.Clear.{flag-most}
use Rattle.pow.proofs.Stored.{none, one-more}
use Rattle.pow.proofs.block.Room+F+F+Word.enter.Goals as goal

-- a flag is 0 or 1
counted : (f v n i : ℕ) → n ≤ 1 → v ≡ n → f ≤ i → i < 64 → (v < 2 ^ 32) × (f + v < 2 ^ 32) × (f + v ≤ i + 1)
counted f v n i h e k l = (omega arith, omega arith, omega arith)

pub loop-i-init : goal.loop-i-init
loop-i-init g c = (none _ _ c.whole.ensures, omega arith)

pub overflow_cast-found : goal.overflow_cast-found
overflow_cast-found g c = record { fits = (counted c.loop-i.found c.wide.result _ c.loop-i.i (flag-most _ c.entered-m.ensures.flag) c.wide.ensures.value c.loop-i.invariant.1 c.loop-i-test.true).0 }

pub overflow_add-found : goal.overflow_add-found
overflow_add-found g c = record { fits = (counted c.loop-i.found c.wide.result _ c.loop-i.i (flag-most _ c.entered-m.ensures.flag) c.wide.ensures.value c.loop-i.invariant.1 c.loop-i-test.true).1 }

pub loop-i-preserved : goal.loop-i-preserved
loop-i-preserved g c =
    let z = g.F.Word.Word.ZERO in
    let i = c.loop-i.i in
    let t = c.loop-i-test.true in
    let x = get_or_read_under c.args.xs.now i 64 c.index-xs-i.result z c.index-xs-i.is t (sym c.requires.0) in
    let y = get_or_read_under c.args.ys.now i 64 c.index-ys-i.result z c.index-ys-i.is t (sym c.requires.1) in
    let e = c.entered-m.ensures in (
      rw c.put.ensures (one-more _ _ c.loop-i.invariant.0 t c.entered-m.result ((cc (e.flag, x, y)), (cc (e.base, x, y)), (cc (e.exponent, x, y)))),
      (counted c.loop-i.found c.wide.result _ i (flag-most _ e.flag) c.wide.ensures.value c.loop-i.invariant.1 t).2,
    )

pub returns : goal.returns
returns g c j k = c.loop-i.invariant.0.done j (omega arith)
