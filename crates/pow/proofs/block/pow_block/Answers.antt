-- `pow::block::pow_block` meets its contract: a pair is raised by the stages or by a single call. Assumes nothing.
use Rattle.std.proofs.Common.{rules, ℕ, ◌<◌, ◌≤◌, sym, ap, ◌∙◌, arith, get_or}
use Rattle.power.specs.Stages.{clear}
use Rattle.power.proofs.Clear.{flag-most, walked-clear, walked-power}
use Rattle.power.specs.Power.{pow_of}
use Rattle.power.specs.Width.{Width}
use Rattle.pow.specs.Parts.{of}
use Rattle.pow.proofs.Small.{of-is}
use Rattle.pow.proofs.block.pow_block.Goals as goal

-- a flag is 0 or 1
bit : (n : ℕ) → n ≤ 1 → n < 2
bit n h = omega arith

pub walk-found-requires : goal.walk-found-requires
walk-found-requires g c = (
  search rules,
  (
    c.requires.2,
    λ j k.
        let n = g.F.Word.Word.number in
        let z = g.F.Word.Word.ZERO in
        let x = n (get_or c.args.xs.now j z) in
        let y = n (get_or c.args.ys.now j z) in
        let e = c.enter.ensures j k in
        (walked-clear (of g.F.Width.format g.F.Chain.width) g.met.F.Chain.room x y e.1 e.2, bit _ (flag-most (clear (of g.F.Width.format g.F.Chain.width) x y) e.0)),
  ),
)

pub mend-requires : goal.mend-requires
mend-requires g c = (
  search rules,
  (
    (c.requires.0, c.requires.1, c.walk-found.auto.out ∙ c.requires.2),
    (
      c.walk-found.ensures.none,
      λ j k f.
          let n = g.F.Word.Word.number in
          let h = g.met.F.Chain in
          let z = g.F.Word.Word.ZERO in
          let x = get_or c.args.xs.now j z in
          let y = get_or c.args.ys.now j z in
          let e = c.enter.ensures j k in
          let t = c.walk-found.ensures.words j k f in
          h.told_apart _ _ (walked-power (of g.F.Width.format g.F.Chain.width) (n x) (n y) e.0 e.1 e.2 t.0 t.1
          ∙ ap (λ (w : Width). pow_of w (n x) (n y)) (of-is g.F.Width.format g.F.Chain.width g.met.F.Pow.format_is) ∙ sym (g.met.F.Pow.pow_is x y)),
    ),
  ),
)
