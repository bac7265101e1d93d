-- `pow::block::Room::to_products` meets its contract: the stages of the logarithm and the product, one after the other, by Walked.antt; no NaN arises, since the pairs are clear. Assumes nothing.
use Rattle.std.proofs.Common.{rules, ℕ, ◌<◌, sym, ◌∙◌, subst}
use lib.Ieee.{of_bits}
use Rattle.words.specs.Format.{infinity, magnitude, ours}
use Rattle.power.specs.Width.{Two}
use Rattle.power.specs.NoNan.{Number}
use Rattle.power.proofs.Clear.{clear-is, y-finite}
use Rattle.power.proofs.Blocks.{reduced-small}
use Rattle.chain.proofs.ClearPair.{far-number, ratio-number, logarithm-number}
use Rattle.pow.specs.Parts.{of}
use Rattle.pow.specs.declared.lane.Lane.{Lane}
use Rattle.pow.specs.declared.block.Room.{Room}
use Rattle.pow.specs.Lanes.{lane_at}
use Rattle.pow.proofs.Walked.{Started, Summed, Logged, flag, interval, logarithm, logarithm-two, product, word}
use Rattle.pow.proofs.block.Room+F+F+Word.to_products.Goals as goal
use Rattle.pow.proofs.block.Room+F+F+Word.to_products.Goals.{After-each-2, After-each-3}
use Rattle.pow.proofs.block.Room+F+F+Word.to_products.Given.{Over}

-- lane j of a room
lane : (g : Over) → Room g.row.F.Denot g.row.F-Word.Denot → ℕ → Lane g.row.F.Denot g.row.F-Word.Denot
lane g r j = lane_at g.F.Word.Word.ZERO g.F.Chain.ONE r j

-- what each stage promised of it
started : (g : Over) (c : After-each-2 g) (j : ℕ) → j < 64 → Started (of g.F.Width.format g.F.Chain.width) g.F.Width.value g.F.Word.Word.number (lane g c.args.self.now j) (lane g c.each.new.self j)
unfolding lane
started g c j k = let p = (c.each.ensures j k).1 in (p.0, p.1.0, p.1.1.0, p.1.1.1.0.0, p.1.1.1.0.1)

summed : (g : Over) (c : After-each-2 g) (j : ℕ) → j < 64 → Summed (of g.F.Width.format g.F.Chain.width) g.F.Width.value g.F.Word.Word.number (lane g c.each.new.self j) (lane g c.each-2.new.self j)
unfolding lane
summed g c j k = let p = (c.each-2.ensures j k).1 in (p.0, p.1.0.0, p.1.0.1, p.1.0.2, p.1.0.3, p.1.0.4)

logged : (g : Over) (c : After-each-3 g) (j : ℕ) → j < 64 → Logged (of g.F.Width.format g.F.Chain.width) g.F.Width.value g.F.Word.Word.number (lane g c.each-2.new.self j) (lane g c.each-3.new.self j)
unfolding lane
logged g c j k = let p = (c.each-3.ensures j k).1 in (p.0, p.1.0.0, p.1.0.1, p.1.0.2, p.1.0.3)

pub each-requires : goal.each-requires
each-requires g c =
    let h = g.met.F.Chain in (
      search rules,
      λ j k.
          let a = clear-is (of g.F.Width.format g.F.Chain.width) _ _ (c.requires j k) in
          (a.normal, a.positive, ratio-number (of g.F.Width.format g.F.Chain.width) h.known h.room a h.short),
    )

pub each-requires-3 : goal.each-requires-3
unfolding lane
each-requires-3 g c =
    let h = g.met.F.Chain in (
      search rules,
      λ j k.
          let b = (goal.at.each-requires-3 g c).After-each-2 in
          let e = logarithm (of g.F.Width.format g.F.Chain.width) g.F.Width.value g.F.Word.Word.number (lane g c.args.self.now j) (lane g c.each.new.self j) (lane g c.each-2.new.self j) (started g b j k) (summed g b j k) in
          subst (λ (t : Two). Number t.lo) (sym e) (logarithm-number (of g.F.Width.format g.F.Chain.width) h.known h.room (clear-is (of g.F.Width.format g.F.Chain.width) _ _ (c.requires j k)) h.short),
    )

pub each-requires-4 : goal.each-requires-4
unfolding lane
each-requires-4 g c =
    let h = g.met.F.Chain in
    let n = g.F.Word.Word.number in
    let v = g.F.Width.value in (
      search rules,
      λ j k.
          let a = clear-is (of g.F.Width.format g.F.Chain.width) _ _ (c.requires j k) in
          let b = (goal.at.each-requires-4 g c).After-each-2 in
          let d = (goal.at.each-requires-4 g c).After-each-3 in
          let s = started g b j k in
          let q = summed g b j k in
          let p = logged g d j k in
          let f = ours g.F.Width.format in (
            subst (λ (y : g.row.F-Word.Denot). magnitude f (n y) < infinity f) (sym (word (of g.F.Width.format g.F.Chain.width) v n (lane g c.args.self.now j) (lane g c.each.new.self j) (lane g c.each-2.new.self j) s q (lane g c.each-3.new.self j) p)) (y-finite (of g.F.Width.format g.F.Chain.width) h.room a),
            subst (λ (i : ℕ). i < 2) (sym (interval (of g.F.Width.format g.F.Chain.width) v n (lane g c.args.self.now j) (lane g c.each.new.self j) (lane g c.each-2.new.self j) s q (lane g c.each-3.new.self j) p)) (reduced-small (of g.F.Width.format g.F.Chain.width) _),
            subst (λ (t : Two). Number t.lo) (sym (logarithm-two (of g.F.Width.format g.F.Chain.width) v n (lane g c.args.self.now j) (lane g c.each.new.self j) (lane g c.each-2.new.self j) s q (lane g c.each-3.new.self j) p)) (far-number (of g.F.Width.format g.F.Chain.width) h.known h.room a),
          ),
    )

pub returns : goal.returns
unfolding lane
returns g c j k =
    let n = g.F.Word.Word.number in
    let v = g.F.Width.value in
    let b = (goal.at.returns g c).After-each-2 in
    let d = (goal.at.returns g c).After-each-3 in
    let s = started g b j k in
    let q = summed g b j k in
    let p = logged g d j k in
    let r = (c.each-4.ensures j k).1 in
    (r.0 ∙ product (of g.F.Width.format g.F.Chain.width) v n (lane g c.args.self.now j) (lane g c.each.new.self j) (lane g c.each-2.new.self j) s q (lane g c.each-3.new.self j) p (of_bits g.F.Width.format), r.1.0 ∙ flag (of g.F.Width.format g.F.Chain.width) v n (lane g c.args.self.now j) (lane g c.each.new.self j) (lane g c.each-2.new.self j) s q (lane g c.each-3.new.self j) p)
