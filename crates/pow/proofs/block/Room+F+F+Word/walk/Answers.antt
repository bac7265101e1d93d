-- `pow::block::Room::walk` meets its contract: the stages one after the other; what they leave of a pair whose flag is 0 is its power, by power/proofs/Blocks.antt. Assumes nothing.
use Rattle.std.proofs.Common.{rules, ◌<◌, sym, ap, subst, ◌∙◌, get_or}
use lib.Ieee.{add}
use Rattle.power.specs.Width.{Two}
use Rattle.power.specs.Chain.{parts_of}
use Rattle.power.specs.NoNan.{Finite, Number}
use Rattle.power.specs.Stages.{Ended}
use Rattle.power.proofs.Clear.{clear-is}
use Rattle.power.proofs.Blocks.{pair_is}
use Rattle.chain.proofs.ClearPair.{parts-finite}
use Rattle.pow.specs.Lanes.{lane_at}
use Rattle.pow.specs.Parts.{of, two_in}
use Rattle.pow.proofs.block.Room+F+F+Word.walk.Goals as goal

pub to_products-requires : goal.to_products-requires
to_products-requires g c = (search rules, λ j k. (c.requires.clear j k).0)

pub each-requires : goal.each-requires
each-requires g c =
    let h = g.met.F.Chain in (
      search rules,
      λ j k.
          let p = c.to_products.ensures j k in
          let f = parts-finite (of g.F.Width.format g.F.Chain.width) h.known h.room (clear-is (of g.F.Width.format g.F.Chain.width) _ _ (c.requires.clear j k).0) in (
            subst (λ (t : Two). Finite t.hi) (sym p.0) f.0,
            subst (λ (t : Two). Finite t.lo) (sym p.0) f.1,
            subst (λ (b : g.row.F-Word.Denot). g.F.Word.Word.number b < 2) (sym p.1) (c.requires.clear j k).1,
          ),
    )

pub each-requires-2 : goal.each-requires-2
each-requires-2 g c =
    let v = g.F.Width.value in (
      search rules,
      λ j k.
          let t = (c.each.ensures j k).1 in
          subst (λ (l : g.row.F.Denot). Number (add g.F.Width.format (v l) (v (lane_at g.F.Word.Word.ZERO g.F.Chain.ONE c.each.new.self j).hi))) (sym t.1.0) t.0.number,
    )

pub end-requires : goal.end-requires
end-requires g c = (
  search rules,
  (
    c.requires.full,
    λ j k.
        subst (λ (b : g.row.F-Word.Denot). g.F.Word.Word.number b < 2) (sym (c.each-2.ensures j k).1.1.0.0) (c.each.ensures j k).1.0.bit,
  ),
)

pub returns-clause-words : goal.returns-clause-words
returns-clause-words g c j k f =
    let h = g.met.F.Chain in
    let n = g.F.Word.Word.number in
    let v = g.F.Width.value in
    let p = c.to_products.ensures j k in
    let t = (c.each.ensures j k).1 in
    let u = (c.each-2.ensures j k).1 in
    let z = g.F.Word.Word.ZERO in
    let l2 = lane_at z g.F.Chain.ONE c.each.new.self j in
    let l3 = lane_at z g.F.Chain.ONE c.each-2.new.self j in
    let l4 = lane_at z g.F.Chain.ONE c.end.new.self j in
    let o = get_or c.end.new.out j z in
    let e : Ended (of g.F.Width.format g.F.Chain.width) (two_in v l3) (n l2.w) (n l2.flag) (n o) (n l4.flag) = subst (λ (b : g.row.F-Word.Denot). Ended (of g.F.Width.format g.F.Chain.width) (two_in v l3) (n l2.w) (n b) (n o) (n l4.flag)) u.1.0.0
    (subst (λ (b : g.row.F-Word.Denot). Ended (of g.F.Width.format g.F.Chain.width) (two_in v l3) (n b) (n l3.flag) (n o) (n l4.flag)) u.1.0.1 (c.end.ensures.words j k)) in
    let r = pair_is (of g.F.Width.format g.F.Chain.width) h.room h.limits_grow h.high_word.2 (clear-is (of g.F.Width.format g.F.Chain.width) _ _ (c.requires.clear j k).0) p.0 t.0
    (u.0 ∙ ap (λ (l : g.row.F.Denot). parts_of (of g.F.Width.format g.F.Chain.width) (record { hi = v l2.hi; lo = v l })) t.1.0) e f in
    (ap n (sym p.1) ∙ r.0, r.1)
