-- `pow::lane::Lane::turned` meets its contract: what is left of p_h is the definition's where that is sure. Assumes nothing.
use Rattle.std.proofs.Common.{◌≡◌, ℕ, refl, sym, ◌∙◌, inr, le_trans, le_of_lt, ltb-true, arith}
use native.Mathlib.Nat.{lt_of_le_of_lt}
use Rattle.power.specs.NoNan.{Number}
use Rattle.chain.proofs.NoNan.{finite_number}
use Rattle.chain.proofs.Turned.{add-number}
use Rattle.pow.proofs.Small.{none-some, some-is}
use Rattle.pow.proofs.lane.Lane+F+F+Word.turned.Goals as goal
use Rattle.pow.proofs.lane.Lane+F+F+Word.turned.Goals.{After-add-z, then-is_inside, else-is_inside}
use Rattle.pow.proofs.lane.Lane+F+F+Word.turned.Given.{Over}

sum-number : (g : Over) (c : After-add-z g) → Number (g.F.Width.value c.add-z.result)
sum-number g c =
    rw (g.met.F.Width.adds _ _ _ c.add-z.ensures) (add-number g.F.Width.format _ _ c.requires.1 (finite_number _ c.requires.0))

pub is_inside-requires : goal.is_inside-requires
is_inside-requires g c = sum-number g (goal.at.is_inside-requires g c).After-add-z

pub turned-turn-requires : goal.turned-turn-requires
turned-turn-requires g c = (
  sum-number g (goal.at.turned-turn-requires g c).After-add-z,
  lt_of_le_of_lt (le_trans (le_of_lt (ltb-true _ _ (sym c.is_inside.ensures ∙ c.if-is_inside.true))) g.met.F.Chain.limits_grow) g.met.F.Chain.small_turnable,
)

pub returns-in-Some-clause-either : goal.returns-in-Some-clause-either
returns-in-Some-clause-either g c =
    let e = g.met.F.Width.adds _ _ _ c.add-z.ensures in
    elim c.if-is_inside.branch [
      | then-is_inside w ↦ let t = some-is _ c.in-Some.is w.turn-is w.turned-turn.ensures in
          inr (rw e at (ltb-true _ _ (sym c.is_inside.ensures ∙ w.if-is_inside.true)), rw e at t.0, rw e at t.1, refl)
      | else-is_inside w ↦ absurd (none-some (sym w.turn-is ∙ c.in-Some.is))
    ]

pub returns-in-Some-clause-stepped : goal.returns-in-Some-clause-stepped
returns-in-Some-clause-stepped g c =
    let e = g.met.F.Width.adds _ _ _ c.add-z.ensures in
    elim c.if-is_inside.branch [
      | then-is_inside w ↦ let t = some-is _ c.in-Some.is w.turn-is w.turned-turn.ensures in
          record {
            bit = c.requires.2;
            number = t.3 _ c.requires.1 c.requires.0;
            clean = λ f. (f, rw e at (ltb-true _ _ (sym c.is_inside.ensures ∙ w.if-is_inside.true)), rw e at t.0, rw e at t.1);
          }
      | else-is_inside w ↦ absurd (none-some (sym w.turn-is ∙ c.in-Some.is))
    ]

pub returns-in-None-clause-stepped : goal.returns-in-None-clause-stepped
returns-in-None-clause-stepped g c =
    record {
      bit = rw c.narrow.ensures (omega arith);
      number = add-number g.F.Width.format _ _ c.requires.1 (finite_number _ c.requires.0);
      clean = λ f. absurd (set (sym c.narrow.ensures ∙ f));
    }
  where
    set : ◌≡◌ {A = ℕ} 1 0 → ⊥
    set e = omega arith
