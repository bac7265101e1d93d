-- `root::special::special_root` meets its contract: each kind of word has its test. Assumes nothing.
use Rattle.std.proofs.Common.{rules, ◌∙◌, sym}
use Rattle.std.proofs.lemmas.Bool.{eqb-true, eqb-false}
use Rattle.root.proofs.Words.{special-zero, special-infinity, special-minus, special-nan}
use Rattle.root.proofs.special.special_root.Goals as goal
use Rattle.root.proofs.special.special_root.Goals.{then-x-eq0, else-x-eq0, then-x-infinity, else-x-infinity}

pub returns-then-x-top : goal.returns-then-x-top
returns-then-x-top c =
    let f = c.args.f in
    let x = c.args.x in
    elim c.if-x-infinity.branch [
      | then-x-infinity w ↦ elim c.if-x-eq0.branch [
        | then-x-eq0 v ↦ special-zero f x v.if-x-eq0.true
        | else-x-eq0 v ↦ special-infinity f x (eqb-true _ _ (sym v.value-is ∙ w.if-x-infinity.true) ∙ v.infinity.ensures.value)
      ]
      | else-x-infinity w ↦ special-minus f x (eqb-true _ _ (sym w.value-is ∙ c.if-x-top.true) ∙ w.top.ensures.value)
    ]

pub returns-else-x-top : goal.returns-else-x-top
returns-else-x-top c =
    let f = c.args.f in
    let x = c.args.x in
    elim c.if-x-infinity.branch [
      | then-x-infinity w ↦ search rules
      | else-x-infinity w ↦ elim c.if-x-eq0.branch [
        | then-x-eq0 v ↦ absurd (eqb-false _ _ (sym v.value-is ∙ w.if-x-infinity.false) v.if-x-eq0.true)
        | else-x-eq0 v ↦ c.quiet.ensures ∙ sym (special-nan f x c.requires.0 c.requires.1 v.if-x-eq0.false
            (λ e. eqb-false _ _ (sym v.value-is ∙ w.if-x-infinity.false) (e ∙ sym v.infinity.ensures.value))
            (λ e. eqb-false _ _ (sym w.value-is ∙ c.if-x-top.false) (e ∙ sym w.top.ensures.value)))
      ]
    ]
