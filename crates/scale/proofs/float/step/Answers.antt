-- `scale::float::step` meets its contract: each way is the definition's. Assumes nothing.
use mathlib.Core.Path.{ap, ◌∙◌}
use lib.IntN.{ℤ, ◌+ℤ◌, ◌-ℤ◌}
use mir.Syntax.{w32}
use Rattle.scale.specs.Scale.{power}
use Rattle.scale.proofs.Machine.{held, most-held, least-held, down-held, down-power, step-up, step_down, step-none}
use Rattle.scale.proofs.float.step.Goals as goal

pub returns-then-n-most : goal.returns-then-n-most
returns-then-n-most g c =
    let f = g.F.Width.format in
    let h = step-up f w32 (g.F.Width.value c.args.x) c.args.n c.ranges.n _ (c.power.ensures ∙ ap power (most-held f c.most-then-n-most.ensures)) (rw (most-held f c.most.ensures) at c.if-n-most.true) in
    record { y_value = g.met.F.Width.muls _ _ _ c.mul.ensures ∙ h.0; n_value = ap (λ (m : ℤ). held w32 (held w32 c.args.n -ℤ m)) (most-held f c.most-then-n-most-2.ensures) ∙ h.1 }

pub returns-then-n-least : goal.returns-then-n-least
returns-then-n-least g c =
    let f = g.F.Width.format in
    let h = step_down f w32 (g.F.Width.value c.args.x) c.args.n c.ranges.n _ (c.power-then-n-least.ensures ∙ ap power (down-power f c.down.ensures)) (rw (most-held f c.most.ensures) at c.if-n-most.false) (rw (least-held f c.least.ensures) at c.if-n-least.true) in
    record { y_value = g.met.F.Width.muls _ _ _ c.mul-then-n-least.ensures ∙ h.0; n_value = ap (λ (d : ℤ). held w32 (held w32 c.args.n +ℤ d)) (down-held f c.down-then-n-least.ensures) ∙ h.1 }

pub returns-else-n-least : goal.returns-else-n-least
returns-else-n-least g c =
    let f = g.F.Width.format in
    let h = step-none f w32 (g.F.Width.value c.args.x) c.args.n c.ranges.n (rw (most-held f c.most.ensures) at c.if-n-most.false) (rw (least-held f c.least.ensures) at c.if-n-least.false) in
    record { y_value = h.0; n_value = h.1 }
