-- `scale::float::far` meets its contract: two steps and the last factor are one rounding. Assumes nothing.
use mathlib.Core.Path.{◌≡◌, sym, ◌∙◌, subst}
use lib.Dec.{T}
use mir.Syntax.{w32}
use Rattle.scale.specs.Steps.{Normal, clamped}
use Rattle.scale.proofs.Ways.{clamped-normal}
use Rattle.scale.proofs.Machine.{held, held-normal, scale-held, clamp-held}
use Rattle.scale.proofs.float.far.Given as given
use Rattle.scale.proofs.float.far.Goals as goal
use Rattle.scale.proofs.float.far.Goals.{After-clamp}

-- the exponent of the last factor
last : (g : given.Over) (c : After-clamp g) → c.clamp.result ≡ clamped g.F.Width.format (held w32 c.step-b.result.n)
last g c = c.clamp.ensures.value ∙ clamp-held g.F.Width.format _ c.least.ensures c.most.ensures

pub power-requires : goal.power-requires
power-requires g c =
    let f = g.F.Width.format in
    held-normal f w32 c.clamp.result (record { sfits = c.clamp.type_inv }) (subst (Normal f) (sym (last g (goal.at.power-requires g c).After-clamp)) (clamped-normal f (held w32 c.step-b.result.n)))

pub returns : goal.returns
returns g c =
    let f = g.F.Width.format in
    g.met.F.Width.muls _ _ _ c.mul.ensures
    ∙ scale-held f w32 (g.F.Width.value c.args.x) (g.F.Width.value c.step-a.result.y) (g.F.Width.value c.step-b.result.y) (g.F.Width.value c.power.result) c.args.n c.step-a.result.n c.step-b.result.n c.clamp.result
    (subst T (sym c.requires) tt) c.ranges.n (record { sfits = c.clamp.type_inv }) (c.step-a.ensures.y_value, c.step-a.ensures.n_value) (c.step-b.ensures.y_value, c.step-b.ensures.n_value) (last g (goal.at.returns g c).After-clamp) c.power.ensures
