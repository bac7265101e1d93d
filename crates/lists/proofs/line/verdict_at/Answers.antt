-- `lists::line::verdict_at` meets its contract: a line that is not well formed is malformed, any other is held to the judge. Assumes nothing.
use Rattle.std.proofs.Common.{Bool, cond, sym, ap, ◌∙◌}
use Rattle.lists.specs.Judge.{root_judged}
use Rattle.lists.specs.declared.line.Verdict.TheVariants.{Agrees, Disagrees}
use Rattle.lists.proofs.Verdicts.{held}
use Rattle.lists.proofs.line.verdict_at.Goals as goal

pub returns-in-Some : goal.returns-in-Some
returns-in-Some c = sym (held c.args.w c.args.s.now c.in-Some.ensures root_judged c.args.f ∙ ap (λ (b : Bool). cond b Agrees Disagrees) (sym c.agrees.ensures ∙ c.if-agrees.true))

pub returns-in-Some-2 : goal.returns-in-Some-2
returns-in-Some-2 c = sym (held c.args.w c.args.s.now c.in-Some.ensures root_judged c.args.f ∙ ap (λ (b : Bool). cond b Agrees Disagrees) (sym c.agrees.ensures ∙ c.if-agrees.false))
