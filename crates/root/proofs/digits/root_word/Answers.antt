-- `root::digits::root_word` meets its contract. Assumes nothing.
use Rattle.std.proofs.Common.{◌≡◌, ◌∙◌, sym, ℕ, ◌*◌, ◌<◌, arith}
use mathlib.Core.Path.{subst⁻¹}
use Rattle.words.specs.Format.{Format, infinity, units, top}
use Rattle.words.specs.Rounding.{Held}
use Rattle.root.specs.Root.{lifted, root_at, root_word}
use Rattle.root.proofs.Words.{held-fine, root-fits, root-positive}
use Rattle.root.proofs.digits.root_word.Goals as goal

fits : (f : Format) (x : ℕ) → Held f.digits f.emax → x < 2 * top f → root_word f x < 2 * top f
fits f x h = root-fits f x (held-fine f.digits f.emax h) (omega (arith, h.small))

-- where both tests pass, x is a positive finite word
positive : (f : Format) (x : ℕ) {i : ℕ} → i ≡ infinity f → ¬ (x ≡ 0) → x < i → root_word f x ≡ root_at f (lifted f (units f x))
positive f x e z l = root-positive f x (omega (arith, z)) (omega (arith, e, l))

pub returns-then-x-infinity-clause-value : goal.returns-then-x-infinity-clause-value
returns-then-x-infinity-clause-value c = c.finite_root.ensures ∙ sym (positive c.args.f c.args.x c.infinity-infinity.ensures.value c.if-x-ne0.true c.if-x-infinity.true)

pub returns-then-x-infinity-clause-bound : goal.returns-then-x-infinity-clause-bound
returns-then-x-infinity-clause-bound c =
    let e = c.finite_root.ensures ∙ sym (positive c.args.f c.args.x c.infinity-infinity.ensures.value c.if-x-ne0.true c.if-x-infinity.true) in
    subst⁻¹ (λ (n : ℕ). n < 2 * top c.args.f) e (fits c.args.f c.args.x c.infinity-infinity.ensures.held c.requires)

pub returns-else-x-ne0-clause-bound : goal.returns-else-x-ne0-clause-bound
returns-else-x-ne0-clause-bound c =
    subst⁻¹ (λ (n : ℕ). n < 2 * top c.args.f) c.special_root.ensures (fits c.args.f c.args.x c.infinity-infinity.ensures.held c.requires)
