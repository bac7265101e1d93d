-- `root::partial::partial_of` meets its contract: each refusal where the definition has it, and the engine's digits and left-over are the definition's. Assumes nothing.
use Prim.Native.Nat.{ℕ, ◌+◌, ◌<◌, ◌≤◌}
use mathlib.Core.Path.{◌≡◌, sym, ap, ◌∙◌}
use native.Mathlib.Omega.{arith}
use Rattle.words.specs.Refusal.{done}
use Rattle.root.specs.Root.{digits_at, left_at}
use Rattle.root.specs.Engine.{Asked, Rounds}
use Rattle.root.proofs.Roots.{digits-unique, left_unique}
use Rattle.root.proofs.Words.{split-asked, held-fine, finite-split, partial-zero, partial-above, partial-many, partial-done}
use Rattle.root.proofs.partial.partial_of.Goals as goal
use Rattle.root.proofs.partial.partial_of.Goals.{After-of-o, then-x-eq0-via-then-x-eq0, then-x-eq0-via-else-x-eq0+then-infinity-x}

pub returns-then-x-eq0 : goal.returns-then-x-eq0
returns-then-x-eq0 c =
    let a = c.args in
    elim c.then-x-eq0.branch [
      | then-x-eq0-via-then-x-eq0 w ↦ sym (partial-zero a.f a.x a.k (omega (arith, w.if-x-eq0.true)))
      | then-x-eq0-via-else-x-eq0+then-infinity-x w ↦ sym (partial-above a.f a.x a.k (rw w.infinity.ensures.value at w.if-infinity-x.true))
    ]

-- past both tests the operand is fit
fit : {x i r : ℕ} → r ≡ i → ¬ (x ≡ 0) → x < r → (0 < x) × (x < i)
fit e some below = (omega arith, omega arith)

asked : (c : After-of-o) (k : ℕ) → k ≤ c.args.f.digits + 1 → Asked c.args.f.digits c.of-o.result.w k
asked c k l =
    let f = c.args.f in
    let p = c.digits-p.ensures in
    let g = fit c.infinity.ensures.value c.if-x-eq0.false c.if-infinity-x.false in
    let s = finite-split f c.args.x (held-fine f.digits f.emax p.held) g.0 g.1 in
    rw c.of-o.ensures.w_value (split-asked f.digits _ _ _ k (omega (arith, p.held.small)) l s.0)

pub returns-then-p-k : goal.returns-then-p-k
returns-then-p-k c =
    let a = c.args in
    let g = fit c.infinity.ensures.value c.if-x-eq0.false c.if-infinity-x.false in
    sym (partial-many a.f a.x a.k g.0 g.1 (rw c.digits-p.ensures.value at c.if-p-k.true))

pub digit_rounds-d-requires : goal.digit_rounds-d-requires
digit_rounds-d-requires c = rw c.digits-p.ensures.value (asked (goal.at.digit_rounds-d-requires c).After-of-o _ (omega (arith, c.digits-p.ensures.value, c.if-p-k.false)))

pub returns : goal.returns
returns c =
    let k = (goal.at.returns c).After-of-o in
    let a = c.args in
    let p = a.f.digits in
    let g = fit c.infinity.ensures.value c.if-x-eq0.false c.if-infinity-x.false in
    let d = c.digit_rounds-d.result in
    let w = c.of-o.result.w in
    let is = c.of-o.ensures.w_value in
    let r : Rounds p w a.k d.digits d.left = rw c.digits-p.ensures.value at c.digit_rounds-d.ensures in
    let fit : Asked p w a.k = asked k a.k (rw c.digits-p.ensures.value at c.if-p-k.false) in
    let digits = digits-unique p w a.k fit d.digits d.left r ∙ ap (λ (z : ℕ). digits_at p z a.k) is in
    let left = left_unique p w a.k fit d.digits d.left r ∙ ap (λ (z : ℕ). left_at p z a.k) is in
    (λ i. record { number = done; digits = digits i; left = left i; rounds = a.k })
    ∙ sym (partial-done a.f a.x a.k g.0 g.1 (rw c.digits-p.ensures.value at c.if-p-k.false))
