-- `words::format::Format::infinity` meets its contract: the field's largest number has its place in 63 digits. Assumes nothing.
use Rattle.std.proofs.Common.{◌≡◌, ℕ, ◌^◌, ◌<◌, ◌≤◌, ◌∙◌, ap, subst, arith}
use Rattle.words.specs.Format as Words
use Rattle.words.specs.Format.{format, infinity, top}
use Rattle.words.proofs.Digits.{top_small}
use Rattle.words.proofs.Words.{infinity-below}
use Rattle.words.proofs.format.Format.infinity.Goals as goal

below : (f : Words.Format) (n : ℕ) → n ≡ infinity f → top f ≤ 2 ^ 63 → n < 2 ^ 63
below f n e t = go n (infinity f) (top f) e (infinity-below f) t
  where
    go : (n i t : ℕ) → n ≡ i → i < t → t ≤ 2 ^ 63 → n < 2 ^ 63
    go n i t e l m = omega arith

pub returns-clause-bound : goal.returns-clause-bound
returns-clause-bound c =
    let e : c.self.inside.emax ≡ c.args.self.emax = ap (λ (f : Words.Format). f.emax) c.self.view_is in
    below c.args.self c.field.result (c.field.ensures ∙ ap (λ (n : ℕ). infinity (format c.args.self.digits n)) e)
    (subst (λ (f : Words.Format). top f ≤ 2 ^ 63) c.self.view_is (top_small c.self.inside.digits c.self.inside.emax c.self.invariant))
