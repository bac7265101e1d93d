-- `words::format::Format::top` meets its contract: the sign has its place in 64 digits. Assumes nothing.
use Rattle.std.proofs.Common.{◌≡◌, ℕ, ◌*◌, ◌+◌, ◌^◌, ◌≤◌, ◌∙◌, sym, ap, subst, arith}
use Prim.Native.Nat.{suc}
use native.Mathlib.Nat.{mul_comm}
use Rattle.words.specs.Format as Words
use Rattle.words.specs.Format.{hid, top}
use Rattle.words.proofs.Digits.{top_small}
use Rattle.words.proofs.format.Format.top.Goals as goal

next : (e : ℕ) → 2 * e + 2 ≡ suc (2 * e + 1)
next e = omega arith

pub returns-clause-bound : goal.returns-clause-bound
returns-clause-bound c =
    let e : c.self.inside.emax ≡ c.args.self.emax = ap (λ (f : Words.Format). f.emax) c.self.view_is in
    let p : c.field.result ≡ top c.args.self =
    c.field.ensures ∙ ap (λ (n : ℕ). (2 * n + 2) * hid c.args.self) e ∙ mul_comm (2 * c.args.self.emax + 2) (hid c.args.self) ∙ ap (λ (n : ℕ). hid c.args.self * n) (next c.args.self.emax) in
    subst (λ (n : ℕ). n ≤ 2 ^ 63) (sym p) (subst (λ (f : Words.Format). top f ≤ 2 ^ 63) c.self.view_is (top_small c.self.inside.digits c.self.inside.emax c.self.invariant))
