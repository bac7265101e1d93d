-- `words::format::Format::magnitude` meets its contract: a word below twice the sign's weight loses it once. Assumes nothing.
use Rattle.std.proofs.Common.{◌≡◌, ℕ, ◌-◌, ◌*◌, ◌%◌, ◌<◌, ◌≤◌, ◌∙◌, sym, ap, arith}
use native.Mathlib.Nat.{mod-eq_of_lt, mod-eq-sub-mod}
use Rattle.words.specs.Format.{top}
use Rattle.words.proofs.format.Format.magnitude.Goals as goal

once : (t x : ℕ) → x < 2 * t → t ≤ x → x - t ≡ x % t
once t x s h = sym (mod-eq-sub-mod h ∙ mod-eq_of_lt (omega arith))

pub returns-else-x-top : goal.returns-else-x-top
returns-else-x-top c = ap (λ (t : ℕ). c.args.x - t) c.top-top.ensures.value ∙ once (top c.args.self) c.args.x c.requires (omega (arith, c.top-top.ensures.value))
