-- `words::format::Format::field` meets its contract: the field fits beside the digits below the leading one. Assumes nothing.
use Rattle.std.proofs.Common.{◌≡◌, ◌*◌, ◌%◌, ◌^◌, ◌-◌, subst}
use Rattle.words.specs.Format as Words
use Rattle.words.specs.Format.{hid}
use Rattle.words.proofs.Digits.{placed}
use Rattle.words.proofs.format.Format.field.Goals as goal

pub returns : goal.returns
returns c =
    subst (λ (f : Words.Format). c.args.t * 2 ^ (c.self.inside.digits - 1) % 2 ^ 64 ≡ c.args.t * hid f) c.self.view_is (placed c.self.inside.digits c.args.t c.self.invariant.small c.requires)
