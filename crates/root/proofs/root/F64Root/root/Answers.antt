-- `root::root::F64Root::root` meets its contract. Assumes nothing.
use mathlib.Core.Path.{sym, ◌∙◌}
use native.Mathlib.Omega.{arith}
use Rattle.words.specs.Format.{binary64}
use Rattle.root.proofs.Words.{root-positive}
use Rattle.root.proofs.root.F64Root.root.Goals as goal

pub returns-then-x-lt9218868437227405312 : goal.returns-then-x-lt9218868437227405312
returns-then-x-lt9218868437227405312 c = c.table_root.ensures ∙ sym (root-positive binary64 c.args.x (omega (arith, c.if-x-ne0.true)) c.if-x-lt9218868437227405312.true)
