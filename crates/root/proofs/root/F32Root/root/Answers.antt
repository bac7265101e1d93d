-- `root::root::F32Root::root` meets its contract. Assumes nothing.
use Prim.Native.Nat.{ℕ, ◌<◌, ◌^◌}
use mathlib.Core.Path.{◌≡◌, sym, ap, ◌∙◌}
use native.Mathlib.Omega.{arith}
use Rattle.words.specs.Format.{Format, binary32, units}
use Rattle.words.specs.Rounding.{Held}
use Rattle.root.specs.Root.{lifted, root_at, root_word}
use Rattle.root.proofs.Words.{held-fine, root-fits, root-positive}
use Rattle.root.proofs.root.F32Root.root.Goals as goal
use Rattle.root.proofs.root.F32Root.root.Goals.{After-narrow_root}

fits : (x : ℕ) → x < 2 ^ 32 → root_word binary32 x < 2 ^ 32
fits x = root-fits binary32 x (held-fine 24 127 held) (omega arith)
  where
    held : Held 24 127
    held = omega arith

root : (c : After-narrow_root) → c.narrow_root.result ≡ root_word binary32 c.args.x
root c =
    let x = c.args.x in
    c.narrow_root.ensures ∙ (ap (λ (f : Format). root_at f (lifted f (units f x))) c.binary32-f.ensures ∙ sym (root-positive binary32 x (omega (arith, c.if-x-ne0.true)) c.if-x-lt2139095040.true))

pub overflow_cast-result : goal.overflow_cast-result
overflow_cast-result c = omega (arith, root (goal.at.overflow_cast-result c).After-narrow_root, fits c.args.x c.ranges.x.fits)

pub overflow_cast-result-else-x-ne0 : goal.overflow_cast-result-else-x-ne0
overflow_cast-result-else-x-ne0 c = omega (arith, c.special_root.ensures ∙ ap (λ (f : Format). root_word f c.args.x) c.binary32-f.ensures, fits c.args.x c.ranges.x.fits)

pub returns-then-x-lt2139095040 : goal.returns-then-x-lt2139095040
returns-then-x-lt2139095040 c = root c
