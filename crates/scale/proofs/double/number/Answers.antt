-- `scale::double::number` meets its contract: at a limit, or the word of the kit's product with 2 ^ n. Assumes nothing.
use mathlib.Core.Path.{sym, ap, ◌∙◌, subst}
use mathlib.Core.Bool.{not}
use lib.Dec.{T}
use lib.IntN.{ℤ}
use lib.Ieee.{Float, binary64, mul, of_bits, to_bits, is_nan}
use mir.Syntax.{w32}
use mir.ValLaws.{to_z-of_z}
use Rattle.words.proofs.Floats.{word_number}
use Rattle.scale.specs.Scale.{power}
use Rattle.scale.proofs.Scaled.{scaled-is, scaled-number}
use Rattle.scale.proofs.double.number.Goals as goal

pub float_from_bits-x : goal.float_from_bits-x
float_from_bits-x c = word_number binary64 c.args.x c.requires

pub float_to_bits-result : goal.float_to_bits-result
float_to_bits-result c = subst (λ (v : Float). T (not (is_nan v))) (sym c.scale.ensures) (scaled-number binary64 c.args.x _ c.requires)

pub returns-in-None : goal.returns-in-None
returns-in-None c = ap (to_bits binary64) (c.scale.ensures ∙ ap (λ (n : ℤ). mul binary64 (of_bits binary64 c.args.x) (power n)) (to_z-of_z w32 c.args.n c.ranges.n))
    ∙ scaled-is binary64 c.args.x c.args.n c.ranges.x.fits
