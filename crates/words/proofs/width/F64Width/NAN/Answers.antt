-- The NaN of f64 is the float of the quiet NaN's word. Assumes nothing.
use Rattle.std.proofs.Common.{refl}
use Rattle.words.proofs.width.F64Width.NAN.Goals as goal

pub returns : goal.returns
unfolding lib.Ieee.of_bits lib.Ieee.of_fields
returns c = refl
