-- `pow::double::Chain::leading` meets its contract: the low half is cleared. Assumes nothing.
use Rattle.std.proofs.Common.{◌*◌, ◌/◌, ◌^◌, T, sym, refl, ap, ◌∙◌, subst, add-zero}
use lib.Ieee.{binary64, of_bits, to_bits}
use Rattle.power.specs.Chain.{chop}
use Rattle.power.proofs.Nan.{leading-number}
use Rattle.pow.proofs.double.F64Chain.leading.Goals as goal

pub with_set_low_word-requires : goal.with_set_low_word-requires
with_set_low_word-requires c =
    let x = c.args.self in
    (c.requires, rw (add-zero (to_bits binary64 x / 2 ^ 32 * 2 ^ 32)) (leading-number binary64 31 32 x refl (subst T (sym c.well_formed.0.1) tt) c.requires))

pub returns : goal.returns
unfolding chop
returns c = c.with_set_low_word.ensures ∙ ap (of_bits binary64) (add-zero (to_bits binary64 c.args.self / 2 ^ 32 * 2 ^ 32))
