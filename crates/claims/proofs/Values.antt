-- All values of the two lists are right, each by one computation. Assumes nothing.
use lib.Dec.{T}
use lib.Ieee.{size}
use lib.Ieee as Ieee
use Rattle.words.specs.Format.{units}
use Rattle.words.specs.Rounding.{rounded_at, word_at}
use Rattle.root.specs.Root.{floor_root, digits_at, left_at, significand, halves, whole, root_at, root_word}
use Rattle.root.specs.Partial.{partial_root}
use Rattle.scale.specs.Scale.{scaled}
use Rattle.power.specs.Numbers as Numbers
use Rattle.power.specs.Sorting.{at_infinity, over, square, turned, at_edge, sorted7, sorted6, sorted5, sorted}
use Rattle.power.specs.Chain.{con, chop, split_of, interval_of, reduced_of, head_of, quotient_of, series_of, logarithm_of, sum_of, log2_of, exponent_of, far_at, far_of, near_of, log_of, product_of, fate_of, nearest_of, parts_of, exponential_of, raised_of, exp2_of, over_of, under_of, finish_of, sign_of, huge_of, open_of}
use Rattle.power.specs.Table32.{table32}
use Rattle.power.specs.Table64.{table64}
use Rattle.power.specs.Power.{pow_of}
use Rattle.claims.specs.Values.{all, values}
use Rattle.claims.specs.OpenPowers.{open_powers}

pub values-right : T (all values)
unfolding root_word root_at partial_root left_at significand digits_at floor_root halves whole scaled rounded_at word_at units size at_infinity over square turned at_edge sorted7 sorted6 sorted5 sorted Numbers.whole Numbers.odd pow_of
values-right = tt

-- the definition's open powers have the bits of the original's
pub open-powers-right : T (all open_powers)
unfolding pow_of at_infinity over square turned at_edge sorted7 sorted6 sorted5 sorted Numbers.whole Numbers.odd con chop split_of interval_of reduced_of head_of quotient_of series_of logarithm_of sum_of log2_of exponent_of far_at far_of near_of log_of product_of fate_of nearest_of parts_of exponential_of raised_of exp2_of over_of under_of finish_of sign_of huge_of open_of table32 table64 units size Ieee.odd Ieee.units Ieee.round Ieee.neg Ieee.sum Ieee.add Ieee.sub Ieee.mul Ieee.div Ieee.lt Ieee.le Ieee.eq Ieee.of_int Ieee.of_fields Ieee.of_bits Ieee.to_bits Ieee.span Ieee.climb
open-powers-right = tt
