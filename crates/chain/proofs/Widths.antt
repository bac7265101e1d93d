-- What is known of f32 and of f64, by computation: a bound of a constant is read off its word, a limit is compared.
use mathlib.Core.Path.{refl}
use mathlib.Core.Logic.{inl, inr}
use Prim.Native.Nat.{◌^◌}
use lib.Dec.{lit≤, lit<}
use lib.Ieee.{of_bits, fits}
use lib.Ieee.Scale.{finite}
use Rattle.power.specs.Chain.{con}
use Rattle.power.specs.Power.{single, double}
use Rattle.power.specs.Table32.{table32}
use Rattle.power.specs.Table64.{table64}
use Rattle.bounds.proofs.Signed.{mag, plus, minus}
use Rattle.bounds.proofs.Within.{literal}
use Rattle.chain.proofs.NoNan.{proper}
use Rattle.chain.proofs.Constants.{tested, log-by, near_by, exp-by}
use Rattle.chain.proofs.Known.{Known}

pub known32 : Known single
unfolding con table32 of_bits fits mag plus minus proper tested
known32 =
    record {
      high = 23;
      high_is = refl;
      high-digits = refl;
      high-most = lit≤ tt;
      hid-high = refl;
      top-high = refl;
      top-hid = refl;
      half_high = refl;
      below-most = lit≤ tt;
      e = 7;
      e-is = refl;
      e-most = lit≤ tt;
      large_is = refl;
      small-most = lit< tt;
      huge-most = lit≤ tt;
      must-least = lit≤ tt;
      must-most = inl (lit≤ tt);
      less-least = lit≤ tt;
      more-most = lit≤ tt;
      first-least = lit≤ tt;
      first-most = lit≤ tt;
      second-least = lit≤ tt;
      second-most = lit≤ tt;
      lead = 11;
      lead_is = refl;
      lead-least = lit≤ tt;
      lead-product = lit≤ tt;
      lead-series = tt;
      lead-log = tt;
      lead-whole = tt;
      lead-one = tt;
      lead_near = tt;
      lead-exp = 8;
      lead-exp-is = refl;
      lead-exp-least = lit≤ tt;
      lead-exp-fine = tt;
      heads = 2 ^ 10;
      heads-is = refl;
      head-cut = lit≤ tt;
      bp-one = refl;
      bp-half = refl;
      two = (record { finite = tt; fits = tt }, refl, refl);
      dp-h-zero = (record { finite = tt; fits = tt }, refl);
      dp-l-zero = (record { finite = tt; fits = tt }, refl);
      dp-h-half = (literal _ tt tt tt, refl, lit≤ tt);
      dp-l-half = literal _ tt tt tt;
      log = log-by single tt record { ge = lit≤ tt } record { ge = lit≤ tt };
      near = near_by single tt record { ge = lit≤ tt };
      exp = exp-by single tt (refl, refl) (refl, refl);
      limit = record { lg-s = refl; lgh-s = refl; lgh-lo = record { ge = lit≤ tt } };
      ovt = (literal _ tt tt tt, refl);
      huge = tt;
      tiny = tt;
    }

pub known64 : Known double
unfolding con table64 of_bits fits mag plus minus proper tested
known64 =
    record {
      high = 20;
      high_is = refl;
      high-digits = refl;
      high-most = lit≤ tt;
      hid-high = refl;
      top-high = refl;
      top-hid = refl;
      half_high = refl;
      below-most = lit≤ tt;
      e = 10;
      e-is = refl;
      e-most = lit≤ tt;
      large_is = refl;
      small-most = lit< tt;
      huge-most = lit≤ tt;
      must-least = lit≤ tt;
      must-most = inr (lit≤ tt);
      less-least = lit≤ tt;
      more-most = lit≤ tt;
      first-least = lit≤ tt;
      first-most = lit≤ tt;
      second-least = lit≤ tt;
      second-most = lit≤ tt;
      lead = 20;
      lead_is = refl;
      lead-least = lit≤ tt;
      lead-product = lit≤ tt;
      lead-series = tt;
      lead-log = tt;
      lead-whole = tt;
      lead-one = tt;
      lead_near = tt;
      lead-exp = 20;
      lead-exp-is = refl;
      lead-exp-least = lit≤ tt;
      lead-exp-fine = tt;
      heads = 2 ^ 19;
      heads-is = refl;
      head-cut = lit≤ tt;
      bp-one = refl;
      bp-half = refl;
      two = (record { finite = tt; fits = tt }, refl, refl);
      dp-h-zero = (record { finite = tt; fits = tt }, refl);
      dp-l-zero = (record { finite = tt; fits = tt }, refl);
      dp-h-half = (literal _ tt tt tt, refl, lit≤ tt);
      dp-l-half = literal _ tt tt tt;
      log = log-by double tt record { ge = lit≤ tt } record { ge = lit≤ tt };
      near = near_by double tt record { ge = lit≤ tt };
      exp = exp-by double tt (refl, refl) (refl, refl);
      limit = record { lg-s = refl; lgh-s = refl; lgh-lo = record { ge = lit≤ tt } };
      ovt = (literal _ tt tt tt, refl);
      huge = tt;
      tiny = tt;
    }
