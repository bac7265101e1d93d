-- `pow::single::Chain::turned` meets its contract: the sum with a large number, by chain/proofs/Turned.antt. Assumes nothing.
use Rattle.std.proofs.Common.{T, sym, refl, subst}
use lib.Bits.{and_high}
use lib.Ieee.{binary32, fits}
use Rattle.power.specs.Power.{single}
use Rattle.power.proofs.Nan.{is_number}
use Rattle.power.proofs.Words.{size32}
use Rattle.chain.proofs.ByAdding.{limited-by}
use Rattle.chain.proofs.Halves.{Limited}
use Rattle.chain.proofs.Turned.{sum-is-number, off-number, lift-number, lift-most, rest-number, rest-when}
use Rattle.chain.proofs.Widths.{known32}
use Rattle.pow.proofs.single.F32Chain.turned.Goals as goal
use Rattle.pow.proofs.single.F32Chain.turned.Goals.{Start}

h_fits : (c : Start) → T (fits binary32 c.args.h)
h_fits c = subst T (sym c.well_formed.0.1) tt

z-fits : (c : Start) → T (fits binary32 c.args.z)
z-fits c = subst T (sym c.well_formed.1.0.1) tt

range : (c : Start) → Limited single known32 c.args.z
range c = limited-by single known32 7 refl c.args.z c.requires.1

pub float_to_bits-off : goal.float_to_bits-off
float_to_bits-off c = is_number _ (off-number single known32 c.args.z (z-fits (goal.at.float_to_bits-off c).Start) c.requires.0 (range (goal.at.float_to_bits-off c).Start))

pub float_to_bits-size : goal.float_to_bits-size
float_to_bits-size c = is_number c.args.z c.requires.0

pub float_to_bits-result : goal.float_to_bits-result
float_to_bits-result c = is_number _ (sum-is-number single known32 c.args.z (z-fits (goal.at.float_to_bits-result c).Start) c.requires.0 (range (goal.at.float_to_bits-result c).Start))

pub overflow_sub-result : goal.overflow_sub-result
overflow_sub-result c = lift-number single known32 c.args.z (z-fits (goal.at.overflow_sub-result c).Start) c.requires.0 (range (goal.at.overflow_sub-result c).Start)

pub returns-then-sure : goal.returns-then-sure
returns-then-sure c =
    let z = c.args.z in
    let h = c.args.h in
    let zf = z-fits (goal.at.returns-then-sure c).Start in
    let n = c.requires.0 in
    let r = range (goal.at.returns-then-sure c).Start in
    let s = rest-when single known32 z zf n r refl h (h_fits (goal.at.returns-then-sure c).Start) (size32 _) (and_high _ 31 0) c.if-sure.true in
    (s.0, s.1, lift-most single known32 z zf n r, λ l. rest-number single known32 z zf n r h l)
