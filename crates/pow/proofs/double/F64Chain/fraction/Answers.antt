-- `pow::double::Chain::fraction` meets its contract: the sum is the definition's where it is sure, and elsewhere the digits are, by power/proofs/Stages.antt. Assumes nothing.
use Rattle.std.proofs.Common.{true, false, arith, le-ltb, lt-ltb, le-leb}
use borrow.Author.Tests.{lt-leb}
use Rattle.power.specs.Power.{double}
use Rattle.power.proofs.Stages.{taken-off, left_alone}
use Rattle.power.proofs.Words.{size32}
use Rattle.pow.specs.Parts.{nearest}
use Rattle.pow.proofs.double.F64Chain.fraction.Goals as goal

pub returns-in-Some : goal.returns-in-Some
returns-in-Some c = let t = c.in-Some.ensures in (t.0, t.1, t.2)

pub nearest_to-n-requires : goal.nearest_to-n-requires
nearest_to-n-requires c =
    let j = c.get_high_word-j.result in
    (omega (arith, size32 j, c.if-j-gt1071644672.true), omega (arith, c.get_high_word-j.ensures, c.requires.1))

pub returns-then-j-ge2147483648 : goal.returns-then-j-ge2147483648
returns-then-j-ge2147483648 c =
    let n = c.nearest_to-n in
    let a = c.args in
    let r = taken-off double a.h a.z c.get_high_word-j.ensures (lt-ltb _ _ (rw size32 at c.if-j-gt1071644672.true)) (nearest n.result) n.ensures.result_value true
    (le-leb _ _ c.if-j-ge2147483648.true) in
    (r.0, r.1, omega arith)

pub returns-else-j-ge2147483648 : goal.returns-else-j-ge2147483648
returns-else-j-ge2147483648 c =
    let n = c.nearest_to-n in
    let a = c.args in
    let r = taken-off double a.h a.z c.get_high_word-j.ensures (lt-ltb _ _ (rw size32 at c.if-j-gt1071644672.true)) (nearest n.result) n.ensures.result_value false
    (lt-leb _ _ c.if-j-ge2147483648.false) in
    (r.0, r.1, omega (arith, n.ensures.size_bound))

pub returns : goal.returns
returns c =
    let a = c.args in
    let r = left_alone double a.h a.z c.get_high_word-j.ensures (le-ltb _ _ (rw size32 at c.if-j-gt1071644672.false)) in
    (r.0, r.1, omega arith)
