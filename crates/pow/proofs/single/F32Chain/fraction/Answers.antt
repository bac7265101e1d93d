-- `pow::single::Chain::fraction` meets its contract: the sum is the definition's where it is sure, and elsewhere the digits are, by power/proofs/Stages.antt. Assumes nothing.
use Rattle.std.proofs.Common.{◌≡◌, ℕ, ◌/◌, ◌^◌, true, false, sym, div-one, arith, le-ltb, lt-ltb, le-leb}
use borrow.Author.Tests.{lt-leb}
use Rattle.power.specs.Power.{single}
use Rattle.power.proofs.Nan.{is_number}
use Rattle.power.proofs.Stages.{taken-off, left_alone}
use Rattle.power.proofs.Words.{size32}
use Rattle.pow.specs.Parts.{nearest}
use Rattle.pow.proofs.single.F32Chain.fraction.Goals as goal

-- no digits stand below the high word
all : (x : ℕ) → x ≡ x / 2 ^ 0
all x = sym (div-one x)

pub returns-in-Some : goal.returns-in-Some
returns-in-Some c = let t = c.in-Some.ensures in (t.0, t.1, t.2)

pub float_to_bits-j : goal.float_to_bits-j
float_to_bits-j c = is_number c.args.z c.requires.0

pub nearest_to-n-requires : goal.nearest_to-n-requires
nearest_to-n-requires c = (rw size32 at c.if-j-gt1056964608.true, c.requires.1)

pub returns-then-j-ge2147483648 : goal.returns-then-j-ge2147483648
returns-then-j-ge2147483648 c =
    let n = c.nearest_to-n in
    let a = c.args in
    let r = taken-off single a.h a.z (all _) (lt-ltb _ _ (rw size32 at c.if-j-gt1056964608.true)) (nearest n.result) n.ensures.result_value true (le-leb _ _ c.if-j-ge2147483648.true) in
    (r.0, r.1, omega arith)

pub returns-else-j-ge2147483648 : goal.returns-else-j-ge2147483648
returns-else-j-ge2147483648 c =
    let n = c.nearest_to-n in
    let a = c.args in
    let r = taken-off single a.h a.z (all _) (lt-ltb _ _ (rw size32 at c.if-j-gt1056964608.true)) (nearest n.result) n.ensures.result_value false (lt-leb _ _ c.if-j-ge2147483648.false) in
    (r.0, r.1, omega (arith, n.ensures.size_bound))

pub returns : goal.returns
returns c =
    let a = c.args in
    let r = left_alone single a.h a.z (all _) (le-ltb _ _ (rw size32 at c.if-j-gt1056964608.false)) in
    (r.0, r.1, omega arith)
