-- `power::kind::kind_of` meets its contract: each way is a law of whole and odd numbers. Assumes nothing.
use Rattle.std.proofs.Common.{sym, ◌∙◌}
use borrow.Author.Tests.{eq-eqb, ne_eqb}
use Rattle.power.proofs.Numbers.{kind-large, kind-small, point-whole, point-fraction}
use Rattle.power.proofs.kind.kind_of.Goals as goal

pub returns-then-field-emax : goal.returns-then-field-emax
returns-then-field-emax c =
    let k = kind-large c.args.f c.args.iy c.digits-digits.ensures.held (rw (c.digits-digits.ensures.value, c.emax-emax.ensures) at c.if-field-emax.true) in
    record { whole = sym k.0; odd = sym k.1 }

pub returns-then-field-emax-2 : goal.returns-then-field-emax-2
returns-then-field-emax-2 c =
    let k = kind-small c.args.f c.args.iy c.digits-digits.ensures.held c.requires (rw (c.digits-digits.ensures.value, c.emax-emax.ensures) at c.if-field-emax-2.true) in
    record { whole = sym k.0; odd = sym k.1 }

pub returns-then-j-d : goal.returns-then-j-d
returns-then-j-d c =
    let least = rw (c.digits-digits.ensures.value, c.emax-emax.ensures) at c.if-field-emax-2.false in
    let most = rw (c.digits-digits.ensures.value, c.emax-emax.ensures) at c.if-field-emax.false in
    let k = point-fraction c.args.f c.args.iy c.digits-digits.ensures.held least most (rw (c.digits-digits.ensures.value, c.emax-emax.ensures, c.hid-hid.ensures.value) at c.if-j-d.true) in
    record { whole = sym k.0; odd = sym k.1 }

pub returns-then-j-eq1 : goal.returns-then-j-eq1
returns-then-j-eq1 c =
    let least = rw (c.digits-digits.ensures.value, c.emax-emax.ensures) at c.if-field-emax-2.false in
    let most = rw (c.digits-digits.ensures.value, c.emax-emax.ensures) at c.if-field-emax.false in
    let k = point-whole c.args.f c.args.iy c.digits-digits.ensures.held least most (rw (c.digits-digits.ensures.value, c.emax-emax.ensures, c.hid-hid.ensures.value) at c.if-j-d.false) in
    record { whole = sym k.0; odd = sym (k.1 ∙ eq-eqb _ _ (rw (c.digits-digits.ensures.value, c.emax-emax.ensures, c.hid-hid.ensures.value) at c.if-j-eq1.true)) }

pub returns-else-j-eq1 : goal.returns-else-j-eq1
returns-else-j-eq1 c =
    let least = rw (c.digits-digits.ensures.value, c.emax-emax.ensures) at c.if-field-emax-2.false in
    let most = rw (c.digits-digits.ensures.value, c.emax-emax.ensures) at c.if-field-emax.false in
    let k = point-whole c.args.f c.args.iy c.digits-digits.ensures.held least most (rw (c.digits-digits.ensures.value, c.emax-emax.ensures, c.hid-hid.ensures.value) at c.if-j-d.false) in
    record { whole = sym k.0; odd = sym (k.1 ∙ ne_eqb _ _ (rw (c.digits-digits.ensures.value, c.emax-emax.ensures, c.hid-hid.ensures.value) at c.if-j-eq1.false)) }
