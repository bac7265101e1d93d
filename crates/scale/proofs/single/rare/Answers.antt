-- `scale::single::rare` meets its contract: a NaN, at a limit, or as a whole number of units. Assumes nothing.
use mathlib.Core.Path.{◌≡◌, refl, sym, ap, ◌∙◌, subst}
use Prim.Native.Nat.{ℕ, suc, ◌+◌, ◌-◌, ◌/◌, ◌%◌, ◌^◌, ◌≤◌, ◌<◌}
use native.Mathlib.Omega.{arith}
use lib.Bits.{bit_and, bit_or, and_mask}
use lib.Ieee.{binary32}
use mir.Syntax.{w32}
use mir.ValLaws.{to_z-of_z}
use Rattle.words.specs.Format as Format
use Rattle.scale.specs.Scale.{scaled}
use Rattle.scale.proofs.Machine.{sum-held}
use Rattle.scale.proofs.Scaled.{scaled-nan, scaled-signed, sign-before, digits-with-leading}
use Rattle.scale.proofs.Tiny.{by_digits}
use Rattle.scale.proofs.single.rare.Goals as goal
use Rattle.scale.proofs.single.rare.Goals.{Start}

-- the sign before the size, scaled
signed : (s : Start) → s.args.x % 2 ^ 31 < 0x7f80_0000 → (r : ℕ) → r ≡ scaled Format.binary32 (s.args.x % 2 ^ 31) s.args.n → bit_or (bit_and s.args.x 0x8000_0000) r ≡ scaled Format.binary32 s.args.x s.args.n
signed s h r e =
    let x = s.args.x in
    let law = scaled-signed Format.binary32 x s.args.n s.ranges.x.fits h in
    ap (bit_or (bit_and x (2 ^ 32 - 2 ^ 31))) e ∙ sign-before 31 x (scaled Format.binary32 (x % 2 ^ 31) s.args.n) s.ranges.x.fits law.0 ∙ sym law.1

-- a normal size's field is y + 1
field : (z : ℕ) → 0x0080_0000 ≤ z → z / 2 ^ 23 ≡ suc (z / 2 ^ 23 - 1)
field z h = omega arith

room : (z : ℕ) → z < 0x7f80_0000 → 277 + (z / 2 ^ 23 - 1) < 2 ^ 31
room z h = omega arith

pub returns-then-ix-gt2139095040 : goal.returns-then-ix-gt2139095040
returns-then-ix-gt2139095040 c = scaled-nan Format.binary32 c.args.x c.args.n (subst (λ (z : ℕ). 0x7f80_0000 < z) (and_mask c.args.x 31) c.if-ix-gt2139095040.true)

pub returns-then-ix-lt8388608 : goal.returns-then-ix-lt8388608
returns-then-ix-lt8388608 c =
    signed (goal.at.returns-then-ix-lt8388608 c).Start (c.in_default.ensures.finite refl) c.tiny.result (c.tiny.ensures ∙ (λ i. scaled Format.binary32 (and_mask c.args.x 31 i) (to_z-of_z w32 c.args.n c.ranges.n i)))

pub returns-else-ix-lt8388608 : goal.returns-else-ix-lt8388608
returns-else-ix-lt8388608 c =
    let z = bit_and c.args.x (2 ^ 31 - 1) in
    let y = z / 2 ^ 23 - 1 in
    let finite = c.in_default.ensures.finite refl in
    let below : z < 0x7f80_0000 = subst (λ (s : ℕ). s < 0x7f80_0000) (sym (and_mask c.args.x 31)) finite in
    signed (goal.at.returns-else-ix-lt8388608 c).Start finite c.tiny-else-ix-lt8388608.result
    (c.tiny-else-ix-lt8388608.ensures
    ∙ (λ i. scaled Format.binary32 (digits-with-leading 23 z i) (sum-held w32 c.args.n y 277 c.ranges.n (c.in_default.ensures.within refl) (room z below) i))
    ∙ by_digits binary32 z y below (field z c.if-ix-lt8388608.false) c.args.n
    ∙ ap (λ (s : ℕ). scaled Format.binary32 s c.args.n) (and_mask c.args.x 31))
