-- `root::operand::Parts::of` meets its contract: the laws of `Words` at the format. Assumes nothing.
use Prim.Native.Nat.{ℕ, suc, ◌+◌, ◌-◌, ◌*◌, ◌/◌, ◌%◌, ◌^◌, ◌≤◌, ◌<◌}
use mathlib.Core.Path.{◌≡◌, sym, ap, ◌∙◌}
use native.Mathlib.Nat.{mod-eq_of_lt, mod-lt, div-lt_iff_lt-mul}
use native.Mathlib.Omega.{arith}
use lib.Bits.{bit_and, and_mask}
use lib.Pow.{pow_pos, pow_mono}
use lib.IntN.{sub_ℕ}
use mir.Syntax.{w32}
use mir.Val.{to_z, of_z}
use Rattle.words.specs.Format.{Format, hid, infinity}
use Rattle.words.specs.Rounding.{Held}
use Rattle.root.specs.Engine.{Shifts, odd_z}
use Rattle.root.proofs.Signed.{read_back}
use Rattle.root.proofs.Operands.{shifts-few}
use Rattle.root.proofs.Words.{fraction-some, Fine, held-fine, full, low_parts, high_parts}
use Rattle.root.proofs.operand.Parts.of.Goals as goal
use Rattle.root.proofs.operand.Parts.of.Goals.{After-shift_up-s}

-- what is read of x by the code's numbers p and h, which are the format's
record Fields (f : Format) (x p h : ℕ) : Type 0 where
  fine : Fine f
  mask : bit_and x (h - 1) ≡ x % hid f
  field : x / 2 ^ (p - 1) ≡ x / hid f
  under : x % hid f < hid f
  few : x / hid f < 2 * f.emax + 1
  cap : 2 * hid f ≤ 2 ^ 53
  low : x / 2 ^ (p - 1) ≡ 0 → (x / hid f ≡ 0) × (0 < x % hid f)

fields : (f : Format) (x p h : ℕ) → p ≡ f.digits → h ≡ hid f → Held f.digits f.emax → (0 < x) × (x < infinity f) → Fields f x p h
fields f x p h d e g l =
    let fine = held-fine f.digits f.emax g in
    let field : x / 2 ^ (p - 1) ≡ x / hid f = ap (λ (n : ℕ). x / 2 ^ (n - 1)) d in
    record {
      fine = fine;
      mask = ap (λ (n : ℕ). bit_and x (n - 1)) e ∙ and_mask x (f.digits - 1);
      field = field;
      under = mod-lt x (pow_pos (f.digits - 1));
      few = (div-lt_iff_lt-mul (pow_pos (f.digits - 1))).1 (omega (arith, l.1));
      cap = omega (arith, full f x fine, pow_mono {i = f.digits} {j = 53} g.small);
      low = λ z. let n = sym field ∙ z in (n, fraction-some (hid f) x l.0 n);
    }

-- what the shift gives
shifts : (c : After-shift_up-s)
    → Fields c.args.f c.args.x c.digits-p.result c.hid-hid.result
    × Shifts c.args.f.digits (c.args.x % hid c.args.f) c.shift_up-s.result
    × (c.shift_up-s.result < c.args.f.digits)
shifts c =
    let f = c.args.f in
    let t = c.args.x % hid f in
    let g = fields f c.args.x c.digits-p.result c.hid-hid.result c.digits-p.ensures.value c.hid-hid.ensures.value c.digits-p.ensures.held c.requires in
    let a : Shifts f.digits t c.shift_up-s.result = rw (c.digits-p.ensures.value, g.mask) at c.shift_up-s.ensures in
    (g, a, shifts-few f.digits t c.shift_up-s.result (g.low c.if-field-eq0.true).1 a)

pub shift_up-s-requires : goal.shift_up-s-requires
shift_up-s-requires c =
    let f = c.args.f in
    let g = fields f c.args.x c.digits-p.result c.hid-hid.result c.digits-p.ensures.value c.hid-hid.ensures.value c.digits-p.ensures.held c.requires in
    rw (c.digits-p.ensures.value, g.mask) ((g.low c.if-field-eq0.true).1, omega (arith, g.under, full f c.args.x g.fine), omega (arith, c.digits-p.ensures.held.small))

pub overflow_shl-t : goal.overflow_shl-t
overflow_shl-t c = omega (arith, (shifts (goal.at.overflow_shl-t c).After-shift_up-s).2, c.digits-p.ensures.held.small)

pub overflow_add-emax : goal.overflow_add-emax
overflow_add-emax c = omega (arith, (shifts (goal.at.overflow_add-emax c).After-shift_up-s).2, c.digits-p.ensures.held, c.emax.ensures)

pub unbiased-requires : goal.unbiased-requires
unbiased-requires c = omega (arith, (shifts (goal.at.unbiased-requires c).After-shift_up-s).2, c.digits-p.ensures.held, c.emax.ensures)

pub returns-then-field-eq0 : goal.returns-then-field-eq0
returns-then-field-eq0 c =
    let k = (goal.at.returns-then-field-eq0 c).After-shift_up-s in
    let f = c.args.f in
    let t = c.args.x % hid f in
    let s = c.shift_up-s.result in
    let e = c.unbiased.result in
    let g = (shifts k).0 in
    let low : t * 2 ^ s < 2 ^ 64 = omega (arith, (shifts k).1.below, full f c.args.x g.fine, g.cap) in
    let is = read_back e 1 (f.emax + s) (omega arith) (omega (arith, (shifts k).2, c.digits-p.ensures.held)) (c.unbiased.ensures ∙ ap (λ (b : ℕ). sub_ℕ 1 (b + s)) c.emax.ensures) in
    let r = low_parts f c.args.x g.fine (g.low c.if-field-eq0.true).0 (g.low c.if-field-eq0.true).1 s _ (shifts k).1 is in
    record {
      w_value = c.halve.ensures.w_value ∙ (ap (λ (n : ℕ). n * 2 ^ s % 2 ^ 64 * 2 ^ odd_z (to_z w32 (of_z w32 e))) g.mask ∙ (ap (λ (n : ℕ). n * 2 ^ odd_z (to_z w32 (of_z w32 e))) (mod-eq_of_lt low) ∙ r.0));
      half_value = c.halve.ensures.half_value ∙ r.1;
    }

pub returns-else-field-eq0 : goal.returns-else-field-eq0
returns-else-field-eq0 c =
    let f = c.args.f in
    let x = c.args.x in
    let e = c.unbiased-else-field-eq0.result in
    let g = fields f x c.digits-p.result c.hid-hid.result c.digits-p.ensures.value c.hid-hid.ensures.value c.digits-p.ensures.held c.requires in
    let y : ℕ = x / hid f - 1 in
    let is-suc : x / hid f ≡ suc y = omega (arith, g.field, c.if-field-eq0.false) in
    let is = read_back e (suc y) f.emax (omega (arith, g.few, c.digits-p.ensures.held.high, is-suc)) (omega (arith, c.digits-p.ensures.held.high))
    (c.unbiased-else-field-eq0.ensures ∙ (λ i. sub_ℕ ((g.field ∙ is-suc) i) (c.emax-else-field-eq0.ensures i))) in
    let r = high_parts f x g.fine y is-suc _ is in
    record {
      w_value = c.halve-else-field-eq0.ensures.w_value ∙ ((λ i. (c.hid-hid.ensures.value i + g.mask i) * 2 ^ odd_z (to_z w32 (of_z w32 e))) ∙ r.0);
      half_value = c.halve-else-field-eq0.ensures.half_value ∙ r.1;
    }
