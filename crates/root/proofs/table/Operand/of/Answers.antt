-- `root::table::Operand::of` meets its contract. Assumes nothing.
use Prim.Native.Nat.{ℕ, suc, ◌+◌, ◌-◌, ◌*◌, ◌/◌, ◌%◌, ◌^◌, ◌<◌}
use mathlib.Core.Path.{◌≡◌, refl, ap, ◌∙◌}
use native.Mathlib.Nat.{mod-eq_of_lt}
use native.Mathlib.Omega.{arith}
use lib.Bits.{bit_and, and_mask}
use Rattle.words.specs.Format.{binary64, units}
use Rattle.root.specs.Root.{lifted}
use Rattle.root.specs.Engine.{Shifts, Normalised, place_of}
use Rattle.root.proofs.Operands.{shifts-few, shifted-value}
use Rattle.root.proofs.Words.{lifted-low, lifted-high}
use Rattle.root.proofs.table.Operand.of.Goals as goal
use Rattle.root.proofs.table.Operand.of.Goals.{After-shift_up-s}

-- the fraction, by its mask
abbrev fraction : ℕ → ℕ
fraction x = x % 2 ^ 52

-- where the field is 0 the fraction is not
nonzero : (x : ℕ) → 0 < x → x / 2 ^ 52 ≡ 0 → 0 < fraction x
nonzero x some e = omega arith

module _ (c : After-shift_up-s) where
  abbrev x : ℕ
  x = c.args.x

  abbrev s : ℕ
  s = c.shift_up-s.result

  shifts : Shifts 53 (fraction x) s
  shifts =
      let e : bit_and x (2 ^ 52 - 1) * 2 ^ s ≡ fraction x * 2 ^ s = ap (λ (t : ℕ). t * 2 ^ s) (and_mask x 52) in
      record { above = omega (arith, c.shift_up-s.ensures.above, e); below = omega (arith, c.shift_up-s.ensures.below, e) }

  few : s < 53
  few = shifts-few 53 (fraction x) s (nonzero c.args.x c.requires.0 c.if-field-eq0.true) shifts

  -- the shift loses nothing
  shl : bit_and x (2 ^ 52 - 1) * 2 ^ s % 2 ^ 64 ≡ fraction x * 2 ^ s
  shl = ap (λ (t : ℕ). t * 2 ^ s % 2 ^ 64) (and_mask x 52) ∙ mod-eq_of_lt (omega (arith, shifts.below))

  abbrev m : ℕ
  m = fraction x * 2 ^ s

  -- the place is from m's digits
  digits : bit_and (bit_and x (2 ^ 52 - 1) * 2 ^ s % 2 ^ 64 / 2 ^ 44) 255 ≡ m / 2 ^ 44 % 256
  digits = ap (λ (t : ℕ). bit_and (t / 2 ^ 44) 255) shl ∙ and_mask (m / 2 ^ 44) 8

  -- what is to be shown of the three numbers that the code makes
  shifted : {a n j : ℕ} → a ≡ m → n ≡ 1022 - s → j ≡ place_of m ((1022 - s) % 2)
      → Normalised 53 a n (lifted binary64 (units binary64 x)) × ((n < 2 ^ 12) × (j ≡ place_of a (n % 2)))
  shifted a n j = rw (a, n) (
    record {
      above = shifts.above;
      below = shifts.below;
      value = shifted-value (fraction x) s 1022 (omega (arith, few)) ∙ lifted-low binary64 x c.if-field-eq0.true;
    },
    (omega arith, j),
  )

pub overflow_shl-m : goal.overflow_shl-m
overflow_shl-m c = omega (arith, few (goal.at.overflow_shl-m c).After-shift_up-s)

pub overflow_sub-n : goal.overflow_sub-n
overflow_sub-n c = omega (arith, few (goal.at.overflow_sub-n c).After-shift_up-s)

pub returns-then-field-eq0 : goal.returns-then-field-eq0
returns-then-field-eq0 c =
    let k = (goal.at.returns-then-field-eq0 c).After-shift_up-s in
    let h = shifted k (shl k) refl (omega (arith, digits k, and_mask (1022 - s k) 1)) in
    record { normalised = h.0; n_bound = h.1 }

pub returns-else-field-eq0 : goal.returns-else-field-eq0
returns-else-field-eq0 c =
    let x = c.args.x in
    let field = x / 2 ^ 52 in
    let y : ℕ = field - 1 in
    let is-suc : field ≡ suc y = omega (arith, c.if-field-eq0.false) in
    let e : field + 1021 ≡ y + 1022 = omega (arith, is-suc) in
    rw (and_mask x 52, and_mask (x / 2 ^ 44) 9) (record {
      normalised = record {
        above = omega arith;
        below = omega arith;
        value = ap (λ (n : ℕ). (2 ^ 52 + fraction x) * 2 ^ n) e ∙ lifted-high binary64 x y is-suc;
      };
      n_bound = (omega (arith, c.requires.1), place x);
    })
  where
    place : (a : ℕ) → a / 2 ^ 44 % 512 ≡ place_of (2 ^ 52 + fraction a) ((a / 2 ^ 52 + 1021) % 2)
    place a = omega arith
