-- When a size is a whole number, and an odd one: by its exponent's field and its digits, over every format that 64 bits hold. Assumes nothing.
use Prim.Native.Nat.{ℕ, ◌+◌, ◌-◌, ◌*◌, ◌/◌, ◌%◌, ◌^◌, ◌<◌, ◌≤◌}
use mathlib.Core.Path.{◌≡◌, refl, sym, ap, ◌∙◌, subst, subst⁻¹}
use mathlib.Core.Bool.{true, false}
use mathlib.Core.Logic.{⊎_elim}
use native.Mathlib.Nat.{mul-mod_left, mul-pos, eq-zero-or-pos, mod-eq_of_lt, mod-lt, lt_of_lt_of_le, mul-lt-mul_of_pos_right, add-zero, mul_assoc, zero-mul, zero-add, two-pow-succ}
use native.Mathlib.Omega.{arith}
use lib.Bits.{bit_and, bit_or, and_mask}
use lib.Dec.{eqb}
use lib.Pow.{pow_pos, pow_mono, pow-add, shl-shr, shr-shr, mod-pow-add, split}
use borrow.Author.Tests.{ne_eqb}
use Rattle.words.specs.Format.{Format, low, hid, units}
use Rattle.words.specs.Rounding.{Held}
use Rattle.words.proofs.Digits.{room}
use Rattle.words.proofs.Units as Units
use Rattle.power.specs.Numbers.{whole, odd}
use Rattle.power.proofs.Words.{led}

-- s * 2 ^ k, by 2 ^ (d + k)
shifted-mod : (s d k : ℕ) → s * 2 ^ k % 2 ^ (d + k) ≡ (s % 2 ^ d) * 2 ^ k
shifted-mod s d k = mod-pow-add (s * 2 ^ k) d k ∙ rw (shl-shr s k, mul-mod_left s (2 ^ k)) (add-zero _)

shifted-div : (s d k : ℕ) → s * 2 ^ k / 2 ^ (d + k) ≡ s / 2 ^ d
shifted-div s d k = ap (λ (j : ℕ). s * 2 ^ k / 2 ^ j) (omega arith) ∙ sym (shr-shr (s * 2 ^ k) k d) ∙ ap (λ (q : ℕ). q / 2 ^ d) (shl-shr s k)

-- the digits of a normal number's size, the leading one with them
abbrev pub digits_of : Format → ℕ → ℕ
digits_of f m = hid f + m % hid f

units-normal : (f : Format) (m : ℕ) → 1 ≤ m / hid f → units f m ≡ digits_of f m * 2 ^ (m / hid f - 1)
units-normal f m h = sym (Units.units-normal f m (m / hid f - 1) (omega arith))

not-zero : (n : ℕ) → 0 < n → eqb n 0 ≡ false
not-zero n p = ne_eqb n 0 (λ q. omega arith)

even-units : (f : Format) (m q : ℕ) → units f m ≡ q * 2 * 2 ^ low f → (whole f m ≡ true) × (odd f m ≡ false)
unfolding whole odd
even-units f m q e =
    (rw (e, mul-mod_left (q * 2) (2 ^ low f)) refl, rw (e, mul-mod_left (q * 2) (2 ^ low f), shl-shr (q * 2) (low f), mul-mod_left q 2) refl)

-- from 2 ^ digits on every number is even
pub kind-large : (f : Format) (m : ℕ) → Held f.digits f.emax → f.emax + f.digits ≤ m / hid f → (whole f m ≡ true) × (odd f m ≡ false)
kind-large f m held h =
    let b : ℕ = m / hid f - f.emax - f.digits in
    let p : m / hid f - 1 ≡ b + 1 + low f = omega (arith, held.least, held.room) in
    even-units f m (digits_of f m * 2 ^ b)
    (units-normal f m (omega (arith, held.least, held.room)) ∙ rw (p, pow-add 2 (b + 1) (low f), pow-add 2 b 1) (sym (mul_assoc _ _ _) ∙ ap (λ (x : ℕ). x * 2 ^ low f) (sym (mul_assoc _ _ _))))

module _ (f : Format) (m d : ℕ) (normal : 1 ≤ m / hid f) (place : d + (m / hid f - 1) ≡ low f) where
  units-mod : units f m % 2 ^ low f ≡ (digits_of f m % 2 ^ d) * 2 ^ (m / hid f - 1)
  units-mod = rw (units-normal f m normal, ← place) (shifted-mod (digits_of f m) d (m / hid f - 1))

  units-div : units f m / 2 ^ low f ≡ digits_of f m / 2 ^ d
  units-div = rw (units-normal f m normal, ← place) (shifted-div (digits_of f m) d (m / hid f - 1))

  -- from 1 on, below 2 ^ digits: the digits below the point, d of them, decide
  pub kind-yes : digits_of f m % 2 ^ d ≡ 0 → (whole f m ≡ true) × (odd f m ≡ eqb (digits_of f m / 2 ^ d % 2) 1)
  unfolding whole odd
  kind-yes z = (rw (units-mod, z, zero-mul) refl, rw (units-mod, units-div, z, zero-mul) refl)

  pub kind-no : (digits_of f m % 2 ^ d ≡ 0 → ⊥) → (whole f m ≡ false) × (odd f m ≡ false)
  unfolding whole odd
  kind-no z =
      let e : eqb ((digits_of f m % 2 ^ d) * 2 ^ (m / hid f - 1)) 0 ≡ false =
      not-zero _ (mul-pos (⊎_elim (λ q. absurd (z q)) (λ p. p) (eq-zero-or-pos (digits_of f m % 2 ^ d))) (pow_pos (m / hid f - 1))) in
      (rw (units-mod, e) refl, rw (units-mod, e) refl)

small : (f : Format) (m : ℕ) → 0 < units f m → units f m < 2 ^ low f → (whole f m ≡ false) × (odd f m ≡ false)
unfolding whole odd
small f m p h =
    let e : eqb (units f m) 0 ≡ false = not-zero (units f m) p in
    (rw (mod-eq_of_lt h, e) refl, rw (mod-eq_of_lt h, e) refl)

-- a subnormal number's size is its units
sub_is : (f : Format) (m : ℕ) → m / hid f ≡ 0 → m % hid f ≡ m
sub_is f m z = sym (zero-add _) ∙ sym (ap (λ (q : ℕ). q + m % hid f) (zero-mul (hid f))) ∙ ap (λ (q : ℕ). q * hid f + m % hid f) (sym z) ∙ split m (f.digits - 1)

sub-lt : (f : Format) (m : ℕ) → m / hid f ≡ 0 → m < hid f
sub-lt f m z = subst (λ (q : ℕ). q < hid f) (sub_is f m z) (mod-lt m (pow_pos (f.digits - 1)))

digits-pos : (f : Format) (m : ℕ) → 0 < digits_of f m
digits-pos f m = omega (arith, pow_pos (f.digits - 1))

digits_lt : (f : Format) (m : ℕ) → Held f.digits f.emax → digits_of f m < 2 ^ f.digits
digits_lt f m held =
    subst (λ (k : ℕ). digits_of f m < 2 ^ k) (omega (arith, held.least, held.room))
    (subst⁻¹ (λ (u : ℕ). digits_of f m < u) (two-pow-succ (f.digits - 1)) (omega (arith, mod-lt m (pow_pos (f.digits - 1)))))

-- below 1 nothing but 0 is whole
pub kind-small : (f : Format) (m : ℕ) → Held f.digits f.emax → 0 < m → m / hid f < f.emax → (whole f m ≡ false) × (odd f m ≡ false)
kind-small f m held p h =
    ⊎_elim
    (λ z. let e : units f m ≡ m = sym (Units.units-sub f m z) ∙ sub_is f m z in
    small f m (subst⁻¹ (λ (u : ℕ). 0 < u) e p) (subst⁻¹ (λ (u : ℕ). u < 2 ^ low f) e (lt_of_lt_of_le (sub-lt f m z) (pow_mono (omega (arith, held.least, held.room))))))
    (λ g. let e : units f m ≡ digits_of f m * 2 ^ (m / hid f - 1) = units-normal f m g in
    small f m (subst⁻¹ (λ (u : ℕ). 0 < u) e (mul-pos (digits-pos f m) (pow_pos (m / hid f - 1))))
    (subst⁻¹ (λ (u : ℕ). u < 2 ^ low f) e
    (lt_of_lt_of_le (mul-lt-mul_of_pos_right (digits_lt f m held) (pow_pos (m / hid f - 1)))
    (subst (λ (u : ℕ). u ≤ 2 ^ low f) (pow-add 2 f.digits (m / hid f - 1)) (pow_mono (omega (arith, held.least, held.room)))))))
    (eq-zero-or-pos (m / hid f))

-- what is shifted down and up again is the same exactly where no digit is lost
pub back-yes : (w s d : ℕ) → s < 2 ^ w → s / 2 ^ d * 2 ^ d % 2 ^ w ≡ s → s % 2 ^ d ≡ 0
back-yes w s d h e =
    let q = split s d in
    let r : s / 2 ^ d * 2 ^ d % 2 ^ w ≡ s / 2 ^ d * 2 ^ d = mod-eq_of_lt (omega arith) in
    omega arith

pub back-no : (w s d : ℕ) → s < 2 ^ w → (s / 2 ^ d * 2 ^ d % 2 ^ w ≡ s → ⊥) → s % 2 ^ d ≡ 0 → ⊥
back-no w s d h n z =
    let q = split s d in
    let r : s / 2 ^ d * 2 ^ d % 2 ^ w ≡ s / 2 ^ d * 2 ^ d = mod-eq_of_lt (omega arith) in
    n (omega arith)

-- ---- the digits as the code finds them, from 1 on and below 2 ^ digits

pub digits-small : (p e m : ℕ) → Held p e → 2 ^ (p - 1) + m % 2 ^ (p - 1) < 2 ^ 64
digits-small p e m h = go (2 ^ (p - 1)) (m % 2 ^ (p - 1)) (room 2 p (omega arith) h.small) (mod-lt m (pow_pos (p - 1)))
  where
    go : (a b : ℕ) → 2 * a ≤ 2 ^ 63 → b < a → a + b < 2 ^ 64
    go a b r l = omega arith

module _ (f : Format) (m : ℕ) (held : Held f.digits f.emax) (least : f.emax ≤ m / hid f) (most : m / hid f < f.emax + f.digits) where
  abbrev s : ℕ
  s = bit_or (bit_and m (hid f - 1)) (hid f)

  abbrev d : ℕ
  d = f.emax + f.digits - 1 - m / hid f

  normal : 1 ≤ m / hid f
  normal = omega (arith, held.room, least)

  place : d + (m / hid f - 1) ≡ low f
  place = omega (arith, held.room, least, most)

  pub point-whole : s / 2 ^ d * 2 ^ d % 2 ^ 64 ≡ s → (whole f m ≡ true) × (odd f m ≡ eqb (bit_and (s / 2 ^ d) 1) 1)
  point-whole e =
      let k = kind-yes f m d normal place (back-yes 64 (digits_of f m) d (digits-small f.digits f.emax m held) (rw (led (f.digits - 1) m) at e)) in
      (k.0, rw (led (f.digits - 1) m, and_mask _ 1) k.1)

  pub point-fraction : (s / 2 ^ d * 2 ^ d % 2 ^ 64 ≡ s → ⊥) → (whole f m ≡ false) × (odd f m ≡ false)
  point-fraction n =
      kind-no f m d normal place (back-no 64 (digits_of f m) d (digits-small f.digits f.emax m held) (rw (led (f.digits - 1) m) at n))
