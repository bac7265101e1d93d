-- The word whose exponent's field alone is emax + n is the float 2 ^ n, for an n from 1 - emax to emax, and what the machine's sum, cast and shift to it ask. Assumes nothing.
use mathlib.Core.Path.{◌≡◌, refl, ap, ◌∙◌}
use Prim.Native.Nat.{ℕ, suc, ◌+◌, ◌-◌, ◌*◌, ◌/◌, ◌%◌, ◌^◌, ◌≤◌, ◌<◌}
use native.Mathlib.Nat.{mul_comm, mul-le-mul_right, mul-lt-mul_of_pos_right, mul-div_cancel, mul-mod_left, mod-eq_of_lt, lt_of_lt_of_le, le_trans, le_of_eq, le_of_lt}
use native.Mathlib.Omega.{arith}
use mathlib.Core.Bool.{Bool, true, false, not, cond}
use lib.Dec.{T, lit≤, leb, ltb, ltb→lt, leb→le, nleb→lt}
use lib.Arith.{lt→nleb}
use lib.Pow.{pow_pos}
use lib.IntN.{ℤ, pos, negsuc, ◌+ℤ◌, nat_abs}
use lib.Signed.{◌≤ℤ◌}
use mir.Syntax.{w32}
use mir.Val.{to_z, of_z}
use mir.ValLaws.{to_z-of_z}
use lib.Ieee.{fin, Format, binary32, binary64, prec, emax, low, hid, ones, top, minus, odd, nan_bits, of_bits, of_fields}
use lib.Ieee.Fits.{two, reach}
use lib.Ieee.Bits.{is_false}
use Rattle.words.proofs.Floats.{fields, under_ones, word_number}
use Rattle.scale.specs.Scale.{power}

-- ---- the word of 2 ^ n, for an n from 1 - emax to emax: the field alone, emax + n
odd_power : (f : Format) (k : ℕ) → odd (prec f) false (hid f + 0) k (low f) ≡ fin false 1 (minus (k + (prec f - 1)) (low f))
unfolding odd
odd_power binary32 k = refl
odd_power binary64 k = refl

field-under : (f : Format) (k : ℕ) → suc k < ones f → suc k * hid f < top f
field-under f k h = lt_of_lt_of_le (mul-lt-mul_of_pos_right h (pow_pos (prec f - 1))) (le_trans (mul-le-mul_right (hid f) (more (ones f))) (le_of_eq (mul_comm (suc (ones f)) (hid f))))
  where
    more : (o : ℕ) → o ≤ suc o
    more o = omega arith

field-power : (f : Format) (k : ℕ) → suc k < ones f → of_bits f (suc k * hid f) ≡ fin false 1 (minus (k + (prec f - 1)) (low f))
field-power f k h =
    let b = suc k * hid f in
    let B = field-under f k h in
    fields f b
    ∙ ap (λ (s : Bool). of_fields f s (b % top f / hid f) (b % top f % hid f)) (is_false (leb (top f) b) (lt→nleb (top f) b B))
    ∙ ap (λ (z : ℕ). of_fields f false (z / hid f) (z % hid f)) (mod-eq_of_lt B)
    ∙ ap (λ (z : ℕ). of_fields f false z (b % hid f)) (mul-div_cancel (suc k) (pow_pos (prec f - 1)))
    ∙ ap (λ (z : ℕ). of_fields f false (suc k) z) (mul-mod_left (suc k) (hid f))
    ∙ under_ones f false 0 k h
    ∙ odd_power f k

minus-at : (a b : ℕ) (n : ℤ) → (b ≤ a → pos (a - b) ≡ n) → (a < b → negsuc (b - suc a) ≡ n) → minus a b ≡ n
minus-at a b n h k = go (leb b a) (leb→le b a) (nleb→lt b a)
  where
    go : (t : Bool) → (T t → b ≤ a) → (T (not t) → a < b) → cond t (pos (a - b)) (negsuc (b - suc a)) ≡ n
    go true l m = h (l tt)
    go false l m = k (m tt)

-- emax + n is a field k + 1, and the word of that field is 2 ^ n
power-field : (f : Format) (n : ℤ) → negsuc (emax f - 2) ≤ℤ n → n ≤ℤ pos (emax f) → (k : ℕ) × (pos (emax f) +ℤ n ≡ pos (suc k)) × (suc k < ones f) × (of_bits f (suc k * hid f) ≡ power n)
power-field f (pos a) lo hi =
    let e = emax f in
    let p = prec f in
    let k = e + a - 1 in
    let s : suc k < ones f = small e p a (two f) (reach f) (leb→le a e hi.le) in
    (k, ap pos (next e p a (two f) (reach f)), s, field-power f k s ∙ ap power (minus-at (k + (p - 1)) (low f) (pos a) (λ h. ap pos (same e p a (two f) (reach f))) (λ h. absurd (no e p a (two f) (reach f) h))))
  where
    small : (e p a : ℕ) → 2 ≤ p → p ≤ suc e → a ≤ e → suc (e + a - 1) < 2 * e + 1
    small e p a x y l = omega arith

    next : (e p a : ℕ) → 2 ≤ p → p ≤ suc e → e + a ≡ suc (e + a - 1)
    next e p a x y = omega arith

    same : (e p a : ℕ) → 2 ≤ p → p ≤ suc e → e + a - 1 + (p - 1) - (e + p - 2) ≡ a
    same e p a x y = omega arith

    no : (e p a : ℕ) → 2 ≤ p → p ≤ suc e → e + a - 1 + (p - 1) < e + p - 2 → ⊥
    no e p a x y h = omega arith
power-field f (negsuc a) lo hi =
    let e = emax f in
    let p = prec f in
    let k = e - suc (suc a) in
    let L : suc (suc a) ≤ e = room f a (leb→le a (e - 2) lo.le) in
    let s : suc k < ones f = small e a L in
    (k, sum e a L (ltb e (suc a)) (ltb→lt e (suc a)), s, field-power f k s ∙ ap power (minus-at (k + (p - 1)) (low f) (negsuc a) (λ h. absurd (no e p a (two f) L h)) (λ h. ap negsuc (same e p a (two f) L))))
  where
    room : (f : Format) (a : ℕ) → a ≤ emax f - 2 → suc (suc a) ≤ emax f
    room binary32 a l = omega arith
    room binary64 a l = omega arith

    small : (e a : ℕ) → suc (suc a) ≤ e → suc (e - suc (suc a)) < 2 * e + 1
    small e a l = omega arith

    next : (e a : ℕ) → suc (suc a) ≤ e → e - suc a ≡ suc (e - suc (suc a))
    next e a l = omega arith

    clash : (e a : ℕ) → suc (suc a) ≤ e → e < suc a → ⊥
    clash e a l k = omega arith

    sum : (e a : ℕ) → suc (suc a) ≤ e → (t : Bool) → (T t → e < suc a) → cond t (negsuc (suc a - suc e)) (pos (e - suc a)) ≡ pos (suc (e - suc (suc a)))
    sum e a l true h = absurd (clash e a l (h tt))
    sum e a l false h = ap pos (next e a l)

    same : (e p a : ℕ) → 2 ≤ p → suc (suc a) ≤ e → e + p - 2 - suc (e - suc (suc a) + (p - 1)) ≡ a
    same e p a x l = omega arith

    no : (e p a : ℕ) → 2 ≤ p → suc (suc a) ≤ e → e + p - 2 ≤ e - suc (suc a) + (p - 1) → ⊥
    no e p a x l h = omega arith

-- ---- the same of what the machine holds of the sum, whose field goes into 64 digits
few : (f : Format) → ones f ≤ 2 ^ 31
few binary32 = lit≤ tt
few binary64 = lit≤ tt

wide : (f : Format) → top f ≤ 2 ^ 64
wide binary32 = lit≤ tt
wide binary64 = lit≤ tt

pub field-word : (f : Format) (n : ℤ) (b : ℕ) → negsuc (emax f - 2) ≤ℤ n → n ≤ℤ pos (emax f) → b ≡ nat_abs (to_z w32 (of_z w32 (pos (emax f) +ℤ n))) * hid f % 2 ^ 64 → (nan_bits f b ≡ false) × (of_bits f b ≡ power n)
field-word f n b lo hi e =
    let F = power-field f n lo hi in
    let k = F.0 in
    let z : to_z w32 (of_z w32 (pos (emax f) +ℤ n)) ≡ pos (suc k) = ap (λ (x : ℤ). to_z w32 (of_z w32 x)) F.1 ∙ to_z-of_z w32 (pos (suc k)) (record { sfits = lt_of_lt_of_le F.2 (few f) }) in
    let under = field-under f k F.2 in
    let a : b ≡ suc k * hid f = e ∙ ap (λ (x : ℤ). nat_abs x * hid f % 2 ^ 64) z ∙ mod-eq_of_lt (lt_of_lt_of_le under (wide f)) in
    (ap (nan_bits f) a ∙ is_false (nan_bits f (suc k * hid f)) (word_number f (suc k * hid f) (le_trans (le_of_eq (mod-eq_of_lt under)) (mul-le-mul_right (hid f) (le_of_lt F.2)))), ap (of_bits f) a ∙ F.3)
