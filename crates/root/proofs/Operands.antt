-- An operand's W and E, over any format: the one way to write it as w * 4 ^ h, found by shifting, with the exponent's sign or without. Assumes nothing.
use Prim.Native.Nat.{ℕ, zero, suc, ◌+◌, ◌-◌, ◌*◌, ◌/◌, ◌%◌, ◌^◌, ◌≤◌, ◌<◌}
use mathlib.Core.Path.{◌≡◌, refl, sym, ap, subst, ◌∙◌}
use mathlib.Core.Logic.{◌⊎◌, inl, inr, ⊎_elim}
use native.Mathlib.Nat.{lt_of_le_of_lt, mul_assoc, mul-le-mul_right, mul-lt-mul_of_pos_right, mul-div_cancel, pow-succ', add-sub_of_le, mul-pos}
use native.Mathlib.Decide.{dec_lt}
use native.Mathlib.Omega.{arith}
use borrow.Author.Tests.{lt-ltb, le-ltb}
use lib.IntN.{ℤ, pos, negsuc, sub_ℕ, ◌+ℤ◌}
use lib.Signed.{shr_z, mag}
use lib.Pow.{pow_pos, pow-add}
use lib.Count.{count_leading_zeros, leading_top, leading_length, leading_unique}
use lib.Ieee.{size}
use lib.Ieee.Digits.{size-lt, size-le}
use Rattle.root.specs.Root.{halves, whole}
use Rattle.root.specs.Engine.{odd_z, Shifts, Split}
use Rattle.root.proofs.Engine.{powers, four-pow}
use Rattle.root.proofs.Roots.{pow-lt-inv}

pub four-pos : (h : ℕ) → 0 < 4 ^ h
four-pos h = subst (λ (z : ℕ). 0 < z) (sym (four-pow h)) (mul-pos (pow_pos h) (pow_pos h))

-- ---- w and h are the definition's

module _ (p v w h : ℕ) (s : Split p v w h) where
  four : 4 ^ h ≡ 2 ^ (2 * h)
  four = four-pow h ∙ (sym (pow-add 2 h h) ∙ ap (λ (z : ℕ). 2 ^ z) t)
    where
      t : h + h ≡ 2 * h
      t = omega arith

  -- v has p + 2 * h digits, or one more
  size_below : size v ≤ p + 1 + 2 * h
  size_below = size-le v (p + 1 + 2 * h) x
    where
      x : v < 2 ^ (p + 1 + 2 * h)
      x = omega (arith, s.value, pow-add 2 (p + 1) (2 * h), mul-le-mul_right (4 ^ h) s.below, ap (λ (z : ℕ). 2 ^ (p + 1) * z) four, four-pos h)

  pub size_above : p + 2 * h ≤ size v
  size_above =
      let x : 2 * v < 2 ^ (size v + 1) = omega (arith, size-lt v, (powers (size v)).0) in
      let y : 2 ^ (p + 2 * h) ≤ 2 * v = omega (arith, s.value, pow-add 2 p (2 * h), mul-le-mul_right (4 ^ h) s.above, ap (λ (z : ℕ). 2 ^ p * z) four) in
      let z : p + 2 * h < size v + 1 = pow-lt-inv (p + 2 * h) (size v + 1) (lt_of_le_of_lt y x) in
      omega arith

  pub halves-is : halves p v ≡ h
  unfolding halves
  halves-is = omega (arith, size_below, size_above)

  pub whole_is : whole p v ≡ w
  unfolding whole
  whole_is = ap (λ (z : ℕ). v / 4 ^ z) halves-is ∙ (ap (λ (z : ℕ). z / 4 ^ h) (sym s.value) ∙ mul-div_cancel w (four-pos h))

-- ---- by shifting m to p digits

-- a significand of p digits at the exponent n: half of n, and its parity
pub split : (p m n : ℕ) → 2 ^ p ≤ 2 * m → m < 2 ^ p → Split p (m * 2 ^ n) (m * 2 ^ (n % 2)) (n / 2)
split p m n above below = by (n % 2) refl
  where
    square : 2 ^ (n / 2 + n / 2) ≡ 4 ^ (n / 2)
    square = pow-add 2 (n / 2) (n / 2) ∙ sym (four-pow (n / 2))

    by : (r : ℕ) → n % 2 ≡ r → Split p (m * 2 ^ n) (m * 2 ^ r) (n / 2)
    by zero e =
        let t : n ≡ n / 2 + n / 2 = omega arith in
        let u : 2 ^ n ≡ 4 ^ (n / 2) = ap (λ (z : ℕ). 2 ^ z) t ∙ square in
        record { value = omega (arith, ap (λ (z : ℕ). m * z) u); above = omega arith; below = omega (arith, (powers p).0) }
    by (suc zero) e =
        let t : n ≡ suc (n / 2 + n / 2) = omega arith in
        let u : 2 ^ n ≡ 2 * 4 ^ (n / 2) = ap (λ (z : ℕ). 2 ^ z) t ∙ (pow-succ' 2 (n / 2 + n / 2) ∙ ap (λ (z : ℕ). 2 * z) square) in
        record { value = omega (arith, ap (λ (z : ℕ). m * z) u); above = omega arith; below = omega (arith, (powers p).0) }
    by (suc (suc r)) e = absurd (omega arith)

-- shifting changes no value
pub shifted-value : (m s n : ℕ) → s ≤ n → m * 2 ^ s * 2 ^ (n - s) ≡ m * 2 ^ n
shifted-value m s n h = mul_assoc m (2 ^ s) (2 ^ (n - s)) ∙ ap (λ (z : ℕ). m * z) (sym (pow-add 2 s (n - s)) ∙ ap (λ (z : ℕ). 2 ^ z) (add-sub_of_le h))

pub shifts-few : (p m s : ℕ) → 0 < m → Shifts p m s → s < p
shifts-few p m s h a = pow-lt-inv s p (omega (arith, a.below, mul-le-mul_right (2 ^ s) h))

-- there are such shifts: as many as m has leading zeros among p digits
pub shifts-exist : (p m : ℕ) → 0 < m → m < 2 ^ p → Shifts p m (count_leading_zeros p m)
shifts-exist p m h b =
    let t = leading_top p m h b in
    let j = t.0 in
    let s : ℕ = count_leading_zeros p m in
    let total : suc j + s ≡ p = omega (arith, t.1) in
    let e : 2 ^ suc j * 2 ^ s ≡ 2 ^ p = sym (pow-add 2 (suc j) s) ∙ ap (λ (k : ℕ). 2 ^ k) total in
    record {
      above = omega (arith, e, ap (λ (k : ℕ). k * 2 ^ s) (pow-succ' 2 j), mul-le-mul_right (2 ^ s) t.2);
      below = omega (arith, e, mul-lt-mul_of_pos_right t.3 (pow_pos s));
    }

-- among d digits more there are d zeros more
pub leading_wider : (p d m : ℕ) → m < 2 ^ p → count_leading_zeros p m + d ≡ count_leading_zeros (p + d) m
leading_wider p d m b =
    let l = leading_length p m b in
    leading_unique (p + d) m (count_leading_zeros p m + d) l.0 (omega (arith, l.1)) l.2 l.3

-- so an operand m * 2 ^ n with room for its shifts is split, and its exponent is no more than n
pub operand-split : (p m n : ℕ) → 0 < m → m < 2 ^ p → p ≤ n → Split p (m * 2 ^ n) (whole p (m * 2 ^ n)) (halves p (m * 2 ^ n)) × (2 * halves p (m * 2 ^ n) ≤ n)
operand-split p m n h b room =
    let s : ℕ = count_leading_zeros p m in
    let a = shifts-exist p m h b in
    let few : s ≤ n = omega (arith, shifts-few p m s h a) in
    let one : Split p (m * 2 ^ n) (m * 2 ^ s * 2 ^ ((n - s) % 2)) ((n - s) / 2) = subst (λ (z : ℕ). Split p z (m * 2 ^ s * 2 ^ ((n - s) % 2)) ((n - s) / 2)) (shifted-value m s n few) (split p (m * 2 ^ s) (n - s) a.above a.below) in
    let v : ℕ = m * 2 ^ n in
    let hs = halves-is p v _ _ one in
    (rw (hs, whole_is p v _ _ one) one, omega (arith, hs))

-- ---- the same with the exponent's sign

either : (a b : ℕ) → (a < b) ⊎ (b ≤ a)
either a b = elim (dec_lt a b) [ yes h ↦ inl h | no f ↦ inr (omega arith) ]

-- the difference is of both, moved
pub sub-shift : (a b c : ℕ) → sub_ℕ (a + c) (b + c) ≡ sub_ℕ a b
sub-shift a b c = ⊎_elim
    (λ h. rw (lt-ltb (a + c) (b + c) (omega arith), lt-ltb a b h) (ap negsuc (omega arith)))
    (λ h. rw (le-ltb (a + c) (b + c) (omega arith), le-ltb a b h) (ap pos (omega arith)))
    (either a b)

pub half-sub : (n b : ℕ) → shr_z (sub_ℕ n (2 * b)) 2 ≡ sub_ℕ (n / 2) b
half-sub n b = ⊎_elim
    (λ h. rw (lt-ltb n (2 * b) h, lt-ltb (n / 2) b (omega arith)) (ap negsuc (omega arith)))
    (λ h. rw (le-ltb n (2 * b) h, le-ltb (n / 2) b (omega arith)) (ap pos (omega arith)))
    (either n (2 * b))

pub odd-sub : (n b : ℕ) → odd_z (sub_ℕ n (2 * b)) ≡ n % 2
unfolding odd_z
odd-sub n b = ⊎_elim
    (λ h. rw (lt-ltb n (2 * b) h) (omega arith))
    (λ h. rw (le-ltb n (2 * b) h) (omega arith))
    (either n (2 * b))

pub sub-mag : (a b c : ℕ) → a < c → b < c → mag (sub_ℕ a b) < c
sub-mag a b c h k = ⊎_elim
    (λ l. rw (lt-ltb a b l) (omega arith))
    (λ l. rw (le-ltb a b l) (omega arith))
    (either a b)

pub add_back : (n b : ℕ) → sub_ℕ n b +ℤ pos b ≡ pos n
add_back n b = ⊎_elim
    (λ h. rw (lt-ltb n b h, le-ltb b (suc (b - suc n)) (omega arith)) (ap pos (omega arith)))
    (λ h. rw (le-ltb n b h) (ap pos (omega arith)))
    (either n b)

-- The parts of a significand m of p digits at the exponent e, which is n less 2 * b
pub parts_are : (p m n b v : ℕ) (e : ℤ) → 2 ^ p ≤ 2 * m → m < 2 ^ p → m * 2 ^ n ≡ v → e ≡ sub_ℕ n (2 * b)
    → (m * 2 ^ odd_z e ≡ whole p v) × (shr_z e 2 ≡ sub_ℕ (halves p v) b)
parts_are p m n b v e above below value is =
    let s : Split p v (m * 2 ^ (n % 2)) (n / 2) = subst (λ (z : ℕ). Split p z (m * 2 ^ (n % 2)) (n / 2)) value (split p m n above below) in (
      ap (λ (z : ℕ). m * 2 ^ z) (ap odd_z is ∙ odd-sub n b) ∙ sym (whole_is p v _ _ s),
      ap (λ (z : ℤ). shr_z z 2) is ∙ (half-sub n b ∙ ap (λ (z : ℕ). sub_ℕ z b) (sym (halves-is p v _ _ s))),
    )
