-- The digits of a root, once over p: the definition is what the inequalities say, Q has exactly k digits, and S is the nearest. Assumes nothing.
use Prim.Native.Nat.{ℕ, zero, suc, ◌+◌, ◌-◌, ◌*◌, ◌/◌, ◌%◌, ◌^◌, ◌≤◌, ◌<◌}
use mathlib.Core.Path.{◌≡◌, refl, sym, ap, subst, ◌∙◌}
use mathlib.Core.Bool.{Bool, true, false, not, cond}
use native.Mathlib.Nat.{le_antisymm, lt_of_le_of_lt, lt_of_not-le, not-le_of_lt, mul-le-mul, mul-le-mul_left, mul-lt-mul_of_pos_left, lt_of_mul-lt-mul_left, le_of_mul-le-mul_left, pow-succ', div-lt_iff_lt-mul, le-div_iff_mul-le, mul_comm, mul-pos}
use native.Mathlib.Omega.{arith}
use native.Mathlib.Numerals.{add-one}
use mathlib.Core.Logic.{◌⊎◌, inl, inr, ⊎_elim}
use lib.Dec.{T, leb, leb→le, nleb→lt}
use lib.Ieee.{size}
use lib.Ieee.Digits.{size-lt, size-le}
use lib.Pow.{pow_pos, pow_mono, pow-add}
use Rattle.root.specs.Root.{floor_root, digits_at, left_at, significand}
use Rattle.root.specs.Engine.{Asked, Rounds}
use Rattle.root.proofs.Engine.{powers, four-pow}

-- exponents are ordered as their powers are
pub pow-lt-inv : (i j : ℕ) → 2 ^ i < 2 ^ j → i < j
pow-lt-inv i j h = lt_of_not-le (λ (g : j ≤ i). not-le_of_lt h (pow_mono g))

-- ---- squares

pub square-lt : (a b : ℕ) → a * a < b * b → a < b
square-lt a b h = lt_of_not-le (λ (g : b ≤ a). not-le_of_lt h (mul-le-mul g g))

pub root-unique : (n a b : ℕ) → a * a ≤ n → n < (a + 1) * (a + 1) → b * b ≤ n → n < (b + 1) * (b + 1) → a ≡ b
root-unique n a b al ah bl bh =
    let x : a < b + 1 = square-lt a (b + 1) (lt_of_le_of_lt al bh) in
    let y : b < a + 1 = square-lt b (a + 1) (lt_of_le_of_lt bl ah) in
    omega arith

-- ---- `floor_root` is the root rounded down

abbrev pub IsRoot : ℕ → ℕ → Type 0
IsRoot n q = (q * q ≤ n) × (n < (q + 1) * (q + 1))

next-digit : (n a : ℕ) → IsRoot (n / 4) a → (b : Bool) → (T b → (2 * a + 1) * (2 * a + 1) ≤ n) → (T (not b) → n < (2 * a + 1) * (2 * a + 1))
    → IsRoot n (cond b (2 * a + 1) (2 * a))
next-digit n a ih true y z = (y tt, omega (arith, ih))
next-digit n a ih false y z = (omega (arith, ih), z tt)

pub floor-root : (k n : ℕ) → n < 4 ^ k → IsRoot n (floor_root k n)
unfolding floor_root
floor-root zero n h = (omega arith, omega arith)
floor-root (suc k) n h =
    let a = floor_root k (n / 4) in
    let s = (2 * a + 1) * (2 * a + 1) in
    next-digit n a (floor-root k (n / 4) (omega (arith, pow-succ' 4 k))) (leb s n) (leb→le s n) (nleb→lt s n)

-- ---- the digits after k rounds

module _ (p w k : ℕ) (a : Asked p w k) where
  inside : 4 ^ k * w / 2 ^ (p + 1) < 4 ^ k
  inside = (div-lt_iff_lt-mul (pow_pos (p + 1))).1 (mul-lt-mul_of_pos_left a.below (pos4 k))
    where
      pos4 : (j : ℕ) → 0 < 4 ^ j
      pos4 j = subst (λ (z : ℕ). 0 < z) (sym (four-pow j)) (mul-pos (pow_pos j) (pow_pos j))

  -- what the inequalities say of q, it is the definition's
  pub digits-unique : (q left : ℕ) → Rounds p w k q left → q ≡ digits_at p w k
  unfolding digits_at
  digits-unique q left r =
      let n = 4 ^ k * w / 2 ^ (p + 1) in
      let f = floor-root k n inside in
      root-unique n q (floor_root k n)
      ((le-div_iff_mul-le (pow_pos (p + 1))).1 (omega (arith, r.low)))
      ((div-lt_iff_lt-mul (pow_pos (p + 1))).1 (omega (arith, r.high)))
      f.0 f.1

  pub left_unique : (q left : ℕ) → Rounds p w k q left → left ≡ left_at p w k
  unfolding left_at
  left_unique q left r = r.rest ∙ ap (λ (z : ℕ). 2 ^ (k + 1) * w - 2 ^ (p + 2 - k) * (z * z)) (digits-unique q left r)

  -- and the definition's digits meet the inequalities
  pub digits_low : 2 ^ (p + 1) * (digits_at p w k * digits_at p w k) ≤ 4 ^ k * w
  unfolding digits_at
  digits_low = omega (arith, (le-div_iff_mul-le (pow_pos (p + 1))).0 (floor-root k (4 ^ k * w / 2 ^ (p + 1)) inside).0)

  pub digits-high : 4 ^ k * w < 2 ^ (p + 1) * ((digits_at p w k + 1) * (digits_at p w k + 1))
  unfolding digits_at
  digits-high = omega (arith, (div-lt_iff_lt-mul (pow_pos (p + 1))).0 (floor-root k (4 ^ k * w / 2 ^ (p + 1)) inside).1)

  -- the left-over is whole: nothing was cut off in the subtraction
  pub left-whole : left_at p w k + 2 ^ (p + 2 - k) * (digits_at p w k * digits_at p w k) ≡ 2 ^ (k + 1) * w
  unfolding left_at
  left-whole = add_back (2 ^ (k + 1) * w) (2 ^ (p + 2 - k) * (q * q)) (le_of_mul-le-mul_left {k = 2 ^ k} scaled (pow_pos k))
    where
      q : ℕ
      q = digits_at p w k

      add_back : (a b : ℕ) → b ≤ a → a - b + b ≡ a
      add_back a b h = omega arith

      sum : (p k : ℕ) → k ≤ p + 1 → k + (p + 2 - k) ≡ suc (p + 1)
      sum p k h = omega arith

      weight : 2 ^ k * 2 ^ (p + 2 - k) ≡ 2 * 2 ^ (p + 1)
      weight = sym (pow-add 2 k (p + 2 - k)) ∙ (ap (λ (z : ℕ). 2 ^ z) (sum p k a.rounds) ∙ pow-succ' 2 (p + 1))

      scaled : 2 ^ k * (2 ^ (p + 2 - k) * (q * q)) ≤ 2 ^ k * (2 ^ (k + 1) * w)
      scaled = omega (arith, digits_low, ap (λ (z : ℕ). z * (q * q)) weight, ap (λ (z : ℕ). 2 ^ k * (z * w)) (powers k).0, ap (λ (z : ℕ). z * w) (four-pow k))

  -- Q has at most k digits, and exactly k from the first round on
  pub digits-below : digits_at p w k < 2 ^ k
  digits-below =
      let q = digits_at p w k in
      square-lt q (2 ^ k) (lt_of_mul-lt-mul_left (2 ^ (p + 1))
      (lt_of_le_of_lt digits_low
      (subst (λ (z : ℕ). 4 ^ k * w < z) (ap (λ (z : ℕ). z * 2 ^ (p + 1)) (four-pow k) ∙ mul_comm (2 ^ k * 2 ^ k) (2 ^ (p + 1))) (mul-lt-mul_of_pos_left a.below (pos4 k)))))
    where
      pos4 : (j : ℕ) → 0 < 4 ^ j
      pos4 j = subst (λ (z : ℕ). 0 < z) (sym (four-pow j)) (mul-pos (pow_pos j) (pow_pos j))

pub digits_above : (p w k : ℕ) → Asked p w (suc k) → 2 ^ k ≤ digits_at p w (suc k)
digits_above p w k a =
    let q = digits_at p w (suc k) in
    let lower : 2 ^ (p + 1) * (2 ^ k * 2 ^ k) ≤ 4 ^ suc k * w =
    omega (arith, mul-le-mul_left (2 ^ k * 2 ^ k) a.above, ap (λ (z : ℕ). z * (2 ^ k * 2 ^ k)) (powers p).0, ap (λ (z : ℕ). z * w) (pow-succ' 4 k), ap (λ (z : ℕ). z * w) (four-pow k)) in
    let less : 2 ^ k < q + 1 = square-lt (2 ^ k) (q + 1) (lt_of_mul-lt-mul_left (2 ^ (p + 1)) (lt_of_le_of_lt lower (digits-high p w (suc k) a))) in
    omega arith

-- ---- the last round: of p + 1 digits, S

-- how near the half of p + 1 digits is: within half of its last place, and never at a tie
pub record Near (p w s : ℕ) : Type 0 where
  pub low : 2 ^ p ≤ 2 * s
  pub high : s < 2 ^ p
  pub after : (2 * s - 1) * (2 * s - 1) < 2 ^ (p + 1) * w
  pub before : 2 ^ (p + 1) * w < (2 * s + 1) * (2 * s + 1)

pub last-root : (p w : ℕ) → Asked p w (p + 1) → IsRoot (2 ^ (p + 1) * w) (digits_at p w (p + 1))
last-root p w a =
    let n = 2 ^ (p + 1) in
    let q = digits_at p w (p + 1) in
    let e : 4 ^ (p + 1) * w ≡ n * (n * w) = omega (arith, ap (λ (z : ℕ). z * w) (four-pow (p + 1))) in (
      le_of_mul-le-mul_left {k = n} (omega (arith, e, digits_low p w (p + 1) a)) (pow_pos (p + 1)),
      lt_of_mul-lt-mul_left n (omega (arith, e, digits-high p w (p + 1) a)),
    )

pub parity : (q : ℕ) → (q % 2 ≡ 0) ⊎ (q % 2 ≡ 1)
parity q = go (q % 2) refl
  where
    go : (r : ℕ) → q % 2 ≡ r → (q % 2 ≡ 0) ⊎ (q % 2 ≡ 1)
    go zero e = inl e
    go (suc zero) e = inr e
    go (suc (suc r)) e = absurd (omega arith)

-- A word of p + 1 digits is even, so w is never 2 ^ (p + 1) - 1, and the digits are not all ones.
module _ (p w : ℕ) (a : Asked p w (p + 1)) (even : w + 1 < 2 ^ (p + 1)) where
  not-all-ones : digits_at p w (p + 1) + 1 < 2 ^ (p + 1)
  not-all-ones =
      let q = digits_at p w (p + 1) in
      let n = 2 ^ (p + 1) in
      lt_of_not-le (λ (g : n ≤ q + 1).
      let e : n ≡ q + 1 = omega (arith, digits-below p w (p + 1) a) in
      let t : q * q ≤ n * w = (last-root p w a).0 in
      let u : w + 1 ≤ q = omega arith in
      omega (arith, t, ap (λ (z : ℕ). z * w) e, mul-le-mul_left (q + 1) u))

  pub near : Near p w (significand p w)
  unfolding significand
  near = ⊎_elim (λ ev. even-case ev) (λ od. odd-case od) (parity q)
    where
      q : ℕ
      q = digits_at p w (p + 1)

      r : IsRoot (2 ^ (p + 1) * w) q
      r = last-root p w a

      big : 2 ^ p ≤ q
      big = subst (λ (k : ℕ). 2 ^ p ≤ digits_at p w k) (sym (add-one p)) (digits_above p w p (subst (λ (k : ℕ). Asked p w k) (add-one p) a))

      even-case : q % 2 ≡ 0 → Near p w (significand p w)
      even-case ev =
          let s : ℕ = significand p w in
          let h : q ≡ 2 * s = omega arith in
          let d : ℕ = 2 * s - 1 in
          let e : 2 * s ≡ d + 1 = omega (arith, big, pow_pos p) in
          let qq : q * q ≡ 4 * (s * s) = omega (arith, ap (λ (z : ℕ). z * z) h) in
          let dd : 4 * (s * s) ≡ d * d + 2 * d + 1 = omega (arith, ap (λ (z : ℕ). z * z) e) in
          let hq : 2 ^ (p + 1) * w < 4 * (s * s) + 4 * s + 1 = omega (arith, r.1, qq, h) in
          record { low = omega (arith, big, (powers p).0); high = omega (arith, not-all-ones, (powers p).0); after = omega (arith, r.0, qq, dd); before = omega (arith, hq) }

      odd-case : q % 2 ≡ 1 → Near p w (significand p w)
      odd-case od =
          let s : ℕ = significand p w in
          let h : q + 1 ≡ 2 * s = omega arith in
          let d : ℕ = 2 * s - 1 in
          let e : d ≡ q = omega arith in
          let dd : d * d ≡ q * q = ap (λ (z : ℕ). z * z) e in
          let o : q ≡ 2 * (q / 2) + 1 = omega arith in
          let oo : q * q ≡ 4 * (q / 2 * (q / 2)) + 4 * (q / 2) + 1 = omega (arith, ap (λ (z : ℕ). z * z) o) in
          let strict : q * q < 2 ^ (p + 1) * w = omega (arith, r.0, oo, ap (λ (z : ℕ). z * w) (powers p).0) in
          let hh : (q + 1) * (q + 1) ≡ 4 * (s * s) = omega (arith, ap (λ (z : ℕ). z * z) h) in
          record { low = omega (arith, big, (powers p).0); high = omega (arith, not-all-ones, (powers p).0); after = omega (arith, strict, dd); before = omega (arith, r.1, hh) }

  -- twice what the square lacks is what all rounds leave
  left-last : left_at p w (p + 1) + 2 * (digits_at p w (p + 1) * digits_at p w (p + 1)) ≡ 2 * (2 ^ (p + 1) * w)
  unfolding left_at
  left-last =
      let q = digits_at p w (p + 1) in
      let one : p + 2 - (p + 1) ≡ 1 = omega arith in
      let two : 2 ^ (p + 2 - (p + 1)) ≡ 2 = ap (λ (k : ℕ). 2 ^ k) one in
      omega (arith, last-root p w a, ap (λ (k : ℕ). k * (q * q)) two, ap (λ (k : ℕ). k * w) (powers (p + 1)).0)

  -- The root is exact just when nothing is left, and then the digits are even.
  pub exact : left_at p w (p + 1) ≡ 0 → (digits_at p w (p + 1) % 2 ≡ 0) × (2 * significand p w * (2 * significand p w) ≡ 2 ^ (p + 1) * w)
  unfolding significand
  exact z =
      let q = digits_at p w (p + 1) in
      let e : q * q ≡ 2 ^ (p + 1) * w = omega (arith, z, left-last) in
      let ev : q % 2 ≡ 0 = ⊎_elim (λ v. v) (λ od.
      let o : q ≡ 2 * (q / 2) + 1 = omega arith in
      absurd (omega (arith, e, ap (λ (k : ℕ). k * k) o, ap (λ (k : ℕ). k * w) (powers p).0))) (parity q) in
      let h : q ≡ 2 * ((q + q % 2) / 2) = omega arith in
      (ev, ap (λ (k : ℕ). k * k) (sym h) ∙ e)

  pub exact-only : (s : ℕ) → s * s ≡ 2 ^ (p + 1) * w → left_at p w (p + 1) ≡ 0
  exact-only s e =
      let q = digits_at p w (p + 1) in
      let r = last-root p w a in
      let same : q ≡ s = root-unique (2 ^ (p + 1) * w) q s r.0 r.1 (omega (arith, e)) (omega (arith, e)) in
      omega (arith, left-last, e, ap (λ (k : ℕ). k * k) same)

pub rounds-below : (p w k q left : ℕ) → Asked p w k → Rounds p w k q left → q < 2 ^ k
rounds-below p w k q left a r = subst (λ (z : ℕ). z < 2 ^ k) (sym (digits-unique p w k a q left r)) (digits-below p w k a)

-- Q has exactly k binary digits, from the first round on
pub digits-size : (p w k : ℕ) → Asked p w (suc k) → size (digits_at p w (suc k)) ≡ suc k
digits-size p w k a =
    let q = digits_at p w (suc k) in
    let low : k < size q = pow-lt-inv k (size q) (lt_of_le_of_lt (digits_above p w k a) (size-lt q)) in
    le_antisymm (size-le q (suc k) (digits-below p w (suc k) a)) low
