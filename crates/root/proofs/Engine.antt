-- The digit engine's state and its round, over any number of digits p. Assumes nothing.
use Prim.Native.Nat.{ℕ, zero, suc, ◌+◌, ◌-◌, ◌*◌, ◌/◌, ◌%◌, ◌^◌, ◌≤◌, ◌<◌}
use mathlib.Core.Path.{◌≡◌, refl, sym, ap, subst, ◌∙◌}
use native.Mathlib.Nat.{add-sub_of_le, pow-succ', mul-div_cancel_left, mul-lt-mul_of_pos_left, eq_of_mul-eq-mul_left, one-mul, mod-eq_of_lt}
use native.Mathlib.Omega.{arith}
use lib.Pow.{pow_pos, pow_mono, pow-add, pow-lt}
use Rattle.root.specs.Engine.{Asked, Rounds}

-- After i rounds r is the weight of a digit, s is twice the digits q at that weight, and what is left satisfies one equation that no round changes.
pub record State (p w i s r left : ℕ) : Type 0 where
  pub q : ℕ
  pub grid : r ≡ 2 ^ (p + 1 - i)
  pub digits : s ≡ 2 * r * q
  pub balance : 2 * r * left + s * s ≡ 2 ^ (p + 3) * w
  pub bound : left < 2 * s + 2 * r
  pub room : s + 2 * r ≤ 2 ^ (p + 2)

-- the weight halves exactly
pub halves : (n i : ℕ) → i < n → 2 ^ (n - i) ≡ 2 * 2 ^ (n - (i + 1))
halves n i h = ap (λ (z : ℕ). 2 ^ z) e ∙ pow-succ' 2 (n - (i + 1))
  where
    e : n - i ≡ suc (n - (i + 1))
    e = omega arith

pub half-grid : (n i r : ℕ) → i < n → r ≡ 2 ^ (n - i) → (r / 2 ≡ 2 ^ (n - (i + 1))) × (r ≡ 2 * (r / 2))
half-grid n i r h g =
    let e : r ≡ 2 * 2 ^ (n - (i + 1)) = g ∙ halves n i h in
    (omega arith, omega arith)

module _ (p w i s r left : ℕ) (st : State p w i s r left) (more : i < p + 1) where
  -- the weight of the next digit is not 0
  pub weighs : 0 < r / 2
  weighs = subst (λ (z : ℕ). 0 < z) (sym (half-grid (p + 1) i r more st.grid).0) (pow_pos (p + 1 - (i + 1)))

  pub hit : s + r / 2 ≤ left → State p w (i + 1) (s + r / 2 + r / 2) (r / 2) (left - (s + r / 2) + (left - (s + r / 2)))
  hit t =
      let h : ℕ = r / 2 in
      let d : ℕ = left - (s + h) in
      let g = half-grid (p + 1) i r more st.grid in
      let split : left ≡ s + h + d = omega arith in
      record {
        q = 2 * st.q + 1;
        grid = g.0;
        digits = omega (arith, st.digits, ap (λ (z : ℕ). z * st.q) g.1);
        balance = omega (arith, st.balance, ap (λ (z : ℕ). z * left) g.1, ap (λ (z : ℕ). h * z) split);
        bound = omega arith;
        room = omega arith;
      }

  pub miss : left < s + r / 2 → State p w (i + 1) s (r / 2) (left + left)
  miss t =
      let h : ℕ = r / 2 in
      let g = half-grid (p + 1) i r more st.grid in
      record {
        q = 2 * st.q;
        grid = g.0;
        digits = omega (arith, st.digits, ap (λ (z : ℕ). z * st.q) g.1);
        balance = omega (arith, st.balance, ap (λ (z : ℕ). z * left) g.1);
        bound = omega arith;
        room = omega arith;
      }

-- the powers of two that the statements name, as multiples of 2 ^ p
pub powers : (p : ℕ) → (2 ^ (p + 1) ≡ 2 * 2 ^ p) × (2 ^ (p + 2) ≡ 4 * 2 ^ p) × (2 ^ (p + 3) ≡ 8 * 2 ^ p)
powers p = (omega (arith, pow-add 2 p 1), omega (arith, pow-add 2 p 2), omega (arith, pow-add 2 p 3))

pub four-pow : (k : ℕ) → 4 ^ k ≡ 2 ^ k * 2 ^ k
four-pow zero = refl
four-pow (suc k) = omega (arith, pow-succ' 4 k, pow-succ' 2 k, four-pow k, ap (λ (z : ℕ). z * z) (pow-succ' 2 k))

pub start : (p w : ℕ) → w < 2 ^ (p + 1) → State p w 0 0 (2 ^ (p + 1)) (w + w)
start p w h =
    let e = powers p in
    record {
      q = 0;
      grid = ap (λ (z : ℕ). 2 ^ z) z0;
      digits = omega arith;
      balance = omega (arith, ap (λ (z : ℕ). z * w) e.0, ap (λ (z : ℕ). z * w) e.2);
      bound = omega arith;
      room = omega arith;
    }
  where
    z0 : p + 1 ≡ p + 1 - 0
    z0 = omega arith

module _ (p w k s r left : ℕ) (st : State p w k s r left) (fits : k ≤ p + 1) where
  -- 2 ^ k times the weight is 2 ^ (p + 1), whatever k
  weight : 2 ^ k * r ≡ 2 ^ (p + 1)
  weight = ap (λ (z : ℕ). 2 ^ k * z) st.grid ∙ (sym (pow-add 2 k (p + 1 - k)) ∙ ap (λ (z : ℕ). 2 ^ z) (add-sub_of_le fits))

  twice : 2 ^ (p + 2 - k) ≡ 2 * r
  twice = ap (λ (z : ℕ). 2 ^ z) e ∙ (pow-succ' 2 (p + 1 - k) ∙ ap (λ (z : ℕ). 2 * z) (sym st.grid))
    where
      e : p + 2 - k ≡ suc (p + 1 - k)
      e = omega arith

  positive : 0 < r
  positive = subst (λ (z : ℕ). 0 < z) (sym st.grid) (pow_pos (p + 1 - k))

  pub shifted : s / 2 ^ (p + 2 - k) ≡ st.q
  shifted = ap (λ (z : ℕ). s / z) twice ∙ (ap (λ (z : ℕ). z / (2 * r)) st.digits ∙ mul-div_cancel_left st.q two-r)
    where
      two-r : 0 < 2 * r
      two-r = omega (arith, positive)

  -- the balance without the weight
  rested : left + 2 * r * (st.q * st.q) ≡ 2 ^ (k + 1) * w
  rested = eq_of_mul-eq-mul_left r positive _ _ e
    where
      e : r * (left + 2 * r * (st.q * st.q)) ≡ r * (2 ^ (k + 1) * w)
      e = omega (arith, st.balance, ap (λ (z : ℕ). z * z) st.digits, ap (λ (z : ℕ). z * w) weight, ap (λ (z : ℕ). z * w) (powers p).0, ap (λ (z : ℕ). z * w) (powers p).2, ap (λ (z : ℕ). r * (z * w)) (powers k).0)

  pub finish : Rounds p w k st.q left
  finish =
      let q : ℕ = st.q in
      let b : ℕ = 2 ^ k in
      let big : b * left + 2 * (2 ^ (p + 1) * (q * q)) ≡ 2 * (4 ^ k * w) = omega (arith, ap (λ (z : ℕ). b * z) rested, ap (λ (z : ℕ). z * (q * q)) weight, ap (λ (z : ℕ). b * (z * w)) (powers k).0, ap (λ (z : ℕ). z * w) (four-pow k)) in
      let less : b * left < 2 ^ (p + 1) * (4 * q + 2) = subst (λ (z : ℕ). b * left < z) e (mul-lt-mul_of_pos_left st.bound (pow_pos k)) in
      record {
        low = omega (arith, big);
        high = omega (arith, big, less);
        rest = omega (arith, rested, ap (λ (z : ℕ). z * (q * q)) twice);
      }
    where
      e : 2 ^ k * (2 * s + 2 * r) ≡ 2 ^ (p + 1) * (4 * st.q + 2)
      e = omega (arith, ap (λ (z : ℕ). 2 ^ k * z) st.digits, ap (λ (z : ℕ). z * st.q) weight, weight)

-- every number of the engine fits a word
pub caps : (p w k i s r left : ℕ) → Asked p w k → State p w i s r left → (s + 2 * r ≤ 2 ^ 62) × (left < 2 ^ 63) × (r ≤ 2 ^ 61)
caps p w k i s r left a st = (omega (arith, st.room, powers p, cap), omega (arith, st.room, st.bound, powers p, cap), omega (arith, st.room, powers p, cap))
  where
    cap : 2 ^ p ≤ 2 ^ 60
    cap = pow_mono a.small

pub starts : (p w k : ℕ) → Asked p w k → State p w 0 0 (1 * 2 ^ (p + 1) % 2 ^ 64) (w + w)
starts p w k a = subst (λ (z : ℕ). State p w 0 0 z (w + w)) (sym e) (start p w a.below)
  where
    cap : 2 ^ (p + 1) < 2 ^ 64
    cap = pow-lt {i = p + 1} {j = 64} (omega (arith, a.small))

    e : 1 * 2 ^ (p + 1) % 2 ^ 64 ≡ 2 ^ (p + 1)
    e = ap (λ (z : ℕ). z % 2 ^ 64) (one-mul (2 ^ (p + 1))) ∙ mod-eq_of_lt cap

pub twice-fits : (p w k : ℕ) → Asked p w k → w + w < 2 ^ 64
twice-fits p w k a = omega (arith, a.below, powers p, cap)
  where
    cap : 2 ^ p ≤ 2 ^ 60
    cap = pow_mono a.small
