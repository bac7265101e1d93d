-- What a step may add to a root that is too small: rounded down it is never too much, and one more than rounded up always is. Assumes nothing.
use Prim.Native.Nat.{ℕ, zero, suc, ◌+◌, ◌-◌, ◌*◌, ◌^◌, ◌≤◌, ◌<◌}
use mathlib.Core.Path.{◌≡◌, refl, sym, ap, subst}
use native.Mathlib.Nat.{le_trans, le_of_eq, lt_of_not-le, not-le_of_lt, mul-le-mul, mul-le-mul_left, mul-le-mul_right, le_of_mul-le-mul_left, mul-pos}
use native.Mathlib.Decide.{dec_le, dec_lt}
use native.Mathlib.Omega.{arith}
use lib.Dec.{lit<, lit≤}
use Rattle.recip.specs.Reciprocal.{nearly}
use Rattle.root.proofs.Roots.{square-lt}
use Rattle.root.proofs.FirstRoot.{First, first-high, first_small, first-large, first-larger, first-product, product_small, product-smaller, reciprocal-small}

-- ---- S is a root that is too small, and v what its square lacks

-- where t is at most v over twice the root of S * S + v, adding t to S does not pass that root
not-past : (S t v : ℕ) → 0 < S → 4 * (t * t) * (S * S + v) ≤ v * v → t * (2 * S + t) ≤ v
not-past S t v some h = elim (dec_le (t * (2 * S + t)) v) [ yes g ↦ g | no f ↦ absurd (refuse (lt_of_not-le f)) ]
  where
    -- v is at least 2 * t * S, and if what it is more were less than t * t, the squares would tell
    twice : 2 * (t * S) ≤ v
    twice = omega (arith, square-lt (2 * (t * S)) (v + 1) (omega (arith, h)))

    split : (g : ℕ) → v ≡ 2 * (t * S) + g → g < t * t → ⊥
    split g e l =
        let a : v * v ≡ 4 * (t * t * (S * S)) + g * (4 * (t * S) + g) = omega (arith, ap (λ (n : ℕ). n * n) e) in
        let b : 4 * (t * t) * (S * S + v) ≡ 4 * (t * t * (S * S)) + 4 * (t * t * v) = omega arith in
        let c : t * t * v ≡ t * t * (2 * (t * S)) + t * t * g = omega (arith, ap (λ (n : ℕ). t * t * n) e) in
        let d : g * (4 * (t * S) + g) ≤ t * t * (4 * (t * S) + g) = mul-le-mul_right (4 * (t * S) + g) (omega arith) in
        let k : 0 < t * t * (t * S) = mul-pos (omega arith) (mul-pos (square-pos t (omega arith)) some) in
        omega (arith, h, a, b, c, d, k)
      where
        square-pos : (n : ℕ) → 0 < n * n → 0 < n
        square-pos zero h = absurd (omega arith)
        square-pos (suc n) h = omega arith

    refuse : v < t * (2 * S + t) → ⊥
    refuse l = split (v - 2 * (t * S)) (omega (arith, twice)) (omega (arith, twice, l))

-- where t is at least a / b of v over twice the root, and that leaves room, v is not as much as t + 1 would need:
-- x is what t + 1 needs, y what 2 * t is times the root there
past_by : (a b S t v x y : ℕ) → x ≡ (t + 1) * (2 * S + (t + 1)) → y ≡ 2 * (t * (S + (t + 1))) → b * y < a * x → b * b * (2 * (t * t)) ≤ a * a * x
    → x ≤ v → b * b * (4 * (t * t) * (S * S + v)) < a * a * (v * v)
past_by a b S t v x y ex ey less room l =
    let g : ℕ = v - x in
    let e : v ≡ x + g = omega arith in
    last (b * b * (4 * (t * t) * (S * S + v))) (a * a * (v * v)) (b * y * (b * y)) (a * x * (a * x)) (b * b * (2 * (t * t)) * (2 * g)) (a * a * x * (2 * g)) (a * a * (g * g))
    (left g e) (right g e) (square-mono (b * y) (a * x) less) (mul-le-mul_right (2 * g) room)
  where
    square-mono : (c d : ℕ) → c < d → c * c < d * d
    square-mono c d h = omega (arith, mul-le-mul h h)

    squares : y * y ≡ 4 * (t * t) * (S * S + x)
    squares =
        subst (λ (n : ℕ). n * n ≡ 4 * (t * t) * (S * S + x)) (sym ey)
        (subst (λ (n : ℕ). 2 * (t * (S + (t + 1))) * (2 * (t * (S + (t + 1)))) ≡ 4 * (t * t) * (S * S + n)) (sym ex) (omega arith))

    left : (g : ℕ) → v ≡ x + g → b * b * (4 * (t * t) * (S * S + v)) ≡ b * y * (b * y) + b * b * (2 * (t * t)) * (2 * g)
    left g e = subst (λ (n : ℕ). b * b * (4 * (t * t) * (S * S + n)) ≡ b * y * (b * y) + b * b * (2 * (t * t)) * (2 * g)) (sym e) (omega (arith, ap (λ (n : ℕ). b * b * n) squares))

    right : (g : ℕ) → v ≡ x + g → a * a * (v * v) ≡ a * x * (a * x) + a * a * x * (2 * g) + a * a * (g * g)
    right g e = subst (λ (n : ℕ). a * a * (n * n) ≡ a * x * (a * x) + a * a * x * (2 * g) + a * a * (g * g)) (sym e) (omega arith)

    last : (l r p q m n o : ℕ) → l ≡ p + m → r ≡ q + n + o → p < q → m ≤ n → l < r
    last l r p q m n o a b c d = omega arith

-- the room that t must leave, and so t + 1 is too much
abbrev Room : ℕ → ℕ → Type 0
Room S t = 2 ^ 32 * (2 * (t * (S + (t + 1)))) < nearly * ((t + 1) * (2 * S + (t + 1)))

past : (S t v : ℕ) → Room S t → 2 * t ≤ S → nearly * nearly * (v * v) ≤ 2 ^ 32 * 2 ^ 32 * (4 * (t * t) * (S * S + v)) → v < (t + 1) * (2 * S + (t + 1))
past S t v room small h = lt_of_not-le (λ (l : (t + 1) * (2 * S + (t + 1)) ≤ v).
    not-le_of_lt (past_by nearly (2 ^ 32) S t v ((t + 1) * (2 * S + (t + 1))) (2 * (t * (S + (t + 1)))) refl refl room wide l) h)
  where
    twice : 2 * (t * t) ≤ t * S
    twice = omega (arith, mul-le-mul_left t small)

    swap : (a x : ℕ) → 2 * a * x ≡ a * (2 * x)
    swap a x = omega arith

    more : 2 * (t * S) ≤ (t + 1) * (2 * S + (t + 1))
    more = omega arith

    wide : 2 ^ 32 * 2 ^ 32 * (2 * (t * t)) ≤ nearly * nearly * ((t + 1) * (2 * S + (t + 1)))
    wide = le_trans (mul-le-mul (lit≤ tt) twice) (le_trans (le_of_eq (swap (nearly * nearly) (t * S))) (mul-le-mul_left (nearly * nearly) more))

-- there is room: of a root of 53 digits, and of one that is larger by a root of 2
module _ (S t : ℕ) where
  spread : (2 * (t * (S + (t + 1))) ≡ 2 * (t * S + t * t + t)) × ((t + 1) * (2 * S + (t + 1)) ≡ 2 * (t * S) + 2 * S + t * t + 2 * t + 1)
  spread = (omega arith, omega arith)

  step_room : 2 ^ 53 ≤ S + 2 ^ 26 → t ≤ 20 * 2 ^ 22 → Room S t
  step_room large small = rw (spread.0, spread.1) (linear (t * S) (t * t) (mul-le-mul_right S small) (mul-le-mul small small))
    where
      linear : (p q : ℕ) → p ≤ 20 * 2 ^ 22 * S → q ≤ 20 * 2 ^ 22 * (20 * 2 ^ 22) → 2 ^ 32 * (2 * (p + q + t)) < nearly * (2 * p + 2 * S + q + 2 * t + 1)
      linear p q a b = omega arith

  step-room-larger : 759250120 * 2 ^ 24 ≤ S → t ≤ 25 * 2 ^ 22 → Room S t
  step-room-larger large small = rw (spread.0, spread.1) (linear (t * S) (t * t) (mul-le-mul_right S small) (mul-le-mul small small))
    where
      linear : (p q : ℕ) → p ≤ 25 * 2 ^ 22 * S → q ≤ 25 * 2 ^ 22 * (25 * 2 ^ 22) → 2 ^ 32 * (2 * (p + q + t)) < nearly * (2 * p + 2 * S + q + 2 * t + 1)
      linear p q a b = omega arith

-- ---- the step, for a w of 53 or 54 digits whose first digits are z; lack is what the square of s lacks of 64 * w

module _ (z r s w lack : ℕ) (f : First z r s) (wl : z * 2 ^ 22 ≤ w) (wh : w < (z + 1) * 2 ^ 22) (is : lack + s * s ≡ w * 64) where
  lack-small : 8 * lack < 16 * s + 8 + 2 ^ 31 + 19 * z
  lack-small = omega (arith, first-high z r s f)

  pub lack-below : lack < 2 ^ 34
  lack-below = omega (arith, lack-small, first_small z r s f, f.below)

  lack-most : 8 * lack ≤ 16 * s + 8 + 2 ^ 31 + 19 * z
  lack-most = omega (arith, lack-small)

  pub lack-product : lack * r ≤ 3 * 2 ^ 62 + 2 ^ 31
  lack-product = omega (arith, mul-le-mul_right r lack-most, first-product z r s f, product_small z r s f, reciprocal-small z r s f)

  lack-product-smaller : z < 2 ^ 31 → lack * r ≤ 77 * 2 ^ 57 + 2 ^ 31
  lack-product-smaller few = omega (arith, mul-le-mul_right r lack-most, first-product z r s f, product-smaller z r s f few, reciprocal-small z r s f)

  pub step-low : (t : ℕ) → t * 2 ^ 37 ≤ lack * r → t * (2 * (s * 2 ^ 24) + t) ≤ lack * 2 ^ 48
  step-low t h = not-past (s * 2 ^ 24) t (lack * 2 ^ 48) (omega (arith, first-large z r s f)) (scaled t s lack (omega (arith, fewer, mul-le-mul_left (t * t) upper)))
    where
      upper : s * s + lack ≤ (z + 1) * 2 ^ 28
      upper = omega arith

      sorted : (t e r y : ℕ) → t * 2 ^ 37 * (t * 2 ^ 37) ≤ e * r * (e * r) → r * r * y ≤ 2 ^ 92 → 2 ^ 74 * (t * t * y) ≤ 2 ^ 74 * (2 ^ 18 * (e * e))
      sorted t e r y a b = omega (arith, mul-le-mul_right y a, mul-le-mul_left (e * e) b)

      fewer : t * t * (z + 1) ≤ 2 ^ 18 * (lack * lack)
      fewer = le_of_mul-le-mul_left {k = 2 ^ 74} (sorted t lack r (z + 1) (mul-le-mul h h) f.near.most) (lit< tt)

      scaled : (t s e : ℕ) → t * t * (s * s + e) ≤ 2 ^ 46 * (e * e) → 4 * (t * t) * (s * 2 ^ 24 * (s * 2 ^ 24) + e * 2 ^ 48) ≤ e * 2 ^ 48 * (e * 2 ^ 48)
      scaled t s e g = omega (arith, g)

  pub step-high : (t : ℕ) → lack * r ≤ t * 2 ^ 37 → t * 2 ^ 37 ≤ lack * r + 2 ^ 37 → lack * 2 ^ 48 < (t + 1) * (2 * (s * 2 ^ 24) + (t + 1))
  step-high t h tight = past (s * 2 ^ 24) t (lack * 2 ^ 48) room (omega (arith, first-large z r s f, lack-product, tight))
      (scaled t s lack (le_of_mul-le-mul_left {k = 2 ^ 28} (joined (lack * lack * (nearly * nearly)) (t * t) z (s * s + lack) more (mul-le-mul_left (t * t) lower)) (lit< tt)))
    where
      room : Room (s * 2 ^ 24) t
      room = elim (dec_lt z (2 ^ 31)) [
        | yes few ↦ step_room (s * 2 ^ 24) t (omega (arith, first-large z r s f)) (omega (arith, lack-product-smaller few, tight))
        | no many ↦ step-room-larger (s * 2 ^ 24) t (omega (arith, first-larger z r s f (at_least many))) (omega (arith, lack-product, tight))
      ]
        where
          at_least : {a b : ℕ} → ¬ (a < b) → b ≤ a
          at_least g = omega (arith, lt_of_not-le g)

      lower : z * 2 ^ 28 ≤ s * s + lack
      lower = omega arith

      sorted : (t e r z : ℕ) → e * r * (e * r) ≤ t * 2 ^ 37 * (t * 2 ^ 37) → nearly * nearly * 2 ^ 28 ≤ r * r * z
          → 2 ^ 28 * (e * e * (nearly * nearly)) ≤ 2 ^ 28 * (2 ^ 46 * (t * t * z))
      sorted t e r z a b = omega (arith, mul-le-mul_right z a, mul-le-mul_left (e * e) b)

      more : lack * lack * (nearly * nearly) ≤ 2 ^ 46 * (t * t * z)
      more = le_of_mul-le-mul_left {k = 2 ^ 28} (sorted t lack r z (mul-le-mul h h) f.near.least) (lit< tt)

      joined : (l q z y : ℕ) → l ≤ 2 ^ 46 * (q * z) → q * (z * 2 ^ 28) ≤ q * y → 2 ^ 28 * l ≤ 2 ^ 28 * (2 ^ 18 * (q * y))
      joined l q z y a b = omega (arith, a, b)

      scaled : (t s e : ℕ) → e * e * (nearly * nearly) ≤ 2 ^ 18 * (t * t * (s * s + e))
          → nearly * nearly * (e * 2 ^ 48 * (e * 2 ^ 48)) ≤ 2 ^ 32 * 2 ^ 32 * (4 * (t * t) * (s * 2 ^ 24 * (s * 2 ^ 24) + e * 2 ^ 48))
      scaled t s e g = le_trans (le_of_eq (left nearly (2 ^ 48) e)) (le_trans (mul-le-mul_left (2 ^ 96) g) (le_of_eq (right t s e)))
        where
          left : (a b e : ℕ) → a * a * (e * b * (e * b)) ≡ b * b * (e * e * (a * a))
          left a b e = omega arith

          right : (t s e : ℕ) → 2 ^ 96 * (2 ^ 18 * (t * t * (s * s + e))) ≡ 2 ^ 32 * 2 ^ 32 * (4 * (t * t) * (s * 2 ^ 24 * (s * 2 ^ 24) + e * 2 ^ 48))
          right t s e = omega arith
