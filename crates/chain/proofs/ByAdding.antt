-- The whole number nearest to z is found by adding a large number whose last digit counts ones, and taking it off again.
-- Where what is left of z is below a half, that is the chain's own whole number: the rest and the lift are the same.
use mathlib.Core.Path.{◌≡◌, refl, sym, ap, ◌∙◌, subst}
use Prim.Native.Nat.{ℕ, suc, ◌+◌, ◌-◌, ◌*◌, ◌/◌, ◌%◌, ◌^◌, ◌≤◌, ◌<◌}
use native.Mathlib.Nat.{le_of_eq, le_of_lt, lt_of_le_of_lt, lt_of_lt_of_le, lt_irrefl, le_antisymm, lt_of_mul-lt-mul_right, sub-eq-zero_of_le, add-sub_of_le, add-zero}
use native.Mathlib.Omega.{arith}
use mathlib.Core.Bool.{Bool, true, false, not, cond}
use lib.Dec.{T, leb, ltb→lt, nltb→le}
use lib.Pow.{pow-lt}
use lib.Ieee.{Float, Format, prec, emax, hid, ones, top, add, sub, fits, to_bits, of_bits}
use lib.Ieee.Bits.{of_bits-to_bits}
use Rattle.power.specs.Width.{Width}
use Rattle.power.specs.Chain.{nearest_of, whole}
use Rattle.power.specs.Stages.{past_half, rest_of, lift_of}
use Rattle.bounds.proofs.Formats.{one}
use Rattle.bounds.proofs.Signed.{sign, mag, plus, minus, Num, pos-parts, positive}
use Rattle.bounds.proofs.RoundedSums.{Res}
use Rattle.bounds.proofs.Within.{U}
use Rattle.bounds.proofs.Choice.{order, strict}
use Rattle.chain.proofs.Known.{Known}
use Rattle.chain.proofs.SameFloat.{same_float, sub-zero-is}
use Rattle.chain.proofs.LargeSum.{big, big_word, big-less-big, room, Near, Raised, sum-raised, back, close}
use Rattle.chain.proofs.Halves.{Limited, range-below, high-sign, nearest-is, half-least, half-most}

-- ---- whole numbers: z is less than a half away from a - b ones, and at most a half from n, so that they are the same
whole_is : (M u a b n : ℕ) → Near u M 0 a b → 2 * M ≤ 2 * (n * u) + u → 2 * (n * u) ≤ 2 * M + u → a ≡ b + n
whole_is M u a b n (h, k) i j =
    order a b (λ l. absurd (no M u (a - b) (b - a) (b - a - 1) (sub-eq-zero_of_le (le_of_lt l)) (more a b l) h))
    (λ l. at a b (a - b) n (sym (add-sub_of_le l)) (lt_of_mul-lt-mul_right u (first M u (a - b) (b - a) n (sub-eq-zero_of_le l) k i))
    (lt_of_mul-lt-mul_right u (second M u (a - b) (b - a) n (sub-eq-zero_of_le l) h j)))
  where
    more : (a b : ℕ) → a < b → b - a ≡ suc (b - a - 1)
    more a b l = omega arith

    no : (M u k c e : ℕ) → k ≡ 0 → c ≡ suc e → 2 * (M + c * u) < 2 * (0 + k * u) + u → ⊥
    no M u k c e y z h = omega (arith, h, ap (λ (y : ℕ). y * u) y, ap (λ (y : ℕ). y * u) z)

    first : (M u k e n : ℕ) → e ≡ 0 → 2 * (0 + k * u) < 2 * (M + e * u) + u → 2 * M ≤ 2 * (n * u) + u → k * u < suc n * u
    first M u k e n z h i = omega (arith, h, i, ap (λ (y : ℕ). y * u) z)

    second : (M u k e n : ℕ) → e ≡ 0 → 2 * (M + e * u) < 2 * (0 + k * u) + u → 2 * (n * u) ≤ 2 * M + u → n * u < suc k * u
    second M u k e n z h i = omega (arith, h, i, ap (λ (y : ℕ). y * u) z)

    at : (a b k n : ℕ) → a ≡ b + k → k < suc n → n < suc k → a ≡ b + n
    at a b k n e h i = omega arith

some_is : (M x y u : ℕ) → 2 * (M + x) < 2 * (0 + y) + u → u ≤ 2 * M → 0 < y
some_is M x y u h k = omega arith

same_power : (a b : ℕ) → 2 ^ a ≡ 2 ^ b → a ≡ b
same_power a b e =
    order a b (λ l. absurd (clash (2 ^ a) (2 ^ b) e (pow-lt l)))
    (λ h. order b a (λ l. absurd (clash (2 ^ b) (2 ^ a) (sym e) (pow-lt l))) (λ k. le_antisymm k h))
  where
    clash : (x y : ℕ) → x ≡ y → x < y → ⊥
    clash x y e l = omega arith

-- a float with a sign, and one that must be
neg-parts-of : (f : Format) (x : Float) → sign x ≡ true → (plus f x ≡ 0) × (minus f x ≡ mag f x)
unfolding plus minus
neg-parts-of f x e = (ap (λ (b : Bool). cond (not b) (mag f x) 0) e, ap (λ (b : Bool). cond b (mag f x) 0) e)

negative : (f : Format) (x : Float) → 0 < minus f x → sign x ≡ true
unfolding minus
negative f x h = go (sign x) h
  where
    go : (s : Bool) → 0 < cond s (mag f x) 0 → s ≡ true
    go true h = refl
    go false h = absurd (lt_irrefl 0 h)

module _ (w : Width) (K : Known w) where
  abbrev f : Format
  f = w.format

  -- z is in range, from the number e that the width fixes: 7 or 10
  pub limited-by : (e : ℕ) → suc (emax f) ≡ 2 ^ e → (z : Float) → to_bits f z % top f < (emax f + suc e) * hid f → Limited w K z
  limited-by e i z l = subst (λ (a : ℕ). to_bits f z % top f < (emax f + suc a) * hid f) (same_power e K.e (sym i ∙ K.e-is)) l

  -- the weight of the high word's sign
  abbrev s : ℕ
  s = top w.format / 2 ^ w.below

  module _ (z : Float) (zn : Num f z) (small : Limited w K z) where
    -- z's high word, and that without its sign
    abbrev j : ℕ
    j = to_bits w.format z / 2 ^ w.below

    abbrev v : ℕ
    v = to_bits w.format z / 2 ^ w.below % (top w.format / 2 ^ w.below)

    -- ---- the sum with the large number
    range : mag f z < U f * suc (ones f)
    range = range-below w K z zn small

    -- the sum's digits, what is left of it, and the large number's digits
    abbrev y : ℕ
    y = to_bits w.format (add w.format z (big w.format)) % hid w.format

    abbrev t : Float
    t = sub w.format (add w.format z (big w.format)) (big w.format)

    abbrev k : ℕ
    k = hid w.format / 2

    S : Raised f (add f z (big f)) y
    S = sum-raised f z zn range

    N : Res f t ((y - k) * U f) ((k - y) * U f)
    N = back f z zn range

    whole_room : whole w ≤ k
    whole_room = fin (emax f) k (room f)
      where
        fin : (e k : ℕ) → 10 * suc (2 * e + 1) ≤ k → 4 * (e + 1) ≤ k
        fin e k h = omega arith

    pub sum-num : Num f (add f z (big f))
    sum-num = S.num

    pub t-num : Num f t
    t-num = N.num

    pub sum-word : (big_word f - whole w ≤ to_bits f (add f z (big f))) × (to_bits f (add f z (big f)) < big_word f + whole w)
    sum-word = fin ((emax f + prec f - 1) * hid f) k y (emax f) (to_bits f (add f z (big f))) S.bits S.least S.most
      where
        fin : (h k d e x : ℕ) → x ≡ h + d → k ≤ d + suc (2 * e + 1) → d ≤ k + suc (2 * e + 1) → (h + k - 4 * (e + 1) ≤ x) × (x < h + k + 4 * (e + 1))
        fin h k d e x a b c = (omega arith, omega arith)

    -- the word of the sum, from its digits: n more than the large number's, or n fewer
    word_more : (n : ℕ) → y ≡ k + n → to_bits f (add f z (big f)) ≡ big_word f - whole w + (whole w + n)
    word_more n e = fin ((emax f + prec f - 1) * hid f) k y n (whole w) (to_bits f (add f z (big f))) S.bits e whole_room
      where
        fin : (h k d n c x : ℕ) → x ≡ h + d → d ≡ k + n → c ≤ k → x ≡ h + k - c + (c + n)
        fin h k d n c x a b l = omega arith

    word-less : (n : ℕ) → k ≡ y + n → to_bits f (add f z (big f)) ≡ big_word f - whole w + (whole w - n)
    word-less n e = fin ((emax f + prec f - 1) * hid f) k y n (emax f) (to_bits f (add f z (big f))) S.bits e S.least whole_room
      where
        fin : (h k d n e x : ℕ) → x ≡ h + d → k ≡ d + n → k ≤ d + suc (2 * e + 1) → 4 * (e + 1) ≤ k → x ≡ h + k - 4 * (e + 1) + (4 * (e + 1) - n)
        fin h k d n e x a b c l = omega arith

    module _ (h : Float) (hf : T (fits f h)) (test : to_bits f (sub f z t) % top f < one f - hid f) where
      near : Near (U f) (plus f z) (minus f z) y k
      near = close f z zn range test

      -- the same by z's sign
      near_up : sign z ≡ false → Near (U f) (mag f z) 0 y k
      near_up e = let p = pos-parts f z e in subst (λ (a : ℕ). Near (U f) a 0 y k) p.0 (subst (λ (b : ℕ). Near (U f) (plus f z) b y k) p.1 near)

      near_down : sign z ≡ true → Near (U f) (mag f z) 0 k y
      near_down e =
          let p = neg-parts-of f z e in
          subst (λ (a : ℕ). Near (U f) a 0 k y) p.1 (subst (λ (b : ℕ). Near (U f) (minus f z) b k y) p.0 (near.1, near.0))

      -- ---- past a half: t is the chain's whole number
      module _ (past : (emax f - 1) * 2 ^ K.high < v) where
        abbrev n : ℕ
        n = (nearest_of w (to_bits w.format z / 2 ^ w.below)).size

        same : (a b : ℕ) → Near (U f) (mag f z) 0 a b → (0 < (a - b) * U f → (sign t ≡ sign z) × (mag f t ≡ (a - b) * U f))
            → (t ≡ (nearest_of w j).float) × (a ≡ b + n)
        same a b c part =
            let r = nearest-is w K z zn small past in
            let i : a ≡ b + n = whole_is (mag f z) (U f) a b n c r.lo r.hi in
            let p = part (some_is (mag f z) ((b - a) * U f) ((a - b) * U f) (U f) c.0 (half-least w K z zn small past)) in
            (same_float f t (nearest_of w j).float N.num r.num (p.0 ∙ sym r.sgn) (p.1 ∙ ap (λ (c : ℕ). c * U f) (rest a b n i) ∙ sym r.siz), i)
          where
            rest : (a b n : ℕ) → a ≡ b + n → a - b ≡ n
            rest a b n e = omega arith

        same_up : sign z ≡ false → (t ≡ (nearest_of w j).float) × (y ≡ k + n)
        same_up e =
            same y k (near_up e)
            (λ p. let s : sign t ≡ false = positive f t (lt_of_lt_of_le p (le_of_eq (sym N.up))) in (s ∙ sym e, sym (pos-parts f t s).0 ∙ N.up))

        same-down : sign z ≡ true → (t ≡ (nearest_of w j).float) × (k ≡ y + n)
        same-down e =
            same k y (near_down e)
            (λ p. let s : sign t ≡ true = negative f t (lt_of_lt_of_le p (le_of_eq (sym N.lo))) in (s ∙ sym e, sym (neg-parts-of f t s).1 ∙ N.lo))

        -- the word, by the high word's sign
        lifted : (b : Bool) → sign z ≡ b → to_bits f (add f z (big f)) ≡ big_word f - whole w + cond b (whole w - n) (whole w + n)
            → to_bits f (add f z (big f)) ≡ big_word f - whole w + cond (leb s j) (whole w - n) (whole w + n)
        lifted b e i = i ∙ ap (λ (b : Bool). big_word f - whole w + cond b (whole w - n) (whole w + n)) (sym (high-sign w K z zn small ∙ e))

        past-half : (sub f h t ≡ sub f h (nearest_of w j).float) × (to_bits f (add f z (big f)) ≡ big_word f - whole w + cond (leb s j) (whole w - n) (whole w + n))
        past-half = go (sign z) refl
          where
            go : (b : Bool) → sign z ≡ b
                → (sub f h t ≡ sub f h (nearest_of w j).float) × (to_bits f (add f z (big f)) ≡ big_word f - whole w + cond (leb s j) (whole w - n) (whole w + n))
            go true e = let q = same-down e in (ap (sub f h) q.0, lifted true e (word-less n q.1))
            go false e = let q = same_up e in (ap (sub f h) q.0, lifted false e (word_more n q.1))

      -- ---- below a half: t is 0
      up-to-half : v < (emax f - 1) * 2 ^ K.high → (sub f h t ≡ h) × (to_bits f (add f z (big f)) ≡ big_word f - whole w + whole w)
      up-to-half l =
          let q = half-most w K z zn small l in
          let e : y ≡ k + 0 = go (sign z) refl q in
          let i : to_bits f (add f z (big f)) ≡ big_word f = S.bits ∙ ap (λ (a : ℕ). (emax f + prec f - 1) * hid f + a) (e ∙ add-zero k) in
          let m : add f z (big f) ≡ big f = sym (of_bits-to_bits f (add f z (big f)) S.num.fits) ∙ ap (of_bits f) i in (
            ap (λ (a : Float). sub f h (sub f a (big f))) m ∙ ap (sub f h) (big-less-big f) ∙ sub-zero-is f h hf,
            word_more 0 e ∙ ap (λ (a : ℕ). big_word f - whole w + a) (add-zero (whole w)),
          )
        where
          least : (m u : ℕ) → 2 * m ≤ u → 2 * m ≤ 2 * (0 * u) + u
          least m u h = omega arith

          most : (m u : ℕ) → 2 * (0 * u) ≤ 2 * m + u
          most m u = omega arith

          turn : (a b : ℕ) → a ≡ b + 0 → b ≡ a + 0
          turn a b e = omega arith

          go : (b : Bool) → sign z ≡ b → 2 * mag f z ≤ U f → y ≡ k + 0
          go true e q = let c = near_down e in turn k y (whole_is (mag f z) (U f) k y 0 c (least (mag f z) (U f) q) (most (mag f z) (U f)))
          go false e q = let c = near_up e in whole_is (mag f z) (U f) y k 0 c (least (mag f z) (U f) q) (most (mag f z) (U f))

      pub rest-by-adding : ¬ (to_bits f z / 2 ^ w.below % (top f / 2 ^ w.below) ≡ (one f - hid f) / 2 ^ w.below)
          → (sub f h t ≡ rest_of w h z) × (to_bits f (add f z (big f)) ≡ (big_word f - whole w) + lift_of w z)
      unfolding rest_of lift_of
      rest-by-adding ne = go (past_half w z) (ltb→lt ((one f - hid f) / 2 ^ w.below) v) (nltb→le ((one f - hid f) / 2 ^ w.below) v)
        where
          go : (b : Bool) → (T b → (one f - hid f) / 2 ^ w.below < v) → (T (not b) → v ≤ (one f - hid f) / 2 ^ w.below)
              → (sub f h t ≡ cond b (sub f h (nearest_of w j).float) h)
              × (to_bits f (add f z (big f)) ≡ big_word f - whole w + cond b (cond (leb s j) (whole w - (nearest_of w j).size) (whole w + (nearest_of w j).size)) (whole w))
          go true p q = past-half (lt_of_le_of_lt (le_of_eq (sym K.half_high)) (p tt))
          go false p q = up-to-half (lt_of_lt_of_le (strict v ((one f - hid f) / 2 ^ w.below) (q tt) ne) (le_of_eq K.half_high))
