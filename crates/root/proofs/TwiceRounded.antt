-- The root of a word from the f64 root of the same digits: where f64 has more than twice the digits, rounding that once more gives what rounding once gives. Assumes nothing.
use Prim.Native.Nat.{ℕ, zero, suc, ◌+◌, ◌-◌, ◌*◌, ◌/◌, ◌%◌, ◌^◌, ◌≤◌, ◌<◌}
use mathlib.Core.Path.{◌≡◌, refl, sym, ap, subst, ◌∙◌}
use mathlib.Core.Logic.{⊎_elim}
use native.Mathlib.Nat.{le_trans, le_of_eq, lt_of_lt_of_le, mul-le-mul, mul-le-mul_right, mul-lt-mul_of_pos_right, le_of_mul-le-mul_right, lt_of_mul-lt-mul_right, pow-succ'}
use native.Mathlib.Nat.{div-mul-le_self, lt-div-mul-add, div-add-mod', mod-lt, div-eq_of_lt-le, mul-add-div_right, mul-div-mul_right}
use native.Mathlib.Omega.{arith}
use lib.Pow.{pow_pos, pow-add, pow_mono}
use Rattle.words.specs.Format.{Format, format, binary64, hid, units, units_at, infinity}
use Rattle.words.specs.Rounding.{Held}
use Rattle.root.specs.Root.{lifted, halves, whole, digits_at, significand, root_at}
use Rattle.root.specs.Engine.{Asked, Split, Narrow}
use Rattle.root.proofs.Engine.{four-pow}
use Rattle.root.proofs.Roots.{IsRoot, parity, root-unique, last-root, digits-below}
use Rattle.root.proofs.Operands.{halves-is, whole_is}
use Rattle.root.proofs.Words.{held-fine, finite-split, root_below}

-- ---- the digits: D is a power of two, and the root of n * (D * D) has that of n before its last digits

module _ (D n q : ℕ) (some : 0 < D) (root : IsRoot (n * (D * D)) q) where
  squares : (a : ℕ) → a * D * (a * D) ≡ a * a * (D * D)
  squares a = omega arith

  pub fewer_digits : IsRoot n (q / D)
  fewer_digits =
      let c : ℕ = q / D in
      let low : c * D ≤ q = div-mul-le_self q D in
      let high : q + 1 ≤ (c + 1) * D = omega (arith, lt-div-mul-add {a = q} some) in
      let pos : 0 < D * D = omega (arith, mul-le-mul some some) in (
        le_of_mul-le-mul_right {k = D * D} (le_trans (le_of_eq (sym (squares c))) (le_trans (mul-le-mul low low) root.0)) pos,
        lt_of_mul-lt-mul_right (D * D) (lt_of_lt_of_le root.1 (le_trans (mul-le-mul high high) (le_of_eq (squares (c + 1))))),
      )

  -- the last digits are never all ones: the next square would be a whole number of D * D, and no square is so near below it
  pub never-all-ones : 2 * q + 1 < D * D → (k : ℕ) → ¬ (q + 1 ≡ k * D)
  never-all-ones small k e =
      let is : (q + 1) * (q + 1) ≡ k * k * (D * D) = ap (λ (z : ℕ). z * z) e ∙ squares k in
      let more : n + 1 ≤ k * k = omega (arith, lt_of_mul-lt-mul_right (D * D) (subst (λ (z : ℕ). n * (D * D) < z) is root.1)) in
      omega (arith, root.0, is, mul-le-mul_right (D * D) more, small)

  -- so the digits that are rounded and cut are those that are cut and rounded
  rounded-twice : (H : ℕ) → D ≡ 2 * H → 2 * q + 1 < D * D → ((q + q % 2) / 2 + H) / D ≡ (q / D + q / D % 2) / 2
  rounded-twice H half small =
      let c : ℕ = q / D in
      let b : ℕ = q % D in
      let is : c * D + b ≡ q = div-add-mod' q D in
      let less : b < D = mod-lt q some in
      let fewer : b + 1 < D = strict b less (λ (e : b + 1 ≡ D). never-all-ones small (c + 1) (next c b is e)) in
      let low : q ≤ 2 * ((q + q % 2) / 2) = omega arith in
      let high : 2 * ((q + q % 2) / 2) ≤ q + 1 = omega arith in
      ⊎_elim
      (λ even. quotient c ((c + c % 2) / 2) b 0 ((q + q % 2) / 2) is fewer low high (omega arith) (omega (arith, even)))
      (λ odd. quotient c ((c + c % 2) / 2) b 1 ((q + q % 2) / 2) is fewer low high (omega arith) (omega (arith, odd)))
      (parity c)
    where
      strict : (b : ℕ) → b < D → ¬ (b + 1 ≡ D) → b + 1 < D
      strict b l f = omega arith

      next : (c b : ℕ) → c * D + b ≡ q → b + 1 ≡ D → q + 1 ≡ (c + 1) * D
      next c b e f = omega arith

      -- g is half of c, or of c + 1
      quotient : (c g b i s : ℕ) → c * D + b ≡ q → b + 1 < D → q ≤ 2 * s → 2 * s ≤ q + 1 → i ≤ 1 → 2 * g ≡ c + i → (s + H) / D ≡ g
      quotient c g b i s e l low high few twice =
          let d : 2 * (g * D) ≡ c * D + i * D = omega (arith, ap (λ (z : ℕ). z * D) twice) in
          let k : i * D ≤ D = omega (arith, mul-le-mul_right D few) in
          div-eq_of_lt-le D (omega (arith, d, k, half)) (omega (arith, d, k, half))

-- ---- the significands of one w, at p digits and at 53

module _ (p : ℕ) (g : 2 * p + 2 ≤ 53) where
  abbrev wider : ℕ
  wider = 2 ^ (53 - p)

  pub twice : wider ≡ 2 * 2 ^ (52 - p)
  twice = ap (λ (k : ℕ). 2 ^ k) less ∙ pow-succ' 2 (52 - p)
    where
      less : 53 - p ≡ suc (52 - p)
      less = omega arith

  pub total : (k j : ℕ) → k + (53 - p) ≡ j → 2 ^ k * wider ≡ 2 ^ j
  total k j e = sym (pow-add 2 k (53 - p)) ∙ ap (λ (n : ℕ). 2 ^ n) e

  large : 2 ^ 56 ≤ wider * wider
  large = le_trans (pow_mono {i = 56} {j = 53 - p + (53 - p)} (omega arith)) (le_of_eq (pow-add 2 (53 - p) (53 - p)))

  pub significands : (w : ℕ) → 2 ^ p ≤ 2 * w → w < 2 ^ (p + 1) → (significand 53 (w * wider) + 2 ^ (52 - p)) / wider ≡ significand p w
  unfolding significand
  significands w above below =
      let q = digits_at 53 (w * wider) 54 in
      let n : ℕ = 2 ^ (p + 1) * w in
      let some : 0 < wider = pow_pos (53 - p) in
      let r : IsRoot (n * (wider * wider)) q = subst (λ (k : ℕ). IsRoot k q) (scaled w) (last-root 53 (w * wider) wide) in
      let d = last-root p w asked in
      let f = fewer_digits wider n q some r in
      rounded-twice wider n q some r (2 ^ (52 - p)) twice (omega (arith, digits-below 53 (w * wider) 54 wide, large))
      ∙ ap (λ (k : ℕ). (k + k % 2) / 2) (root-unique n (q / wider) (digits_at p w (p + 1)) f.0 f.1 d.0 d.1)
    where
      asked : Asked p w (p + 1)
      asked = record { small = omega arith; above = above; below = below; rounds = omega arith }

      wide : Asked 53 (w * wider) 54
      wide = record {
        small = omega arith;
        above = omega (arith, mul-le-mul_right wider above, total p 53 (omega arith));
        below = omega (arith, mul-lt-mul_of_pos_right below (pow_pos (53 - p)), total (p + 1) 54 (omega arith));
        rounds = omega arith;
      }

      scaled : (w : ℕ) → 2 ^ 54 * (w * wider) ≡ 2 ^ (p + 1) * w * (wider * wider)
      scaled w = omega (arith, ap (λ (k : ℕ). k * (w * wider)) (total (p + 1) 54 (omega arith)))

-- ---- the words

root-at : (f : Format) (v w h : ℕ) → Split f.digits v w h → root_at f v ≡ h * hid f + significand f.digits w
unfolding root_at
root-at f v w h s = rw (halves-is f.digits v w h s, whole_is f.digits v w h s) refl

-- moving the fields up multiplies the units
scaled-units : (h D y t : ℕ) → units_at (h * D) y (t * D) ≡ units_at h y t * D
scaled-units h D zero t = refl
scaled-units h D (suc y) t = omega arith

-- x's fields in f64's places are the fields of `wide`
module _ (p e x : ℕ) (g : Narrow p e) (some : 0 < x) (below : x < infinity (format p e)) where
  abbrev f : Format
  f = format p e

  abbrev v : ℕ
  v = lifted f (units f x)

  abbrev D : ℕ
  D = 2 ^ (53 - p)

  abbrev wide : ℕ
  wide = x * D

  -- half of what f64's bias is more
  abbrev bias : ℕ
  bias = (1023 - e) / 2

  weight : 2 ^ (p - 1) * D ≡ 2 ^ 52
  weight = total p g.digits (p - 1) 52 (sum g.held.least g.digits)
    where
      sum : 1 ≤ p → 2 * p + 2 ≤ 53 → p - 1 + (53 - p) ≡ 52
      sum a b = omega arith

  field : wide / 2 ^ 52 ≡ x / 2 ^ (p - 1)
  field = ap (λ (k : ℕ). wide / k) (sym weight) ∙ mul-div-mul_right x (2 ^ (p - 1)) (pow_pos (53 - p))

  fraction : wide % 2 ^ 52 ≡ x % 2 ^ (p - 1) * D
  fraction =
      let h : ℕ = 2 ^ (p - 1) in
      omega (arith, div-add-mod' wide (2 ^ 52), ap (λ (k : ℕ). k * 2 ^ 52) field, ap (λ (k : ℕ). k * D) (div-add-mod' x h), ap (λ (k : ℕ). x / h * k) weight)

  wide-units : units binary64 wide ≡ units f x * D
  unfolding units
  wide-units =
      let h : ℕ = 2 ^ (p - 1) in
      ap (λ (k : ℕ). units_at (2 ^ 52) k (wide % 2 ^ 52)) field
      ∙ (ap (λ (k : ℕ). units_at (2 ^ 52) (x / h) k) fraction
      ∙ (ap (λ (k : ℕ). units_at k (x / h) (x % h * D)) (sym weight)
      ∙ scaled-units h D (x / h) (x % h)))

  -- an even power of two more
  lift : 2 ^ 1022 ≡ 2 ^ (e - 1) * 4 ^ bias
  lift = ap (λ (k : ℕ). 2 ^ k) (sum g.odd g.held.high) ∙ (pow-add 2 (e - 1) (bias + bias) ∙ ap (λ (k : ℕ). 2 ^ (e - 1) * k) (pow-add 2 bias bias ∙ sym (four-pow bias)))
    where
      sum : e % 2 ≡ 1 → e ≤ 1023 → 1022 ≡ e - 1 + (bias + bias)
      sum a b = omega arith

  wide-lifted : lifted binary64 (units binary64 wide) ≡ v * D * 4 ^ bias
  wide-lifted = ap (λ (k : ℕ). k * 2 ^ 1022) wide-units ∙ (ap (λ (k : ℕ). units f x * D * k) lift ∙ sort (units f x) D (2 ^ (e - 1)) (4 ^ bias))
    where
      sort : (a b c d : ℕ) → a * b * (c * d) ≡ a * c * b * d
      sort a b c d = omega arith

  -- so W has the same digits, and E is moved by `bias`
  abbrev w : ℕ
  w = whole p v

  abbrev h : ℕ
  h = halves p v

  narrow-split : Split p v w h
  narrow-split = (finite-split f x (held-fine p e g.held) some below).0

  wide-split : Split 53 (lifted binary64 (units binary64 wide)) (w * D) (h + bias)
  wide-split = record {
    value = ap (λ (k : ℕ). w * D * k) (pow-add 4 h bias) ∙ (sort w D (4 ^ h) (4 ^ bias) ∙ (ap (λ (k : ℕ). k * D * 4 ^ bias) narrow-split.value ∙ sym wide-lifted));
    above = omega (arith, mul-le-mul_right D narrow-split.above, total p g.digits p 53 (omega (arith, g.digits)));
    below = omega (arith, mul-le-mul_right D more, total p g.digits (p + 1) 54 (omega (arith, g.digits)), twice p g.digits, pow_pos (52 - p));
  }
    where
      sort : (a b c d : ℕ) → a * b * (c * d) ≡ a * c * b * d
      sort a b c d = omega arith

      more : w + 2 ≤ 2 ^ (p + 1)
      more = omega (arith, narrow-split.below)

  pub wide-finite : (0 < wide) × (wide < infinity binary64)
  wide-finite = (omega (arith, mul-le-mul_right D some, pow_pos (53 - p)), omega (arith, mul-lt-mul_of_pos_right below (pow_pos (53 - p)), ap (λ (k : ℕ). (2 * e + 1) * k) weight, g.held.high))

  abbrev wide-root : ℕ
  wide-root = root_at binary64 (lifted binary64 (units binary64 wide))

  pub wide_fits : wide-root + 2 ^ (52 - p) < 2 ^ 64
  wide_fits =
      let b = root_below binary64 wide (held-fine 53 1023 held) (omega arith) wide-finite.0 wide-finite.1 in
      omega (arith, b, pow_mono {i = 52 - p} {j = 52} (omega arith))
    where
      held : Held 53 1023
      held = omega arith

  pub narrow-root : (wide-root + 2 ^ (52 - p)) / D ≡ bias * 2 ^ (p - 1) + root_at f v
  narrow-root =
      joined wide-root (root_at f v) (significand 53 (w * D)) (significand p w)
      (root-at binary64 (lifted binary64 (units binary64 wide)) (w * D) (h + bias) wide-split)
      (root-at f v w h narrow-split)
      (significands p g.digits w narrow-split.above (omega (arith, narrow-split.below)))
    where
      joined : (a b s t : ℕ) → a ≡ (h + bias) * 2 ^ 52 + s → b ≡ h * 2 ^ (p - 1) + t → (s + 2 ^ (52 - p)) / D ≡ t → (a + 2 ^ (52 - p)) / D ≡ bias * 2 ^ (p - 1) + b
      joined a b s t i j k =
          let H : ℕ = 2 ^ (52 - p) in
          let parts : a + H ≡ (h + bias) * 2 ^ (p - 1) * D + (s + H) = omega (arith, i, ap (λ (z : ℕ). (h + bias) * z) weight) in
          ap (λ (z : ℕ). z / D) parts ∙ (mul-add-div_right (pow_pos (53 - p)) ((h + bias) * 2 ^ (p - 1)) (s + H) ∙ omega (arith, j, k))
