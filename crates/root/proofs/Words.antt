-- A word's fields, its units, its W and E and its root, over any format. Assumes nothing.
use Prim.Native.Nat.{ℕ, zero, suc, ◌+◌, ◌-◌, ◌*◌, ◌/◌, ◌%◌, ◌^◌, ◌≤◌, ◌<◌}
use mathlib.Core.Path.{◌≡◌, refl, sym, ap, subst, ◌∙◌}
use mathlib.Core.Logic.{inl, inr}
use native.Mathlib.Nat.{mod_self, mod-eq-sub-mod, eq-zero-or-pos, zero-mod, lt_trans, mod-eq_of_lt, mul-le-mul_right, mul-le-mul_left, mul_assoc, pow-succ', mod-lt, div-add-mod', div-lt_iff_lt-mul}
use native.Mathlib.Omega.{arith}
use native.Mathlib.Decide.{dec_lt}
use lib.IntN.{ℤ, sub_ℕ}
use lib.Signed.{shr_z}
use lib.Pow.{pow_pos, pow_mono, pow-add}
use borrow.Author.Tests.{eq-eqb, ne_eqb, lt-ltb, le-ltb}
use Rattle.words.specs.Format.{Format, format, hid, top, infinity, quiet, units, units_at}
use Rattle.root.specs.Partial.{partial_root, refused}
use Rattle.words.specs.Refusal.{done, not_positive, too_many_rounds}
use Rattle.words.proofs.Words.{infinity-some, infinity-below, quiet-below, below-fits}
use Rattle.root.specs.Root.{left_at, digits_at, whole_of, lifted, root_at, root_word, halves, whole, exponent_of, significand}
use Rattle.root.specs.Engine.{odd_z, Split, Rounds, Asked, Shifts}
use Rattle.words.specs.Rounding.{Held}
use Rattle.root.proofs.Roots.{digits-unique, near}
use Rattle.root.proofs.Operands.{halves-is, whole_is, shifts-few, shifted-value, parts_are, sub-shift, operand-split}

-- where the field of a positive word is 0 the fraction is not
pub fraction-some : (h x : ℕ) → 0 < x → x / h ≡ 0 → 0 < x % h
fraction-some h x some e = omega (arith, div-add-mod' x h, some, ap (λ (k : ℕ). k * h) e)

-- what is asked of a format: a significand has a digit, and the exponents reach past its digits
pub record Fine (f : Format) : Type 0 where
  pub least : 1 ≤ f.digits
  pub room : f.digits + 1 ≤ f.emax

module _ (f : Format) (x : ℕ) where
  -- a field of 0
  pub lifted-low : x / hid f ≡ 0 → x % hid f * 2 ^ (f.emax - 1) ≡ lifted f (units f x)
  unfolding units
  lifted-low e = ap (λ (z : ℕ). units_at (hid f) z (x % hid f) * 2 ^ (f.emax - 1)) (sym e)

  -- any other
  pub lifted-high : (y : ℕ) → x / hid f ≡ suc y → (hid f + x % hid f) * 2 ^ (y + (f.emax - 1)) ≡ lifted f (units f x)
  unfolding units
  lifted-high y e =
      ap (λ (z : ℕ). (hid f + x % hid f) * z) (pow-add 2 y (f.emax - 1))
      ∙ (sym (mul_assoc (hid f + x % hid f) (2 ^ y) (2 ^ (f.emax - 1)))
      ∙ ap (λ (z : ℕ). units_at (hid f) z (x % hid f) * 2 ^ (f.emax - 1)) (sym e))

  pub full : Fine f → 2 ^ f.digits ≡ 2 * hid f
  full g = ap (λ (z : ℕ). 2 ^ z) e ∙ pow-succ' 2 (f.digits - 1)
    where
      e : f.digits ≡ suc (f.digits - 1)
      e = omega (arith, g.least)

  fraction : x % hid f < hid f
  fraction = mod-lt x (pow_pos (f.digits - 1))

  -- ---- W and E from the fields, and the word's sign clear

  pub low_parts : Fine f → x / hid f ≡ 0 → 0 < x % hid f → (s : ℕ) (e : ℤ) → Shifts f.digits (x % hid f) s → e ≡ sub_ℕ 1 (f.emax + s)
      → (x % hid f * 2 ^ s * 2 ^ odd_z e ≡ whole f.digits (lifted f (units f x))) × (shr_z e 2 ≡ exponent_of f (lifted f (units f x)))
  low_parts g z some s e a is =
      let few : s < f.digits = shifts-few f.digits (x % hid f) s some a in
      let n : ℕ = f.emax - 1 - s in
      let c : ℕ = f.emax - 2 - s in
      let up : 1 + c ≡ n = omega (arith, few, g.room) in
      let down : f.emax + s + c ≡ 2 * (f.emax - 1) = omega (arith, few, g.room) in
      parts_are f.digits (x % hid f * 2 ^ s) n (f.emax - 1) (lifted f (units f x)) e a.above a.below
      (shifted-value (x % hid f) s (f.emax - 1) (omega (arith, few, g.room)) ∙ lifted-low z)
      (is ∙ (sym (sub-shift 1 (f.emax + s) c) ∙ (ap (λ (k : ℕ). sub_ℕ k (f.emax + s + c)) up ∙ ap (λ (k : ℕ). sub_ℕ n k) down)))

  pub high_parts : Fine f → (y : ℕ) → x / hid f ≡ suc y → (e : ℤ) → e ≡ sub_ℕ (suc y) f.emax
      → ((hid f + x % hid f) * 2 ^ odd_z e ≡ whole f.digits (lifted f (units f x))) × (shr_z e 2 ≡ exponent_of f (lifted f (units f x)))
  high_parts g y z e is =
      let n : ℕ = y + (f.emax - 1) in
      let c : ℕ = f.emax - 2 in
      let up : suc y + c ≡ n = omega (arith, g.room, g.least) in
      let down : f.emax + c ≡ 2 * (f.emax - 1) = omega (arith, g.room, g.least) in
      parts_are f.digits (hid f + x % hid f) n (f.emax - 1) (lifted f (units f x)) e (omega (arith, full g)) (omega (arith, full g, fraction))
      (lifted-high y z)
      (is ∙ (sym (sub-shift (suc y) f.emax c) ∙ (ap (λ (k : ℕ). sub_ℕ k (f.emax + c)) up ∙ ap (λ (k : ℕ). sub_ℕ n k) down)))

  -- x is W * 4 ^ (E + emax - 1) exactly, and W has p digits, or p + 1 and is even
  pub finite-split : Fine f → 0 < x → x < infinity f
      → Split f.digits (lifted f (units f x)) (whole f.digits (lifted f (units f x))) (halves f.digits (lifted f (units f x)))
      × (2 * halves f.digits (lifted f (units f x)) ≤ 3 * f.emax)
  finite-split g some below = by (x / hid f) refl
    where
      Goal : ℕ → Type 0
      Goal v = Split f.digits v (whole f.digits v) (halves f.digits v) × (2 * halves f.digits v ≤ 3 * f.emax)

      field : x / hid f < 2 * f.emax + 1
      field = (div-lt_iff_lt-mul (pow_pos (f.digits - 1))).1 (omega (arith, below))

      by : (y : ℕ) → x / hid f ≡ y → Goal (lifted f (units f x))
      by zero z =
          let nz : 0 < x % hid f = omega (arith, div-add-mod' x (hid f), some, ap (λ (k : ℕ). k * hid f) z) in
          let r = operand-split f.digits (x % hid f) (f.emax - 1) nz (omega (arith, full g, fraction)) (omega (arith, g.room)) in
          subst Goal (lifted-low z) (r.0, omega (arith, r.1))
      by (suc y) z =
          let r = operand-split f.digits (hid f + x % hid f) (y + (f.emax - 1)) (omega (arith, pow_pos (f.digits - 1))) (omega (arith, full g, fraction)) (omega (arith, g.room)) in
          subst Goal (lifted-high y z) (r.0, omega (arith, r.1, field, z))

  -- ---- the root of each kind of word

  pub root-zero : x % top f ≡ 0 → root_word f x ≡ x
  unfolding root_word
  root-zero e = rw (eq-eqb (x % top f) 0 e)

  pub root-nan : ¬ (x % top f ≡ 0) → infinity f < x → root_word f x ≡ quiet f
  unfolding root_word
  root-nan z h = rw (ne_eqb (x % top f) 0 z, lt-ltb (infinity f) x h)

  pub root-infinity : ¬ (x % top f ≡ 0) → x ≡ infinity f → root_word f x ≡ x
  unfolding root_word
  root-infinity z e = rw (ne_eqb (x % top f) 0 z, le-ltb (infinity f) x (omega arith), eq-eqb x (infinity f) e)

  pub root-finite : ¬ (x % top f ≡ 0) → x < infinity f → root_word f x ≡ root_at f (lifted f (units f x))
  unfolding root_word
  root-finite z h = rw (ne_eqb (x % top f) 0 z, le-ltb (infinity f) x (omega arith), ne_eqb x (infinity f) (λ (e : x ≡ infinity f). omega arith))

-- a word below the sign's that is not 0 is no zero
pub below_top : (x t : ℕ) → x < t → ¬ (x ≡ 0) → ¬ (x % t ≡ 0)
below_top x t l n = λ e. n (sym (mod-eq_of_lt l) ∙ e)

-- the root of a positive finite word
pub root-positive : (f : Format) (x : ℕ) → 0 < x → x < infinity f → root_word f x ≡ root_at f (lifted f (units f x))
root-positive f x some l = root-finite f x (below_top x (top f) (lt_trans l (infinity-below f)) (λ e. omega arith)) l

-- what the engine asks of a split operand
pub split-asked : (p v w h k : ℕ) → p ≤ 60 → k ≤ p + 1 → Split p v w h → Asked p w k
split-asked p v w h k small rounds s = record { small = small; above = s.above; below = omega (arith, s.below); rounds = rounds }

-- the word that the digits of all rounds make
pub root-word : (f : Format) (v w h q left : ℕ) → f.digits ≤ 60 → Split f.digits v w h → Rounds f.digits w (f.digits + 1) q left
    → h * hid f + (q + q % 2) / 2 ≡ root_at f v
unfolding root_at significand
root-word f v w h q left small s r =
    let p : ℕ = f.digits in
    rw (halves-is p v w h s, whole_is p v w h s, ← digits-unique p w (p + 1) (split-asked p v w h (p + 1) small (omega arith) s) q left r) refl

-- the exponent's part of a word
pub exponent-fits : (p h : ℕ) → p ≤ 53 → h < 2 ^ 11 → h * 2 ^ (p - 1) < 2 ^ 63
exponent-fits p h small high = omega (arith, mul-le-mul_left h cap)
  where
    cap : 2 ^ (p - 1) ≤ 2 ^ 52
    cap = pow_mono {i = p - 1} {j = 52} (omega arith)

pub held-fine : (p e : ℕ) → Held p e → Fine (format p e)
held-fine p e h = record { least = h.least; room = h.room }

-- w and half are the parts of a positive finite operand, half being h less b
pub record Ready (p b w h : ℕ) (half : ℤ) : Type 0 where
  pub above : 2 ^ p ≤ 2 * w
  pub below : w + 1 < 2 ^ (p + 1)
  pub least : 1 ≤ p
  pub small : p ≤ 53
  pub bias : b < 2 ^ 11
  pub high : h < 2 ^ 11
  pub is : half ≡ sub_ℕ h b

pub ready-asked : {p b w h : ℕ} {half : ℤ} → Ready p b w h half → Asked p w (p + 1)
ready-asked r = record { small = omega (arith, r.small); above = r.above; below = omega (arith, r.below); rounds = omega arith }

-- the parts of a positive finite word, ready for its root
pub ready : (p e x w : ℕ) (half : ℤ) → Held p e → 0 < x → x < infinity (format p e)
    → w ≡ whole p (lifted (format p e) (units (format p e) x)) → half ≡ exponent_of (format p e) (lifted (format p e) (units (format p e) x))
    → Ready p (e - 1) w (halves p (lifted (format p e) (units (format p e) x))) half
ready p e x w half h some below is-w is-half =
    let s = finite-split (format p e) x (held-fine p e h) some below in
    record {
      above = rw is-w s.0.above;
      below = rw is-w s.0.below;
      least = h.least;
      small = h.small;
      bias = omega (arith, h.high);
      high = omega (arith, h.high, s.1);
      is = is-half;
    }

-- ---- a partial root, by what is refused first

module _ (f : Format) (x k : ℕ) where
  pub partial-zero : x ≡ 0 → partial_root f x k ≡ refused not_positive
  unfolding partial_root
  partial-zero e = rw (le-ltb 0 x (omega arith))

  pub partial-above : infinity f ≤ x → partial_root f x k ≡ refused not_positive
  unfolding partial_root
  partial-above h = rw (lt-ltb 0 x (omega (arith, infinity-some f)), le-ltb x (infinity f) h)

  pub partial-many : 0 < x → x < infinity f → f.digits + 1 < k → partial_root f x k ≡ refused too_many_rounds
  unfolding partial_root
  partial-many a b h = rw (lt-ltb 0 x a, lt-ltb x (infinity f) b, lt-ltb (f.digits + 1) k h)

  pub partial-done : 0 < x → x < infinity f → k ≤ f.digits + 1
      → partial_root f x k ≡ record { number = done; digits = digits_at f.digits (whole_of f x) k; left = left_at f.digits (whole_of f x) k; rounds = k }
  unfolding partial_root
  partial-done a b h = rw (lt-ltb 0 x a, lt-ltb x (infinity f) b, le-ltb (f.digits + 1) k h)

-- ---- a word that is no positive finite number, by what it is equal to

module _ (f : Format) (x : ℕ) where
  pub special-zero : x ≡ 0 → x ≡ root_word f x
  special-zero e = sym (root-zero f x (ap (λ (z : ℕ). z % top f) e ∙ zero-mod (top f)))

  pub special-infinity : x ≡ infinity f → x ≡ root_word f x
  special-infinity e = sym (root-infinity f x (below_top x (top f) (omega (arith, e, infinity-below f)) (λ z. omega (arith, e, infinity-some f))) e)

  -- the sign alone is -0
  pub special-minus : x ≡ top f → x ≡ root_word f x
  special-minus e = sym (root-zero f x (ap (λ (z : ℕ). z % top f) e ∙ mod_self (top f)))

  pub special-nan : x < 2 * top f → (0 < x → infinity f ≤ x) → ¬ (x ≡ 0) → ¬ (x ≡ infinity f) → ¬ (x ≡ top f) → root_word f x ≡ quiet f
  special-nan h above z i t = root-nan f x (not-zero (dec_lt x (top f))) (omega (arith, above (omega (arith, z)), i))
    where
      less : ¬ (x < top f) → x - top f < top f
      less k = omega (arith, h)

      at_least : ¬ (x < top f) → top f ≤ x
      at_least k = omega arith

      same : top f ≤ x → x - top f ≡ 0 → x ≡ top f
      same l e = omega (arith, l, e)

      not-zero : Dec (x < top f) → ¬ (x % top f ≡ 0)
      not-zero (yes l) e = z (sym (mod-eq_of_lt l) ∙ e)
      not-zero (no l) e = t (same (at_least l) (sym (mod-eq_of_lt (less l)) ∙ sym (mod-eq-sub-mod (at_least l)) ∙ e))

-- the root of a positive finite word is one
pub root_below : (f : Format) (x : ℕ) → Fine f → f.digits ≤ 60 → 0 < x → x < infinity f → root_at f (lifted f (units f x)) < infinity f
unfolding root_at
root_below f x g small some below =
    let p : ℕ = f.digits in
    let v : ℕ = lifted f (units f x) in
    let s = finite-split f x g some below in
    let n = near p (whole p v) (split-asked p v (whole p v) (halves p v) (p + 1) small (omega arith) s.0) s.0.below in
    let h : halves p v + 2 ≤ 2 * f.emax + 1 = omega (arith, s.1, g.room, g.least) in
    omega (arith, n.high, full f x g, mul-le-mul_right (hid f) h)

-- ---- every word's root is a word
pub root-fits : (f : Format) (x : ℕ) → Fine f → f.digits ≤ 60 → x < 2 * top f → root_word f x < 2 * top f
root-fits f x g small h = elim (eq-zero-or-pos (x % top f)) [
  | inl z ↦ subst (λ (n : ℕ). n < 2 * top f) (sym (root-zero f x z)) h
  | inr l ↦ let z = some-not l in elim (dec_lt (infinity f) x) [
    | yes i ↦ subst (λ (n : ℕ). n < 2 * top f) (sym (root-nan f x z i)) (below-fits f (quiet f) (quiet-below f))
    | no i ↦ elim (dec_lt x (infinity f)) [
      | yes j ↦ subst (λ (n : ℕ). n < 2 * top f) (sym (root-finite f x z j)) (below-fits f _ (lt_trans (root_below f x g small (some x z) j) (infinity-below f)))
      | no j ↦ subst (λ (n : ℕ). n < 2 * top f) (sym (root-infinity f x z (equal x (infinity f) i j))) h
    ]
  ]
]
  where
    some-not : {n : ℕ} → 0 < n → ¬ (n ≡ 0)
    some-not l = λ e. omega arith

    some : (x : ℕ) → ¬ (x % top f ≡ 0) → 0 < x
    some zero z = absurd (z (zero-mod (top f)))
    some (suc x) z = omega arith

    equal : (a b : ℕ) → ¬ (b < a) → ¬ (a < b) → a ≡ b
    equal a b i j = omega arith
