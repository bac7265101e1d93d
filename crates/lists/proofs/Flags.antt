-- The flags of a root, by the kind of its operand, as the code asks for it. Over any format. Assumes nothing.
use Prim.Native.Nat.{ℕ, ◌+◌, ◌-◌, ◌*◌, ◌/◌, ◌%◌, ◌^◌, ◌≤◌, ◌<◌}
use mathlib.Core.Path.{◌≡◌, refl, sym, ap, subst, ◌∙◌}
use mathlib.Core.Bool.{Bool, true, false, not, ◌&&◌, ◌||◌}
use native.Mathlib.Omega.{arith}
use native.Mathlib.Decide.{dec_lt}
use native.Mathlib.Nat.{mod-eq_of_lt, mod-le, mul-add-mod_self_right, lt_trans, zero-add, mul-le-mul, mul-le-mul_left, div-mul-le_self, div-lt_iff_lt-mul}
use lib.Dec.{leb, ltb, eqb}
use lib.Pow.{pow_pos, pow_mono, pow-add}
use borrow.Author.Tests.{lt-ltb, le-ltb, le-leb, lt-leb, eq-eqb}
use Rattle.words.specs.Format.{Format, hid, infinity, quiet, top, magnitude, units}
use Rattle.words.specs.Rounding.{bit}
use Rattle.words.specs.Nearest.{square}
use Rattle.words.proofs.Words.{infinity-below}
use Rattle.root.specs.Root.{root_at, root_word, whole_of, significand, lifted, halves}
use Rattle.root.specs.Partial.{positive}
use Rattle.root.proofs.Engine.{powers, four-pow}
use Rattle.root.proofs.Operands.{four-pos}
use Rattle.root.proofs.Words.{Fine, full, root-positive}
use Rattle.root.proofs.Sentences.{operand-range, root-digits, root-exact, root-exact-only, root-units, root-normal, scaled, squared}
use Rattle.lists.proofs.Squares.{swap, cancel, eqb_same, ends, tested}
use Rattle.lists.specs.Judge.{invalid, overflow, underflow, exact, inexact, exact_square, root_flags}

-- ---- the four facts laid out

laid_out : (f : Format) (x : ℕ) {i o u l : Bool} → invalid f x ≡ i → overflow f x ≡ o → underflow f x ≡ u → inexact f x ≡ l
    → root_flags f x ≡ 16 * bit i + 4 * bit o + 2 * bit u + bit l
unfolding root_flags
laid_out f x a b c d k = 16 * bit (a k) + 4 * bit (b k) + 2 * bit (c k) + bit (d k)

-- only a positive finite operand's root is rounded
not-rounded : (f : Format) (x : ℕ) {i : Bool} → positive f x ≡ false → invalid f x ≡ i → root_flags f x ≡ 16 * bit i
not-rounded f x {i} p e = laid_out f x e
    (ap (λ (b : Bool). b && leb (infinity f) (root_at f (lifted f (units f x)))) p)
    (ap (λ (b : Bool). (b && lost) && ltb (exact_square f x) (square (hid f))) p)
    (ap (λ (b : Bool). b && lost) p)
    ∙ sum (16 * bit i)
  where
    lost : Bool
    lost = not (exact f x)

    sum : (n : ℕ) → n + 0 + 0 + 0 ≡ n
    sum n = omega arith

and-false : (a : Bool) {b : Bool} → b ≡ false → (a && b) ≡ false
and-false true e = e
and-false false e = refl

past-finite : (f : Format) (x : ℕ) → infinity f ≤ x → positive f x ≡ false
past-finite f x h = and-false (ltb 0 x) (le-ltb x (infinity f) h)

-- ---- the kinds of operands

-- only a negative word loses something with its sign
pub sign_set : (t x : ℕ) → x % t < x → t ≤ x
sign_set t x h = elim (dec_lt x t) [
  | yes a ↦ absurd (none (mod-eq_of_lt a) h)
  | no a ↦ omega arith
]
  where
    none : x % t ≡ x → x % t < x → ⊥
    none e h = omega (arith, e, h)

module _ (f : Format) (x : ℕ) where
  pub flags-nan : infinity f < magnitude f x → root_flags f x ≡ 16 * bit (ltb (magnitude f x) (quiet f))
  flags-nan h = not-rounded f x
      (past-finite f x (omega (arith, h, mod-le x (top f))))
      (ap (λ (b : Bool). (not b && (leb (top f) x && ltb 0 (magnitude f x))) || (b && ltb (magnitude f x) (quiet f))) (lt-ltb (infinity f) (magnitude f x) h))

  number : {minus : Bool} → magnitude f x ≤ infinity f → leb (top f) x ≡ minus → invalid f x ≡ (minus && ltb 0 (magnitude f x))
  number {minus} h e =
      (λ k. (not (nan k) && (e k && ltb 0 (magnitude f x))) || (nan k && ltb (magnitude f x) (quiet f)))
      ∙ or-false (minus && ltb 0 (magnitude f x))
    where
      nan : ltb (infinity f) (magnitude f x) ≡ false
      nan = le-ltb (infinity f) (magnitude f x) h

      or-false : (b : Bool) → (b || false) ≡ b
      or-false true = refl
      or-false false = refl

  pub flags-negative : magnitude f x ≤ infinity f → top f ≤ x → root_flags f x ≡ 16 * bit (ltb 0 (magnitude f x))
  flags-negative h t = not-rounded f x (past-finite f x (omega (arith, t, infinity-below f))) (number h (le-leb (top f) x t))

  -- zero and infinity are their own roots
  pub flags-own : x ≤ infinity f → (0 < x → infinity f ≤ x) → root_flags f x ≡ 0
  flags-own h e = not-rounded f x own (number (omega (arith, h, mod-le x (top f))) (lt-leb (top f) x (omega (arith, h, infinity-below f))))
    where
      own : positive f x ≡ false
      own = elim (dec_lt 0 x) [
        | yes a ↦ past-finite f x (e a)
        | no a ↦ ap (λ (b : Bool). b && ltb x (infinity f)) (le-ltb 0 x (omega arith))
      ]

  -- -0 too
  pub flags-zero : magnitude f x ≡ 0 → root_flags f x ≡ 0
  flags-zero z = elim (dec_lt x (top f)) [
    | yes a ↦ flags-own (omega (arith, z, mod-eq_of_lt a)) (λ some. omega (arith, z, mod-eq_of_lt a, some))
    | no a ↦ flags-negative (omega (arith, z)) (omega arith) ∙ ap (λ (b : Bool). 16 * bit b) (le-ltb 0 (magnitude f x) (omega (arith, z)))
  ]

  -- ---- the same, by the code's tests

  pub flags_signalling : infinity f < magnitude f x → magnitude f x < quiet f → root_flags f x ≡ 16
  flags_signalling h q = flags-nan h ∙ ap (λ (b : Bool). 16 * bit b) (lt-ltb (magnitude f x) (quiet f) q)

  pub flags_quiet : infinity f < magnitude f x → quiet f ≤ magnitude f x → root_flags f x ≡ 0
  flags_quiet h q = flags-nan h ∙ ap (λ (b : Bool). 16 * bit b) (le-ltb (magnitude f x) (quiet f) q)

  pub flags_nothing : x ≡ 0 → root_flags f x ≡ 0
  flags_nothing e = flags-own (omega arith) (λ some. omega arith)

  pub flags_infinite : x ≡ infinity f → root_flags f x ≡ 0
  flags_infinite e = flags-own (omega arith) (λ some. omega arith)

  pub flags_minus : magnitude f x ≤ infinity f → magnitude f x < x → ¬ (magnitude f x ≡ 0) → root_flags f x ≡ 16
  flags_minus h l z = flags-negative h (sign_set (top f) x l) ∙ ap (λ (b : Bool). 16 * bit b) (lt-ltb 0 (magnitude f x) (omega (arith, z)))

-- so the flags of every operand but a positive finite one
pub ruleset kinds = (flags_signalling, flags_quiet, flags-zero, flags_minus, flags_nothing, flags_infinite)

-- ---- a positive finite operand: its root is exact where the significand's square is W with p - 1 zeros after it

module _ (f : Format) (x : ℕ) (g : Fine f) (small : f.digits ≤ 60) (some : 0 < x) (below : x < infinity f) where
  abbrev p : ℕ
  p = f.digits

  abbrev W : ℕ
  W = whole_of f x

  abbrev S : ℕ
  S = significand p W

  abbrev H : ℕ
  H = halves p (lifted f (units f x))

  square-is : square (units f (root_word f x)) ≡ S * S * 4 ^ H
  square-is = ap square (root-units f x g small some below) ∙ squared f x g small some below S

  -- the operand is W with p - 1 zeros, times 4 ^ H
  operand-square : W * hid f * 4 ^ H ≡ exact_square f x
  operand-square = quarter (2 ^ (p + 1)) W (hid f) (4 ^ H) (exact_square f x) (omega (arith, full f x g, (powers p).0)) (scaled f x g small some below)
    where
      quarter : (q w h k e : ℕ) → q ≡ 4 * h → q * w * k ≡ 4 * e → w * h * k ≡ e
      quarter q w h k e a b = omega (arith, ap (λ (z : ℕ). z * w * k) a, b)

  pub exact-is : eqb (S * S) (W * hid f) ≡ exact f x
  exact-is = eqb_same (S * S) (W * hid f) (square (units f (root_word f x))) (exact_square f x)
      (λ e. square-is ∙ ap (λ (z : ℕ). z * 4 ^ H) e ∙ operand-square)
      (λ e. cancel (S * S) (W * hid f) (4 ^ H) (four-pos H) (sym square-is ∙ e ∙ sym operand-square))

  -- the significand stands in the root's word
  pub significand-read : hid f + root_word f x % hid f ≡ S
  unfolding root_at
  significand-read =
      ap (λ (z : ℕ). hid f + z)
      (ap (λ (z : ℕ). z % hid f) (root-positive f x some below ∙ carried H S (hid f) least)
      ∙ mul-add-mod_self_right (H + 1) (hid f) (S - hid f)
      ∙ mod-eq_of_lt (omega (arith, least, (root-digits f x g small some below).1, full f x g)))
      ∙ omega (arith, least)
    where
      least : hid f ≤ S
      least = (root-digits f x g small some below).0

      carried : (n s h : ℕ) → h ≤ s → n * h + s ≡ (n + 1) * h + (s - h)
      carried n s h l = omega arith

  S-small : p ≤ 53 → S < 2 ^ 53
  S-small q = omega (arith, (root-digits f x g small some below).1, pow_mono {i = p} {j = 53} q)

  -- the code's test of the two, in words of 64 digits
  module _ {s d : ℕ} (s-is : s ≡ S) (d-is : d ≡ p) (few : p ≤ 53) where
    abbrev k : ℕ
    k = (d - 1) / 2

    abbrev t : ℕ
    t = s / 2 ^ k

    pub front-small : t * t < 2 ^ 64
    front-small = omega (arith, mul-le-mul t-small t-small)
      where
        split : (n : ℕ) → n ≡ n - (n - 1) / 2 + (n - 1) / 2
        split n = omega arith

        s-below : s < 2 ^ (d - k) * 2 ^ k
        s-below = subst (λ (n : ℕ). s < n) (ap (λ (n : ℕ). 2 ^ n) (sym d-is ∙ split d) ∙ pow-add 2 (d - k) k) (omega (arith, s-is, (root-digits f x g small some below).1))

        t-small : t ≤ 2 ^ 27
        t-small = omega (arith, (div-lt_iff_lt-mul (pow_pos k)).1 s-below, pow_mono {i = d - k} {j = 27} (omega arith))

    pub exact-tested : {w : ℕ} → w ≡ W → (eqb (t * 2 ^ k % 2 ^ 64) s && eqb (t * t) (w * 2 ^ (d - 1 - k - k) % 2 ^ 64)) ≡ exact f x
    exact-tested {w} w-is =
        (λ i. eqb (mod-eq_of_lt front i) s && eqb (t * t) (mod-eq_of_lt back i))
        ∙ tested s w k (d - 1 - k - k)
        ∙ ap (λ (n : ℕ). eqb (s * s) (w * 2 ^ n)) (zeros d)
        ∙ (λ i. eqb (s-is i * s-is i) (w-is i * 2 ^ (d-is i - 1)))
        ∙ exact-is
      where
        front : t * 2 ^ k < 2 ^ 64
        front = omega (arith, div-mul-le_self s (2 ^ k), s-is, S-small few)

        back : w * 2 ^ (d - 1 - k - k) < 2 ^ 64
        back = omega (arith, w-is, mul-le-mul_left w (pow_mono {i = d - 1 - k - k} {j = 1} (omega arith)), (operand-range f x g small some below).1, pow_mono {i = p + 1} {j = 54} (omega arith))

        zeros : (n : ℕ) → n - 1 - (n - 1) / 2 - (n - 1) / 2 + ((n - 1) / 2 + (n - 1) / 2) ≡ n - 1
        zeros n = omega arith

  is_positive : positive f x ≡ true
  is_positive k = lt-ltb 0 x some k && lt-ltb x (infinity f) below k

  -- no root overflows
  never-overflow : overflow f x ≡ false
  never-overflow = (λ k. is_positive k && leb (infinity f) (sym (root-positive f x some below) k)) ∙ lt-leb (infinity f) (root_word f x) (root-normal f x g small some below).1

  -- and none underflows: even the least operand's is a normal number
  normal-square : square (hid f) ≤ exact_square f x
  normal-square = subst (λ (z : ℕ). square (hid f) ≤ z) operand-square (least (hid f) W (4 ^ H) (four-pos H) (operand-range f x g small some below).0)
    where
      least : (h w k : ℕ) → 0 < k → h ≤ w → h * h ≤ w * h * k
      least h w k a b = omega (arith, mul-le-mul_left h (mul-le-mul b a))

  never-underflow : underflow f x ≡ false
  never-underflow = and-false (inexact f x) (le-ltb (exact_square f x) (square (hid f)) normal-square)

  pub flags-rounded : {b : Bool} → b ≡ exact f x → root_flags f x ≡ bit (not b)
  flags-rounded e =
      let valid = number f x (omega (arith, below, mod-le x (top f))) (lt-leb (top f) x (lt_trans below (infinity-below f))) in
      laid_out f x valid never-overflow never-underflow (λ k. is_positive k && not (sym e k)) ∙ zero-add _

  pub flags-exact : exact f x ≡ true → root_flags f x ≡ 0
  flags-exact e = flags-rounded (sym e)

  pub flags-inexact : exact f x ≡ false → root_flags f x ≡ 1
  flags-inexact e = flags-rounded (sym e)

  -- if any whole number of units is the exact root, then so is the one that is answered
  pub exact-only : (n : ℕ) → n * n ≡ exact_square f x → exact f x ≡ true
  exact-only n e =
      let d = ends H (2 * n) (2 ^ (p + 1) * W) (twice n (exact_square f x) (2 ^ (p + 1) * W * 4 ^ H) e (scaled f x g small some below)) in
      let s : d.front * d.front ≡ 2 ^ (p + 1) * W = cancel (d.front * d.front) (2 ^ (p + 1) * W) (4 ^ H) (four-pos H)
      (back (2 * n) d.front (2 ^ H) (4 ^ H) d.is (four-pow H) ∙ twice n (exact_square f x) (2 ^ (p + 1) * W * 4 ^ H) e (scaled f x g small some below)) in
      let none_left = root-exact-only f x g small some below d.front s in
      sym exact-is
      ∙ eq-eqb (S * S) (W * hid f) (half S (hid f) W (2 ^ (p + 1)) (omega (arith, full f x g, (powers p).0)) (root-exact f x g small some below none_left).1)
    where
      twice : (n q r : ℕ) → n * n ≡ q → r ≡ 4 * q → 2 * n * (2 * n) ≡ r
      twice n q r a b = omega (arith, a, b)

      back : (m t h k : ℕ) → m ≡ t * h → k ≡ h * h → t * t * k ≡ m * m
      back m t h k a b = ap (λ (z : ℕ). t * t * z) b ∙ sym (swap t h) ∙ sym (ap (λ (z : ℕ). z * z) a)

      half : (s h w q : ℕ) → q ≡ 4 * h → 2 * s * (2 * s) ≡ q * w → s * s ≡ w * h
      half s h w q a b = omega (arith, ap (λ (z : ℕ). z * w) a, b)
