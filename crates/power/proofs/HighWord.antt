-- A float by its high word, which for f32 is the whole word: where its fields lie. And a float whose exponent is raised in its word: which of the definition's two ways that is.
-- Over every width. Assumes nothing.
use Prim.Native.Nat.{ℕ, suc, ◌+◌, ◌-◌, ◌*◌, ◌/◌, ◌%◌, ◌^◌, ◌<◌, ◌≤◌}
use mathlib.Core.Path.{◌≡◌, refl, sym, ap, subst, ◌∙◌}
use mathlib.Core.Logic.{◌⊎◌, inl, inr}
use mathlib.Core.Bool.{Bool, true, false, ◌&&◌, ◌||◌}
use native.Mathlib.Nat.{lt_of_lt_of_le, mul_assoc, mod-lt, add-mul-div_right, add-mul-mod_self_right, lt_of_mul-lt-mul_right}
use native.Mathlib.Omega.{arith}
use native.Mathlib.Decide.{dec_le}
use lib.Dec.{T, leb, ltb}
use lib.IntN.{ℤ, sub_ℕ}
use lib.Pow.{pow_pos, mod-pow-add}
use lib.Ieee.{Float, Format, binary32, binary64, mul, fits, to_bits, of_bits, hid, top, emax, prec}
use lib.Ieee.Bits.{of_bits-to_bits, to_bits-of_bits}
use borrow.Author.Tests.{ltb-true, leb-true, lt-ltb, le-ltb, le-leb, lt-leb}
use Rattle.words.specs.Format.{infinity, ours}
use Rattle.scale.specs.Scale.{power}
use Rattle.power.specs.Width.{Width}
use Rattle.power.specs.Power.{single, double}
use Rattle.power.specs.Chain.{raised_of, whole}
use Rattle.power.specs.NoNan.{Number}
use Rattle.power.proofs.Nan.{is_number}
use Rattle.power.proofs.Subnormal.{lowered}
use Rattle.power.proofs.Words.{both}

-- m digits below the exponent's field of 31 - m, in which 0.5 has d and 1 has d + 1
pub record High (w : Width) (m d : ℕ) : Type 0 where
  pub unit : hid w.format / 2 ^ w.below ≡ 2 ^ m
  pub sign : top w.format / 2 ^ w.below ≡ 2 ^ 31
  pub digits : prec w.format - 1 - w.below ≡ m
  pub one : emax w.format ≡ d + 1
  pub small : m ≤ 32
  -- the same of the whole word
  pub unit-all : hid w.format ≡ 2 ^ m * 2 ^ w.below
  pub sign-all : top w.format ≡ 2 ^ 31 * 2 ^ w.below
  pub word-all : 2 * top w.format ≡ 2 ^ (32 + w.below)

pub high32 : High single 23 126
high32 = record { unit = refl; sign = refl; digits = refl; one = refl; small = omega arith; unit-all = refl; sign-all = refl; word-all = refl }

pub high64 : High double 20 1022
high64 = record { unit = refl; sign = refl; digits = refl; one = refl; small = omega arith; unit-all = refl; sign-all = refl; word-all = refl }

-- the code's one test of a word r for a normal positive number or infinity: k is r less a unit of the exponent's field, and wraps
pub normal-by : (f : Format) (r k : ℕ) → r < 2 * top f → k ≡ (r + (2 * top f - hid f)) % (2 * top f) → k < top f - hid f → (hid f ≤ r) × (r < top f)
normal-by binary32 r k R i h = (omega arith, omega arith)
normal-by binary64 r k R i h = (omega arith, omega arith)

pub outside-by : (f : Format) (r k : ℕ) → r < 2 * top f → k ≡ (r + (2 * top f - hid f)) % (2 * top f) → top f - hid f ≤ k → (r < hid f) ⊎ (top f ≤ r)
outside-by binary32 r k R i h = elim (dec_le (top binary32) r) [ yes l ↦ inr l | no l ↦ inl (omega arith) ]
outside-by binary64 r k R i h = elim (dec_le (top binary64) r) [ yes l ↦ inr l | no l ↦ inl (omega arith) ]

-- r is z's word with e added, which wraps, in the exponent's field
module _ {w : Width} {m d : ℕ} (g : High w m d) (z : Float) (e r : ℕ) (q : r ≡ (to_bits w.format z + e * hid w.format) % (2 * top w.format)) where
  -- the digits below the high word, and the high word of r
  abbrev b : ℕ
  b = 2 ^ w.below

  abbrev x : ℕ
  x = to_bits w.format z

  abbrev j : ℕ
  j = (to_bits w.format z / 2 ^ w.below + e * 2 ^ m) % 2 ^ 32

  cut : r ≡ j * b + x % b
  cut =
      q
      ∙ ap (λ (y : ℕ). (x + e * y) % (2 * top w.format)) g.unit-all
      ∙ ap (λ (y : ℕ). (x + y) % (2 * top w.format)) (sym (mul_assoc e (2 ^ m) b))
      ∙ ap (λ (y : ℕ). (x + e * 2 ^ m * b) % y) g.word-all
      ∙ mod-pow-add (x + e * 2 ^ m * b) 32 w.below
      ∙ (λ i. add-mul-div_right x (e * 2 ^ m) (pow_pos w.below) i % 2 ^ 32 * b + add-mul-mod_self_right x (e * 2 ^ m) b i)

  -- the tests of r, as tests of its high word
  rest : x % b < b
  rest = mod-lt x (pow_pos w.below)

  below : (c y : ℕ) → y ≡ c * b → r < y → j < c
  below c y i h = lt_of_mul-lt-mul_right b (go j c b (x % b) r y cut i h)
    where
      go : (j c b t r y : ℕ) → r ≡ j * b + t → y ≡ c * b → r < y → j * b < c * b
      go j c b t r y k i h = omega arith

  above : (c y : ℕ) → y ≡ c * b → y ≤ r → c ≤ j
  above c y i h = up c j (lt_of_mul-lt-mul_right b (go j c b (x % b) r y cut i rest h))
    where
      go : (j c b t r y : ℕ) → r ≡ j * b + t → y ≡ c * b → t < b → y ≤ r → c * b < suc j * b
      go j c b t r y k i l h = omega arith

      up : (c j : ℕ) → c < suc j → c ≤ j
      up c j h = omega arith

  either : (a : Bool) → a || true ≡ true
  either true = refl
  either false = refl

  -- r is a positive number's word and not a subnormal one's
  pub raised-normal : hid w.format ≤ r → r < top w.format → of_bits w.format r ≡ raised_of w z e
  unfolding raised_of
  raised-normal l h =
      ap (of_bits w.format) cut
      ∙ rw (g.sign, g.unit, lt-leb (2 ^ 31) j (below (2 ^ 31) (top w.format) g.sign-all h), le-ltb j (2 ^ m) (above (2 ^ m) (hid w.format) g.unit-all l)) refl

  pub raised-word : hid w.format ≤ r → r < top w.format → Number (raised_of w z e) → r ≡ to_bits w.format (raised_of w z e)
  raised-word l h n =
      let i = raised-normal l h in
      sym (to_bits-of_bits w.format r (twice (top w.format) h) (is_number (of_bits w.format r) (subst Number (sym i) n))) ∙ ap (to_bits w.format) i
    where
      twice : (t : ℕ) → r < t → r < 2 * t
      twice t h = omega arith

  -- it is not: z is scaled
  pub raised-scaled : {i : ℤ} → i ≡ sub_ℕ e (whole w) → (r < hid w.format) ⊎ (top w.format ≤ r) → mul w.format z (power i) ≡ raised_of w z e
  unfolding raised_of
  raised-scaled k (inl h) = rw (g.sign, g.unit, lt-ltb j (2 ^ m) (below (2 ^ m) (hid w.format) g.unit-all h), either (leb (2 ^ 31) j), k) refl
  raised-scaled k (inr h) = rw (g.sign, g.unit, le-leb (2 ^ 31) j (above (2 ^ 31) (top w.format) g.sign-all h), k) refl

  -- in whole numbers, where z is positive and normal and the product subnormal
  raised-lowered : (r < hid w.format) ⊎ (top w.format ≤ r) → T (fits w.format z) → (s : ℕ) → hid w.format ≤ x → x < infinity (ours w.format)
      → 1 ≤ s → x / hid w.format + e + s ≡ whole w + 1
      → (hid w.format + x % hid w.format + (2 ^ (s - 1) - 1 + (hid w.format + x % hid w.format) / 2 ^ s % 2)) / 2 ^ s ≡ to_bits w.format (raised_of w z e)
  raised-lowered o F s N I S E =
      sym (lowered w.format x e s N I S E)
      ∙ ap (λ (v : Float). to_bits w.format (mul w.format v (power (sub_ℕ e (whole w))))) (of_bits-to_bits w.format z F)
      ∙ ap (to_bits w.format) (raised-scaled refl o)

-- ---- the same of the code's numbers: j is the wrapped sum with e in the exponent's field, and k is j less a unit of that field
some : (f : Format) → 0 < 2 * top f
some binary32 = omega arith
some binary64 = omega arith

wraps : (f : Format) (a b : ℕ) → (a + b % (2 * top f)) % (2 * top f) ≡ (a + b) % (2 * top f)
wraps binary32 a b = omega arith
wraps binary64 a b = omega arith

-- the digits that are lost, from their wrapped number s
lost-is : (f : Format) (x e s : ℕ) → x < infinity (ours f) → e < 8 * (emax f + 1) → s < 64 → (s + (x / hid f + e)) % (2 * top f) ≡ 4 * (emax f + 1) + 1
    → x / hid f + e + s ≡ 4 * (emax f + 1) + 1
lost-is binary32 x e s h l k i = omega arith
lost-is binary64 x e s h l k i = omega arith

-- the code's second test: the word x is a positive normal number's, and s digits are lost, fewer than b
pub lost-some : (f : Format) (x s b : ℕ) → ((leb (hid f) x && ltb x (infinity (ours f))) && (ltb 0 s && ltb s b)) ≡ true → (1 ≤ s) × (s < b)
lost-some f x s b t =
    let o = both (leb (hid f) x && ltb x (infinity (ours f))) (ltb 0 s && ltb s b) t in
    let c = both (ltb 0 s) (ltb s b) o.1 in
    (ltb-true 0 s c.0, ltb-true s b c.1)

module _ {w : Width} {m d : ℕ} (g : High w m d) (z : Float) (F : T (fits w.format z)) (e : ℕ) {j k : ℕ}
    (J : j ≡ (to_bits w.format z + e * hid w.format % (2 * top w.format)) % (2 * top w.format))
    (I : k ≡ (j + (2 * top w.format - hid w.format)) % (2 * top w.format)) where
  abbrev f : Format
  f = w.format

  abbrev y : ℕ
  y = to_bits w.format z

  sum_is : j ≡ (y + e * hid f) % (2 * top f)
  sum_is = J ∙ wraps f y (e * hid f)

  sum-word : j < 2 * top f
  sum-word = subst (λ (n : ℕ). n < 2 * top f) (sym sum_is) (mod-lt (y + e * hid f) (some f))

  pub coded-normal : k < top f - hid f → Number (raised_of w z e) → j ≡ to_bits f (raised_of w z e)
  coded-normal h n = let l = normal-by f j k sum-word I h in raised-word g z e j sum_is l.0 l.1 n

  module _ (h : top w.format - hid w.format ≤ k) where
    pub coded-scaled : {i : ℤ} → i ≡ sub_ℕ e (whole w) → mul f z (power i) ≡ raised_of w z e
    coded-scaled q = raised-scaled g z e j sum_is q (outside-by f j k sum-word I h)

    pub coded-lowered : e < 8 * (emax f + 1) → (s b : ℕ) → b ≤ 64 → (s + (y / hid f + e)) % (2 * top f) ≡ whole w + 1
        → ((leb (hid f) y && ltb y (infinity (ours f))) && (ltb 0 s && ltb s b)) ≡ true
        → (hid f + y % hid f + (2 ^ (s - 1) - 1 + (hid f + y % hid f) / 2 ^ s % 2)) / 2 ^ s ≡ to_bits f (raised_of w z e)
    coded-lowered l s b B i t =
        let o = both (leb (hid f) y && ltb y (infinity (ours f))) (ltb 0 s && ltb s b) t in
        let n = both (leb (hid f) y) (ltb y (infinity (ours f))) o.0 in
        let c = lost-some f y s b t in
        let u : y < infinity (ours f) = ltb-true y (infinity (ours f)) n.1 in
        raised-lowered g z e j sum_is (outside-by f j k sum-word I h) F s (leb-true (hid f) y n.0) u c.0
        (lost-is f y e s u l (lt_of_lt_of_le c.1 B) i)
