-- The size of a float by its word: 1 is U units, the field emax + k begins at 2 ^ k of them, and a word below that field is a smaller number.
use mathlib.Core.Path.{◌≡◌, refl, sym, ap, ◌∙◌, subst}
use Prim.Native.Nat.{ℕ, zero, suc, ◌+◌, ◌-◌, ◌*◌, ◌/◌, ◌%◌, ◌^◌, ◌≤◌, ◌<◌, zero-le}
use native.Mathlib.Nat.{suc-le-suc_iff, le_trans, le_of_eq, lt_of_le_of_lt, lt_of_lt_of_le, mul-one, mul_assoc, mul-le-mul_right, mul-le-mul_left}
use native.Mathlib.Nat.{mul-lt-mul_of_pos_right, mul-pos, zero-lt-suc, mod-eq_of_lt, mod-lt, div-add-mod', div-lt_iff_lt-mul, le_of_mul-le-mul_right}
use native.Mathlib.Nat.{le-add_right, pow-succ'}
use native.Mathlib.Omega.{arith}
use mathlib.Core.Bool.{Bool, false, not}
use lib.Dec.{T, leb, ltb, leb→le, ltb→lt, nltb→le, nleb→lt, not_T, lit≤, lit<}
use lib.Pow.{pow_pos, pow-add, pow_mono}
use lib.Ieee.{Float, Format, binary32, binary64, prec, emax, hid, ones, top, of_bits, to_bits}
use lib.Ieee.Bits.{is_false}
use borrow.Author.Tests.{ltb-false}
use Rattle.words.specs.Format.{units_at}
use Rattle.bounds.proofs.Formats.{one}
use Rattle.bounds.proofs.Signed.{sign, mag, Num}
use Rattle.bounds.proofs.Within.{U}
use Rattle.bounds.proofs.Words.{word_of, placed}
use Rattle.bounds.proofs.Measured.{Whole}
use Rattle.bounds.proofs.Exp.{Between}
use Rattle.bounds.proofs.Choice.{choose}

-- ---- small laws of whole numbers
pub double-left : (a q : ℕ) → a * (2 * q) ≡ 2 * a * q
double-left a q = omega arith

pub no-times : (x c : ℕ) → x ≡ 0 * c + x
no-times x c = omega arith

-- ---- the numbers of the two formats
pub hid-pos : (f : Format) → 0 < hid f
hid-pos f = pow_pos (prec f - 1)

pub top_pos : (f : Format) → 0 < top f
top_pos f = mul-pos (hid-pos f) (zero-lt-suc (ones f))

pub unit-is : (f : Format) → U f ≡ hid f * 2 ^ (emax f - 1)
unit-is binary32 = refl
unit-is binary64 = refl

unit-double : (f : Format) → 2 * U f ≡ hid f * 2 ^ emax f
unit-double binary32 = refl
unit-double binary64 = refl

-- half of a unit's power of two
pub power-half : (f : Format) → 2 ^ (emax f - 1) ≡ 2 * 2 ^ (emax f - 2)
power-half binary32 = refl
power-half binary64 = refl

pub power-large : (f : Format) → 2 ^ 100 ≤ 2 ^ (emax f - 2)
power-large binary32 = lit≤ tt
power-large binary64 = lit≤ tt

pub unit-half : (f : Format) → U f ≡ 2 * hid f * 2 ^ (emax f - 2)
unit-half f = unit-is f ∙ ap (λ (z : ℕ). hid f * z) (power-half f) ∙ double-left (hid f) (2 ^ (emax f - 2))

pub emax-least : (f : Format) → 2 ≤ emax f
emax-least binary32 = lit≤ tt
emax-least binary64 = lit≤ tt

pub emax-suc : (f : Format) → emax f ≡ suc (emax f - 1)
emax-suc binary32 = refl
emax-suc binary64 = refl

pub emax-range : (f : Format) → (2 ^ 7 ≤ suc (emax f)) × (suc (emax f) ≤ 2 ^ 10)
emax-range binary32 = (lit≤ tt, lit≤ tt)
emax-range binary64 = (lit≤ tt, lit≤ tt)

pub emax-field : (f : Format) → suc (emax f) < ones f
emax-field binary32 = lit< tt
emax-field binary64 = lit< tt

pub ones-most : (f : Format) → suc (ones f) ≤ 2 ^ 11
ones-most binary32 = lit≤ tt
ones-most binary64 = lit≤ tt

-- ---- fields about 1's
pub field-half : (f : Format) (t : ℕ) → units_at (hid f) (emax f - 1) t ≡ (hid f + t) * 2 ^ (emax f - 2)
field-half binary32 t = refl
field-half binary64 t = refl

pub field-one : (f : Format) (t : ℕ) → units_at (hid f) (emax f) t ≡ (hid f + t) * 2 ^ (emax f - 1)
field-one binary32 t = refl
field-one binary64 t = refl

pub field-two : (f : Format) (t : ℕ) → units_at (hid f) (suc (emax f)) t ≡ (hid f + t) * (2 * 2 ^ (emax f - 1))
field-two binary32 t = refl
field-two binary64 t = refl

-- a word of a field X and digits t, as n times q units
pub at_field : (f : Format) (w X t q n : ℕ) → w ≡ X * hid f + t → t < hid f → X < ones f → units_at (hid f) X t ≡ n * q → Whole f q n (of_bits f w)
at_field f w X t q n e h k s =
    let v : ℕ = 0 * top f + (X * hid f + t) in
    let p = placed f w 0 X t (e ∙ no-times (X * hid f + t) (top f)) h k in
    let off : leb (top f) v ≡ false = is_false (leb (top f) v) (not_T (leb (top f) v) (λ c. clash X (ones f) (hid f) t k h (leb→le (top f) v c))) in
    record { num = p.num; sgn = p.sgn ∙ off; siz = p.mag ∙ s }
  where
    clash : (X o h t : ℕ) → X < o → t < h → h * suc o ≤ 0 * (h * suc o) + (X * h + t) → ⊥
    clash X o h t a b k = omega (arith, b, k, mul-le-mul_right h a)

-- ---- a field bounds the size, and the size the field
pub size-under : (h X t : ℕ) → t < h → units_at h X t < h * 2 ^ X
size-under h zero t l = lt_of_lt_of_le l (le_of_eq (sym (mul-one h)))
size-under h (suc X) t l = fin h t (2 ^ X) (2 ^ suc X) (pow-succ' 2 X) l (pow_pos X)
  where
    fin : (h t p q : ℕ) → q ≡ 2 * p → t < h → 0 < p → (h + t) * p < h * q
    fin h t p q e l k = omega (arith, ap (λ (z : ℕ). h * z) e, mul-lt-mul_of_pos_right l k)

pub units-at : (f : Format) (k : ℕ) → hid f * 2 ^ (emax f - 1 + k) ≡ U f * 2 ^ k
units-at f k = rw (pow-add 2 (emax f - 1) k, unit-is f) (sym (mul_assoc (hid f) (2 ^ (emax f - 1)) (2 ^ k)))

-- a word m below the field emax + k is below 2 ^ k
pub size_below : (f : Format) (m k : ℕ) → m < (emax f + k) * hid f → units_at (hid f) (m / hid f) (m % hid f) < U f * 2 ^ k
size_below f m k l =
    lt_of_lt_of_le (size-under (hid f) (m / hid f) (m % hid f) (mod-lt m (hid-pos f)))
    (le_trans (mul-le-mul_left (hid f) (pow_mono (less (m / hid f) (emax f) k (emax-least f) ((div-lt_iff_lt-mul (hid-pos f)).1 l)))) (le_of_eq (units-at f k)))
  where
    less : (X e k : ℕ) → 2 ≤ e → X < e + k → X ≤ e - 1 + k
    less X e k a b = omega arith

-- a size below hid * 2 ^ k has a field of k at most
pub field-most : (h X t k : ℕ) → units_at h X t < h * 2 ^ k → X ≤ k
field-most h zero t k l = zero-le
field-most h (suc X) t k l = choose (ltb X k) (λ c. ltb→lt X k c) (λ c. absurd (clash (h * 2 ^ k) (h * 2 ^ X) ((h + t) * 2 ^ X)
    (mul-le-mul_left h (pow_mono (nltb→le X k c))) (mul-le-mul_right (2 ^ X) (le-add_right h t)) l))
  where
    clash : (a b c : ℕ) → a ≤ b → b ≤ c → c < a → ⊥
    clash a b c p q r = omega arith

-- a word whose high part is l at most
pub high-most : (b l m : ℕ) → ltb l (m / 2 ^ b) ≡ false → m < suc l * 2 ^ b
high-most b l m e = (div-lt_iff_lt-mul (pow_pos b)).0 (suc-le-suc_iff.1 (ltb-false l (m / 2 ^ b) e))

-- ---- the word of a positive number: it is its own magnitude, and its field and digits give the size
pub record Positive (f : Format) (z : Float) : Type 0 where
  pub below : to_bits f z < top f
  pub size : mag f z ≡ units_at (hid f) (to_bits f z / hid f) (to_bits f z % hid f)

pub positive-word : (f : Format) (z : Float) → Num f z → sign z ≡ false → Positive f z
positive-word f z n s =
    let w = word_of f z n in
    let l : to_bits f z < top f = nleb→lt (top f) (to_bits f z) (subst (λ (b : Bool). T (not b)) (sym s ∙ w.sgn) tt) in
    record { below = l; size = w.mag ∙ ap (λ (m : ℕ). units_at (hid f) (m / hid f) (m % hid f)) (mod-eq_of_lt l) }

-- below 2 the field is emax at most
pub between-word : (f : Format) (z : Float) → Between f z → to_bits f z < suc (emax f) * hid f
between-word f z b =
    let x = to_bits f z in
    let s = (positive-word f z b.num b.sgn).size in
    let X = field-most (hid f) (x / hid f) (x % hid f) (emax f) (lt_of_le_of_lt (le_of_eq (sym s)) (lt_of_lt_of_le b.hi (le_of_eq (unit-double f)))) in
    (div-lt_iff_lt-mul (hid-pos f)).0 (suc-le-suc_iff.1 X)

-- and up to 1 it is 1's word at most
pub word-one : (f : Format) (z : Float) → Between f z → mag f z ≤ U f → to_bits f z ≤ one f
word-one f z b h =
    choose (ltb X (emax f)) (λ c. below X (emax f) (hid f) t x is (mod-lt x (hid-pos f)) (mul-le-mul_right (hid f) (ltb→lt X (emax f) c)))
    (λ c.
    let e : X ≡ emax f = same X (emax f) (nltb→le X (emax f) c) ((div-lt_iff_lt-mul (hid-pos f)).1 (between-word f z b)) in
    let s : mag f z ≡ (hid f + t) * 2 ^ (emax f - 1) = (positive-word f z b.num b.sgn).size ∙ ap (λ (y : ℕ). units_at (hid f) y t) e ∙ field-one f t in
    at (hid f) t (emax f) X x is e (le_of_mul-le-mul_right (le_trans (le_of_eq (sym s)) (le_trans h (le_of_eq (unit-is f)))) (pow_pos (emax f - 1))))
  where
    x : ℕ
    x = to_bits f z

    X : ℕ
    X = x / hid f

    t : ℕ
    t = x % hid f

    is : X * hid f + t ≡ x
    is = div-add-mod' x (hid f)

    below : (X e h t x : ℕ) → X * h + t ≡ x → t < h → suc X * h ≤ e * h → x ≤ e * h
    below X e h t x a b c = omega arith

    same : (X e : ℕ) → e ≤ X → X < suc e → X ≡ e
    same X e a b = omega arith

    at : (h t e X x : ℕ) → X * h + t ≡ x → X ≡ e → h + t ≤ h → x ≤ e * h
    at h t e X x a b c = omega (arith, a, c, ap (λ (z : ℕ). z * h) b)
