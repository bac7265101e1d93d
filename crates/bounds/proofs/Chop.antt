-- A float without the lowest digits of its word, its leading part: the same sign, no larger, and how near it stays. By the places of the word.
use mathlib.Core.Path.{◌≡◌, sym, ap, ◌∙◌, subst}
use Prim.Native.Nat.{ℕ, zero, suc, ◌+◌, ◌-◌, ◌*◌, ◌/◌, ◌%◌, ◌^◌, ◌≤◌, ◌<◌}
use native.Mathlib.Nat.{le_refl, le_trans, le_of_eq, le_of_lt, lt_of_le_of_lt, le-add_right, add-le-add, zero-lt-suc}
use native.Mathlib.Nat.{mul-pos, mul-le-mul_left, mul-le-mul_right, le_of_mul-le-mul_right}
use native.Mathlib.Nat.{div-add-mod', mod-lt, lt-mul-div-succ, div-lt_iff_lt-mul, div-mul-le_self}
use native.Mathlib.Omega.{arith}
use lib.Dec.{T, leb, lit≤}
use lib.Pow.{pow-add, pow_pos}
use lib.Ieee.{Float, Format, binary32, binary64, prec, hid, ones, top, of_bits, to_bits}
use lib.Ieee.Bits.{of_bits-to_bits}
use lib.Ieee.Scale.{finite}
use Rattle.bounds.proofs.Signed.{sign, mag, plus, minus, Num}
use Rattle.bounds.proofs.Within.{Scale, Within, Off}
use Rattle.bounds.proofs.Words.{Word, finite-word, word_of, digits_of, same_sign, Placed, placed}
use Rattle.bounds.proofs.Split.{off-alike}
use Rattle.words.specs.Format.{units_at}

-- x without the j lowest digits of its word
abbrev pub leading : Format → ℕ → Float → Float
leading f j x = of_bits f (to_bits f x / 2 ^ j * 2 ^ j)

-- r is a leading part of x, with the g highest digits after the first
pub record Chopped (f : Format) (g : ℕ) (x r : Float) : Type 0 where
  pub num : Num f r
  pub sgn : sign r ≡ sign x
  pub le : mag f r ≤ mag f x
  pub ge : 2 ^ g * mag f x ≤ 2 ^ g * mag f r + mag f x + hid f

-- ---- the word's places: the sign q, the field X and the digits t, of which c are kept
pub chopped : (f : Format) (d g : ℕ) (x : Float) → d + g ≡ prec f - 1 → Num f x → Chopped f g x (leading f d x)
chopped f d g x e h =
    record {
      num = p.num;
      sgn = p.sgn ∙ same_sign q (top f) m (X * hid f + c * 2 ^ d) (mod-lt b top_pos) below_top ∙ ap (leb (top f)) word-places ∙ sym w.sgn;
      le = le_trans (le_of_eq p.mag) (le_trans (lower X) (le_of_eq (sym w.mag)));
      ge =
          subst (λ (z : ℕ). 2 ^ g * z ≤ 2 ^ g * mag f (leading f d x) + z + hid f) (sym w.mag)
          (subst (λ (z : ℕ). 2 ^ g * units_at (hid f) X t ≤ 2 ^ g * z + units_at (hid f) X t + hid f) (sym p.mag) (upper X));
    }
  where
    b : ℕ
    b = to_bits f x

    w : Word f b x
    w = word_of f x h

    m : ℕ
    m = b % top f

    q : ℕ
    q = b / top f

    X : ℕ
    X = m / hid f

    t : ℕ
    t = m % hid f

    c : ℕ
    c = t / 2 ^ d

    r : ℕ
    r = t % 2 ^ d

    hid-pos : 0 < hid f
    hid-pos = pow_pos (prec f - 1)

    top_pos : 0 < top f
    top_pos = mul-pos hid-pos (zero-lt-suc (ones f))

    word-places : q * top f + m ≡ b
    word-places = div-add-mod' b (top f)

    size-places : X * hid f + t ≡ m
    size-places = div-add-mod' m (hid f)

    digit-places : c * 2 ^ d + r ≡ t
    digit-places = div-add-mod' t (2 ^ d)

    hid-is : 2 ^ d * 2 ^ g ≡ hid f
    hid-is = sym (pow-add 2 d g) ∙ ap (λ (z : ℕ). 2 ^ z) e

    kept-le : c * 2 ^ d ≤ t
    kept-le = div-mul-le_self t (2 ^ d)

    below_top : X * hid f + c * 2 ^ d < top f
    below_top = lt_of_le_of_lt (le_trans (add-le-add (le_refl (X * hid f)) kept-le) (le_of_eq size-places)) (mod-lt b top_pos)

    field : X < ones f
    field = (div-lt_iff_lt-mul hid-pos).1 (finite-word f b (subst (λ (v : Float). T (finite v)) (sym (of_bits-to_bits f x h.fits)) h.finite))

    word-is : b / 2 ^ d * 2 ^ d ≡ q * top f + (X * hid f + c * 2 ^ d)
    word-is =
        ap (λ (z : ℕ). z / 2 ^ d * 2 ^ d)
        (sym word-places ∙ ap (λ (z : ℕ). q * top f + z) (sym size-places) ∙ ap (λ (z : ℕ). q * top f + (X * hid f + z)) (sym digit-places))
        ∙ ap (λ (z : ℕ). (q * (z * suc (ones f)) + (X * z + (c * 2 ^ d + r))) / 2 ^ d * 2 ^ d) (sym hid-is)
        ∙ digits_of q X c r (suc (ones f)) (2 ^ g) (2 ^ d) (mod-lt t (pow_pos d))
        ∙ ap (λ (z : ℕ). q * (z * suc (ones f)) + (X * z + c * 2 ^ d)) hid-is

    p : Placed f q X (c * 2 ^ d) (leading f d x)
    p = placed f (b / 2 ^ d * 2 ^ d) q X (c * 2 ^ d) word-is (lt_of_le_of_lt kept-le (mod-lt m hid-pos)) field

    lower : (X : ℕ) → units_at (hid f) X (c * 2 ^ d) ≤ units_at (hid f) X t
    lower zero = kept-le
    lower (suc X) = mul-le-mul_right (2 ^ X) (add-le-add (le_refl (hid f)) kept-le)

    upper : (X : ℕ) → 2 ^ g * units_at (hid f) X t ≤ 2 ^ g * units_at (hid f) X (c * 2 ^ d) + units_at (hid f) X t + hid f
    upper zero = fin (2 ^ g) (2 ^ d) t (c * 2 ^ d) r (hid f) digit-places (mod-lt t (pow_pos d)) hid-is
      where
        fin : (g d t a r h : ℕ) → a + r ≡ t → r < d → d * g ≡ h → g * t ≤ g * a + t + h
        fin g d t a r h e l k = omega (arith, ap (λ (z : ℕ). g * z) e, mul-le-mul_right g (le_of_lt l), k)
    upper (suc X) = fin (2 ^ g) (2 ^ d) t (c * 2 ^ d) r (hid f) (2 ^ X) digit-places (mod-lt t (pow_pos d)) hid-is
      where
        fin : (g d t a r h x : ℕ) → a + r ≡ t → r < d → d * g ≡ h → g * ((h + t) * x) ≤ g * ((h + a) * x) + (h + t) * x + h
        fin g d t a r h x e l k =
            omega (arith, ap (λ (z : ℕ). g * (z * x)) e, mul-le-mul_right x (mul-le-mul_right g (le_of_lt l)), ap (λ (z : ℕ). z * x) k)

-- ---- as bounds
pub w-chop : {f : Format} {S c : ℕ} (d g : ℕ) {x : Float} → d + g ≡ prec f - 1 → Within f S c x → Within f S c (leading f d x)
w-chop {f} {S} {c} d g {x} e h =
    let k = chopped f d g x e h.num in
    record { num = k.num; le = le_trans (mul-le-mul_left (2 ^ 30) k.le) h.le }

pub hid-most : (f : Format) → hid f ≤ 2 ^ 52
hid-most binary32 = lit≤ tt
hid-most binary64 = lit≤ tt

pub hid-scale : {f : Format} {S : ℕ} → Scale f S → 2 ^ 30 * hid f ≤ S
hid-scale {f} s = le_trans (mul-le-mul_left (2 ^ 30) (hid-most f)) (le_trans (lit≤ tt) s.least)

-- what is cut off is at most c / 2 ^ g of S, and a unit of it
cut_off : (G a b h c S : ℕ) → 0 < G → G * a ≤ G * b + a + h → 2 ^ 30 * a ≤ c * S → 2 ^ 30 * h ≤ S → 2 ^ 30 * a ≤ 2 ^ 30 * b + (c / G + 1) * S
cut_off G a b h c S P k n t = le_of_mul-le-mul_right (fin (c / G) (mul-le-mul_right S (lt-mul-div-succ c P))) P
  where
    fin : (q : ℕ) → suc c * S ≤ G * (q + 1) * S → 2 ^ 30 * a * G ≤ (2 ^ 30 * b + (q + 1) * S) * G
    fin q u = omega (arith, u, k, n, t)

pub o-chop : {f : Format} {S c : ℕ} (d g : ℕ) {x : Float} → d + g ≡ prec f - 1 → Scale f S → Within f S c x
    → Off f S (c / 2 ^ g + 1) (leading f d x) (plus f x) (minus f x)
o-chop {f} {S} {c} d g {x} e s h =
    let k = chopped f d g x e h.num in
    off-alike x (sym k.sgn)
    (cut_off (2 ^ g) (mag f x) (mag f (leading f d x)) (hid f) c S (pow_pos g) k.ge h.le (hid-scale s))
    (le_trans (mul-le-mul_left (2 ^ 30) k.le) (le-add_right _ _))
