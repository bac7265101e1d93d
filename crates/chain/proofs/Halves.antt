-- A number z in range: its size is below 2 * (emax + 1).
-- By its high word: past that of a half z is a half at least and has a nearest whole number, below it z is less than a half, and up to it about a half at most.
use mathlib.Core.Path.{◌≡◌, refl, sym, ap, ◌∙◌, subst}
use Prim.Native.Nat.{ℕ, suc, ◌+◌, ◌-◌, ◌*◌, ◌/◌, ◌%◌, ◌^◌, ◌≤◌, ◌<◌}
use native.Mathlib.Nat.{le_trans, le_of_eq, le_of_lt, lt_of_le_of_lt, lt_of_lt_of_le, le-add_right}
use native.Mathlib.Nat.{mul_comm, mul-le-mul_left, lt_of_mul-lt-mul_right}
use native.Mathlib.Nat.{div-add-mod', mod-lt, div-lt_iff_lt-mul, le-div_iff_mul-le, zero-mul, add-sub_of_le}
use native.Mathlib.Nat.{mul-le-mul_right, mul-div_cancel, mul-mod_left, pow-succ', le_antisymm}
use native.Mathlib.Omega.{arith}
use mathlib.Core.Bool.{Bool, true, false}
use lib.Dec.{T, leb, ltb, leb→le, le→leb, ltb→lt, nltb→le}
use lib.Pow.{pow_pos, pow_mono}
use lib.Ieee.{Float, Format, emax, hid, ones, top, to_bits}
use lib.Ieee.Bits.{is_true, of_bits-to_bits}
use Rattle.words.specs.Format.{units_at}
use Rattle.power.specs.Width.{Width}
use Rattle.power.specs.Chain.{nearest_of}
use Rattle.bounds.proofs.Signed.{sign, mag, Num}
use Rattle.bounds.proofs.Within.{U, Within}
use Rattle.bounds.proofs.Words.{Placed, placed, rem, word_of}
use Rattle.bounds.proofs.Choice.{choose}
use Rattle.chain.proofs.Known.{Known}
use Rattle.chain.proofs.Sizes.{top_pos, emax-least, unit-half, size_below, size-under}
use Rattle.chain.proofs.HighWord.{in-places, whole_word, in-hid, field-size}
use Rattle.chain.proofs.NearestWhole.{Rounded, nearest-whole}

module _ (w : Width) (K : Known w) where
  abbrev f : Format
  f = w.format

  abbrev B : ℕ
  B = 2 ^ w.below

  abbrev g : ℕ
  g = 2 ^ K.high

  abbrev o : ℕ
  o = suc (ones w.format)

  abbrev s : ℕ
  s = top w.format / 2 ^ w.below

  -- the magnitude of the word of a z in range, and the size it bounds: 2 * (emax + 1)
  abbrev pub Limited : Float → Type 0
  Limited z = to_bits f z % top f < (emax f + suc K.e) * hid f

  pub range-below : (z : Float) → Num f z → Limited z → mag f z < U f * o
  range-below z n l =
      lt_of_le_of_lt (le_of_eq (word_of f z n).mag)
      (lt_of_lt_of_le (size_below f (to_bits f z % top f) (suc K.e) l)
      (le_of_eq (ap (λ (y : ℕ). U f * y) (pow-succ' 2 K.e ∙ ap (λ (y : ℕ). 2 * y) (sym K.e-is) ∙ re (emax f)))))
    where
      re : (m : ℕ) → 2 * suc m ≡ suc (2 * m + 1)
      re m = omega arith

  -- ---- z's word in places: the sign's, the field F, and the digits D of which r are in the high word
  module _ (z : Float) (zn : Num f z) (small : Limited z) where
    abbrev x : ℕ
    x = to_bits w.format z

    abbrev j : ℕ
    j = to_bits w.format z / 2 ^ w.below

    abbrev v : ℕ
    v = j % s

    abbrev F : ℕ
    F = v / g

    abbrev r : ℕ
    r = v % g

    abbrev D : ℕ
    D = r * B + x % B

    rl : r < g
    rl = mod-lt v (pow_pos K.high)

    ll : x % B < B
    ll = mod-lt x (pow_pos w.below)

    s-is : s ≡ g * o
    s-is = K.top-hid ∙ ap (λ (h : ℕ). h * o) K.high_is

    s-pos : 0 < s
    s-pos = lt_of_mul-lt-mul_right B (lt_of_le_of_lt (le_of_eq (zero-mul B)) (lt_of_lt_of_le (top_pos f) (le_of_eq (sym K.top-high))))

    j-is : j ≡ j / s * (g * o) + (F * g + r)
    j-is = sym (div-add-mod' j s) ∙ ap (λ (y : ℕ). j / s * y + v) s-is ∙ ap (λ (y : ℕ). j / s * (g * o) + y) (sym (div-add-mod' v g))

    x-is : x ≡ (j / s * (g * o) + (F * g + r)) * B + x % B
    x-is = sym (div-add-mod' x B) ∙ ap (λ (y : ℕ). y * B + x % B) j-is

    x-places : x ≡ j / s * top f + (F * hid f + D)
    x-places = x-is ∙ whole_word w K (j / s) F r (x % B)

    D-in : D < hid f
    D-in = in-hid w K r (x % B) rl ll

    F-below : F < emax f + suc K.e
    F-below = lt_of_mul-lt-mul_right (hid f) (lt_of_le_of_lt (le_trans (le-add_right (F * hid f) D) (le_of_eq (sym size))) small)
      where
        Fo : F < o
        Fo = lt_of_mul-lt-mul_right g (lt_of_le_of_lt (le_trans (le-add_right (F * g) r) (le_of_eq (div-add-mod' v g)))
            (lt_of_lt_of_le (mod-lt j s-pos) (le_of_eq (s-is ∙ mul_comm g o))))

        size : x % top f ≡ F * hid f + D
        size = ap (λ (y : ℕ). y % top f) x-places
            ∙ rem (j / s) (top f) (F * hid f + D) (lt_of_lt_of_le (in-places F o (hid f) D D-in Fo) (le_of_eq (mul_comm o (hid f))))

    z-placed : Placed f (j / s) F D z
    z-placed = subst (λ (y : Float). Placed f (j / s) F D y) (of_bits-to_bits f z zn.fits) (placed f x (j / s) F D x-places D-in Fo)
      where
        Fo : F < ones f
        Fo = lt_of_lt_of_le F-below (fin (emax f) K.e K.high K.e-most K.high-most)
          where
            fin : (m e l : ℕ) → suc e ≤ l → 2 + l ≤ m → m + suc e ≤ 2 * m + 1
            fin m e l b c = omega arith

    -- the high word shows the sign
    pub high-sign : leb s j ≡ sign z
    high-sign = alike (leb s j) (leb (top f) x) (λ a. le→leb (top f) x (le_trans (le_of_eq (sym K.top-high)) ((le-div_iff_mul-le (pow_pos w.below)).0 (leb→le s j a))))
        (λ a. le→leb s j ((le-div_iff_mul-le (pow_pos w.below)).1 (le_trans (le_of_eq K.top-high) (leb→le (top f) x a))))
        ∙ sym (word_of f z zn).sgn
      where
        alike : (a b : Bool) → (T a → T b) → (T b → T a) → a ≡ b
        alike true b p q = sym (is_true b (p tt))
        alike false true p q = absurd (q tt)
        alike false false p q = refl

    -- past a half: the chain's whole number, and the size
    module _ (past : (emax f - 1) * g < v) where
      least : emax f - 1 ≤ F
      least = (le-div_iff_mul-le (pow_pos K.high)).1 (le_of_lt past)

      F-is : F ≡ emax f - 1 + (F - (emax f - 1))
      F-is = sym (add-sub_of_le least)

      pub nearest-is : Rounded f z (nearest_of w j)
      nearest-is =
          subst (λ (y : ℕ). Rounded f z (nearest_of w y)) (sym j-is)
          (nearest-whole w K z zn F (F - (emax f - 1)) r (x % B) (j / s) (most F (emax f) K.e K.high F-below K.e-most) F-is rl ll x-is)
        where
          most : (F m e L : ℕ) → F < m + suc e → suc e ≤ L → F - (m - 1) ≤ L
          most F m e L a b = omega arith

      pub half-least : U f ≤ 2 * mag f z
      half-least =
          let k = F - (emax f - 1) in
          fin (mag f z) (hid f) D (2 ^ (emax f - 2)) (2 ^ k) (U f) (z-placed.mag ∙ field-size w K k D F F-is) (unit-half f)
          (mul-le-mul_left (hid f * 2 ^ (emax f - 2)) (pow_pos k))
        where
          fin : (m h d q k u : ℕ) → m ≡ (h + d) * (q * k) → u ≡ 2 * h * q → h * q * 1 ≤ h * q * k → u ≤ 2 * m
          fin m h d q k u a b c = omega arith

    -- below a half
    pub half-most : v < (emax f - 1) * g → 2 * mag f z ≤ U f
    half-most l =
        fin (mag f z) (hid f) (2 ^ (emax f - 2)) (U f) (lt_of_le_of_lt (le_of_eq z-placed.mag) (lt_of_lt_of_le (size-under (hid f) F D D-in)
        (mul-le-mul_left (hid f) (pow_mono (less F (emax f) ((div-lt_iff_lt-mul (pow_pos K.high)).1 l)))))) (unit-half f)
      where
        less : (F m : ℕ) → F < m - 1 → F ≤ m - 2
        less F m h = omega arith

        fin : (m h q u : ℕ) → m < h * q → u ≡ 2 * h * q → 2 * m ≤ u
        fin m h q u a b = omega arith

    -- up to a half, but for the digits below the high word
    pub half-about : v ≤ (emax f - 1) * g → Within f (U f) 600000000 z
    half-about h = record {
      num = zn;
      le = choose (ltb v ((emax f - 1) * g)) (λ c. below (mag f z) (U f) (half-most (ltb→lt v ((emax f - 1) * g) c)))
          (λ c. at (le_antisymm h (nltb→le v ((emax f - 1) * g) c)));
    }
      where
        below : (a u : ℕ) → 2 * a ≤ u → 2 ^ 30 * a ≤ 600000000 * u
        below a u h = omega arith

        at : v ≡ (emax f - 1) * g → 2 ^ 30 * mag f z ≤ 600000000 * U f
        at e =
            fin (mag f z) (hid f) r B (x % B) (2 ^ (emax f - 2)) (U f)
            (z-placed.mag ∙ ap (λ (y : ℕ). units_at (hid f) y D) (ap (λ (y : ℕ). y / g) e ∙ mul-div_cancel (emax f - 1) (pow_pos K.high) ∙ one_less (emax f) (emax-least f)))
            (ap (λ (y : ℕ). y % g) e ∙ mul-mod_left (emax f - 1) g) ll K.below-most (unit-half f)
          where
            one_less : (m : ℕ) → 2 ≤ m → m - 1 ≡ suc (m - 2)
            one_less m h = omega arith

            fin : (m h r b lo q u : ℕ) → m ≡ (h + (r * b + lo)) * q → r ≡ 0 → lo < b → b * 2 ^ 11 ≤ h → u ≡ 2 * h * q → 2 ^ 30 * m ≤ 600000000 * u
            fin m h r b lo q u s a c d e = omega (arith, s, e, mul-le-mul_right q d, mul-le-mul_right q (le_of_lt c), ap (λ (y : ℕ). y * (b * q)) a)
