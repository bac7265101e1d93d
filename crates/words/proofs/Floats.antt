-- Words and floats: what float a word stands for, and which is the NaN. Assumes nothing.
use mathlib.Core.Path.{◌≡◌, refl, sym, ap, ◌∙◌, subst}
use Prim.Native.Nat.{ℕ, zero, suc, ◌+◌, ◌-◌, ◌*◌, ◌/◌, ◌%◌, ◌^◌, ◌≤◌, ◌<◌}
use native.Mathlib.Nat.{mul-one, lt_of_mul-lt-mul_right, mul-div_cancel, mul-mod_left, mod-mod_of_dvd, dvd-mul_right, mod-eq_of_lt, div-add-mod', le-add_right, lt_of_le_of_lt, le_of_eq}
use native.Mathlib.Omega.{arith}
use mathlib.Core.Bool.{Bool, true, false, not, cond}
use lib.Dec.{T, leb, ltb, eqb, lt→ltb, eqb→eq, not_T}
use lib.Arith.{le→nltb}
use lib.Pow.{pow_pos}
use lib.Ieee as Ieee
use lib.Ieee.{Float, nan, inf, fin, Format, binary32, binary64, prec, emax, low, hid, ones, top, odd, is_nan, nan_bits, of_bits, of_fields, to_bits, ne}
use lib.Ieee.Fits.{eq→eqb}
use lib.Ieee.Bits.{is_true, cond_no, nan_bits_is, nan_bits_above}
use lib.Ieee.Compare.{differs_from_itself, nan_differs}
use lib.Ieee.Exact.{HasValue, odd_sign}
use borrow.Author.Tests.{le-ltb}
use Rattle.words.specs.Format.{infinity, quiet, units_at, units, ours}
use Rattle.words.proofs.Words.{infinity-below}

-- ---- three kinds of words, by the magnitude: a NaN's
nan-only : (x : Float) → is_nan x ≡ true → x ≡ nan
unfolding is_nan
nan-only nan e = refl
nan-only (inf s) e = absurd (subst T (sym e) tt)
nan-only (fin s m d) e = absurd (subst T (sym e) tt)

pub nan-of-bits : (f : Format) (w : ℕ) → nan_bits f w ≡ true → of_bits f w ≡ nan
nan-of-bits f w e = nan-only (of_bits f w) (sym (nan_bits_is f w) ∙ e)

pub word-nan : (f : Format) (w : ℕ) → infinity (ours f) < w % top f → of_bits f w ≡ nan
word-nan f w h = nan-only (of_bits f w) (sym (nan_bits_is f w) ∙ nan_bits_above f w ∙ is_true (ltb (ones f * hid f) (w % top f)) (lt→ltb (ones f * hid f) (w % top f) h))

pub below_number : (f : Format) (w : ℕ) → w ≤ infinity (ours f) → nan_bits f w ≡ false
below_number f w h =
    nan_bits_above f w ∙ ap (ltb (ones f * hid f)) (mod-eq_of_lt (lt_of_le_of_lt h (infinity-below (ours f)))) ∙ le-ltb (ones f * hid f) w h

pub word_number : (f : Format) (w : ℕ) → w % top f ≤ infinity (ours f) → T (not (nan_bits f w))
word_number f w h = subst (λ (b : Bool). T (not b)) (sym (nan_bits_above f w)) (le→nltb (ones f * hid f) (w % top f) h)

-- ---- an infinity's
pub fields : (f : Format) (w : ℕ) → of_bits f w ≡ of_fields f (leb (top f) w) (w % top f / hid f) (w % top f % hid f)
unfolding of_bits
fields f w = ap (λ (t : ℕ). of_fields f (leb (top f) w) (w % top f / hid f) t) (sym (mod-mod_of_dvd (hid f) w (dvd-mul_right (hid f) (suc (ones f)))))

at_ones : (f : Format) (s : Bool) (x : ℕ) → x ≡ ones f → of_fields f s x 0 ≡ inf s
unfolding of_fields
at_ones f s zero e = absurd (no (emax f) e)
  where
    no : (e : ℕ) → 0 ≡ 2 * e + 1 → ⊥
    no e h = omega arith
at_ones f s (suc x) e = ap (λ (b : Bool). cond b (cond (eqb 0 0) (inf s) nan) (odd (prec f) s (hid f + 0) x (low f))) (is_true (eqb (suc x) (ones f)) (eq→eqb e))

pub word-inf : (f : Format) (w : ℕ) → w % top f ≡ infinity (ours f) → of_bits f w ≡ inf (leb (top f) w)
word-inf f w e =
    let s = leb (top f) w in
    fields f w
    ∙ ap (λ (m : ℕ). of_fields f s (m / hid f) (m % hid f)) e
    ∙ ap (λ (t : ℕ). of_fields f s (ones f * hid f / hid f) t) (mul-mod_left (ones f) (hid f))
    ∙ at_ones f s (ones f * hid f / hid f) (mul-div_cancel (ones f) (pow_pos (prec f - 1)))

-- ---- a finite number's: it has the sign, and the magnitude's units
pub under_ones : (f : Format) (s : Bool) (t x : ℕ) → suc x < ones f → of_fields f s (suc x) t ≡ odd (prec f) s (hid f + t) x (low f)
unfolding of_fields
under_ones f s t x h = cond_no (eqb (suc x) (ones f)) (cond (eqb t 0) (inf s) nan) (odd (prec f) s (hid f + t) x (low f)) (not_T (eqb (suc x) (ones f)) (λ (u : T (eqb (suc x) (ones f))). differ (suc x) (ones f) h (eqb→eq (suc x) (ones f) u)))
  where
    differ : (a b : ℕ) → a < b → a ≡ b → ⊥
    differ a b l e = omega arith

fields-val : (f : Format) (s : Bool) (x t : ℕ) → x * hid f + t < infinity (ours f) → HasValue (of_fields f s x t) s (units_at (hid f) x t) (2 ^ low f)
unfolding of_fields
fields-val f s zero t h = subst (λ (a : ℕ). HasValue (odd (prec f) s t 0 (low f)) s a (2 ^ low f)) (mul-one t) (odd_sign (prec f) s t 0 (low f))
fields-val f s (suc x) t h =
    subst (λ (v : Float). HasValue v s ((hid f + t) * 2 ^ x) (2 ^ low f)) (sym (under_ones f s t x (lt_of_mul-lt-mul_right (hid f) (lt_of_le_of_lt (le-add_right (suc x * hid f) t) h))))
    (odd_sign (prec f) s (hid f + t) x (low f))

pub word-val : (f : Format) (w : ℕ) → w % top f < infinity (ours f) → HasValue (of_bits f w) (leb (top f) w) (units (ours f) (w % top f)) (2 ^ low f)
unfolding units
word-val f w h =
    let m = w % top f in
    subst (λ (v : Float). HasValue v (leb (top f) w) (units_at (hid f) (m / hid f) (m % hid f)) (2 ^ low f)) (sym (fields f w))
    (fields-val f (leb (top f) w) (m / hid f) (m % hid f) (lt_of_le_of_lt (le_of_eq (div-add-mod' m (hid f))) h))

-- ---- the NaN: a float that differs from itself, and zero by zero
pub equal-number : (x : Float) → ne x x ≡ false → T (not (is_nan x))
unfolding is_nan
equal-number nan e = absurd (subst T (sym nan_differs ∙ e) tt)
equal-number (inf s) e = tt
equal-number (fin s m d) e = tt

pub to_bits_nan : (f : Format) → to_bits f nan ≡ quiet (ours f)
unfolding to_bits
to_bits_nan f = refl

pub differs-nan : (f : Format) (x : Float) → ne x x ≡ true → quiet (ours f) ≡ to_bits f x
differs-nan f x e = sym (ap (to_bits f) (differs_from_itself x (subst T (sym e) tt)) ∙ to_bits_nan f)

pub zero_by_zero : (f : Format) → Ieee.div f (of_bits f 0) (of_bits f 0) ≡ nan
unfolding Ieee.div of_bits of_fields odd
zero_by_zero binary32 = refl
zero_by_zero binary64 = refl
