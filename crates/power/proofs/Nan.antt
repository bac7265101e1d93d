-- A NaN goes through every operation of the chain, a leading part keeps a number a number, and rule 5's operations make no NaN of a number. Assumes nothing.
use Prim.Native.Nat.{ℕ, suc, ◌+◌, ◌*◌, ◌/◌, ◌%◌, ◌^◌, ◌≤◌}
use mathlib.Core.Path.{◌≡◌, refl, sym, ap, ◌∙◌, subst, subst⁻¹}
use mathlib.Core.Bool.{Bool, true, false, not, cond}
use native.Mathlib.Nat.{le_trans}
use lib.Dec.{T, eqb, eqb-suc-zero}
use lib.IntN.{ℤ, pos}
use lib.Ieee.{Float, Format, binary32, binary64, nan, inf, fin, unlike, up, down, round, add, sub, mul, div, neg, to_bits, of_bits, fits, is_nan, nan_bits, hid, ones, top}
use lib.Ieee.Fits.{mul-fits, div-fits}
use lib.Ieee.Bits.{of_bits-to_bits, nan_bits_is, nan_bits_above}
use borrow.Author.Tests.{ltb-false}
use Rattle.words.specs.Format.{one, is_nan_word, ours}
use Rattle.words.proofs.Floats.{word_number}
use Rattle.scale.proofs.Powers.{round_number}
use Rattle.power.specs.Sorting.{over, square}
use Rattle.power.proofs.Words.{chopped}
use Rattle.power.specs.Chain.{chop}
use Rattle.power.specs.NoNan.{Number}
use Rattle.power.specs.Power.{single, double}

pub add-nan-l : (f : Format) (y : Float) → add f nan y ≡ nan
unfolding add
add-nan-l f y = refl

pub add-nan-r : (f : Format) (x : Float) → add f x nan ≡ nan
unfolding add
add-nan-r f nan = refl
add-nan-r f (inf s) = refl
add-nan-r f (fin s m e) = refl

pub sub-nan-l : (f : Format) (y : Float) → sub f nan y ≡ nan
unfolding sub add
sub-nan-l f y = refl

pub sub-nan-r : (f : Format) (x : Float) → sub f x nan ≡ nan
unfolding sub neg
sub-nan-r f x = add-nan-r f x

pub mul-nan-l : (f : Format) (y : Float) → mul f nan y ≡ nan
unfolding mul
mul-nan-l f y = refl

pub mul-nan-r : (f : Format) (x : Float) → mul f x nan ≡ nan
unfolding mul
mul-nan-r f nan = refl
mul-nan-r f (inf s) = refl
mul-nan-r f (fin s m e) = refl

pub div-nan-l : (f : Format) (y : Float) → div f nan y ≡ nan
unfolding div
div-nan-l f y = refl

-- ---- the leading part of a NaN, at each width's two lengths

pub short32 : chop single 12 nan ≡ nan
unfolding chop to_bits of_bits
short32 = refl

pub shorter32 : chop single 15 nan ≡ nan
unfolding chop to_bits of_bits
shorter32 = refl

pub short64 : chop double 32 nan ≡ nan
unfolding chop to_bits of_bits
short64 = refl

-- ---- the leading part of a number

pub is_number : (x : Float) → Number x → T (not (is_nan x))
is_number x n = subst (λ (b : Bool). T (not b)) (sym n) tt

number_word : (f : Format) (x : Float) → T (fits f x) → Number x → to_bits f x % top f ≤ ones f * hid f
number_word f x h n =
    ltb-false (ones f * hid f) (to_bits f x % top f) (sym (nan_bits_above f (to_bits f x)) ∙ nan_bits_is f (to_bits f x) ∙ ap is_nan (of_bits-to_bits f x h) ∙ n)

-- it is no NaN's word; `top f` is a power of two
pub leading-number : (f : Format) (j d : ℕ) (x : Float) → top f ≡ 2 ^ (j + d) → T (fits f x) → Number x → T (not (nan_bits f (to_bits f x / 2 ^ d * 2 ^ d)))
leading-number f j d x t h n =
    word_number f (to_bits f x / 2 ^ d * 2 ^ d)
    (le_trans (subst⁻¹ (λ (m : ℕ). (to_bits f x / 2 ^ d * 2 ^ d) % m ≤ to_bits f x % m) t (chopped j d (to_bits f x))) (number_word f x h n))

-- ---- rule 5's operations: 1 / x and x * x of a number's word are a number's

-- a float that is no NaN has no NaN's word, and the other way round
pub number-bits : (f : Format) (v : Float) → T (fits f v) → is_nan v ≡ false → is_nan_word (ours f) (to_bits f v) ≡ false
number-bits f v h n = sym (nan_bits_above f (to_bits f v)) ∙ nan_bits_is f (to_bits f v) ∙ ap is_nan (of_bits-to_bits f v h) ∙ n

number-float : (f : Format) (x : ℕ) → is_nan_word (ours f) x ≡ false → is_nan (of_bits f x) ≡ false
number-float f x n = sym (nan_bits_is f x) ∙ nan_bits_above f x ∙ n

pub div-number : (f : Format) (s : Bool) (m : ℕ) (e : ℤ) (y : Float) → is_nan y ≡ false → is_nan (div f (fin s (suc m) e) y) ≡ false
unfolding div is_nan
div-number f s m e nan h = h
div-number f s m e (inf t) h = refl
div-number f s m e (fin t n d) h = by (eqb n 0)
  where
    by : (b : Bool) → is_nan (cond b (cond (eqb (suc m) 0) nan (inf (unlike s t))) (round f (unlike s t) (suc m * up e * down d) (n * up d * down e))) ≡ false
    by true = ap (λ (b : Bool). is_nan (cond b nan (inf (unlike s t)))) (eqb-suc-zero m)
    by false = round_number f (unlike s t) (suc m * up e * down d) (n * up d * down e)

mul-self : (f : Format) (x : Float) → is_nan x ≡ false → is_nan (mul f x x) ≡ false
unfolding mul is_nan
mul-self f nan h = h
mul-self f (inf s) h = refl
mul-self f (fin s m e) h = round_number f (unlike s s) (m * up e * (m * up e)) (down e * down e)

pub one-is : (f : Format) → of_bits f (one (ours f)) ≡ fin false 1 (pos 0)
unfolding of_bits
one-is binary32 = refl
one-is binary64 = refl

pub over-number : (f : Format) (x : ℕ) → is_nan_word (ours f) x ≡ false → is_nan_word (ours f) (over f x) ≡ false
unfolding over
over-number f x n =
    let u = of_bits f (one (ours f)) in
    number-bits f (div f u (of_bits f x)) (div-fits f u (of_bits f x))
    (ap (λ (v : Float). is_nan (div f v (of_bits f x))) (one-is f) ∙ div-number f false 0 (pos 0) (of_bits f x) (number-float f x n))

pub square-number : (f : Format) (x : ℕ) → is_nan_word (ours f) x ≡ false → is_nan_word (ours f) (square f x) ≡ false
unfolding square
square-number f x n = number-bits f (mul f (of_bits f x) (of_bits f x)) (mul-fits f (of_bits f x) (of_bits f x)) (mul-self f (of_bits f x) (number-float f x n))
