-- Rule 5's operations on x with the other sign: 1 / x changes its sign, x * x is the same.
use mathlib.Core.Path.{◌≡◌, sym, ap, ◌∙◌}
use Prim.Native.Nat.{ℕ, ◌+◌, ◌≤◌}
use native.Mathlib.Nat.{le_trans, le_of_eq, lt_of_le_of_lt, mod-eq_of_lt}
use mathlib.Core.Bool.{false}
use lib.IntN.{pos}
use lib.Ieee.{Float, fin, Format, top, mul, div, neg, is_nan, of_bits, to_bits}
use lib.Ieee.Fits.{div-fits}
use Rattle.words.specs.Format.{infinity, ours}
use Rattle.words.proofs.Words.{infinity-below}
use Rattle.power.specs.Sorting.{over, square}
use Rattle.bounds.proofs.Words.{nan-not}
use Rattle.bounds.proofs.RoundedProducts.{mul-swap}
use Rattle.power.proofs.Nan.{one-is, div-number}
use Rattle.sign.specs.Sign.{flipped}
use Rattle.sign.proofs.Negated.{neg-mul, neg-div, neg-neg, neg_bits, neg_word}

pub over-flips : (f : Format) (m : ℕ) → m ≤ infinity (ours f) → over f (top f + m) ≡ flipped (ours f) (over f m)
unfolding over
over-flips f m h =
    let v = of_bits f m in
    let u = fin false 1 (pos 0) in
    let n : is_nan v ≡ false = nan-not f m (le_trans (le_of_eq (mod-eq_of_lt (lt_of_le_of_lt h (infinity-below (ours f))))) h) in
    ap (λ (x : Float). to_bits f (div f x (of_bits f (top f + m)))) (one-is f) ∙ ap (λ (x : Float). to_bits f (div f u x)) (neg_word f m h)
    ∙ ap (to_bits f) (neg-div f false 0 (pos 0) v) ∙ neg_bits f (div f u v) (div-fits f u v) (div-number f false 0 (pos 0) v n)
    ∙ ap (λ (x : Float). flipped (ours f) (to_bits f (div f x v))) (sym (one-is f))

pub square-keeps : (f : Format) (m : ℕ) → m ≤ infinity (ours f) → square f (top f + m) ≡ square f m
unfolding square
square-keeps f m h =
    let v = of_bits f m in
    ap (λ (x : Float). to_bits f (mul f x x)) (neg_word f m h)
    ∙ ap (to_bits f) (neg-mul f v (neg v) ∙ ap neg (mul-swap f v (neg v) ∙ neg-mul f v v) ∙ neg-neg (mul f v v))
