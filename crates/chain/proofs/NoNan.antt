-- Where no NaN arises: a finite float, a product with a finite factor that is not 0, and the words of 1 and -1.
use mathlib.Core.Path.{◌≡◌, refl, ap, ◌∙◌}
use Prim.Native.Nat.{zero, suc, ◌*◌}
use mathlib.Core.Bool.{Bool, true, false, cond}
use lib.Dec.{T, eqb-suc-zero}
use lib.IntN.{pos}
use lib.Ieee.{Float, nan, inf, fin, Format, binary32, binary64, up, down, unlike, mul, is_nan, of_bits}
use lib.Ieee.Scale.{finite}
use Rattle.words.specs.Format.{signed, ours}
use Rattle.scale.proofs.Powers.{round_number}
use Rattle.bounds.proofs.Formats.{one}
use Rattle.bounds.proofs.RoundedProducts.{mul-swap}

-- ---- a finite float
pub finite_number : (x : Float) → T (finite x) → is_nan x ≡ false
unfolding is_nan
finite_number nan h = absurd h
finite_number (inf s) h = absurd h
finite_number (fin s m e) h = refl

-- ---- a product
-- finite and not 0
unfoldable pub proper : Float → Bool
proper nan = false
proper (inf s) = false
proper (fin s zero e) = false
proper (fin s (suc m) e) = true

pub proper-number : (f : Format) (x y : Float) → T (proper x) → is_nan y ≡ false → is_nan (mul f x y) ≡ false
unfolding proper mul is_nan
proper-number f nan y p h = absurd p
proper-number f (inf s) y p h = absurd p
proper-number f (fin s zero e) y p h = absurd p
proper-number f (fin s (suc m) e) nan p h = h
proper-number f (fin s (suc m) e) (inf t) p h = ap (λ (b : Bool). is_nan (cond b nan (inf (unlike s t)))) (eqb-suc-zero m)
proper-number f (fin s (suc m) e) (fin t n d) p h = round_number f (unlike s t) (suc m * up e * (n * up d)) (down e * down d)

-- a twice, in the order of the chain's answers out of range: (a * c) * c
pub twice-number : (f : Format) (a c : Float) → is_nan a ≡ false → T (proper c) → is_nan (mul f (mul f a c) c) ≡ false
twice-number f a c n p = by (mul f a c) (by a n)
  where
    by : (x : Float) → is_nan x ≡ false → is_nan (mul f x c) ≡ false
    by x h = ap is_nan (mul-swap f x c) ∙ proper-number f c x p h

-- ---- 1 and -1
pub signed-one-is : (f : Format) (s : Bool) → of_bits f (signed (ours f) s (one f)) ≡ fin s 1 (pos 0)
unfolding of_bits
signed-one-is binary32 true = refl
signed-one-is binary32 false = refl
signed-one-is binary64 true = refl
signed-one-is binary64 false = refl
