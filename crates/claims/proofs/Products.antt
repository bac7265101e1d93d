-- Power's rule 5: 1 / x and x * x are each a single IEEE 754 operation, rounded once to nearest even. Once over the format. Assumes nothing.
use Prim.Native.Nat.{ℕ, ◌*◌, ◌^◌, ◌≤◌, ◌<◌}
use mathlib.Core.Path.{◌≡◌, refl, ap, ◌∙◌}
use mathlib.Core.Bool.{Bool, true, false}
use lib.Dec.{lit≤}
use lib.Pow.{pow_pos}
use lib.Ieee as Ieee
use lib.Ieee.{unlike}
use Rattle.words.specs.Format.{Format, low, infinity, one, magnitude, negative, signed, units, ours}
use Rattle.words.specs.Rounding.{rounded}
use Rattle.words.proofs.Nearest.{rounded-is-nearest}
use Rattle.words.proofs.Products.{product_is, quotient_is}
use Rattle.power.specs.Sorting.{over, square}
use Rattle.claims.specs.Operations.{Reciprocal, Square}

-- what is used of the two formats
digits : (f : Ieee.Format) → 2 ≤ (ours f).digits
digits Ieee.binary32 = lit≤ tt
digits Ieee.binary64 = lit≤ tt

exponents : (f : Ieee.Format) → 1 ≤ (ours f).emax
exponents Ieee.binary32 = lit≤ tt
exponents Ieee.binary64 = lit≤ tt

-- 1's word: positive and finite, of 2 ^ low units
one-finite : (f : Ieee.Format) → magnitude (ours f) (one (ours f)) < infinity (ours f)
one-finite Ieee.binary32 = lit≤ tt
one-finite Ieee.binary64 = lit≤ tt

one-positive : (f : Ieee.Format) → negative (ours f) (one (ours f)) ≡ false
one-positive Ieee.binary32 = refl
one-positive Ieee.binary64 = refl

one-units : (f : Ieee.Format) → units (ours f) (magnitude (ours f) (one (ours f))) ≡ 2 ^ low (ours f)
unfolding units
one-units Ieee.binary32 = refl
one-units Ieee.binary64 = refl

same_sign : (s : Bool) → unlike s s ≡ false
same_sign true = refl
same_sign false = refl

plain-sign : (s : Bool) → unlike false s ≡ s
plain-sign true = refl
plain-sign false = refl

module _ (f : Ieee.Format) (x : ℕ) (X : magnitude (ours f) x < infinity (ours f)) where
  abbrev u : ℕ
  u = units (ours f) (magnitude (ours f) x)

  pub reciprocal-once : 0 < u → Reciprocal (ours f) x (over f x)
  unfolding over
  reciprocal-once some = record {
    size = rounded (ours f) (2 ^ low (ours f) * 2 ^ low (ours f)) u;
    word =
        quotient_is f (one (ours f)) x (one-finite f) X some
        ∙ (λ i. signed (ours f) (unlike (one-positive f i) (negative (ours f) x)) (rounded (ours f) (one-units f i * 2 ^ low (ours f)) u))
        ∙ ap (λ (s : Bool). signed (ours f) s (rounded (ours f) (2 ^ low (ours f) * 2 ^ low (ours f)) u)) (plain-sign (negative (ours f) x));
    nearest = rounded-is-nearest (ours f) (2 ^ low (ours f) * 2 ^ low (ours f)) u (digits f) (exponents f) some;
  }

  pub square-once : Square (ours f) x (square f x)
  unfolding square
  square-once = record {
    size = rounded (ours f) (u * u) (2 ^ low (ours f));
    word = product_is f x x X X ∙ ap (λ (s : Bool). signed (ours f) s (rounded (ours f) (u * u) (2 ^ low (ours f)))) (same_sign (negative (ours f) x));
    nearest = rounded-is-nearest (ours f) (u * u) (2 ^ low (ours f)) (digits f) (exponents f) (pow_pos (low (ours f)));
  }
