-- Demand 2 for root and scaling: of every word the answer is what IEEE 754 says, rounded once to nearest even. Proved once over the format. Assumes nothing.
use Prim.Native.Nat.{ℕ, ◌*◌, ◌^◌, ◌≤◌, ◌<◌}
use mathlib.Core.Path.{◌≡◌, sym, ◌∙◌}
use native.Mathlib.Nat.{lt_of_lt_of_le, lt_of_le_of_lt, mod-eq_of_lt, mod-le}
use native.Mathlib.Omega.{arith}
use lib.IntN.{ℤ}
use lib.Ieee.{up, down}
use lib.Ieee.Fits.{down_pos}
use borrow.Author.Tests.{ltb-true, leb-true}
use Rattle.words.specs.Format.{Format, binary16, binary32, binary64, top, infinity, magnitude, units}
use Rattle.words.specs.Rounding.{rounded}
use Rattle.words.proofs.Words.{infinity-some, infinity-below}
use Rattle.words.proofs.Nearest.{rounded-is-nearest}
use Rattle.root.specs.Root.{root_word}
use Rattle.root.proofs.Words.{Fine, root-zero, root-nan, root-infinity}
use Rattle.root.proofs.Sentences.{root-nearest}
use Rattle.scale.specs.Scale.{scaled}
use Rattle.scale.proofs.Scaled.{scaled-nan, scaled-infinity, scaled-finite, scaled-zero}
use Rattle.claims.specs.Operations.{SquareRoot, ScaleB}

-- a word above its own size's largest value, infinity, is no zero
not-zero-above : (i m : ℕ) → i < m → ¬ (m ≡ 0)
not-zero-above i m h = λ e. omega arith

module _ (f : Format) (g : Fine f) (small : f.digits ≤ 60) (P : 2 ≤ f.digits) (x : ℕ) (X : x < 2 * top f) where
  -- without its sign a word is no larger
  magnitude-le : magnitude f x ≤ x
  magnitude-le = mod-le x (top f)

  square-root : SquareRoot f x (root_word f x)
  square-root = record {
    of_zero = root-zero f x;
    of_nan = λ n. let h = ltb-true (infinity f) (magnitude f x) n in root-nan f x (not-zero-above (infinity f) (magnitude f x) h) (lt_of_lt_of_le h magnitude-le);
    of_negative = λ s z. root-nan f x z (lt_of_lt_of_le (infinity-below f) (leb-true (top f) x s));
    of-infinity = λ e. root-infinity f x (λ z. not-zero-above 0 (infinity f) (infinity-some f) (sym e ∙ sym (mod-eq_of_lt (lt_of_le_of_lt (at_most x (infinity f) e) (infinity-below f))) ∙ z)) e;
    of-finite = λ some below. root-nearest f x g small some below P;
  }
    where
      at_most : (a b : ℕ) → a ≡ b → a ≤ b
      at_most a b e = omega arith

module _ (f : Format) (P : 2 ≤ f.digits) (E : 1 ≤ f.emax) (x : ℕ) (X : x < 2 * top f) (n : ℤ) where
  scale-b : ScaleB f x n (scaled f x n)
  scale-b = record {
    of_nan = λ h. sym (scaled-nan f x n (ltb-true (infinity f) (magnitude f x) h));
    of-infinity = scaled-infinity f x n;
    of-finite = λ h. (rounded f (units f (magnitude f x) * up n) (down n), scaled-finite f x n h, rounded-is-nearest f (units f (magnitude f x) * up n) (down n) P E (down_pos n));
    of_zero = scaled-zero f x n (omega arith) X;
  }

-- ---- at each width

-- request 7 holds lists of f16_sqrt to it too
pub request-7-root-16 : (x : ℕ) → x < 2 ^ 16 → SquareRoot binary16 x (root_word binary16 x)
request-7-root-16 x X = square-root binary16 (omega arith) (omega arith) (omega arith) x X

pub demand-2-root-32 : (x : ℕ) → x < 2 ^ 32 → SquareRoot binary32 x (root_word binary32 x)
demand-2-root-32 x X = square-root binary32 (omega arith) (omega arith) (omega arith) x X

pub demand-2-root-64 : (x : ℕ) → x < 2 ^ 64 → SquareRoot binary64 x (root_word binary64 x)
demand-2-root-64 x X = square-root binary64 (omega arith) (omega arith) (omega arith) x X

pub demand-2-scaling-32 : (x : ℕ) (n : ℤ) → x < 2 ^ 32 → ScaleB binary32 x n (scaled binary32 x n)
demand-2-scaling-32 x n X = scale-b binary32 (omega arith) (omega arith) x X n

pub demand-2-scaling-64 : (x : ℕ) (n : ℤ) → x < 2 ^ 64 → ScaleB binary64 x n (scaled binary64 x n)
demand-2-scaling-64 x n X = scale-b binary64 (omega arith) (omega arith) x X n
