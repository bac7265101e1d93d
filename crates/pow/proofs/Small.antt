-- Small facts of words, choices and options. Assumes nothing.
use Prim.Native.Nat.{ℕ, ◌/◌, ◌<◌}
use mathlib.Core.Path.{◌≡◌, refl, sym, ◌∙◌, subst}
use mathlib.Core.Bool.{Bool, true, false, not, cond}
use native.Mathlib.Nat.{le_of_lt}
use native.Mathlib.Omega.{arith}
use lib.Ieee.{Format, binary32, binary64, nan_bits, top}
use lib.Ieee.Bits.{nan_bits_above}
use borrow.Author.Tests.{le-ltb}
use Rattle.std.specs.Prelude.{Option, None, Some, IfSome}
use Rattle.power.specs.Width.{Width}
use Rattle.pow.specs.Parts.{of}
use Rattle.words.specs.Format.{infinity, magnitude, ours}

-- a word of the lower half of those without a sign is no NaN's, and neither is one whose size is below infinity's
pub small-number : (f : Format) (n : ℕ) → n < top f / 2 → nan_bits f n ≡ false
small-number binary32 n h = nan_bits_above binary32 n ∙ le-ltb _ _ (omega arith)
small-number binary64 n h = nan_bits_above binary64 n ∙ le-ltb _ _ (omega arith)

pub finite-number : (f : Format) (n : ℕ) → magnitude (ours f) n < infinity (ours f) → nan_bits f n ≡ false
finite-number f n h = nan_bits_above f n ∙ le-ltb _ _ (le_of_lt h)

pub top-some : (f : Format) → 0 < top f
top-some binary32 = omega arith
top-some binary64 = omega arith

pub turned-round : {A : Type 0} (b : Bool) (x y : A) → cond (not b) x y ≡ cond b y x
turned-round true x y = refl
turned-round false x y = refl

-- what holds of an option's value
pub some-is : {A : Type 0} (P : A → Type 0) {o q : Option A} {x : A} → o ≡ Some x → o ≡ q → IfSome q P → P x
some-is {A} P e f h = subst (λ (v : Option A). IfSome v P) (sym f ∙ e) h

pub none-some : {A : Type 0} {x : A} → None ≡ Some x → ⊥
none-some e = cc

-- a width's numbers in its own format are the width's
pub of-is : (f : Format) (w : Width) → w.format ≡ f → of f w ≡ w
of-is f w e = subst (λ (h : Format). of h w ≡ w) e refl
