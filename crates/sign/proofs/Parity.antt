-- Odd and whole numbers: among the words that the rules name, and against the chain's limits.
use mathlib.Core.Path.{◌≡◌, refl, sym, ◌∙◌}
use Prim.Native.Nat.{ℕ, ◌+◌, ◌*◌, ◌/◌, ◌%◌, ◌^◌, ◌<◌}
use native.Mathlib.Nat.{lt_of_lt_of_le, div-lt_iff_lt-mul, le_of_suc-le-suc}
use mathlib.Core.Bool.{Bool, true, false, ◌&&◌, cond, true≢false}
use lib.Dec.{ltb, eqb, ltb→lt, nltb→le}
use lib.Pow.{pow_pos}
use lib.Ieee.{Format, binary32, binary64, prec, emax, hid, top}
use borrow.Author.Tests.{le-ltb}
use Rattle.words.specs.Format.{one, infinity, magnitude, units, ours}
use Rattle.words.specs.Format as Words
use Rattle.words.specs.Rounding.{Held}
use Rattle.words.proofs.Words.{infinity-below}
use Rattle.power.specs.Numbers.{whole, odd}
use Rattle.power.specs.Width.{Width}
use Rattle.power.specs.Sorting.{two_word, half_word, turned}
use Rattle.power.proofs.Numbers.{kind-large}
use Rattle.power.proofs.Words.{held32, held64}
use Rattle.bounds.proofs.Choice.{choose}
use Rattle.chain.proofs.Known.{Known}
use Rattle.chain.proofs.Sizes.{top_pos, hid-pos}

pub odd-whole : (f : Words.Format) (m : ℕ) → odd f m ≡ true → whole f m ≡ true
unfolding odd
odd-whole f m e = go (whole f m) (eqb (units f m / 2 ^ Words.low f % 2) 1) e
  where
    go : (a b : Bool) → a && b ≡ true → a ≡ true
    go true b e = refl
    go false b e = e

-- ---- what the rules name: 0 and 2 are not odd, 1 and -1 are, 0.5 is not whole
pub record Parities (f : Format) : Type 0 where
  pub zero-even : odd (ours f) 0 ≡ false
  pub one-odd : odd (ours f) (magnitude (ours f) (one (ours f))) ≡ true
  pub minus-odd : odd (ours f) (magnitude (ours f) (top f + one (ours f))) ≡ true
  pub two-even : odd (ours f) (magnitude (ours f) (two_word (ours f))) ≡ false
  pub half-part : whole (ours f) (magnitude (ours f) (half_word (ours f))) ≡ false

pub parities : (f : Format) → Parities f
unfolding odd whole units
parities binary32 = record { zero-even = refl; one-odd = refl; minus-odd = refl; two-even = refl; half-part = refl }
parities binary64 = record { zero-even = refl; one-odd = refl; minus-odd = refl; two-even = refl; half-part = refl }

-- ---- an odd number is below 2 ^ prec, and so not past `must`
held : (f : Format) → Held (prec f) (emax f)
held binary32 = held32
held binary64 = held64

odd-below : (f : Format) (m : ℕ) → odd (ours f) m ≡ true → m < (emax f + prec f) * hid f
odd-below f m o = choose (ltb (m / hid f) (emax f + prec f)) (λ t. (div-lt_iff_lt-mul (hid-pos f)).0 (ltb→lt (m / hid f) (emax f + prec f) t))
    (λ t. absurd (true≢false (sym o ∙ (kind-large (ours f) m (held f) (nltb→le (m / hid f) (emax f + prec f) t)).1)))

pub odd-must : (w : Width) → Known w → (m : ℕ) → odd (ours w.format) m ≡ true → ltb w.must (m / 2 ^ w.below) ≡ false
odd-must w K m o = le-ltb w.must (m / 2 ^ w.below)
    (le_of_suc-le-suc ((div-lt_iff_lt-mul (pow_pos w.below)).1 (lt_of_lt_of_le (odd-below w.format m o) K.must-least)))

-- ---- rule 6's size is a size
pub turned-below : (f : Format) (m : ℕ) (down : Bool) → m < top f → turned (ours f) m down < top f
unfolding turned
turned-below f m down h = pick down (pick (eqb m 0) (infinity-below (ours f)) (pick (eqb m (infinity (ours f))) (top_pos f) h)) h
  where
    pick : (b : Bool) {x y : ℕ} → x < top f → y < top f → cond b x y < top f
    pick true p q = p
    pick false p q = q
