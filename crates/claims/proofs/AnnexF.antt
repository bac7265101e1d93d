-- Demand 2 for power: its settled pairs are Annex F's, where that is silent document 01's, and its open pairs the Rust's chain. Put together from the laws of `power`. Assumes nothing.
use Prim.Native.Nat.{ℕ, ◌≤◌, ◌<◌}
use mathlib.Core.Path.{◌≡◌, refl, ap, ◌∙◌}
use mathlib.Core.Bool.{Bool, true, false, cond}
use native.Mathlib.Nat.{le_of_lt}
use lib.Dec.{lit≤, eqb}
use lib.Ieee as Ieee
use borrow.Author.Tests.{ne_eqb}
use Rattle.words.specs.Format.{infinity, one, magnitude, signed, ours}
use Rattle.power.specs.Width.{Width}
use Rattle.power.specs.Power.{single, double, pow_of}
use Rattle.power.specs.Sorting.{sorted}
use Rattle.power.specs.Chain.{open_of}
use Rattle.power.proofs.Edges as Edges
use Rattle.power.proofs.AnnexF as Laws
use Rattle.power.proofs.Silent as Silence
use Rattle.claims.specs.AnnexF.{AnnexF, Silent, Finite}

-- the size of a zero with either sign, below that of 1
zero-inside : (f : Ieee.Format) (s : Bool) → magnitude (ours f) (signed (ours f) s 0) < one (ours f)
zero-inside Ieee.binary32 true = lit≤ tt
zero-inside Ieee.binary32 false = lit≤ tt
zero-inside Ieee.binary64 true = lit≤ tt
zero-inside Ieee.binary64 false = lit≤ tt

module _ (w : Width) where
  finite : (y : ℕ) → Finite w y → Edges.Finite w.format y
  finite y h = record { some = h.0; below = h.1 }

  annex-f : AnnexF w
  annex-f = record {
    zero-odd-below = λ s y h o n. Laws.zero-odd-below w s y (finite y h) o n;
    zero-below = λ s y h o n. Laws.zero-even-below w s y (finite y h) o n;
    zero-minus-infinity = λ s y e n. Laws.inside w (signed (ours w.format) s 0) y e (zero-inside w.format s) ∙ ap (λ (b : Bool). cond b (infinity (ours w.format)) 0) n;
    zero-odd-above = λ s y h o n. Laws.zero-odd-above w s y (finite y h) o n;
    zero-above = λ s y h o n. Laws.zero-even-above w s y (finite y h) o n;
    zero-plus-infinity = λ s y e n. Laws.inside w (signed (ours w.format) s 0) y e (zero-inside w.format s) ∙ ap (λ (b : Bool). cond b (infinity (ours w.format)) 0) n;
    minus-one-infinite = λ y e. Laws.minus-one-infinite w y e;
    one-any = λ y. Laws.of_one w y;
    any-zero = λ x y e. Laws.to-zero w x y e;
    negative-not-whole = λ x y hx n hy k. Laws.below-zero w x y n (finite x hx) (finite y hy) k;
    inside-infinite = λ x y l e. Laws.inside w x y e l;
    outside-infinite = λ x y l h e. Laws.outside w x y e l h;
    infinity-odd-below = λ s y h o n. Laws.infinity-odd-below w s y (finite y h) o n;
    infinity-below = λ s y h o n. Laws.infinity-even-below w s y (finite y h) o n;
    infinity-odd-above = λ s y h o n. Laws.infinity-odd-above w s y (finite y h) o n;
    infinity-above = λ s y h o n. Laws.infinity-even-above w s y (finite y h) o n;
  }

  silent : Silent w
  silent = record {
    to_one = λ x h n. Silence.to_one w x (not-one x n) (le_of_lt h.1);
    to-minus-one = λ x h n. Silence.to-minus-one w x (not-one x n) (le_of_lt h.1);
    to-two = λ x h n. Silence.to-two w x (not-one x n) (le_of_lt h.1);
    to-half = λ x h n s. Silence.to-half w x (not-one x n) (le_of_lt h.1) s;
    minus-one-whole = λ y h k. Silence.minus-one-whole w y (finite y h) k;
  }
    where
      not-one : (x : ℕ) → ¬ (x ≡ one (ours w.format)) → eqb x (one (ours w.format)) ≡ false
      not-one x n = ne_eqb x (one (ours w.format)) n

-- ---- at each width

pub demand-2-annex-f-32 : AnnexF single
demand-2-annex-f-32 = annex-f single

pub demand-2-annex-f-64 : AnnexF double
demand-2-annex-f-64 = annex-f double

pub demand-2-silent-32 : Silent single
demand-2-silent-32 = silent single

pub demand-2-silent-64 : Silent double
demand-2-silent-64 = silent double

-- The power is the sorting's word where the pair is settled, and the Rust's chain of float operations, written out in power/specs/Chain.antt, where it is open.
pub demand-2-power : (w : Width) (x y : ℕ) → pow_of w x y ≡ sorted (λ r. r) (open_of w x y) w.format x y
unfolding pow_of
demand-2-power w x y = refl
