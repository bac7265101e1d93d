-- The parts of a word: its sign and its size, and where infinity and the NaN stand. Over any format. Assumes nothing.
use mathlib.Core.Path.{◌≡◌, ap, ◌∙◌}
use Prim.Native.Nat.{ℕ, suc, ◌+◌, ◌-◌, ◌*◌, ◌/◌, ◌%◌, ◌≤◌, ◌<◌}
use native.Mathlib.Nat.{zero-add, mul-pos, mod-eq-sub-mod, mod-eq_of_lt}
use native.Mathlib.Omega.{arith}
use native.Mathlib.Decide.{dec_lt}
use mathlib.Core.Bool.{Bool, cond}
use lib.Dec.{leb}
use lib.Pow.{pow_pos}
use borrow.Author.Tests.{le-leb, lt-leb}
use Rattle.words.specs.Format.{Format, hid, ones, top, infinity, quiet}

pub infinity-some : (f : Format) → 0 < infinity f
infinity-some f = mul-pos (some f.emax) (pow_pos (f.digits - 1))
  where
    some : (e : ℕ) → 0 < 2 * e + 1
    some e = omega arith

pub infinity-below : (f : Format) → infinity f < top f
infinity-below f = go (hid f) (ones f) (pow_pos (f.digits - 1))
  where
    go : (h n : ℕ) → 0 < h → n * h < h * suc n
    go h n p = omega arith

pub quiet-below : (f : Format) → quiet f < top f
quiet-below f = go (hid f) (ones f) (pow_pos (f.digits - 1))
  where
    go : (h n : ℕ) → 0 < h → n * h + h / 2 < h * suc n
    go h n p = omega arith

pub below-fits : (f : Format) (m : ℕ) → m < top f → m < 2 * top f
below-fits f m h = omega arith

-- a word is its sign and its size
pub sign-and-size : (t x : ℕ) → x < 2 * t → cond (leb t x) t 0 + x % t ≡ x
sign-and-size t x h = elim (dec_lt x t) [
  | yes l ↦ ap (λ (b : Bool). cond b t 0 + x % t) (lt-leb t x l) ∙ ap (λ (z : ℕ). 0 + z) (mod-eq_of_lt l) ∙ zero-add x
  | no l ↦ ap (λ (b : Bool). cond b t 0 + x % t) (le-leb t x (at_least l)) ∙ ap (λ (z : ℕ). t + z) (mod-eq-sub-mod (at_least l) ∙ mod-eq_of_lt (small (at_least l))) ∙ back (at_least l)
]
  where
    at_least : ¬ (x < t) → t ≤ x
    at_least l = omega arith

    small : t ≤ x → x - t < t
    small l = omega arith

    back : t ≤ x → t + (x - t) ≡ x
    back l = omega arith
