-- Pairs that pass rules 1 to 6, for either sign of x: the power of m, and of top + m to a whole y, is the open power of m, with the sign that y's parity gives.
use mathlib.Core.Path.{◌≡◌, sym, ap, ◌∙◌}
use mathlib.Core.Logic.{inr}
use Prim.Native.Nat.{ℕ, ◌+◌, ◌≤◌, ◌<◌}
use native.Mathlib.Nat.{le_trans, le_of_eq, le_of_lt, lt_of_le_of_lt, mod-eq_of_lt}
use native.Mathlib.Omega.{arith}
use mathlib.Core.Bool.{Bool, true, false, not, cond}
use lib.Dec.{lit<}
use lib.Ieee.{Format, binary32, binary64, top, to_bits}
use borrow.Author.Tests.{ne_eqb, lt-leb}
use Rattle.words.specs.Format.{one, infinity, magnitude, negative, ours}
use Rattle.words.specs.Format as Words
use Rattle.words.proofs.Words.{infinity-below}
use Rattle.power.specs.Numbers.{whole, odd}
use Rattle.power.specs.Width.{Width}
use Rattle.power.specs.Sorting.{two_word, half_word, on_edge, sorted6, sorted7}
use Rattle.power.specs.Chain.{open_of}
use Rattle.power.specs.Power.{pow_of}
use Rattle.power.proofs.Rules.{past4, past5, past-plus, past-minus}
use Rattle.power.proofs.Edges.{Finite}
use Rattle.chain.proofs.Open.{signed_one, answer, open_is}
use Rattle.sign.proofs.Flipped.{minus-size, minus-sign}

-- ---- a size m up to infinity's, without the sign and with it
module _ (f : Format) (m : ℕ) (hm : m ≤ infinity (ours f)) where
  pub below_top : m < top f
  below_top = lt_of_le_of_lt hm (infinity-below (ours f))

  pub plus-number : magnitude (ours f) m ≤ infinity (ours f)
  plus-number = le_trans (le_of_eq (mod-eq_of_lt below_top)) hm

  pub minus_number : magnitude (ours f) (top f + m) ≤ infinity (ours f)
  minus_number = le_trans (le_of_eq (minus-size (ours f) m below_top)) hm

  pub minus-no-one : top f + m ≡ one (ours f) → ⊥
  minus-no-one e = no (top f) m (one (ours f)) (one_below f) e
    where
      one_below : (f : Format) → one (ours f) < top f
      one_below binary32 = lit< tt
      one_below binary64 = lit< tt

      no : (c m o : ℕ) → o < c → c + m ≡ o → ⊥
      no c m o h e = omega arith

-- ---- y is none of rule 5's, and m none of rule 6's
pub record Open (f : Format) (m y : ℕ) : Type 0 where
  pub no-infinity : m ≡ infinity (ours f) → ⊥
  pub no_zero : m ≡ 0 → ⊥
  pub no_one : m ≡ one (ours f) → ⊥
  pub to_one : y ≡ one (ours f) → ⊥
  pub to-minus : y ≡ top f + one (ours f) → ⊥
  pub to-two : y ≡ two_word (ours f) → ⊥
  pub to-half : y ≡ half_word (ours f) → ⊥

module _ (w : Width) (m y : ℕ) (hm : m ≤ infinity (ours w.format)) (h : Finite w.format y) (o : Open w.format m y) where
  abbrev f : Format
  f = w.format

  abbrev g : Words.Format
  g = ours w.format

  abbrev iy : ℕ
  iy = magnitude (ours w.format) y

  -- past rules 1 to 5
  reach : (x : ℕ) → (x ≡ one g → ⊥) → magnitude g x ≤ infinity g
      → pow_of w x y ≡ sorted6 (λ r. r) (open_of w x y) g (magnitude g x) (negative g x) iy (negative g y)
  unfolding pow_of
  reach x ne n =
      sym (past5 (λ r. r) (open_of w x y) f x y o.to_one o.to-minus o.to-two (inr o.to-half)
      ∙ past4 (λ r. r) (open_of w x y) f x y (λ (e : iy ≡ 0). some iy h.some e) ne n (le_of_lt h.below)
      (λ (e : iy ≡ infinity g). less iy (infinity g) h.below e))
    where
      some : (n : ℕ) → 0 < n → n ≡ 0 → ⊥
      some n a b = omega arith

      less : (a b : ℕ) → a < b → a ≡ b → ⊥
      less a b h e = omega arith

  -- and past rule 6
  off-edge : on_edge g m ≡ false
  off-edge = rw (ne_eqb m (infinity g) o.no-infinity, ne_eqb m 0 o.no_zero) (ne_eqb m (one g) o.no_one)

  size-plus : magnitude g m ≡ m
  size-plus = mod-eq_of_lt (below_top f m hm)

  size-minus : magnitude g (top f + m) ≡ m
  size-minus = minus-size g m (below_top f m hm)

  pub open-plus : pow_of w m y ≡ open_of w m y false
  open-plus =
      reach m o.no_one (plus-number f m hm)
      ∙ sym (past-plus (λ r. r) (open_of w m y) g (magnitude g m) (negative g m) iy (negative g y) (ap (on_edge g) size-plus ∙ off-edge)
      (lt-leb (top f) m (below_top f m hm)))

  -- the open chain reads the size of x alone
  same_size : (s : Bool) → open_of w (top f + m) y s ≡ open_of w m y s
  same_size s = open_is w (top f + m) y s ∙ ap (λ (z : ℕ). to_bits f (answer w z y (signed_one s))) (size-minus ∙ sym size-plus) ∙ sym (open_is w m y s)

  pub open-minus : whole g iy ≡ true → pow_of w (top f + m) y ≡ open_of w m y (odd g iy)
  unfolding sorted7
  open-minus k =
      let x = top f + m in
      reach x (minus-no-one f m hm) (minus_number f m hm)
      ∙ sym (past-minus (λ r. r) (open_of w x y) g (magnitude g x) (negative g x) iy (negative g y) (ap (on_edge g) size-minus ∙ off-edge) (minus-sign g m))
      ∙ ap (λ (t : Bool). cond (not t) (Words.quiet g) (open_of w x y (odd g iy))) k ∙ same_size (odd g iy)
