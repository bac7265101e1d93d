-- The sorting of a power's operands: document 01, "Power", rules 1 to 7 in their order. Definitions only.
-- `settled` and `unsettled` make the answer of a result's word and of an open result's sign, so that the sorting's answer and the power itself have one definition.
use Rattle.std.specs.Prelude.{ℕ, ◌+◌, ◌-◌, Bool, true, false, not, ◌&&◌, ◌||◌, cond, ltb, eqb}
use Rattle.std.specs.Float.Ieee as Ieee
use Rattle.words.specs.Format.{Format, hid, top, infinity, quiet, one, magnitude, negative, is_nan_word, ours}
use Rattle.words.specs.Refusal.{done}
use Rattle.root.specs.Root.{root_word}
use Rattle.power.specs.Numbers.{whole, odd}
use Rattle.power.specs.declared.answer.Sorted.{Sorted}
use Rattle.power.specs.declared.answer.Sorted.TheVariants.{Settled, Open}

-- the words of 2 and 0.5
abbrev pub two_word : Format → ℕ
two_word f = one f + hid f

abbrev pub half_word : Format → ℕ
half_word f = one f - hid f

-- rule 4, y infinite: by the size of x and the sign of y
unfoldable pub at_infinity : Format → ℕ → Bool → ℕ
at_infinity f m down =
    cond (eqb m (one f)) (one f) (cond (ltb (one f) m) (cond down 0 (infinity f)) (cond down (infinity f) 0))

-- rule 5: 1 / x and x * x, one IEEE 754 operation each
unfoldable pub over : Ieee.Format → ℕ → ℕ
over f x = Ieee.to_bits f (Ieee.div f (Ieee.of_bits f (one (ours f))) (Ieee.of_bits f x))

unfoldable pub square : Ieee.Format → ℕ → ℕ
square f x = Ieee.to_bits f (Ieee.mul f (Ieee.of_bits f x) (Ieee.of_bits f x))

-- rule 6, the size m of x is 0, infinite or 1: m, or 1 / m for y below 0
unfoldable pub turned : Format → ℕ → Bool → ℕ
turned f m down = cond down (cond (eqb m 0) (infinity f) (cond (eqb m (infinity f)) 0 m)) m

abbrev pub on_edge : Format → ℕ → Bool
on_edge f ix = eqb ix (infinity f) || (eqb ix 0 || eqb ix (one f))

-- with its sign: by the sizes of x and y, and whether each is negative
unfoldable pub at_edge : Format → ℕ → Bool → ℕ → Bool → ℕ
at_edge f ix minus iy down =
    let z = turned f ix down in
    cond (not minus) z (cond (odd f iy) (top f + z) (cond (not (whole f iy) && eqb ix (one f)) (quiet f) z))

module _ {R : Type 0} (settled : ℕ → R) (unsettled : Bool → R) where
  -- rule 7, and the open pairs
  unfoldable pub sorted7 : Format → Bool → ℕ → R
  sorted7 f minus iy =
      cond (not minus) (unsettled false) (cond (not (whole f iy)) (settled (quiet f)) (unsettled (odd f iy)))

  -- from rule 6 on
  unfoldable pub sorted6 : Format → ℕ → Bool → ℕ → Bool → R
  sorted6 f ix minus iy down =
      cond (on_edge f ix) (settled (at_edge f ix minus iy down)) (sorted7 f minus iy)

  -- from rule 5 on: y is 1, -1, 2, 0.5
  unfoldable pub sorted5 : Ieee.Format → ℕ → ℕ → R
  sorted5 f x y =
      cond (eqb y (one (ours f))) (settled x)
      (cond (eqb y (top (ours f) + one (ours f))) (settled (over f x))
      (cond (eqb y (two_word (ours f))) (settled (square f x))
      (cond (eqb y (half_word (ours f)) && not (negative (ours f) x)) (settled (root_word (ours f) x))
      (sorted6 (ours f) (magnitude (ours f) x) (negative (ours f) x) (magnitude (ours f) y) (negative (ours f) y)))))

  -- all seven
  unfoldable pub sorted : Ieee.Format → ℕ → ℕ → R
  sorted f x y =
      cond (eqb (magnitude (ours f) y) 0 || eqb x (one (ours f))) (settled (one (ours f)))
      (cond (is_nan_word (ours f) x || is_nan_word (ours f) y) (settled (quiet (ours f)))
      (cond (eqb (magnitude (ours f) y) (infinity (ours f))) (settled (at_infinity (ours f) (magnitude (ours f) x) (negative (ours f) y)))
      (sorted5 f x y)))

-- What an answer of the sorting says: the refusal number, which is 0, whether the pair is settled, the result's word if it is and the result's sign if it is not.
pub record Told : Type 0 where
  pub number : ℕ
  pub settled : Bool
  pub word : ℕ
  pub negative : Bool

abbrev pub told_settled : ℕ → Told
told_settled w = record { number = done; settled = true; word = w; negative = false }

abbrev pub told_open : Bool → Told
told_open s = record { number = done; settled = false; word = 0; negative = s }

-- what an answer tells, by the number that each word is; and where the words are numbers
abbrev pub told_by : {W : Type 0} → (W → ℕ) → Sorted W → Told
told_by number (Settled w) = told_settled (number w)
told_by number (Open s) = told_open s

abbrev pub told : Sorted ℕ → Told
told = told_by (λ w. w)
