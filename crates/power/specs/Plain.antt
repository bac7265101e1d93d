-- The plain pairs, which no rule of the sorting settles: a positive finite x and a finite y, none of them a value that a rule names. Definitions only.
use Rattle.std.specs.Prelude.{ℕ, ◌+◌, Bool, not, ◌&&◌, ltb, eqb}
use Rattle.words.specs.Format.{Format, top, infinity, one, magnitude}
use Rattle.power.specs.Sorting.{two_word, half_word}

abbrev pub plain_base : Format → ℕ → Bool
plain_base f x = ltb 0 x && (ltb x (infinity f) && not (eqb x (one f)))

abbrev pub plain_exponent : Format → ℕ → Bool
plain_exponent f y =
    (ltb 0 (magnitude f y) && ltb (magnitude f y) (infinity f))
    && ((not (eqb y (one f)) && not (eqb y (top f + one f))) && (not (eqb y (two_word f)) && not (eqb y (half_word f))))

abbrev pub plain : Format → ℕ → ℕ → Bool
plain f x y = plain_base f x && plain_exponent f y
