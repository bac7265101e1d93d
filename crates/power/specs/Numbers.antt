-- Whole numbers and odd ones among a format's sizes: document 01, "Power". Definitions only.
-- One is 2 ^ low units, so a size is whole where its units are a multiple of that.
use Rattle.std.specs.Prelude.{ℕ, ◌/◌, ◌%◌, ◌^◌, Bool, true, false, ◌&&◌, eqb}
use Rattle.words.specs.Format.{Format, low, units}
use Rattle.power.specs.declared.kind.Kind.{Kind}
use Rattle.power.specs.declared.kind.Kind.TheVariants.{Fraction, Even, Odd}

-- whether a finite size is a whole number, and an odd one
unfoldable pub whole : Format → ℕ → Bool
whole f m = eqb (units f m % 2 ^ low f) 0

unfoldable pub odd : Format → ℕ → Bool
odd f m = whole f m && eqb (units f m / 2 ^ low f % 2) 1

-- the same of a kind of number
abbrev pub is_whole : Kind → Bool
is_whole Fraction = false
is_whole Even = true
is_whole Odd = true

abbrev pub is_odd : Kind → Bool
is_odd Fraction = false
is_odd Even = false
is_odd Odd = true
