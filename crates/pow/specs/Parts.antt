-- The code's structs as the chain's definitions have them, by the numbers that their floats stand for. Definitions only.
use Rattle.std.specs.Prelude.{ℕ, Float}
use Rattle.std.specs.Float.{Format}
use Rattle.power.specs.Width.{Width, Two, Three, Reduction, Nearest}
use Rattle.pow.specs.declared.pair.Pair.{Pair}
use Rattle.pow.specs.declared.logarithm.Ratio.{Ratio}
use Rattle.pow.specs.declared.reduction.Reduced.{Reduced}
use Rattle.pow.specs.declared.lane.Lane.{Lane}
use Rattle.pow.specs.declared.exponential.Whole.{Whole}

-- what the chain reads of a width, in the width's format
abbrev pub of : Format → Width → Width
of f w =
    record {
      format = f;
      table = w.table;
      short = w.short;
      shorter = w.shorter;
      below = w.below;
      huge = w.huge;
      must = w.must;
      less = w.less;
      more = w.more;
      first = w.first;
      second = w.second;
      large = w.large;
      small = w.small;
    }

module _ {F : Type 0} (value : F → Float) where
  abbrev pub two : Pair F → Two
  two p = record { hi = value p.hi; lo = value p.lo }

  abbrev pub three : Ratio F → Three
  three q = record { s = value q.s; hi = value q.hi; lo = value q.lo }

  -- two or three numbers of a lane
  abbrev pub two_in : {W : Type 0} → Lane F W → Two
  two_in l = record { hi = value l.hi; lo = value l.lo }

  abbrev pub three_in : {W : Type 0} → Lane F W → Three
  three_in l = record { s = value l.s; hi = value l.hi; lo = value l.lo }

abbrev pub reduction : {W : Type 0} → (W → ℕ) → Reduced W → Reduction
reduction number r = record { word = number r.ix; k = number r.k; e = r.e }

abbrev pub nearest : Whole Float → Nearest
nearest n = record { size = n.size; float = n.float }
