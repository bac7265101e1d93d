-- The sorting's answer as C sees it, where an enum cannot go. Definitions only.
use Rattle.std.specs.Prelude.{not}
use Rattle.power.specs.Sorting.{Told}
use Rattle.igholmaz.specs.declared.sorting.SortedPower.{SortedPower}

-- the number, whether the pair is open, an open result's sign, a settled result's word
abbrev pub laid : Told → SortedPower
laid t = record { number = t.number; «open» = not t.settled; negative = t.negative; word = t.word }
