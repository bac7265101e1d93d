-- The counts and the bytes of a line by their parts, and one byte more. Assumes nothing.
use Prim.Native.Nat.{ℕ}
use mathlib.Core.Path.{◌≡◌, ap}
use mathlib.Core.Bool.{Bool, cond}
use mathlib.Core.List.{List, [], ◌∷◌, ◌++◌}
use lib.Dec.{eqb}
use lib.ListN.{take}
use Rattle.lists.specs.Judge.{Judge}
use Rattle.lists.specs.Counts.{Totals, newline}
use Rattle.lists.specs.Reader.{ended, Progress, step}

-- ---- the counts, and the bytes of a line, by their parts

abbrev pub tallied : ℕ → ℕ → ℕ → ℕ → List ℕ → Totals
tallied lines agree malformed number first = record { lines = lines; agree = agree; malformed = malformed; number = number; first = first }

abbrev pub keeping : Totals → List ℕ → Progress
keeping t l = record { totals = t; line = l }

-- ---- one byte more

-- by whether it is a newline
pub step_by : (j : Judge) (t : Totals) (l : List ℕ) (b : ℕ) {n : Bool} → eqb b newline ≡ n
    → step j (keeping t l) b ≡ cond n (keeping (ended j t l) []) (keeping t (take 37 (l ++ b ∷ [])))
unfolding step
step_by j t l b e = ap (λ (n : Bool). cond n (keeping (ended j t l) []) (keeping t (take 37 (l ++ b ∷ [])))) e
