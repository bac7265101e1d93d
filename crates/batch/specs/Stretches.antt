-- A batch whose first results are in place. Definitions only.
use Rattle.std.specs.Prelude.{ℕ, ◌≤◌, ◌≡◌, List, ◌++◌, length, take, drop}

-- the first i of the wanted results are in place, and the rest is as before
pub record Progress {C : Type 0} (wanted before : List C) (i : ℕ) (now : List C) : Type 0 where
  pub long : length wanted ≡ length before
  pub within : i ≤ length before
  pub filled : now ≡ take i wanted ++ drop i before
  pub kept : length now ≡ length before
