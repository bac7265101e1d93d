-- `root::table::table_root` meets its contract. Assumes nothing.
use Prim.Native.Nat.{ℕ, ◌+◌, ◌*◌, ◌/◌, ◌%◌, ◌^◌, ◌≤◌, ◌<◌}
use mathlib.Core.Path.{◌≡◌, ap, ◌∙◌}
use native.Mathlib.Nat.{mod-eq_of_lt}
use native.Mathlib.Omega.{arith}
use Rattle.words.specs.Format.{binary64, units}
use Rattle.words.specs.Rounding.{Held}
use Rattle.root.specs.Root.{lifted, halves, whole_of}
use Rattle.root.specs.Engine.{Split}
use Rattle.root.proofs.Roots.{rounds-below}
use Rattle.root.proofs.Words.{held-fine, finite-split, split-asked, root-word}
use Rattle.root.proofs.table.table_root.Goals as goal
use Rattle.root.proofs.table.table_root.Goals.{After-all_rounds-a}

module _ (c : After-all_rounds-a) where
  abbrev x : ℕ
  x = c.args.x

  abbrev v : ℕ
  v = lifted binary64 (units binary64 x)

  abbrev half : ℕ
  half = c.all_rounds-a.result.half

  abbrev q : ℕ
  q = c.all_rounds-a.result.digits

  held : Held 53 1023
  held = omega arith

  parts : Split 53 v (whole_of binary64 x) (halves 53 v) × (2 * halves 53 v ≤ 3 * 1023)
  parts = finite-split binary64 x (held-fine 53 1023 held) c.requires.0 c.requires.1

  small : q < 2 ^ 54
  small =
      let asked = split-asked 53 v (whole_of binary64 x) (halves 53 v) 54 (omega arith) (omega arith) parts.0 in
      rounds-below 53 (whole_of binary64 x) 54 q c.all_rounds-a.result.left asked c.all_rounds-a.ensures.rounds

  low : half ≤ 1534
  low = omega (arith, c.all_rounds-a.ensures.half_value, parts.1)

  -- the shift loses nothing
  shl : half * 2 ^ 52 % 2 ^ 64 ≡ half * 2 ^ 52
  shl = mod-eq_of_lt (omega (arith, low))

pub overflow_add-result : goal.overflow_add-result
overflow_add-result c = record { fits = omega (arith, small (goal.at.overflow_add-result c).After-all_rounds-a) }

pub overflow_add-result-2 : goal.overflow_add-result-2
overflow_add-result-2 c =
    let k = (goal.at.overflow_add-result-2 c).After-all_rounds-a in
    rw (shl k) (record { fits = omega (arith, small k, low k) })

pub returns : goal.returns
returns c =
    let k = (goal.at.returns c).After-all_rounds-a in
    rw (shl k, c.all_rounds-a.ensures.half_value)
    (ap (λ (n : ℕ). halves 53 (v k) * 2 ^ 52 + n) (raised (q k))
    ∙ root-word binary64 (v k) (whole_of binary64 (x k)) (halves 53 (v k)) (q k) c.all_rounds-a.result.left (omega arith) (parts k).0 c.all_rounds-a.ensures.rounds)
  where
    raised : (d : ℕ) → (d + 1) / 2 ≡ (d + d % 2) / 2
    raised d = omega arith
