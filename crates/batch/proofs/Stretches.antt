-- Where a stretch of a batch stands. Assumes nothing.
use Prim.Native.Nat.{ℕ, ◌+◌, ◌-◌, ◌*◌, ◌≤◌, ◌<◌, min}
use mathlib.Core.Path.{◌≡◌}
use native.Mathlib.Omega.{arith}
use Rattle.std.proofs.Common.{nat_cmp}
use Rattle.std.proofs.lemmas.Grind.{common_steps, div_ceil_times}
use Rattle.std.specs.Int.{div_ceil}
use Rattle.std.specs.Ordering.{ord_min}

-- each stretch of m of them begins before n
pub begins : (n m k : ℕ) → m ≡ div_ceil n 64 → k < m → k * 64 < n
begins n m k d h = omega (arith, d, div_ceil_times n 64 (omega arith))

-- the stretch k of n elements ends at e
pub record Stretch (n k e : ℕ) : Type 0 where
  pub next : min ((k + 1) * 64) n ≡ e
  pub wide : k * 64 ≤ e
  pub within : e ≤ n

pub stretch_at : (n k r : ℕ) → k * 64 < n → r ≡ ord_min nat_cmp 64 (n - k * 64) → Stretch n k (k * 64 + r)
stretch_at n k r h q =
    let s : r ≡ min 64 (n - k * 64) = grind (arith, common_steps) in
    record { next = omega (arith, s); wide = omega arith; within = omega (arith, s) }
