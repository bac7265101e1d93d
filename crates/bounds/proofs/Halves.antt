-- A logarithm in two floats t1 + t2, as the power takes it: |t2| ≤ |t1| / (4 * (emax + 1)), so that y * t2 stays small wherever y * t1 is in range.
use Prim.Native.Nat.{ℕ, suc, ◌*◌, ◌^◌, ◌≤◌}
use native.Mathlib.Nat.{mul-le-mul_left, mul-le-mul_right}
use native.Mathlib.Omega.{arith}
use lib.Dec.{T, leb, leb→le}
use lib.Ieee.{Float, Format, emax}
use Rattle.bounds.proofs.Signed.{mag, Num}
use Rattle.bounds.proofs.Within.{U, Within}
use Rattle.bounds.proofs.Least.{Least}

pub record Halves (f : Format) (hi lo : Float) : Type 0 where
  pub hi-num : Num f hi
  pub lo-num : Num f lo
  pub small : 4 * suc (emax f) * mag f lo ≤ mag f hi
  pub most : mag f hi ≤ 2 ^ 11 * U f

-- from the first part's lower bound and the second part's bound, against one size S
pub halves : {f : Format} {S c n : ℕ} {hi lo : Float} → Num f hi → Least f S n hi → Within f S c lo → T (leb (4 * suc (emax f) * c) n)
    → mag f hi ≤ 2 ^ 11 * U f → Halves f hi lo
halves {f} {S} {c} {n} {hi} {lo} h a b G m =
    record { hi-num = h; lo-num = b.num; small = fin (4 * suc (emax f)) (mag f hi) (mag f lo) (leb→le (4 * suc (emax f) * c) n G) a.ge b.le; most = m }
  where
    fin : (k hi lo : ℕ) → k * c ≤ n → n * S ≤ 2 ^ 30 * hi → 2 ^ 30 * lo ≤ c * S → k * lo ≤ hi
    fin k hi lo l p q = omega (arith, p, mul-le-mul_left k q, mul-le-mul_right S l)
