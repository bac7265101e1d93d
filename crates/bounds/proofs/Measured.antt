-- What the logarithm's quotient asks of ax, bp, t_h and 1, from whole numbers a, b, h and u of one common size q.
use mathlib.Core.Path.{◌≡◌, refl, sym, ap, ◌∙◌}
use mathlib.Core.Logic.{◌⊎◌, inl, inr, ⊎_elim}
use Prim.Native.Nat.{ℕ, ◌+◌, ◌*◌, ◌^◌, ◌≤◌, ◌<◌}
use native.Mathlib.Nat.{le_of_eq, mul-le-mul_right, one-mul}
use native.Mathlib.Omega.{arith}
use mathlib.Core.Bool.{false}
use lib.Ieee.{Float, Format}
use Rattle.bounds.proofs.Signed.{sign, mag, Num}
use Rattle.bounds.proofs.Within.{U, Within}
use Rattle.bounds.proofs.Ratio.{Ratio}

-- a positive float of n times q units
pub record Whole (f : Format) (q n : ℕ) (x : Float) : Type 0 where
  pub num : Num f x
  pub sgn : sign x ≡ false
  pub siz : mag f x ≡ n * q

pub record Measured (f : Format) (q u a b h : ℕ) (ax bp th c1 : Float) : Type 0 where
  pub q-least : 2 ^ 100 ≤ q
  pub unit : U f ≡ u * q
  pub ax-is : Whole f q a ax
  pub bp-is : Whole f q b bp
  pub th-is : Whole f q h th
  pub c1-is : Whole f q u c1
  pub ax-most : a ≤ 2 * u
  pub bp-most : b ≤ 2 * u
  pub th-most : h ≤ 4 * u
  pub sum-lo : 1865 * u ≤ 1000 * (a + b)
  pub sum-hi : 2 * (a + b) ≤ 7 * u
  pub head-hi : h ≤ a + b
  pub head-lo : 2 ^ 9 * (a + b) ≤ 2 ^ 9 * h + u
  pub close-hi : 7 * a ≤ 7 * b + 2 * u
  pub close-lo : 7 * b ≤ 7 * a + 2 * u

module _ {f : Format} {q u a b h : ℕ} {ax bp th c1 : Float} (M : Measured f q u a b h ax bp th c1) where
  bound : (n k c : ℕ) (x : Float) → Whole f q n x → n ≤ k * u → 2 ^ 30 * k ≡ c → Within f (U f) c x
  bound n k c x w l i = record { num = w.num; le = fin (mag f x) (U f) w.siz M.unit (mul-le-mul_right q l) }
    where
      fin : (m v : ℕ) → m ≡ n * q → v ≡ u * q → n * q ≤ k * u * q → 2 ^ 30 * m ≤ c * v
      fin m v e g l = omega (arith, e, l, ap (λ (z : ℕ). c * z) g, ap (λ (z : ℕ). z * (u * q)) i)

  pub ax-in : Within f (U f) (2 ^ 31) ax
  ax-in = bound a 2 (2 ^ 31) ax M.ax-is M.ax-most refl

  pub bp-in : Within f (U f) (2 ^ 31) bp
  bp-in = bound b 2 (2 ^ 31) bp M.bp-is M.bp-most refl

  pub th-in : Within f (U f) (2 ^ 32) th
  th-in = bound h 4 (2 ^ 32) th M.th-is M.th-most refl

  pub c1-in : Within f (U f) (2 ^ 30) c1
  c1-in = bound u 1 (2 ^ 30) c1 M.c1-is (le_of_eq (sym (one-mul u))) refl

  -- ---- each condition, times q
  pub ratio : (a < b) ⊎ (b < a) → Ratio f ax bp th c1
  ratio ne =
      record {
        ax-in = ax-in;
        bp-in = bp-in;
        th-in = th-in;
        c1-in = c1-in;
        ax-s = M.ax-is.sgn;
        bp-s = M.bp-is.sgn;
        th-s = M.th-is.sgn;
        c1-s = M.c1-is.sgn;
        c1-u = M.c1-is.siz ∙ sym M.unit;
        sum-lo = omega (arith, mul-le-mul_right q M.sum-lo);
        sum-hi = omega (arith, mul-le-mul_right q M.sum-hi);
        head-hi = omega (arith, mul-le-mul_right q M.head-hi);
        head-lo = omega (arith, mul-le-mul_right q M.head-lo);
        apart = ⊎_elim (λ l. inl (omega (arith, mul-le-mul_right q l))) (λ l. inr (omega (arith, mul-le-mul_right q l))) ne;
        close = (omega (arith, mul-le-mul_right q M.close-hi), omega (arith, mul-le-mul_right q M.close-lo));
      }

  -- what `closer` asks
  pub nearer : 27247 * u ≤ 10000 * (a + b) → 10000 * a ≤ 10000 * b + 2754 * u → 10000 * b ≤ 10000 * a + 2754 * u
      → (27247 * U f ≤ 10000 * (mag f ax + mag f bp)) × (10000 * mag f ax ≤ 10000 * mag f bp + 2754 * U f)
      × (10000 * mag f bp ≤ 10000 * mag f ax + 2754 * U f)
  nearer x y z =
      (omega (arith, mul-le-mul_right q x), omega (arith, mul-le-mul_right q y), omega (arith, mul-le-mul_right q z))
