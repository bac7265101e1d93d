-- A subnormal number times 2 ^ prec, as the code makes it: shifted by its leading zeros, with what is left of prec as its exponent's field; a zero stays zero. Over every width. Assumes nothing.
use Prim.Native.Nat.{ℕ, zero, suc, ◌+◌, ◌-◌, ◌*◌, ◌%◌, ◌^◌, ◌<◌, ◌≤◌}
use mathlib.Core.Path.{◌≡◌, sym, ap, subst, ◌∙◌}
use native.Mathlib.Nat.{mod-eq_of_lt, mul-le-mul_right, zero-mul, sub-le, le-add_left}
use native.Mathlib.Omega.{arith}
use lib.Count.{count_leading_zeros, leading_of_zero, leading_le}
use lib.Ieee.{hid, prec, mul, of_bits, to_bits}
use lib.Ieee.Fits.{two, two-le_pos}
use Rattle.words.proofs.Digits.{twice_hid}
use Rattle.root.specs.Engine.{Shifts}
use Rattle.root.proofs.Operands.{shifts-exist, leading_wider}
use Rattle.power.specs.Width.{Width}
use Rattle.power.specs.Places.{TWO}
use Rattle.power.specs.Chain.{con}
use Rattle.power.proofs.Subnormal.{TwoWord, times-two, zero-times-two}

-- the code counts the zeros among d digits more than prec
abbrev shift : Width → ℕ → ℕ → ℕ
shift w d m = count_leading_zeros (prec w.format + d) m - d

abbrev product : Width → ℕ → ℕ
product w m = to_bits w.format (mul w.format (of_bits w.format m) (con w TWO))

module _ (w : Width) where
  abbrev p : ℕ
  p = prec w.format

  abbrev h : ℕ
  h = hid w.format

  full : 2 ^ p ≡ 2 * h
  full = twice_hid p (two-le_pos p (two w.format))

  -- among prec digits there are d zeros less
  fewer : (d m : ℕ) → m < h → count_leading_zeros p m + d ≡ count_leading_zeros (p + d) m
  fewer d m l = leading_wider p d m (omega (arith, full))

  pub shift-some : (d m : ℕ) → m < h → d ≤ count_leading_zeros (p + d) m
  shift-some d m l = omega (arith, fewer d m l)

  pub shift-most : (d m : ℕ) → m < h → shift w d m ≤ p
  shift-most d m l = omega (arith, fewer d m l, leading_le p m)

  -- the exact product; the shift is s, as `fewer` tells it
  made : TwoWord w → (d m s : ℕ) → m < h → count_leading_zeros p m + d ≡ s + d → ((p - s) * h + m * 2 ^ s ≡ product w m) × (m * 2 ^ s < 2 * h)
  made e d zero s l i = (omega (arith, none, ap (λ (z : ℕ). z * h) left, zero-times-two w e), omega arith)
    where
      none : 0 * 2 ^ s ≡ 0
      none = zero-mul (2 ^ s)

      left : p - s ≡ 0
      left = omega (arith, i, leading_of_zero p)
  made e d (suc m) s l i = (sym (times-two w e (suc m) s (omega (arith, full, a.above)) below), below)
    where
      a : Shifts p (suc m) s
      a = subst (Shifts p (suc m)) (omega (arith, i)) (shifts-exist p (suc m) (omega arith) (omega (arith, full)))

      below : suc m * 2 ^ s < 2 * h
      below = omega (arith, full, a.below)

  -- in words of B numbers
  pub normalized : TwoWord w → (d m B : ℕ) → m < h → (p + 2) * h ≤ B → let s = shift w d m in
      ((p - s) * h % B + m * 2 ^ s % B ≡ product w m) × ((p - s) * h % B + m * 2 ^ s % B < (p + 2) * h)
  normalized e d m B l r =
      let s = shift w d m in
      let k = made e d m s l (omega (arith, fewer d m l)) in
      let v = by p h B ((p - s) * h) (m * 2 ^ s) (mul-le-mul_right h (sub-le p s)) k.1 r in
      (v.0 ∙ k.0, v.1)
    where
      by : (p h B a b : ℕ) → a ≤ p * h → b < 2 * h → (p + 2) * h ≤ B → (a % B + b % B ≡ a + b) × (a % B + b % B < (p + 2) * h)
      by p h B a b i j r = (omega (arith, x, y), omega (arith, x, y, i, j))
        where
          x : a % B ≡ a
          x = mod-eq_of_lt (omega (arith, i, j, r))

          y : b % B ≡ b
          y = mod-eq_of_lt (omega (arith, i, j, r, le-add_left (2 * h) (p * h)))
