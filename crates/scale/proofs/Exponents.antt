-- The exponent of a word below the normal numbers': held where no unit is lost below, and where every size but zero is an infinity above. Over the kit's formats. Assumes nothing.
use mathlib.Core.Path.{◌≡◌, refl, sym, ap, ◌∙◌, subst}
use Prim.Native.Nat.{ℕ, zero, suc, ◌+◌, ◌-◌, ◌*◌, ◌^◌, ◌≤◌, ◌<◌}
use native.Mathlib.Nat.{le_refl, lt_of_le_of_lt}
use native.Mathlib.Omega.{arith}
use mathlib.Core.Bool.{Bool, true, false, not, cond}
use lib.Dec.{T, ltb, ltb→lt, nltb→le, le→leb}
use lib.Pow.{pow-add}
use lib.IntN.{ℤ, pos, negsuc, ◌+ℤ◌, ◌-ℤ◌, nat_abs, +ℤ_idr, +ℤ-neg_ℤ_cancel}
use lib.Signed.{◌≤ℤ◌, ≤ℤ_refl, le_z_yes}
use mir.Syntax.{Width}
use mir.Val.{SFits, hbits}
use lib.Ieee.{Format, binary32, binary64, emax, low, up, down}
use Rattle.scale.specs.Steps.{between}

-- ---- the exponent: held where no unit is lost below, and where every size but zero is an infinity above
abbrev pub tiny_exponent : Format → ℤ → ℤ
tiny_exponent f n = between (negsuc (emax f - 2)) (pos (low f + suc (emax f))) n

pub least-held : (f : Format) (n : ℤ) → negsuc (emax f - 2) ≤ℤ tiny_exponent f n
least-held f (pos a) = go (ltb (low f + suc (emax f)) a)
  where
    go : (t : Bool) → negsuc (emax f - 2) ≤ℤ cond t (pos (low f + suc (emax f))) (pos a)
    go true = le_z_yes tt
    go false = le_z_yes tt
least-held f (negsuc a) = go (ltb (emax f - 2) a) (nltb→le (emax f - 2) a)
  where
    go : (t : Bool) → (T (not t) → a ≤ emax f - 2) → negsuc (emax f - 2) ≤ℤ cond t (negsuc (emax f - 2)) (negsuc a)
    go true l = ≤ℤ_refl (negsuc (emax f - 2))
    go false l = le_z_yes (le→leb a (emax f - 2) (l tt))

-- ---- 2 ^ (k - l) is 2 ^ k by 2 ^ l
pub lowered : (k : ℤ) (b : ℕ) → up (k -ℤ pos (suc b)) * (2 ^ suc b * down k) ≡ up k * down (k -ℤ pos (suc b))
lowered (pos a) b = go (ltb a (suc b)) (ltb→lt a (suc b)) (nltb→le a (suc b))
  where
    less : (a b : ℕ) → a < suc b → suc b ≡ a + suc (suc b - suc a)
    less a b h = omega arith

    more : (a b : ℕ) → suc b ≤ a → a ≡ a - suc b + suc b
    more a b h = omega arith

    one : (x y : ℕ) → x ≡ y → 1 * (x * 1) ≡ y
    one x y e = omega arith

    both : (x y z : ℕ) → z ≡ x * y → x * (y * 1) ≡ z * 1
    both x y z e = omega arith

    go : (t : Bool) → (T t → a < suc b) → (T (not t) → suc b ≤ a)
        → up (cond t (negsuc (suc b - suc a)) (pos (a - suc b))) * (2 ^ suc b * 1) ≡ 2 ^ a * down (cond t (negsuc (suc b - suc a)) (pos (a - suc b)))
    go true l g = one (2 ^ suc b) (2 ^ a * 2 ^ suc (suc b - suc a)) (ap (λ (z : ℕ). 2 ^ z) (less a b (l tt)) ∙ pow-add 2 a (suc (suc b - suc a)))
    go false l g = both (2 ^ (a - suc b)) (2 ^ suc b) (2 ^ a) (ap (λ (z : ℕ). 2 ^ z) (more a b (g tt)) ∙ pow-add 2 (a - suc b) (suc b))
lowered (negsuc a) b = both (2 ^ suc b) (2 ^ suc a) (2 ^ suc (suc (a + b))) (ap (λ (z : ℕ). 2 ^ z) (same a b) ∙ pow-add 2 (suc b) (suc a))
  where
    same : (a b : ℕ) → suc (suc (a + b)) ≡ suc b + suc a
    same a b = omega arith

    both : (x y z : ℕ) → z ≡ x * y → 1 * (x * y) ≡ 1 * z
    both x y z e = omega arith

-- and 2 ^ (n + y) is 2 ^ n times 2 ^ y
pub raised : (n : ℤ) (y : ℕ) → up n * (2 ^ y * down (n +ℤ pos y)) ≡ up (n +ℤ pos y) * down n
raised n zero = subst (λ (k : ℤ). up n * (2 ^ 0 * down k) ≡ up k * down n) (sym (+ℤ_idr n)) (one (up n) (down n))
  where
    one : (a b : ℕ) → a * (1 * b) ≡ a * b
    one a b = omega arith
raised n (suc b) = subst (λ (k : ℤ). up k * (2 ^ suc b * down (n +ℤ pos (suc b))) ≡ up (n +ℤ pos (suc b)) * down k) (+ℤ-neg_ℤ_cancel n (pos (suc b))) (lowered (n +ℤ pos (suc b)) b)

pub low-some : (f : Format) → low f ≡ suc (low f - 1)
low-some binary32 = refl
low-some binary64 = refl

pub lowered_by : (f : Format) (k : ℤ) → up (k -ℤ pos (low f)) * (2 ^ low f * down k) ≡ up k * down (k -ℤ pos (low f))
lowered_by f k = subst (λ (l : ℕ). up (k -ℤ pos l) * (2 ^ l * down k) ≡ up k * down (k -ℤ pos l)) (sym (low-some f)) (lowered k (low f - 1))

-- it stays in a machine's number
pub less-fits : (w : Width) (k : ℤ) (b : ℕ) → nat_abs k + b + 1 < 2 ^ hbits w → SFits w (k -ℤ pos (suc b))
less-fits w (pos a) b h = go (ltb a (suc b))
  where
    down_to : (a b W : ℕ) → a + b + 1 < W → suc b - suc a < W
    down_to a b W h = omega arith

    up_to : (a b W : ℕ) → a + b + 1 < W → a - suc b < W
    up_to a b W h = omega arith

    go : (t : Bool) → SFits w (cond t (negsuc (suc b - suc a)) (pos (a - suc b)))
    go true = record { sfits = down_to a b (2 ^ hbits w) h }
    go false = record { sfits = up_to a b (2 ^ hbits w) h }
less-fits w (negsuc a) b h = record { sfits = within a b (2 ^ hbits w) h }
  where
    within : (a b W : ℕ) → suc a + b + 1 < W → suc (a + b) < W
    within a b W h = omega arith

pub most-held : (f : Format) (w : Width) (n : ℤ) → low f + suc (emax f) + low f + 1 < 2 ^ hbits w → SFits w (tiny_exponent f n -ℤ pos (low f))
most-held f w n W = subst (λ (l : ℕ). SFits w (tiny_exponent f n -ℤ pos l)) (sym (low-some f)) (less-fits w (tiny_exponent f n) (low f - 1) (lt_of_le_of_lt (add-up (nat_abs (tiny_exponent f n)) (low f + suc (emax f)) (low f) (size-held f n)) W))
  where
    add-up : (a k l : ℕ) → a ≤ k → a + (l - 1) + 1 ≤ k + l + 1
    add-up a k l h = omega arith

    size-held : (f : Format) (n : ℤ) → nat_abs (tiny_exponent f n) ≤ low f + suc (emax f)
    size-held f (pos a) = go (ltb (low f + suc (emax f)) a) (nltb→le (low f + suc (emax f)) a)
      where
        go : (t : Bool) → (T (not t) → a ≤ low f + suc (emax f)) → nat_abs (cond t (pos (low f + suc (emax f))) (pos a)) ≤ low f + suc (emax f)
        go true l = le_refl (low f + suc (emax f))
        go false l = l tt
    size-held f (negsuc a) = go (ltb (emax f - 2) a) (nltb→le (emax f - 2) a)
      where
        room : (e l a : ℕ) → a ≤ e - 2 → suc a ≤ l + suc e
        room e l a h = omega arith

        go : (t : Bool) → (T (not t) → a ≤ emax f - 2) → nat_abs (cond t (negsuc (emax f - 2)) (negsuc a)) ≤ low f + suc (emax f)
        go true l = room (emax f) (low f) (emax f - 2) (le_refl (emax f - 2))
        go false l = room (emax f) (low f) a (l tt)
