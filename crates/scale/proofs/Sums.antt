-- Fewer units than the least normal number has, by themselves and in the last digits of their sum with that many: rounded alike. Over the kit's formats. Assumes nothing.
use mathlib.Core.Path.{◌≡◌, refl, sym, ap, ◌∙◌, subst}
use Prim.Native.Nat.{ℕ, suc, ◌+◌, ◌-◌, ◌*◌, ◌/◌, ◌%◌, ◌^◌, ◌≤◌, ◌<◌, min, compare, Ordering}
use native.Mathlib.Nat.{pow-succ', le_trans, mul-one, mul-pos, mul-le-mul_right, lt_of_mul-lt-mul_right, mul-lt-mul_of_pos_right, mul-add-div_right, mul-add-mod_self_right, le-div_iff_mul-le, div-lt_iff_lt-mul}
use native.Mathlib.Omega.{arith}
use mathlib.Core.Bool.{true, false}
use lib.Dec.{T, ltb→lt, lit≤}
use lib.Pow.{pow-add, pow_pos}
use lib.IntN.{pos}
use lib.Ieee.{Float, nan, inf, fin, Format, prec, emax, low, hid, up, down, size, nearest, round, add, sum, lt}
use lib.Ieee.Digits.{size-le}
use lib.Ieee.Exact.{HasValue}
use lib.Ieee.Fits.{two, reach, down_pos, nearest-le}
use lib.Ieee.Nearest.{closest, closest_same}
use lib.Ieee.Scale.{round_same}
use Rattle.words.specs.Format.{infinity, ours}
use Rattle.words.specs.Rounding.{places, rounded}
use Rattle.words.proofs.Digits.{size_exact}
use Rattle.words.proofs.Even.{rounded-nearest}
use Rattle.words.proofs.Ties.{hid-even}
use Rattle.words.proofs.Words.{infinity-some}
use Rattle.scale.specs.Scale.{power}

-- ---- a float below 2 ^ d, and its sum with it
pub below_power : (y : Float) (a c d : ℕ) → 0 < c → HasValue y false a c → lt y (power (pos d)) ≡ true → a < 2 ^ d * c
unfolding lt
below_power nan a c d C v h = absurd v
below_power (inf s) a c d C v h = absurd v
below_power (fin true m e) a c d C v h = absurd (subst T v.0 tt)
below_power (fin false m e) a c d C v h =
    lt_of_mul-lt-mul_right (down e) (turn (m * up e) (down e) (2 ^ d) v.1 (mul-lt-mul_of_pos_right (ltb→lt (m * up e * 1) (1 * 2 ^ d * down e) (subst T (sym h) tt)) C))
  where
    turn : (x w p : ℕ) → x * c ≡ a * w → x * 1 * c < 1 * p * w * c → a * w < p * c * w
    turn x w p e h = omega (arith, e, h)

pub add-power : (f : Format) (y : Float) (a c d : ℕ) → 0 < c → HasValue y false a c → add f y (power (pos d)) ≡ round f false (2 ^ d * c + a) c
unfolding add sum
add-power f nan a c d C v = absurd v
add-power f (inf s) a c d C v = absurd v
add-power f (fin true m e) a c d C v = absurd (subst T v.0 tt)
add-power f (fin false m e) a c d C v =
    round_same f false (m * up e * 1 + 1 * 2 ^ d * down e) (down e * 1) (2 ^ d * c + a) c (mul-pos (down_pos e) (lit≤ tt)) C (turn (m * up e) (down e) (2 ^ d) v.1)
  where
    turn : (x w p : ℕ) → x * c ≡ a * w → (x * 1 + 1 * p * w) * c ≡ (p * c + a) * (w * 1)
    turn x w p e = omega (arith, e)

-- ---- fewer units than the least normal number has, by themselves and beside that many
pub nearest-beside : (g q : ℕ) (o : Ordering) → nearest (2 * g + q) o ≡ 2 * g + nearest q o
nearest-beside g q Ordering.lt = refl
nearest-beside g q Ordering.eq = omega arith
nearest-beside g q Ordering.gt = omega arith

pub closest-beside : (h a c : ℕ) → 0 < c → (g : ℕ) → h ≡ 2 * g → closest (h * c + a) c ≡ h + closest a c
closest-beside h a c C g e =
    (λ i. nearest (mul-add-div_right C h a i) (compare (mul-add-mod_self_right h c a i * 2) c))
    ∙ subst (λ (z : ℕ). nearest (z + a / c) (compare (a % c * 2) c) ≡ z + closest a c) (sym e) (nearest-beside g (a / c) (compare (a % c * 2) c))

module _ (f : Format) (a c : ℕ) (C : 0 < c) (A : a < hid f * c) where
  pub closest-small : closest a c ≤ hid f
  closest-small = le_trans (nearest-le (a / c) (compare (a % c * 2) c)) ((div-lt_iff_lt-mul C).1 A)

  pub rounded-alone : rounded (ours f) a c ≡ closest a c
  rounded-alone =
      rounded-nearest (ours f) a c C (infinity-some (ours f))
      ∙ ap (λ (k : ℕ). min (k * hid f + closest a (c * 2 ^ k)) (infinity (ours f))) none
      ∙ ap (λ (z : ℕ). min (0 * hid f + closest a z) (infinity (ours f))) (mul-one c)
      ∙ least (hid f) (emax f) (closest a c) closest-small
    where
      fewer : (z p : ℕ) → z ≤ p - 1 → z - p ≡ 0
      fewer z p h = omega arith

      none : places (ours f) a c ≡ 0
      none = fewer (size (a / c)) (prec f) (size-le (a / c) (prec f - 1) ((div-lt_iff_lt-mul C).1 A))

      least : (h e r : ℕ) → r ≤ h → min (0 * h + r) ((2 * e + 1) * h) ≡ r
      least h e r l = omega arith

  pub rounded-beside : rounded (ours f) ((hid f * c + a) * 2 ^ low f) c ≡ (low f + 1) * hid f + rounded (ours f) a c
  rounded-beside =
      rounded-nearest (ours f) n c C (infinity-some (ours f))
      ∙ ap (λ (k : ℕ). min (k * hid f + closest n (c * 2 ^ k)) (infinity (ours f))) drops
      ∙ ap (λ (z : ℕ). min (low f * hid f + z) (infinity (ours f))) (closest_same n (c * 2 ^ low f) (hid f * c + a) c (mul-pos C (pow_pos (low f))) C (turn (hid f * c + a) (2 ^ low f) c) ∙ closest-beside (hid f) a c C (2 ^ (prec f - 1 - 1)) (hid-even (ours f) (two f)))
      ∙ least (hid f) (emax f) (prec f) (closest a c) (two f) (reach f) closest-small
      ∙ ap (λ (z : ℕ). (low f + 1) * hid f + z) (sym rounded-alone)
    where
      n : ℕ
      n = (hid f * c + a) * 2 ^ low f

      turn : (x l c : ℕ) → x * l * c ≡ x * (c * l)
      turn x l c = omega arith

      all : (z p l : ℕ) → 2 ≤ p → z ≡ suc (p - 1 + l) → z - p ≡ l
      all z p l P e = omega arith

      from : (h l x : ℕ) → x ≡ h * l → x * c ≤ (h * c + a) * l
      from h l x e = omega (arith, ap (λ (z : ℕ). z * c) e)

      to : (h l x : ℕ) → 0 < l → x ≡ h * l → a < h * c → (h * c + a) * l < 2 * x * c
      to h l x L e s = omega (arith, ap (λ (z : ℕ). z * c) e, mul-lt-mul_of_pos_right s L)

      drops : places (ours f) n c ≡ low f
      drops =
          let e : 2 ^ (prec f - 1 + low f) ≡ hid f * 2 ^ low f = pow-add 2 (prec f - 1) (low f) in
          let d : 2 ^ suc (prec f - 1 + low f) ≡ 2 * 2 ^ (prec f - 1 + low f) = pow-succ' 2 (prec f - 1 + low f) in
          all (size (n / c)) (prec f) (low f) (two f)
          (size_exact (prec f - 1 + low f) (n / c) ((le-div_iff_mul-le C).1 (from (hid f) (2 ^ low f) (2 ^ (prec f - 1 + low f)) e))
          ((div-lt_iff_lt-mul C).1 (subst (λ (z : ℕ). n < z * c) (sym d) (to (hid f) (2 ^ low f) (2 ^ (prec f - 1 + low f)) (pow_pos (low f)) e A))))

      least : (h e p r : ℕ) → 2 ≤ p → p ≤ suc e → r ≤ h → min ((e + p - 2) * h + (h + r)) ((2 * e + 1) * h) ≡ (e + p - 2 + 1) * h + r
      least h e p r P R l = under ((e + p - 2) * h + (h + r)) ((2 * e + 1) * h) ((e + p - 2 + 1) * h + r) (omega arith) (le_trans (most (e + p - 2) h r l) (mul-le-mul_right h (room e p P R)))
        where
          under : (x y z : ℕ) → x ≡ z → x ≤ y → min x y ≡ z
          under x y z e l = omega arith

          most : (k h r : ℕ) → r ≤ h → k * h + (h + r) ≤ (k + 2) * h
          most k h r l = omega arith

          room : (e p : ℕ) → 2 ≤ p → p ≤ suc e → e + p - 2 + 2 ≤ 2 * e + 1
          room e p P R = omega arith
