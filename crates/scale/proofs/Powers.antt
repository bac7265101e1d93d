-- A float times a power of two: its value, where it rounds to zero and where to an infinity, and what a finite value is in units. Over the kit's formats. Assumes nothing.
use mathlib.Core.Path.{◌≡◌, refl, sym, ap, ◌∙◌, subst}
use Prim.Native.Nat.{ℕ, zero, suc, ◌+◌, ◌-◌, ◌*◌, ◌/◌, ◌%◌, ◌^◌, ◌≤◌, ◌<◌, compare}
use native.Mathlib.Nat.{le_trans, le_of_eq, le_of_lt, lt_of_lt_of_le, lt_of_le_of_lt, not-le_of_lt, mul-one, one-mul, zero-mul, mul_comm, mul_assoc, mul_right_comm, mul-mul-mul_comm, mul-pos, mul-le-mul_right, mul-le-mul_left, mul-lt-mul_of_pos_right, lt_of_mul-lt-mul_right, le-div_iff_mul-le, div-lt_iff_lt-mul, zero-lt-suc}
use native.Mathlib.Omega.{arith}
use mathlib.Core.Bool.{Bool, true, false, not, ◌&&◌, cond}
use lib.Dec.{T, leb, ltb, eqb, ltb→lt, nltb→le, lt→ltb, leb→le}
use lib.Pow.{pow-add, pow_pos, pow_mono, pow-lt}
use lib.Arith.{le-zero}
use lib.IntN.{ℤ, pos, negsuc}
use lib.Ieee.{Float, nan, inf, fin, Format, prec, emax, low, up, down, size, odd, units, round, mul, fits, is_nan}
use lib.Ieee.Digits.{size-le}
use lib.Ieee.Fits.{two, reach, two-le_pos, round_is, down_pos, and_l, and_r}
use lib.Ieee.Exact.{HasValue, units_val}
use lib.Ieee.Nearest.{closest_mono, nearest-ge}
use lib.Ieee.Order.{drop, kept}
use lib.Ieee.Scale.{round_same, overflow}
use Rattle.scale.specs.Scale.{power}
use Rattle.words.proofs.Round.{kept-le, kept-ge}

-- ---- the product with a power of two, from any fraction that the float equals
mul_power : (f : Format) (s : Bool) (m : ℕ) (e n : ℤ) → mul f (fin s m e) (power n) ≡ round f s (m * up e * up n) (down e * down n)
unfolding mul
mul_power f true m e n = ap (λ (z : ℕ). round f true (m * up e * z) (down e * down n)) (one-mul (up n))
mul_power f false m e n = ap (λ (z : ℕ). round f false (m * up e * z) (down e * down n)) (one-mul (up n))

pub mul_val : (f : Format) (x : Float) (s : Bool) (a c : ℕ) (n : ℤ) → 0 < c → HasValue x s a c → mul f x (power n) ≡ round f s (a * up n) (c * down n)
mul_val f nan s a c n C v = absurd v
mul_val f (inf t) s a c n C v = absurd v
mul_val f (fin t m e) s a c n C v =
    mul_power f t m e n
    ∙ ap (λ (z : Bool). round f z (m * up e * up n) (down e * down n)) v.0
    ∙ round_same f s (m * up e * up n) (down e * down n) (a * up n) (c * down n) (mul-pos (down_pos e) (down_pos n)) (mul-pos C (down_pos n))
    (mul-mul-mul_comm (m * up e) (up n) c (down n) ∙ ap (λ (z : ℕ). z * (up n * down n)) v.1 ∙ mul-mul-mul_comm a (down e) (up n) (down n))

pub mul-nan : (f : Format) (n : ℤ) → mul f nan (power n) ≡ nan
unfolding mul
mul-nan f n = refl

pub mul-inf : (f : Format) (s : Bool) (n : ℤ) → mul f (inf s) (power n) ≡ inf s
unfolding mul
mul-inf f true n = refl
mul-inf f false n = refl

-- ---- what is rounded is a number, and so is a number times a power of two
odd_number : (d : ℕ) (s : Bool) (q k l : ℕ) → is_nan (odd d s q k l) ≡ false
unfolding odd is_nan
odd_number d s zero k l = refl
odd_number d s (suc q) k l = refl

units_number : (f : Format) (s : Bool) (q k : ℕ) → is_nan (units f s q k) ≡ false
unfolding units is_nan
units_number f s q k = go (ltb (q * 2 ^ k) (overflow f))
  where
    go : (b : Bool) → is_nan (cond b (odd (suc (prec f)) s q k (low f)) (inf s)) ≡ false
    go true = odd_number (suc (prec f)) s q k (low f)
    go false = refl

pub round_number : (f : Format) (s : Bool) (a b : ℕ) → is_nan (round f s a b) ≡ false
round_number f s a b = ap is_nan (round_is f s a b) ∙ units_number f s _ _

pub mul-number : (f : Format) (x : Float) (n : ℤ) → is_nan x ≡ false → is_nan (mul f x (power n)) ≡ false
unfolding is_nan
mul-number f nan n h = absurd (subst T h tt)
mul-number f (inf s) n h = ap is_nan (mul-inf f s n)
mul-number f (fin s m e) n h = ap is_nan (mul_power f s m e n) ∙ round_number f s (m * up e * up n) (down e * down n)

-- ---- half a unit or less rounds to zero
units-zero : (f : Format) (s : Bool) (k : ℕ) → units f s 0 k ≡ fin s 0 (pos 0)
unfolding units odd
units-zero f s k = go (ltb (0 * 2 ^ k) (overflow f)) (lt→ltb (0 * 2 ^ k) (overflow f) (lt_of_le_of_lt (le_of_eq (zero-mul (2 ^ k))) (pow_pos (low f + suc (emax f)))))
  where
    go : (b : Bool) → T b → cond b (odd (suc (prec f)) s 0 k (low f)) (inf s) ≡ fin s 0 (pos 0)
    go true t = refl
    go false t = absurd t

pub round-zero : (f : Format) (s : Bool) (a b : ℕ) → 0 < b → a * 2 ^ low f * 2 ≤ b → round f s a b ≡ fin s 0 (pos 0)
round-zero f s a b B h =
    let n = a * 2 ^ low f in
    let k = drop (prec f) n b in
    let u = b * 2 ^ k in
    let g : n * 2 ≤ 1 * u = le_trans h (le_trans (le_of_eq (sym (mul-one b))) (le_trans (mul-le-mul_left b (pow_pos k)) (le_of_eq (sym (one-mul u))))) in
    round_is f s a b
    ∙ ap (λ (q : ℕ). units f s q k) (le-zero (closest_mono n u 1 2 (mul-pos B (pow_pos k)) (zero-lt-suc 1) g))
    ∙ units-zero f s k

-- ---- 2 ^ (emax + 1) or more is an infinity
units-inf : (f : Format) (s : Bool) (q k : ℕ) → overflow f ≤ q * 2 ^ k → units f s q k ≡ inf s
unfolding units
units-inf f s q k h = go (ltb (q * 2 ^ k) (overflow f)) (ltb→lt (q * 2 ^ k) (overflow f))
  where
    go : (b : Bool) → (T b → q * 2 ^ k < overflow f) → cond b (odd (suc (prec f)) s q k (low f)) (inf s) ≡ inf s
    go true t = absurd (not-le_of_lt (t tt) h)
    go false t = refl

grid-ge : (p n b z : ℕ) → 0 < p → 0 < b → 2 ^ z * b ≤ n → 2 ^ z ≤ kept p n b * 2 ^ drop p n b
grid-ge p n b z P B h = go (ltb z k) (ltb→lt z k) (nltb→le z k)
  where
    k : ℕ
    k = drop p n b

    join : (z k : ℕ) → k ≤ z → z ≡ z - k + k
    join z k l = omega arith

    some : (z k : ℕ) → z < k → 0 < k
    some z k l = omega arith

    go : (t : Bool) → (T t → z < k) → (T (not t) → k ≤ z) → 2 ^ z ≤ kept p n b * 2 ^ k
    go true l g =
        le_trans (pow_mono (le_of_lt (l tt)))
        (le_trans (le_of_eq (sym (one-mul (2 ^ k)))) (mul-le-mul_right (2 ^ k) (le_trans (pow_pos (p - 1)) (kept-ge p n b P (some z k (l tt))))))
    go false l g =
        let e : 2 ^ z ≡ 2 ^ (z - k) * 2 ^ k = ap (λ (x : ℕ). 2 ^ x) (join z k (g tt)) ∙ pow-add 2 (z - k) k in
        let u = b * 2 ^ k in
        let c : 2 ^ (z - k) * u ≤ n = le_trans (le_of_eq (ap (λ (x : ℕ). 2 ^ (z - k) * x) (mul_comm b (2 ^ k)) ∙ sym (mul_assoc (2 ^ (z - k)) (2 ^ k) b) ∙ ap (λ (x : ℕ). x * b) (sym e))) h in
        le_trans (le_of_eq e) (mul-le-mul_right (2 ^ k) (le_trans ((le-div_iff_mul-le (mul-pos B (pow_pos k))).1 c) (nearest-ge (n / u) (compare (n % u * 2) u))))

pub round-inf : (f : Format) (s : Bool) (a b : ℕ) → 0 < b → overflow f * b ≤ a * 2 ^ low f → round f s a b ≡ inf s
round-inf f s a b B h =
    let n = a * 2 ^ low f in
    round_is f s a b ∙ units-inf f s (kept (prec f) n b) (drop (prec f) n b) (grid-ge (prec f) n b (low f + suc (emax f)) (two-le_pos (prec f) (two f)) B h)

-- ---- below 2 ^ prec units it rounds to at most 2 ^ prec units
pub round-low : (f : Format) (s : Bool) (a b : ℕ) → 0 < b → a * 2 ^ low f < 2 ^ prec f * b → (g : ℕ) × (g ≤ 2 ^ prec f) × HasValue (round f s a b) s g (2 ^ low f)
round-low f s a b B h =
    let p = prec f in
    let n = a * 2 ^ low f in
    let q = kept p n b in
    let z : drop p n b ≡ 0 = none (size (n / b)) p (size-le (n / b) p ((div-lt_iff_lt-mul B).1 h)) in
    let e : q * 2 ^ drop p n b ≡ q = ap (λ (x : ℕ). q * 2 ^ x) z ∙ mul-one q in
    let small : q * 2 ^ drop p n b < overflow f = lt_of_le_of_lt (le_trans (le_of_eq e) (kept-le p n b)) (pow-lt (room p (emax f) (two f) (reach f))) in
    (q, kept-le p n b, subst (λ (x : ℕ). HasValue (round f s a b) s x (2 ^ low f)) e (subst (λ (x : Float). HasValue x s (q * 2 ^ drop p n b) (2 ^ low f)) (sym (round_is f s a b)) (units_val f s q (drop p n b) small)))
  where
    none : (z p : ℕ) → z ≤ p → z - p ≡ 0
    none z p l = omega arith

    room : (p e : ℕ) → 2 ≤ p → p ≤ suc e → p < e + p - 2 + suc e
    room p e a b = omega arith

-- ---- what a finite value is in units: a number of at most prec digits, shifted, below the overflow
abbrev pub Held : Format → Float → Type 0
Held f nan = Unit {0}
Held f (inf s) = Unit {0}
Held f (fin s m e) = (q : ℕ) × (j : ℕ) × (q < 2 ^ prec f) × (q * 2 ^ j < overflow f) × HasValue (fin s m e) s (q * 2 ^ j) (2 ^ low f)

pub place : (l m : ℕ) (e : ℤ) → down e ≤ 2 ^ l → (j : ℕ) × (m * up e * 2 ^ l ≡ m * 2 ^ j * down e)
place l m (pos a) h = (a + l, mul_assoc m (2 ^ a) (2 ^ l) ∙ ap (λ (x : ℕ). m * x) (sym (pow-add 2 a l)) ∙ sym (mul-one (m * 2 ^ (a + l))))
place l m (negsuc a) h =
    let le : suc a ≤ l = pow_le_back (suc a) l h in
    (l - suc a, ap (λ (x : ℕ). x * 2 ^ l) (mul-one m) ∙ ap (λ (x : ℕ). m * x) (ap (λ (x : ℕ). 2 ^ x) (back l (suc a) le) ∙ pow-add 2 (l - suc a) (suc a)) ∙ sym (mul_assoc m (2 ^ (l - suc a)) (2 ^ suc a)))
  where
    pow_le_back : (a l : ℕ) → 2 ^ a ≤ 2 ^ l → a ≤ l
    pow_le_back a l h = go (ltb l a) (ltb→lt l a) (nltb→le l a)
      where
        go : (b : Bool) → (T b → l < a) → (T (not b) → a ≤ l) → a ≤ l
        go true g k = absurd (not-le_of_lt (pow-lt (g tt)) h)
        go false g k = k tt

    back : (a l : ℕ) → l ≤ a → a ≡ a - l + l
    back a l h = omega arith

pub held : (f : Format) (x : Float) → T (fits f x) → Held f x
unfolding fits
held f nan h = tt
held f (inf s) h = tt
held f (fin s zero e) h =
    (0, 0, pow_pos (prec f), lt_of_le_of_lt (le_of_eq (zero-mul (2 ^ 0))) (pow_pos (low f + suc (emax f))), (refl, ap (λ (x : ℕ). x * 2 ^ low f) (zero-mul (up e)) ∙ zero-mul (2 ^ low f) ∙ sym (ap (λ (x : ℕ). x * down e) (zero-mul (2 ^ 0)) ∙ zero-mul (down e))))
held f (fin s (suc m) e) h =
    let A = eqb (suc m % 2) 1 in
    let B = ltb (suc m) (2 ^ prec f) in
    let C = leb (down e) (2 ^ low f) in
    let D = ltb (suc m * up e) (2 ^ suc (emax f) * down e) in
    let l = 2 ^ low f in
    let pl = place (low f) (suc m) e (leb→le (down e) (2 ^ low f) (and_r (A && B) C (and_l (A && B && C) D h))) in
    let top : suc m * up e < 2 ^ suc (emax f) * down e = ltb→lt (suc m * up e) (2 ^ suc (emax f) * down e) (and_r (A && B && C) D h) in
    let over : suc m * 2 ^ pl.0 * down e < overflow f * down e =
    lt_of_le_of_lt (le_of_eq (sym pl.1))
    (lt_of_lt_of_le (mul-lt-mul_of_pos_right top (pow_pos (low f)))
    (le_of_eq (mul_right_comm (2 ^ suc (emax f)) (down e) l ∙ ap (λ (x : ℕ). x * down e) (mul_comm (2 ^ suc (emax f)) l ∙ sym (pow-add 2 (low f) (suc (emax f))))))) in
    (suc m, pl.0, ltb→lt (suc m) (2 ^ prec f) (and_r A B (and_l (A && B) C (and_l (A && B && C) D h))), lt_of_mul-lt-mul_right (down e) over, (refl, pl.1))
