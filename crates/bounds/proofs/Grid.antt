-- Rounding n / c units to p digits, as a number of units: its error, its order, and where it changes nothing. Over numbers only.
use mathlib.Core.Path.{◌≡◌, refl, sym, ap, ◌∙◌, subst}
use mathlib.Core.Logic.{inl, inr}
use Prim.Native.Nat.{ℕ, zero, suc, ◌+◌, ◌-◌, ◌*◌, ◌/◌, ◌%◌, ◌^◌, ◌≤◌, ◌<◌, zero-le, compare, Ordering}
use native.Mathlib.Nat.{le_trans, le_of_eq, lt_of_le_of_lt, eq-or-lt_of_le, le_antisymm, lt_of_not-le, le_of_suc-le-suc, suc-ne-zero, sub-add_cancel}
use native.Mathlib.Nat.{mul_assoc, mul-pos, mul-le-mul_left, mul-le-mul_right, one-mul, div-one, le-div_iff_mul-le, div-add-mod', mod-lt}
use native.Mathlib.Omega.{arith}
use mathlib.Core.Bool.{not}
use lib.Dec.{T, is_le, compare_is_eq, eqb, leb→le, nleb→lt, eqb→eq, eqb_refl}
use lib.Arith.{lt_of_le-ne}
use lib.Pow.{pow-add, pow_pos, pow_mono, shl_lt}
use lib.Ieee.{size, nearest}
use lib.Ieee.Digits.{size-lt, size-le, size_reaches}
use lib.Ieee.Nearest.{closest, closest_mono, closest_same, div_mono, div_same}
use lib.Ieee.Order.{drop, kept}
use Rattle.words.proofs.Round.{kept-le, kept-ge}

-- n / c units to p digits
abbrev pub rq : ℕ → ℕ → ℕ → ℕ
rq p n c = kept p n c * 2 ^ drop p n c

-- ---- what `compare` says
abbrev Cmp : Ordering → ℕ → ℕ → Type 0
Cmp Ordering.lt a b = a < b
Cmp Ordering.eq a b = a ≡ b
Cmp Ordering.gt a b = b < a

cmp : (a b : ℕ) → Cmp (compare a b) a b
cmp a b = go (compare a b) (leb→le a b) (nleb→lt a b) (eqb→eq a b) (λ (e : a ≡ b). subst (λ (x : ℕ). T (eqb a x)) e (eqb_refl a))
  where
    go : (o : Ordering) → (T (is_le o) → a ≤ b) → (T (not (is_le o)) → b < a) → (T (compare_is_eq o) → a ≡ b) → (a ≡ b → T (compare_is_eq o)) → Cmp o a b
    go Ordering.lt h k e n = lt_of_le-ne (h tt) n
    go Ordering.eq h k e n = e tt
    go Ordering.gt h k e n = k tt

-- the nearest whole number is at most a half away
half : (q r b : ℕ) (o : Ordering) → Cmp o (r * 2) b → r < b
    → (2 * (nearest q o * b) ≤ 2 * (q * b + r) + b) × (2 * (q * b + r) ≤ 2 * (nearest q o * b) + b)
half q r b Ordering.lt h l = (omega arith, omega arith)
half q r b Ordering.eq h l = go (q % 2) refl
  where
    go : (z : ℕ) → q % 2 ≡ z → (2 * ((q + z) * b) ≤ 2 * (q * b + r) + b) × (2 * (q * b + r) ≤ 2 * ((q + z) * b) + b)
    go zero e = (omega arith, omega arith)
    go (suc zero) e = (omega arith, omega arith)
    go (suc (suc z)) e = absurd (no q z e)
      where
        no : (q z : ℕ) → q % 2 ≡ suc (suc z) → ⊥
        no q z e = omega arith
half q r b Ordering.gt h l = (omega arith, omega arith)

pub closest-near : (a b : ℕ) → 0 < b → (2 * (closest a b * b) ≤ 2 * a + b) × (2 * a ≤ 2 * (closest a b * b) + b)
closest-near a b B =
    let h = half (a / b) (a % b) b (compare (a % b * 2) b) (cmp (a % b * 2) b) (mod-lt a B) in
    let e : a / b * b + a % b ≡ a = div-add-mod' a b in (
      subst (λ (z : ℕ). 2 * (closest a b * b) ≤ 2 * z + b) e h.0,
      subst (λ (z : ℕ). 2 * z ≤ 2 * (closest a b * b) + b) e h.1,
    )

-- ---- the error
-- the unit is c, or it is 2 ^ q times less than n at least, for every q below p
unit : (p q n c : ℕ) → q < p → 0 < c → 2 ^ q * (c * 2 ^ drop p n c) ≤ n + 2 ^ q * c
unit p q n c P C = go (drop p n c) refl
  where
    go : (k : ℕ) → drop p n c ≡ k → 2 ^ q * (c * 2 ^ k) ≤ n + 2 ^ q * c
    go zero e = fin (2 ^ q)
      where
        fin : (Q : ℕ) → Q * (c * 1) ≤ n + Q * c
        fin Q = omega arith
    go (suc k) e =
        let r : 2 ^ (q + suc k) ≤ n / c = size_reaches (n / c) (q + suc k) (deep (size (n / c)) e) in
        fin (2 ^ (q + suc k)) (2 ^ q) (2 ^ suc k) (pow-add 2 q (suc k)) ((le-div_iff_mul-le C).0 r)
      where
        deep : (z : ℕ) → z - p ≡ suc k → q + suc k < z
        deep z e = omega arith

        fin : (a Q b : ℕ) → a ≡ Q * b → a * c ≤ n → Q * (c * b) ≤ n + Q * c
        fin a Q b e h = omega (arith, h, ap (λ (z : ℕ). z * c) e)

-- so the error of n / c units is at most 2 ^ -(q + 1) of them, and half a unit of the least
pub error-by : (p q n c : ℕ) → q < p → 0 < c
    → (2 * 2 ^ q * (rq p n c * c) ≤ 2 * 2 ^ q * n + n + 2 ^ q * c) × (2 * 2 ^ q * n ≤ 2 * 2 ^ q * (rq p n c * c) + n + 2 ^ q * c)
error-by p q n c P C =
    let u = c * 2 ^ drop p n c in
    let h = closest-near n u (mul-pos C (pow_pos (drop p n c))) in
    both (2 ^ q) (rq p n c * c) (kept p n c * u) u (re (kept p n c) (2 ^ drop p n c) c) h.0 h.1 (unit p q n c P C)
  where
    re : (q x c : ℕ) → q * x * c ≡ q * (c * x)
    re q x c = omega arith

    both : (Q a b u : ℕ) → a ≡ b → 2 * b ≤ 2 * n + u → 2 * n ≤ 2 * b + u → Q * u ≤ n + Q * c
        → (2 * Q * a ≤ 2 * Q * n + n + Q * c) × (2 * Q * n ≤ 2 * Q * a + n + Q * c)
    both Q a b u e h k w = (
      omega (arith, w, mul-le-mul_left Q h, ap (λ (z : ℕ). Q * z) e),
      omega (arith, w, mul-le-mul_left Q k, ap (λ (z : ℕ). Q * z) e),
    )

pub error : (p n c : ℕ) → 20 < p → 0 < c
    → (2 ^ 21 * (rq p n c * c) ≤ 2 ^ 21 * n + n + 2 ^ 20 * c) × (2 ^ 21 * n ≤ 2 ^ 21 * (rq p n c * c) + n + 2 ^ 20 * c)
error p n c P C = error-by p 20 n c P C

-- ---- the order (as in lib.Ieee.Order, where it is private)
size_mono : (a b : ℕ) → a ≤ b → size a ≤ size b
size_mono a b h = size-le a (size b) (lt_of_le_of_lt h (size-lt b))

same_drop : (k a b c d : ℕ) → 0 < b → 0 < d → a * d ≤ c * b → closest a (b * 2 ^ k) * 2 ^ k ≤ closest c (d * 2 ^ k) * 2 ^ k
same_drop k a b c d B D h =
    mul-le-mul_right (2 ^ k)
    (closest_mono a (b * 2 ^ k) c (d * 2 ^ k) (mul-pos B (pow_pos k)) (mul-pos D (pow_pos k))
    (le_trans (le_of_eq (sym (mul_assoc a d (2 ^ k)))) (le_trans (mul-le-mul_right (2 ^ k) h) (le_of_eq (mul_assoc c b (2 ^ k))))))

fewer : (x y p : ℕ) → x ≤ y → x - p ≤ y - p
fewer x y p h = omega arith

room : (p j k : ℕ) → 0 < p → j < k → p + j ≤ p - 1 + k
room p j k P h = omega arith

pub rq-mono : (p a b c d : ℕ) → 0 < p → 0 < b → 0 < d → a * d ≤ c * b → rq p a b ≤ rq p c d
rq-mono p a b c d P B D h =
    let j = drop p a b in
    let k = drop p c d in
    let sizes : size (a / b) ≤ size (c / d) = size_mono (a / b) (c / d) (div_mono a b c d B D h) in
    elim (eq-or-lt_of_le (fewer (size (a / b)) (size (c / d)) p sizes)) [
      | inl e ↦ subst (λ (x : ℕ). closest a (b * 2 ^ x) * 2 ^ x ≤ kept p c d * 2 ^ k) (sym e) (same_drop k a b c d B D h)
      | inr l ↦
          le_trans (mul-le-mul_right (2 ^ j) (kept-le p a b))
          (le_trans (le_of_eq (sym (pow-add 2 p j)))
          (le_trans (pow_mono (room p j k P l))
          (le_trans (le_of_eq (pow-add 2 (p - 1) k)) (mul-le-mul_right (2 ^ k) (kept-ge p c d P (lt_of_le_of_lt zero-le l))))))
    ]

-- equal fractions round alike
pub rq-same : (p a b c d : ℕ) → 0 < b → 0 < d → a * d ≡ c * b → rq p a b ≡ rq p c d
rq-same p a b c d B D e =
    let k : drop p a b ≡ drop p c d = ap (λ (z : ℕ). size z - p) (div_same a b c d B D e) in
    let j = drop p c d in
    let y : a * (d * 2 ^ j) ≡ c * (b * 2 ^ j) = sym (mul_assoc a d (2 ^ j)) ∙ ap (λ (z : ℕ). z * 2 ^ j) e ∙ mul_assoc c b (2 ^ j) in
    ap (λ (z : ℕ). closest a (b * 2 ^ z) * 2 ^ z) k
    ∙ ap (λ (z : ℕ). z * 2 ^ j) (closest_same a (b * 2 ^ j) c (d * 2 ^ j) (mul-pos B (pow_pos j)) (mul-pos D (pow_pos j)) y)

pub rq-zero : (p : ℕ) → rq p 0 1 ≡ 0
unfolding size
rq-zero p = go (0 - p) (omega arith)
  where
    go : (k : ℕ) → k ≡ 0 → closest 0 (1 * 2 ^ k) * 2 ^ k ≡ 0
    go zero e = refl
    go (suc k) e = absurd (suc-ne-zero k e)

-- ---- where rounding changes nothing
closest-exact : (a u : ℕ) → 0 < u → closest (a * u) u ≡ a
closest-exact a u U = let h = closest-near (a * u) u U in fin (closest (a * u) u) h.0 h.1
  where
    high : (c : ℕ) → suc a * u ≤ c * u → 2 * (c * u) ≤ 2 * (a * u) + u → ⊥
    high c x y = omega (arith, x, y, U)

    low : (c : ℕ) → suc c * u ≤ a * u → 2 * (a * u) ≤ 2 * (c * u) + u → ⊥
    low c x y = omega (arith, x, y, U)

    fin : (c : ℕ) → 2 * (c * u) ≤ 2 * (a * u) + u → 2 * (a * u) ≤ 2 * (c * u) + u → c ≡ a
    fin c x y = le_antisymm (le_of_suc-le-suc (lt_of_not-le (λ (l : suc a ≤ c). high c (mul-le-mul_right u l) x)))
        (le_of_suc-le-suc (lt_of_not-le (λ (l : suc c ≤ a). low c (mul-le-mul_right u l) y)))

pub rq-exact : (p q j : ℕ) → q < 2 ^ p → rq p (q * 2 ^ j) 1 ≡ q * 2 ^ j
rq-exact p q j h =
    let n = q * 2 ^ j in
    let k = drop p n 1 in
    let kj : k ≤ j = spare (size (n / 1)) p j (size-le (n / 1) (p + j) (lt_of_le_of_lt (le_of_eq (div-one n)) (shl_lt p j h))) in
    let a : ℕ = q * 2 ^ (j - k) in
    let e : n ≡ a * 2 ^ k =
    ap (λ (z : ℕ). q * 2 ^ z) (sym (sub-add_cancel kj)) ∙ ap (λ (z : ℕ). q * z) (pow-add 2 (j - k) k) ∙ sym (mul_assoc q (2 ^ (j - k)) (2 ^ k)) in
    ap (λ (z : ℕ). closest n z * 2 ^ k) (one-mul (2 ^ k)) ∙ ap (λ (z : ℕ). closest z (2 ^ k) * 2 ^ k) e
    ∙ ap (λ (z : ℕ). z * 2 ^ k) (closest-exact a (2 ^ k) (pow_pos k)) ∙ sym e
  where
    spare : (z p l : ℕ) → z ≤ p + l → z - p ≤ l
    spare z p l h = omega arith
