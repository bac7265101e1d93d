-- From the kit's rounding to ours: the bits of `Ieee.round f s num den` are the sign and `rounded` of the same fraction, in units. Assumes nothing.
use mathlib.Core.Path.{◌≡◌, refl, sym, ap, ◌∙◌, subst}
use mathlib.Core.Logic.{◌⊎◌, inl, inr}
use Prim.Native.Nat.{ℕ, zero, suc, ◌+◌, ◌-◌, ◌*◌, ◌/◌, ◌%◌, ◌^◌, ◌≤◌, ◌<◌, min, compare}
use native.Mathlib.Nat.{le_trans, le_of_eq, lt_of_lt_of_le, lt_of_le_of_lt, not-le_of_lt, eq-or-lt_of_le, add_assoc, mul-one, mul-pos, mul-le-mul_right, mul-div_cancel, le-div_iff_mul-le, div-div-eq-div-mul, suc-mul}
use native.Mathlib.Omega.{arith}
use mathlib.Core.Bool.{Bool, true, false, not, cond}
use lib.Dec.{T, ltb, ltb→lt, nltb→le}
use lib.Pow.{pow-add, pow_pos, pow-lt, shl_lt}
use lib.Count.{count_trailing_zeros}
use lib.IntN.{ℤ, pos}
use lib.Ieee as Ieee
use lib.Ieee.{inf, fin, prec, emax, down, minus, size, odd}
use lib.Ieee.Digits.{Equals, odd_val, size-le, size_reaches}
use lib.Ieee.Fits.{two, reach, two-le_pos, kept-lt, nearest-le, round_is, down_pos}
use lib.Ieee.Nearest.{nearest-ge}
use lib.Ieee.Order.{drop, kept}
use Rattle.words.specs.Format.{low, hid, top, infinity, signed, ours}
use Rattle.words.specs.Rounding.{rounded}
use Rattle.words.proofs.Even.{rounded-nearest}
use Rattle.words.proofs.Digits.{size-gt, size_exact, twice_hid}

-- ---- what rounding keeps: at most 2 ^ p, and 2 ^ (p - 1) at least where digits are dropped
pub kept-le : (p n den : ℕ) → kept p n den ≤ 2 ^ p
kept-le p n den =
    let k = drop p n den in
    let u = den * 2 ^ k in
    le_trans (nearest-le (n / u) (compare (n % u * 2) u)) (subst (λ (x : ℕ). x < 2 ^ p) (div-div-eq-div-mul n den (2 ^ k)) (kept-lt p (n / den)))

pub kept-ge : (p n den : ℕ) → 0 < p → 0 < drop p n den → 2 ^ (p - 1) ≤ kept p n den
kept-ge p n den P K =
    let k = drop p n den in
    let u = den * 2 ^ k in
    let w = n / den in
    let a : 2 ^ (p - 1) * 2 ^ k ≤ w = le_trans (le_of_eq (sym (pow-add 2 (p - 1) k))) (size_reaches w (p - 1 + k) (all_in_use (size w) p P K)) in
    le_trans (subst (λ (x : ℕ). 2 ^ (p - 1) ≤ x) (div-div-eq-div-mul n den (2 ^ k)) ((le-div_iff_mul-le (pow_pos k)).1 a)) (nearest-ge (n / u) (compare (n % u * 2) u))
  where
    all_in_use : (z p : ℕ) → 0 < p → 0 < z - p → p - 1 + (z - p) < z
    all_in_use z p P h = omega arith

-- ---- the word of n units: the field says how many digits are dropped, and the leading digit adds one to it
abbrev pub word : ℕ → ℕ → ℕ
word p n = (size n - p) * 2 ^ (p - 1) + n / 2 ^ (size n - p)

-- q * 2 ^ k units, where q has p digits if k is not 0, or is 2 ^ p
pub word-is : (p q k : ℕ) → 0 < p → q ≤ 2 ^ p → (0 < k → 2 ^ (p - 1) ≤ q) → word p (q * 2 ^ k) ≡ k * 2 ^ (p - 1) + q
word-is p q k P Q K = go (ltb q h) (ltb→lt q h) (nltb→le q h)
  where
    h : ℕ
    h = 2 ^ (p - 1)

    at : (x : ℕ) (y : ℕ) → size (q * 2 ^ k) - p ≡ x → q * 2 ^ k ≡ y * 2 ^ x → word p (q * 2 ^ k) ≡ x * h + y
    at x y e d =
        ap (λ (z : ℕ). z * h + q * 2 ^ k / 2 ^ z) e ∙ ap (λ (z : ℕ). x * h + z) (ap (λ (z : ℕ). z / 2 ^ x) d ∙ mul-div_cancel y (pow_pos x))

    none : (k q h : ℕ) → q < h → (0 < k → h ≤ q) → k ≡ 0
    none zero q h a b = refl
    none (suc k) q h a b = absurd (not-le_of_lt a (b (zero-lt k)))
      where
        zero-lt : (k : ℕ) → 0 < suc k
        zero-lt k = omega arith

    few : (z p : ℕ) → z ≤ p - 1 → z - p ≡ 0
    few z p a = omega arith

    less : (z p k : ℕ) → 0 < p → z ≡ suc (p - 1 + k) → z - p ≡ k
    less z p k a e = omega arith

    more : (z p k : ℕ) → z ≡ suc (p + k) → z - p ≡ suc k
    more z p k e = omega arith

    next : (p k : ℕ) → 0 < p → p + k ≡ suc (p - 1 + k)
    next p k a = omega arith

    sums : (kh q h : ℕ) → q ≡ 2 * h → kh + h + h ≡ kh + q
    sums kh q h e = omega arith

    full : (q ≡ 2 ^ p) ⊎ (q < 2 ^ p) → h ≤ q → word p (q * 2 ^ k) ≡ k * h + q
    full (inr l) g =
        at k q
        (less (size (q * 2 ^ k)) p k P
        (size_exact (p - 1 + k) (q * 2 ^ k) (le_trans (le_of_eq (pow-add 2 (p - 1) k)) (mul-le-mul_right (2 ^ k) g)) (subst (λ (z : ℕ). q * 2 ^ k < 2 ^ z) (next p k P) (shl_lt p k l))))
        refl
    full (inl e) g =
        let n : q * 2 ^ k ≡ 2 ^ (p + k) = ap (λ (z : ℕ). z * 2 ^ k) e ∙ sym (pow-add 2 p k) in
        at (suc k) h
        (more (size (q * 2 ^ k)) p k (size_exact (p + k) (q * 2 ^ k) (le_of_eq (sym n)) (lt_of_le_of_lt (le_of_eq n) (pow-lt (le_of_eq refl)))))
        (n ∙ ap (λ (z : ℕ). 2 ^ z) (next' p k P) ∙ pow-add 2 (p - 1) (suc k))
        ∙ ap (λ (z : ℕ). z + h) (suc-mul k h)
        ∙ sums (k * h) q h (e ∙ twice_hid p P)
      where
        next' : (p k : ℕ) → 0 < p → p + k ≡ p - 1 + suc k
        next' p k a = omega arith

    go : (b : Bool) → (T b → q < h) → (T (not b) → h ≤ q) → word p (q * 2 ^ k) ≡ k * h + q
    go false a b = full (eq-or-lt_of_le Q) (b tt)
    go true a b =
        let z : k ≡ 0 = none k q h (a tt) K in
        let n : q * 2 ^ k ≡ q = ap (λ (x : ℕ). q * 2 ^ x) z ∙ mul-one q in
        at 0 q (few (size (q * 2 ^ k)) p (size-le (q * 2 ^ k) (p - 1) (lt_of_le_of_lt (le_of_eq n) (a tt)))) (n ∙ sym (mul-one q))
        ∙ ap (λ (x : ℕ). x * h + q) (sym z)

-- ---- the word reaches infinity's exactly where the number reaches 2 ^ (emax + 1)
word-under : (p e n : ℕ) → 2 ≤ p → p ≤ suc e → n < 2 ^ (e + p - 2 + suc e) → word p n < (2 * e + 1) * 2 ^ (p - 1)
word-under p e n P R h =
    let x = size n - p in
    lt_of_lt_of_le (near (x * 2 ^ (p - 1)) (n / 2 ^ x) (2 ^ (p - 1)) (2 ^ p) (twice_hid p (two-le_pos p P)) (kept-lt p n))
    (le_trans (le_of_eq (sym (suc-suc x (2 ^ (p - 1))))) (mul-le-mul_right (2 ^ (p - 1)) (field (size n) p e P R (size-le n (e + p - 2 + suc e) h))))
  where
    near : (a b h w : ℕ) → w ≡ 2 * h → b < w → a + b < a + h + h
    near a b h w d l = omega arith

    suc-suc : (x h : ℕ) → suc (suc x) * h ≡ x * h + h + h
    suc-suc x h = suc-mul (suc x) h ∙ ap (λ (z : ℕ). z + h) (suc-mul x h)

    field : (z p e : ℕ) → 2 ≤ p → p ≤ suc e → z ≤ e + p - 2 + suc e → suc (suc (z - p)) ≤ 2 * e + 1
    field z p e a b c = omega arith

word_over : (p e n : ℕ) → 2 ≤ p → 2 ^ (e + p - 2 + suc e) ≤ n → (2 * e + 1) * 2 ^ (p - 1) ≤ word p n
word_over p e n P h =
    let z = size n in
    let x = z - p in
    let g : e + p - 2 + suc e < z = size-gt n (e + p - 2 + suc e) h in
    let lead : 2 ^ (p - 1) * 2 ^ x ≤ n = le_trans (le_of_eq (sym (pow-add 2 (p - 1) x))) (size_reaches n (p - 1 + x) (lead-lt z p e P g)) in
    le_trans (mul-le-mul_right (2 ^ (p - 1)) (field z p e P g))
    (le_trans (le_of_eq (suc-mul x (2 ^ (p - 1)))) (plus (x * 2 ^ (p - 1)) (2 ^ (p - 1)) (n / 2 ^ x) ((le-div_iff_mul-le (pow_pos x)).1 lead)))
  where
    lead-lt : (z p e : ℕ) → 2 ≤ p → e + p - 2 + suc e < z → p - 1 + (z - p) < z
    lead-lt z p e a b = omega arith

    field : (z p e : ℕ) → 2 ≤ p → e + p - 2 + suc e < z → 2 * e + 1 ≤ suc (z - p)
    field z p e a b = omega arith

    plus : (a b c : ℕ) → b ≤ c → a + b ≤ a + c
    plus a b c l = omega arith

-- ---- the bits of what the kit rounds to
to_bits_val : (f : Ieee.Format) (s : Bool) (m : ℕ) (e : ℤ) (a : ℕ) → Equals (fin s m e) a (2 ^ Ieee.low f) → Ieee.to_bits f (fin s m e) ≡ signed (ours f) s (word (prec f) a)
unfolding Ieee.to_bits
to_bits_val f s m e a h =
    ap (λ (x : ℕ). cond s (top (ours f)) 0 + (size x - prec f) * hid (ours f) + x / 2 ^ (size x - prec f)) (ap (λ (x : ℕ). x / down e) h ∙ mul-div_cancel a (down_pos e))
    ∙ add_assoc (cond s (top (ours f)) 0) ((size a - prec f) * hid (ours f)) (a / 2 ^ (size a - prec f))

to_bits_odd : (f : Ieee.Format) (d : ℕ) (s : Bool) (q k : ℕ) → Ieee.to_bits f (odd d s q k (Ieee.low f)) ≡ signed (ours f) s (word (prec f) (q * 2 ^ k))
unfolding odd
to_bits_odd f d s zero k = to_bits_val f s 0 (pos 0) (0 * 2 ^ k) (odd_val d s zero k (Ieee.low f))
to_bits_odd f d s (suc q) k =
    to_bits_val f s (suc q / 2 ^ count_trailing_zeros d (suc q)) (minus (k + count_trailing_zeros d (suc q)) (Ieee.low f)) (suc q * 2 ^ k) (odd_val d s (suc q) k (Ieee.low f))

pub to_bits_inf : (f : Ieee.Format) (s : Bool) → Ieee.to_bits f (inf s) ≡ signed (ours f) s (infinity (ours f))
unfolding Ieee.to_bits
to_bits_inf f s = refl

to_bits-units : (f : Ieee.Format) (s : Bool) (q k : ℕ) → q ≤ 2 ^ prec f → (0 < k → hid (ours f) ≤ q)
    → Ieee.to_bits f (Ieee.units f s q k) ≡ signed (ours f) s (min (k * hid (ours f) + q) (infinity (ours f)))
unfolding Ieee.units
to_bits-units f s q k Q K = go (ltb (q * 2 ^ k) over) (ltb→lt (q * 2 ^ k) over) (nltb→le (q * 2 ^ k) over)
  where
    over : ℕ
    over = 2 ^ (Ieee.low f + suc (emax f))

    is : word (prec f) (q * 2 ^ k) ≡ k * hid (ours f) + q
    is = word-is (prec f) q k (two-le_pos (prec f) (two f)) Q K

    capped : (a b : ℕ) → a < b → a ≡ min a b
    capped a b h = omega arith

    full : (a b : ℕ) → b ≤ a → b ≡ min a b
    full a b h = omega arith

    go : (b : Bool) → (T b → q * 2 ^ k < over) → (T (not b) → over ≤ q * 2 ^ k)
        → Ieee.to_bits f (cond b (odd (suc (prec f)) s q k (Ieee.low f)) (inf s)) ≡ signed (ours f) s (min (k * hid (ours f) + q) (infinity (ours f)))
    go true a b =
        to_bits_odd f (suc (prec f)) s q k
        ∙ ap (signed (ours f) s) (is ∙ capped (k * hid (ours f) + q) (infinity (ours f)) (subst (λ (z : ℕ). z < infinity (ours f)) is (word-under (prec f) (emax f) (q * 2 ^ k) (two f) (reach f) (a tt))))
    go false a b =
        to_bits_inf f s
        ∙ ap (signed (ours f) s) (full (k * hid (ours f) + q) (infinity (ours f)) (subst (λ (z : ℕ). infinity (ours f) ≤ z) is (word_over (prec f) (emax f) (q * 2 ^ k) (two f) (b tt))))

-- THE BRIDGE
pub to_bits-round : (f : Ieee.Format) (s : Bool) (num den : ℕ) → 0 < den → Ieee.to_bits f (Ieee.round f s num den) ≡ signed (ours f) s (rounded (ours f) (num * 2 ^ low (ours f)) den)
to_bits-round f s num den D =
    let n = num * 2 ^ Ieee.low f in
    ap (Ieee.to_bits f) (round_is f s num den)
    ∙ to_bits-units f s (kept (prec f) n den) (drop (prec f) n den) (kept-le (prec f) n den) (kept-ge (prec f) n den (two-le_pos (prec f) (two f)))
    ∙ ap (signed (ours f) s) (sym (rounded-nearest (ours f) n den D (mul-pos (some (emax f)) (pow_pos (prec f - 1)))))
  where
    some : (e : ℕ) → 0 < 2 * e + 1
    some e = omega arith
