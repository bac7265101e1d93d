-- The float of a word: its sign, its size in units by the word's field and digits, NaNs and infinities; and a float's size is rounded to itself.
use mathlib.Core.Path.{◌≡◌, refl, sym, ap, ◌∙◌, subst}
use mathlib.Core.Logic.{inl, inr}
use Prim.Native.Nat.{ℕ, zero, suc, ◌+◌, ◌-◌, ◌*◌, ◌/◌, ◌%◌, ◌^◌, ◌≤◌, ◌<◌}
use native.Mathlib.Nat.{le_trans, le_of_eq, lt_of_le_of_lt, lt_of_lt_of_le, eq-or-lt_of_le, mul-one, pow-succ'}
use native.Mathlib.Nat.{mul-le-mul_left, mul-le-mul_right, mul-lt-mul_of_pos_right}
use native.Mathlib.Nat.{mod-lt, div-lt_iff_lt-mul}
use lib.Arith.{digits_div, digits_mod}
use Rattle.bounds.proofs.Choice.{order}
use native.Mathlib.Omega.{arith}
use mathlib.Core.Bool.{true, false}
use lib.Dec.{T, leb, leb→le, le→leb, not_T}
use lib.Pow.{pow_pos, pow_mono}
use lib.Ieee.{Float, Format, binary32, binary64, prec, low, hid, ones, top, is_nan, of_bits, to_bits}
use lib.Ieee.Fits.{two, two-le_pos}
use lib.Ieee.Bits.{is_true, is_false, nan_bits_is, nan_bits_above, of_bits-to_bits, of_bits-fits}
use lib.Ieee.Scale.{overflow, finite}
use borrow.Author.Tests.{le-ltb}
use Rattle.bounds.proofs.Formats.{infinity}
use Rattle.bounds.proofs.Grid.{rq-exact}
use Rattle.bounds.proofs.Signed.{sign, mag, Num, R, mag_is, has-finite}
use Rattle.words.specs.Format.{units_at, units}
use Rattle.words.proofs.Digits.{twice_hid}
use Rattle.words.proofs.Floats.{word-nan, word-inf, word-val}

pub nan-not : (f : Format) (n : ℕ) → n % top f ≤ infinity f → is_nan (of_bits f n) ≡ false
nan-not f n h = sym (nan_bits_is f n) ∙ nan_bits_above f n ∙ le-ltb _ _ h

-- ---- the float x of the finite word w
pub record Word (f : Format) (w : ℕ) (x : Float) : Type 0 where
  pub num : Num f x
  pub sgn : sign x ≡ leb (top f) w
  pub mag : mag f x ≡ units_at (hid f) (w % top f / hid f) (w % top f % hid f)

pub word : (f : Format) (w : ℕ) → w % top f < infinity f → Word f w (of_bits f w)
unfolding units
word f w h =
    let m = w % top f in
    let s = leb (top f) w in
    let n = units_at (hid f) (m / hid f) (m % hid f) in
    let v = word-val f w h in
    let e = mag_is f (of_bits f w) s n v in
    record { num = record { finite = has-finite (of_bits f w) s n (2 ^ low f) v; fits = of_bits-fits f w }; sgn = e.0; mag = e.1 }

-- a finite float's word is below infinity's
pub finite-word : (f : Format) (w : ℕ) → T (finite (of_bits f w)) → w % top f < infinity f
finite-word f w t = order (w % top f) (infinity f) (λ h. h) (λ h. absurd (no h))
  where
    no : infinity f ≤ w % top f → ⊥
    no l = elim (eq-or-lt_of_le l) [
      | inl e ↦ subst (λ (v : Float). T (finite v)) (word-inf f w (sym e)) t
      | inr k ↦ subst (λ (v : Float). T (finite v)) (word-nan f w k) t
    ]

pub word_of : (f : Format) (x : Float) → Num f x → Word f (to_bits f x) x
word_of f x h =
    let e : of_bits f (to_bits f x) ≡ x = of_bits-to_bits f x h.fits in
    subst (λ (v : Float). Word f (to_bits f x) v) e
    (word f (to_bits f x) (finite-word f (to_bits f x) (subst (λ (v : Float). T (finite v)) (sym e) h.finite)))

-- ---- a number of two places, and a word without its d lowest digits
pub quo : (q k r : ℕ) → r < k → (q * k + r) / k ≡ q
quo q k r l = digits_div q l

pub rem : (q k r : ℕ) → r < k → (q * k + r) % k ≡ r
rem q k r l = digits_mod q l

-- a word b of q, X, c and r, in the places 2 ^ d * g * o, 2 ^ d * g, 2 ^ d and 1
pub digits_of : (q X c r o g d : ℕ) → r < d → (q * (d * g * o) + (X * (d * g) + (c * d + r))) / d * d ≡ q * (d * g * o) + (X * (d * g) + c * d)
digits_of q X c r o g d l =
    ap (λ (z : ℕ). z / d * d) (re q X c r o g d)
    ∙ ap (λ (z : ℕ). z * d) (quo (q * (g * o) + X * g + c) d r l) ∙ re' q X c o g d
  where
    re : (q X c r o g d : ℕ) → q * (d * g * o) + (X * (d * g) + (c * d + r)) ≡ (q * (g * o) + X * g + c) * d + r
    re q X c r o g d = omega arith

    re' : (q X c o g d : ℕ) → (q * (g * o) + X * g + c) * d ≡ q * (d * g * o) + (X * (d * g) + c * d)
    re' q X c o g d = omega arith

-- the sign is above the top, whatever is below it
pub same_sign : (q k m m' : ℕ) → m < k → m' < k → leb k (q * k + m') ≡ leb k (q * k + m)
same_sign zero k m m' l l' = no k m' l' ∙ sym (no k m l)
  where
    no : (k m : ℕ) → m < k → leb k (0 * k + m) ≡ false
    no k m l = is_false (leb k (0 * k + m)) (not_T (leb k (0 * k + m)) (λ t. clash (leb→le k (0 * k + m) t)))
      where
        clash : k ≤ 0 * k + m → ⊥
        clash g = omega arith
same_sign (suc q) k m m' l l' = yes (suc q * k + m') (more q k m') ∙ sym (yes (suc q * k + m) (more q k m))
  where
    yes : (z : ℕ) → k ≤ z → leb k z ≡ true
    yes z h = is_true (leb k z) (le→leb k z h)

    more : (q k m : ℕ) → k ≤ suc q * k + m
    more q k m = omega arith

-- x is the float of the word with the places q, X and t
pub record Placed (f : Format) (q X t : ℕ) (x : Float) : Type 0 where
  pub num : Num f x
  pub sgn : sign x ≡ leb (top f) (q * top f + (X * hid f + t))
  pub mag : mag f x ≡ units_at (hid f) X t

pub placed : (f : Format) (w q X t : ℕ) → w ≡ q * top f + (X * hid f + t) → t < hid f → X < ones f → Placed f q X t (of_bits f w)
placed f w q X t e h k =
    subst (λ (v : ℕ). Placed f q X t (of_bits f v)) (sym e)
    (let w = word f (q * top f + (X * hid f + t)) (lt_of_le_of_lt (le_of_eq mody) under) in
    record {
      num = w.num;
      sgn = w.sgn;
      mag =
          w.mag ∙ ap (λ (z : ℕ). units_at (hid f) (z / hid f) (z % hid f)) mody
          ∙ ap (λ (z : ℕ). units_at (hid f) z ((X * hid f + t) % hid f)) (quo X (hid f) t h)
          ∙ ap (units_at (hid f) X) (rem X (hid f) t h);
    })
  where
    under : X * hid f + t < infinity f
    under = fin X (ones f) (hid f) t h k
      where
        fin : (X o h t : ℕ) → t < h → X < o → X * h + t < o * h
        fin X o h t a b = omega (arith, a, mul-le-mul_right h b)

    below_top : (o h : ℕ) → o * h ≤ h * suc o
    below_top o h = omega arith

    mody : (q * top f + (X * hid f + t)) % top f ≡ X * hid f + t
    mody = rem q (top f) (X * hid f + t) (lt_of_lt_of_le under (below_top (ones f) (hid f)))

-- ---- a float's size is rounded to itself, and is below the overflow
pub mag-exact : (f : Format) (x : Float) → Num f x → R f (mag f x) ≡ mag f x
mag-exact f x h =
    let w = word_of f x h in
    let m = to_bits f x % top f in
    ap (R f) w.mag ∙ at (m / hid f) (m % hid f) (mod-lt m (pow_pos (prec f - 1))) ∙ sym w.mag
  where
    twice : 2 ^ prec f ≡ 2 * hid f
    twice = twice_hid (prec f) (two-le_pos (prec f) (two f))

    less : (h t q : ℕ) → q ≡ 2 * h → t < h → (t < q) × (h + t < q)
    less h t q e l = (omega arith, omega arith)

    at : (X t : ℕ) → t < hid f → R f (units_at (hid f) X t) ≡ units_at (hid f) X t
    at zero t l = ap (R f) (sym (mul-one t)) ∙ rq-exact (prec f) t 0 (less (hid f) t (2 ^ prec f) twice l).0 ∙ mul-one t
    at (suc X) t l = rq-exact (prec f) (hid f + t) X (less (hid f) t (2 ^ prec f) twice l).1

pub mag-under : (f : Format) (x : Float) → Num f x → mag f x < overflow f
mag-under f x h =
    let w = word_of f x h in
    let m = to_bits f x % top f in
    let t : T (finite (of_bits f (to_bits f x))) = subst (λ (v : Float). T (finite v)) (sym (of_bits-to_bits f x h.fits)) h.finite in
    let X : m / hid f < ones f = (div-lt_iff_lt-mul (pow_pos (prec f - 1))).1 (finite-word f (to_bits f x) t) in
    lt_of_le_of_lt (le_of_eq w.mag) (at (m / hid f) (m % hid f) (mod-lt m (pow_pos (prec f - 1))) X)
  where
    over : (f : Format) → hid f * 2 ^ (ones f - 1) ≡ overflow f
    over binary32 = refl
    over binary64 = refl

    at : (X t : ℕ) → t < hid f → X < ones f → units_at (hid f) X t < overflow f
    at zero t l k =
        lt_of_lt_of_le l (le_trans (le_of_eq (sym (mul-one (hid f)))) (le_trans (mul-le-mul_left (hid f) (pow_pos (ones f - 1))) (le_of_eq (over f))))
    at (suc X) t l k =
        lt_of_lt_of_le (fin (hid f) t (2 ^ X) (2 ^ suc X) (pow-succ' 2 X) l (pow_pos X))
        (le_trans (mul-le-mul_left (hid f) (pow_mono (before X (ones f) k))) (le_of_eq (over f)))
      where
        fin : (h t p q : ℕ) → q ≡ 2 * p → t < h → 0 < p → (h + t) * p < h * q
        fin h t p q e l k = omega (arith, ap (λ (z : ℕ). h * z) e, mul-lt-mul_of_pos_right l k)

        before : (X o : ℕ) → suc X < o → suc X ≤ o - 1
        before X o h = omega arith
