-- `scaled` is the word of the kit's product with a power of two. Assumes nothing.
use mathlib.Core.Path.{◌≡◌, subst, refl, sym, ap, ◌∙◌}
use mathlib.Core.Logic.{◌⊎◌, inl, inr}
use Prim.Native.Nat.{ℕ, ◌+◌, ◌-◌, ◌*◌, ◌/◌, ◌%◌, ◌^◌, ◌≤◌, ◌<◌, zero-le}
use native.Mathlib.Nat.{one-mul, mul-le-mul_right, div-lt_iff_lt-mul, le_of_suc-le-suc, mul_assoc, mul-pos, mod-eq_of_lt, lt_trans, lt_of_le_of_lt, zero-add, div-add-mod', mod-lt}
use native.Mathlib.Omega.{arith}
use mathlib.Core.Bool.{Bool, true, false, not, cond}
use lib.Dec.{T, leb, ltb, eqb, ltb→lt, nltb→le, eqb→eq, T_not}
use lib.Arith.{lt→nleb}
use lib.Bits.{bit_and, bit_or, and_mask, and_high, or_shifted, or_shifted_r}
use lib.Pow.{pow_pos, shr_mod}
use lib.IntN.{ℤ}
use lib.Ieee as Ieee
use borrow.Author.Tests.{lt-ltb, le-ltb, eq-eqb, ne_eqb}
use lib.Ieee.Bits.{is_false, nan_bits_is}
use lib.Ieee.{binary32, binary64, is_nan, nan_bits, Float, up, down, mul, of_bits, to_bits}
use lib.Ieee.Fits.{eq→eqb, down_pos}
use lib.Ieee.Exact.{HasValue}
use Rattle.words.specs.Format.{Format, top, infinity, quiet, signed, units, ours}
use Rattle.words.specs.Rounding.{even, rounded}
use Rattle.scale.specs.Scale.{scaled, power}
use Rattle.words.proofs.Round.{to_bits-round, to_bits_inf}
use Rattle.words.proofs.Rounded.{rounded-le, rounded-same, rounded-nothing}
use Rattle.words.proofs.Floats.{word_number, word-nan, word-inf, word-val, to_bits_nan}
use Rattle.words.proofs.Words.{sign-and-size, infinity-some, infinity-below}
use Rattle.scale.proofs.Powers.{mul-number, mul_val, mul-nan, mul-inf}

-- a finite value of a units
finite : (f : Ieee.Format) (x : Float) (s : Bool) (a : ℕ) (n : ℤ) → HasValue x s a (2 ^ Ieee.low f) → to_bits f (mul f x (power n)) ≡ signed (ours f) s (rounded (ours f) (a * up n) (down n))
finite f x s a n v =
    let l = 2 ^ Ieee.low f in
    ap (to_bits f) (mul_val f x s a l n (pow_pos (Ieee.low f)) v)
    ∙ to_bits-round f s (a * up n) (l * down n) (mul-pos (pow_pos (Ieee.low f)) (down_pos n))
    ∙ ap (signed (ours f) s) (rounded-same (ours f) (a * up n * l) (l * down n) (a * up n) (down n) (mul-pos (pow_pos (Ieee.low f)) (down_pos n)) (down_pos n) (mul_assoc (a * up n) l (down n)))

lt-of-both : (m i : ℕ) → m ≤ i → (m ≡ i → ⊥) → m < i
lt-of-both m i h n = omega arith

pub scaled-is : (f : Ieee.Format) (w : ℕ) (n : ℤ) → w < 2 * top (ours f) → to_bits f (mul f (of_bits f w) (power n)) ≡ scaled (ours f) w n
unfolding scaled
scaled-is f w n h = go (ltb i m) (eqb m i) (ltb→lt i m) (nltb→le i m) (eqb→eq m i) (λ (u : T (not (eqb m i))) (e : m ≡ i). T_not (eqb m i) u (eq→eqb e))
  where
    m : ℕ
    m = w % top (ours f)

    i : ℕ
    i = infinity (ours f)

    s : Bool
    s = leb (top (ours f)) w

    go : (b c : Bool) → (T b → i < m) → (T (not b) → m ≤ i) → (T c → m ≡ i) → (T (not c) → m ≡ i → ⊥)
        → to_bits f (mul f (of_bits f w) (power n)) ≡ cond b (quiet (ours f)) (cond c w (signed (ours f) s (rounded (ours f) (units (ours f) m * up n) (down n))))
    go true c a b d e = ap (to_bits f) (ap (λ (v : Float). mul f v (power n)) (word-nan f w (a tt)) ∙ mul-nan f n) ∙ to_bits_nan f
    go false true a b d e =
        ap (to_bits f) (ap (λ (v : Float). mul f v (power n)) (word-inf f w (d tt)) ∙ mul-inf f s n)
        ∙ to_bits_inf f s
        ∙ ap (signed (ours f) s) (sym (d tt))
        ∙ sign-and-size (top (ours f)) w h
    go false false a b d e = finite f (of_bits f w) s (units (ours f) m) n (word-val f w (lt-of-both m i (b tt) (e tt)))

-- a NaN's word
pub scaled-nan : (f : Format) (w : ℕ) (n : ℤ) → infinity f < w % top f → quiet f ≡ scaled f w n
unfolding scaled
scaled-nan f w n h = rw (lt-ltb (infinity f) (w % top f) h) refl

-- any other word's float is a number, and so is its product
pub scaled-number : (f : Ieee.Format) (w : ℕ) (n : ℤ) → w % top (ours f) ≤ infinity (ours f) → T (not (is_nan (mul f (of_bits f w) (power n))))
scaled-number f w n h = subst (λ (b : Bool). T (not b)) (sym (mul-number f (of_bits f w) n (sym (nan_bits_is f w) ∙ none (nan_bits f w) (word_number f w h)))) tt
  where
    none : (b : Bool) → T (not b) → b ≡ false
    none false t = refl
    none true t = absurd t

-- the other kinds of words, from the definition
pub scaled-infinity : (f : Format) (w : ℕ) (n : ℤ) → w % top f ≡ infinity f → scaled f w n ≡ w
unfolding scaled
scaled-infinity f w n e = rw (le-ltb (infinity f) (w % top f) (at_most (w % top f) (infinity f) e), eq-eqb (w % top f) (infinity f) e)
  where
    at_most : (a b : ℕ) → a ≡ b → a ≤ b
    at_most a b e = omega arith

pub scaled-finite : (f : Format) (w : ℕ) (n : ℤ) → w % top f < infinity f → scaled f w n ≡ signed f (leb (top f) w) (rounded f (units f (w % top f) * up n) (down n))
unfolding scaled
scaled-finite f w n h = rw (le-ltb (infinity f) (w % top f) (at_most (w % top f) (infinity f) h), ne_eqb (w % top f) (infinity f) (λ (e : w % top f ≡ infinity f). apart (w % top f) (infinity f) h e))
  where
    at_most : (a b : ℕ) → a < b → a ≤ b
    at_most a b e = omega arith

    apart : (a b : ℕ) → a < b → a ≡ b → ⊥
    apart a b h e = omega arith

pub scaled-zero : (f : Format) (w : ℕ) (n : ℤ) → 0 < f.digits → w < 2 * top f → w % top f ≡ 0 → scaled f w n ≡ w
scaled-zero f w n P W e =
    scaled-finite f w n (subst (λ (z : ℕ). z < infinity f) (sym e) (infinity-some f))
    ∙ ap (signed f (leb (top f) w)) (ap (λ (z : ℕ). rounded f (units f z * up n) (down n)) e ∙ rounded-nothing f (up n) (down n) P (down_pos n) ∙ sym e)
    ∙ sign-and-size (top f) w W

-- a finite size's word
pub scaled-size : (f : Format) (m : ℕ) (n : ℤ) → m < infinity f → scaled f m n ≡ rounded f (units f m * up n) (down n)
scaled-size f m n h =
    let t = top f in
    let again : m % t ≡ m = mod-eq_of_lt (lt_trans h (infinity-below f)) in
    scaled-finite f m n (subst (λ (z : ℕ). z < infinity f) (sym again) h)
    ∙ ap (λ (s : Bool). cond s t 0 + rounded f (units f (m % t) * up n) (down n)) (is_false (leb t m) (lt→nleb t m (lt_trans h (infinity-below f))))
    ∙ zero-add (rounded f (units f (m % t) * up n) (down n))
    ∙ ap (λ (z : ℕ). rounded f (units f z * up n) (down n)) again

-- a finite word: its sign, and its size scaled
pub scaled-signed : (f : Format) (w : ℕ) (n : ℤ) → w < 2 * top f → w % top f < infinity f → (scaled f (w % top f) n < top f) × (scaled f w n ≡ w / top f * top f + scaled f (w % top f) n)
scaled-signed f w n W h =
    let m = w % top f in
    let t = top f in
    let r = rounded f (units f m * up n) (down n) in
    let size : scaled f m n ≡ r = scaled-size f m n h in
    (subst (λ (z : ℕ). z < t) (sym size) (lt_of_le_of_lt (rounded-le even f _ _ _) (infinity-below f)), scaled-finite f w n h ∙ ap (λ (z : ℕ). z + r) (sign (cond (leb t w) t 0) (w / t * t) m w (sign-and-size t w W) (div-add-mod' w t)) ∙ ap (λ (z : ℕ). w / t * t + z) (sym size))
  where
    sign : (a b m w : ℕ) → a + m ≡ w → b + m ≡ w → a ≡ b
    sign a b m w x y = omega arith

-- a zero and an infinity stay as they are
pub scaled-kept : (f : Format) (w ix : ℕ) (n : ℤ) → 0 < f.digits → w < 2 * top f → ix ≡ w % top f → (ix ≡ 0) ⊎ (ix ≡ infinity f) → w ≡ scaled f w n
scaled-kept f w ix n P W e (inl z) = sym (scaled-zero f w n P W (sym e ∙ z))
scaled-kept f w ix n P W e (inr z) = sym (scaled-infinity f w n (sym e ∙ z))

-- the sign's digit k of a word, alone and before a size
pub sign-alone : (k x : ℕ) → x < 2 ^ (1 + k) → bit_and x (2 ^ (1 + k) - 2 ^ k) ≡ x / 2 ^ k * 2 ^ k
sign-alone k x h = and_high x 1 k ∙ ap (λ (z : ℕ). z * 2 ^ k) (shr_mod 1 k h)

pub sign-before : (k x s : ℕ) → x < 2 ^ (1 + k) → s < 2 ^ k → bit_or (bit_and x (2 ^ (1 + k) - 2 ^ k)) s ≡ x / 2 ^ k * 2 ^ k + s
sign-before k x s h l = ap (λ (z : ℕ). bit_or z s) (sign-alone k x h) ∙ or_shifted (x / 2 ^ k) k s l

-- the same at each format, of what the machine holds of the word, the sign's weight and the size
pub sign_of : (f : Ieee.Format) (x : ℕ) → x < 2 * top (ours f) → bit_and x (top (ours f)) ≡ x / top (ours f) * top (ours f)
sign_of binary32 x h = sign-alone 31 x h
sign_of binary64 x h = sign-alone 63 x h

pub sign_or : (f : Ieee.Format) (x s : ℕ) → x < 2 * top (ours f) → s < top (ours f) → bit_or (bit_and x (top (ours f))) s ≡ x / top (ours f) * top (ours f) + s
sign_or binary32 x s h l = sign-before 31 x s h l
sign_or binary64 x s h l = sign-before 63 x s h l

pub sign_or-fits : (f : Ieee.Format) (x s : ℕ) → x < 2 * top (ours f) → s < top (ours f) → bit_or (bit_and x (top (ours f))) s < 2 * top (ours f)
sign_or-fits f x s h l =
    let t = top (ours f) in
    rw (sign_or f x s h l) (within (x / t * t) s t (mul-le-mul_right t (le_of_suc-le-suc ((div-lt_iff_lt-mul (lt_of_le_of_lt zero-le l)).1 h))) l)
  where
    within : (a s t : ℕ) → a ≤ 1 * t → s < t → a + s < 2 * t
    within a s t h l = omega arith

-- a size's last k digits with the leading one before them
pub digits-with-leading : (k z : ℕ) → bit_or (bit_and z (2 ^ k - 1)) (1 * 2 ^ k) ≡ 2 ^ k + z % 2 ^ k
digits-with-leading k z = ap (λ (b : ℕ). bit_or b (1 * 2 ^ k)) (and_mask z k) ∙ or_shifted_r 1 k (z % 2 ^ k) (mod-lt z (pow_pos k)) ∙ ap (λ (b : ℕ). b + z % 2 ^ k) (one-mul (2 ^ k))
