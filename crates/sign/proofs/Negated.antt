-- The other sign through the float operations: a rounding, a product, a quotient by it, and the words of floats that are no NaN.
use mathlib.Core.Path.{◌≡◌, refl, sym, ap, ◌∙◌, subst}
use Prim.Native.Nat.{ℕ, zero, suc, ◌+◌, ◌-◌, ◌*◌, ◌/◌, ◌^◌, ◌≤◌, ◌<◌}
use native.Mathlib.Nat.{le_trans, le_of_eq, lt_of_le_of_lt, mod-eq_of_lt, add_assoc}
use native.Mathlib.Omega.{arith}
use mathlib.Core.Bool.{Bool, true, false, not, cond, true≢false}
use lib.Dec.{T, ltb, eqb}
use lib.IntN.{ℤ, pos}
use lib.Ieee.{Float, nan, inf, fin, Format, prec, emax, low, hid, ones, top, up, down, unlike}
use lib.Ieee.{odd, units, round, mul, div, neg, is_nan, of_bits, to_bits, fits, size}
use lib.Ieee.Fits.{round_is, neg-fits}
use lib.Ieee.Bits.{to_bits-lt, to_bits-of_bits, of_bits-to_bits, of_bits-fits}
use Rattle.words.specs.Format.{signed, infinity, ours}
use Rattle.words.proofs.Words.{infinity-below, below-fits}
use Rattle.bounds.proofs.Words.{nan-not}
use Rattle.sign.specs.Sign.{flipped}
use Rattle.sign.proofs.Flipped.{plus-flipped, flipped_signed}

-- ---- a rounding
neg-odd : (d : ℕ) (s : Bool) (q k l : ℕ) → neg (odd d s q k l) ≡ odd d (not s) q k l
unfolding neg odd
neg-odd d s zero k l = refl
neg-odd d s (suc q) k l = refl

neg-cond : (b s : Bool) (x y : Float) → neg x ≡ y → neg (cond b x (inf s)) ≡ cond b y (inf (not s))
unfolding neg
neg-cond true s x y e = e
neg-cond false s x y e = refl

neg-units : (f : Format) (s : Bool) (q k : ℕ) → neg (units f s q k) ≡ units f (not s) q k
unfolding units
neg-units f s q k = neg-cond (ltb (q * 2 ^ k) (2 ^ (low f + suc (emax f)))) s _ _ (neg-odd (suc (prec f)) s q k (low f))

neg-round : (f : Format) (s : Bool) (a b : ℕ) → neg (round f s a b) ≡ round f (not s) a b
neg-round f s a b = ap neg (round_is f s a b) ∙ neg-units f s _ _ ∙ sym (round_is f (not s) a b)

-- ---- the sign of a product and of a quotient, and infinities with it
unlike-left : (s t : Bool) → unlike (not s) t ≡ not (unlike s t)
unlike-left true true = refl
unlike-left true false = refl
unlike-left false true = refl
unlike-left false false = refl

unlike-right : (s t : Bool) → unlike s (not t) ≡ not (unlike s t)
unlike-right true true = refl
unlike-right true false = refl
unlike-right false true = refl
unlike-right false false = refl

neg-inf : (b s t : Bool) → t ≡ not s → cond b nan (inf t) ≡ neg (cond b nan (inf s))
unfolding neg
neg-inf true s t e = refl
neg-inf false s t e = ap inf e

-- ---- a product, and a quotient of a finite number that is not 0
pub neg-mul : (f : Format) (x y : Float) → mul f (neg x) y ≡ neg (mul f x y)
unfolding mul neg
neg-mul f nan y = refl
neg-mul f (inf s) nan = refl
neg-mul f (inf s) (inf t) = ap inf (unlike-left s t)
neg-mul f (inf s) (fin t n d) = neg-inf (eqb n 0) (unlike s t) (unlike (not s) t) (unlike-left s t)
neg-mul f (fin s m e) nan = refl
neg-mul f (fin s m e) (inf t) = neg-inf (eqb m 0) (unlike s t) (unlike (not s) t) (unlike-left s t)
neg-mul f (fin s m e) (fin t n d) =
    let a = m * up e * (n * up d) in
    let c = down e * down d in
    ap (λ (b : Bool). round f b a c) (unlike-left s t) ∙ sym (neg-round f (unlike s t) a c)

pub neg-div : (f : Format) (s : Bool) (m : ℕ) (e : ℤ) (y : Float) → div f (fin s (suc m) e) (neg y) ≡ neg (div f (fin s (suc m) e) y)
unfolding div neg
neg-div f s m e nan = refl
neg-div f s m e (inf t) = ap (λ (b : Bool). fin b 0 (pos 0)) (unlike-right s t)
neg-div f s m e (fin t n d) = go (eqb n 0)
  where
    a : ℕ
    a = suc m * up e * down d

    c : ℕ
    c = n * up d * down e

    go : (b : Bool) → cond b (cond (eqb (suc m) 0) nan (inf (unlike s (not t)))) (round f (unlike s (not t)) a c)
        ≡ neg (cond b (cond (eqb (suc m) 0) nan (inf (unlike s t))) (round f (unlike s t) a c))
    go true = neg-inf (eqb (suc m) 0) (unlike s t) (unlike s (not t)) (unlike-right s t)
    go false = ap (λ (b : Bool). round f b a c) (unlike-right s t) ∙ sym (neg-round f (unlike s t) a c)

pub neg-neg : (x : Float) → neg (neg x) ≡ x
unfolding neg
neg-neg nan = refl
neg-neg (inf true) = refl
neg-neg (inf false) = refl
neg-neg (fin true m e) = refl
neg-neg (fin false m e) = refl

-- ---- words: exactly the sign bit differs, if x is no NaN
pub neg_bits : (f : Format) (x : Float) → T (fits f x) → is_nan x ≡ false → to_bits f (neg x) ≡ flipped (ours f) (to_bits f x)
unfolding to_bits neg is_nan
neg_bits f nan h n = absurd (true≢false n)
neg_bits f (inf s) h n = sym (flipped_signed (ours f) s (ones f * hid f) (infinity-below (ours f)))
neg_bits f (fin s m e) h n =
    let u = m * up e * 2 ^ low f / down e in
    let k = size u - prec f in
    let r : ℕ = k * hid f + u / 2 ^ k in
    let is : (s : Bool) → cond s (top f) 0 + k * hid f + u / 2 ^ k ≡ signed (ours f) s r = λ s. add_assoc (cond s (top f) 0) (k * hid f) (u / 2 ^ k) in
    let below : r < top f = small s (top f) r (lt_of_le_of_lt (le_of_eq (sym (is s))) (to_bits-lt f (fin s m e) h))
    (lt_of_le_of_lt (le_of_eq (sym (is (not s)))) (to_bits-lt f (fin (not s) m e) (neg-fits f (fin s m e) h))) in
    is (not s) ∙ sym (flipped_signed (ours f) s r below) ∙ ap (flipped (ours f)) (sym (is s))
  where
    small : (s : Bool) (c r : ℕ) → cond s c 0 + r < 2 * c → cond (not s) c 0 + r < 2 * c → r < c
    small true c r h k = omega arith
    small false c r h k = omega arith

pub neg_word : (f : Format) (m : ℕ) → m ≤ infinity (ours f) → of_bits f (top f + m) ≡ neg (of_bits f m)
neg_word f m h =
    let v = of_bits f m in
    let lt : m < top f = lt_of_le_of_lt h (infinity-below (ours f)) in
    let n : is_nan v ≡ false = nan-not f m (le_trans (le_of_eq (mod-eq_of_lt lt)) h) in
    let word : to_bits f v ≡ m = to_bits-of_bits f m (below-fits (ours f) m lt) (subst (λ (b : Bool). T (not b)) (sym n) tt) in
    let e : to_bits f (neg v) ≡ top f + m = neg_bits f v (of_bits-fits f m) n ∙ ap (flipped (ours f)) word ∙ plus-flipped (ours f) m lt in
    ap (of_bits f) (sym e) ∙ of_bits-to_bits f (neg v) (neg-fits f v (of_bits-fits f m))
