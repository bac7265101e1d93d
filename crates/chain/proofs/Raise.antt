-- The last step of an open power: n is added to the exponent's field of a number between 1/4 and 2, or taken from it, and what comes out is no NaN.
-- Upward the raised word is infinity's at most, by assumption; downward it is a smaller word, or it is negative and the product with 2 ^ -n is taken instead.
use mathlib.Core.Path.{◌≡◌, refl, sym, ap, ◌∙◌, subst}
use Prim.Native.Nat.{ℕ, suc, ◌+◌, ◌-◌, ◌*◌, ◌/◌, ◌%◌, ◌^◌, ◌≤◌, ◌<◌, zero-le}
use native.Mathlib.Nat.{le_trans, le_of_eq, lt_of_le_of_lt, mul_comm, mul-le-mul_right, mod-eq_of_lt, div-add-mod'}
use native.Mathlib.Nat.{not-le_of_lt, lt_of_mul-lt-mul_right, mul-add-mod_self_right, add-sub_of_le}
use native.Mathlib.Omega.{arith}
use mathlib.Core.Bool.{Bool, true, false, not, ◌||◌, cond}
use lib.Dec.{T, leb, ltb, ltb→lt, nltb→le, nleb→lt}
use lib.IntN.{sub_ℕ}
use lib.Ieee.{Float, Format, emax, hid, ones, top, mul, is_nan, of_bits, to_bits}
use Rattle.words.specs.Format.{ours}
use Rattle.words.proofs.Words.{infinity-below}
use Rattle.scale.specs.Scale.{power}
use Rattle.power.specs.Width.{Width}
use Rattle.power.specs.Chain.{raised_of, whole}
use Rattle.bounds.proofs.Formats.{infinity}
use Rattle.bounds.proofs.Words.{nan-not}
use Rattle.bounds.proofs.Exp.{Between}
use Rattle.bounds.proofs.Choice.{choose}
use Rattle.scale.proofs.Powers.{mul-number}
use Rattle.chain.proofs.NoNan.{finite_number}
use Rattle.chain.proofs.Known.{Known}
use Rattle.chain.proofs.Sizes.{between-word}

-- up to n = emax the raised word is below infinity's
pub under_top : (f : Format) (z : Float) → Between f z → (n : ℕ) → n ≤ emax f → to_bits f z + n * hid f ≤ infinity f
under_top f z b n l = fin (to_bits f z) n (hid f) (emax f) (between-word f z b) l
  where
    fin : (x n h m : ℕ) → x < suc m * h → n ≤ m → x + n * h ≤ (2 * m + 1) * h
    fin x n h m l k = omega (arith, l, mul-le-mul_right h k)

-- a word up to infinity's is its own magnitude
fine : (f : Format) (v : ℕ) → v ≤ infinity f → v % top f ≤ infinity f
fine f v l = rw (mod-eq_of_lt (lt_of_le_of_lt l (infinity-below (ours f)))) l

-- ---- sums of high words j, with r < b below them
add-high : (a n h b r x g : ℕ) → a * b + r ≡ x → h * b ≡ g → (a + n * h) * b + r ≡ x + n * g
add-high a n h b r x g e d = omega (arith, e, ap (λ (z : ℕ). n * z) d)

high-below : (j t b r v g : ℕ) → j * b + r ≡ v → t * b ≡ g → v < g → j < t
high-below j t b r v g e d l = lt_of_mul-lt-mul_right b (fin (j * b) r v (t * b) g e d l)
  where
    fin : (a r v c g : ℕ) → a + r ≡ v → c ≡ g → v < g → a < c
    fin a r v c g e d l = omega arith

-- a - y, with a whole turn 2 * t added: where a is below y it is in the turn's upper half, else it is a - y past the turn
turn_low : (a y t : ℕ) → a < y → y ≤ t → (a + (2 * t - y) < 2 * t) × (t ≤ a + (2 * t - y))
turn_low a y t p q = (omega arith, omega arith)

turn-high : (a y t : ℕ) → y ≤ a → a < t → (a + (2 * t - y) ≡ 1 * (2 * t) + (a - y)) × (a - y < 2 * t) × (a - y ≤ a)
turn-high a y t p q = (omega arith, omega arith, omega arith)

module _ (w : Width) (K : Known w) where
  abbrev f : Format
  f = w.format

  abbrev B : ℕ
  B = 2 ^ w.below

  abbrev h : ℕ
  h = hid w.format / 2 ^ w.below

  abbrev t : ℕ
  t = top w.format / 2 ^ w.below

  -- `whole` is a whole turn of the high word
  whole-turn : whole w * h ≡ 2 * t
  whole-turn = fin (emax f) h t K.top-hid
    where
      fin : (m h t : ℕ) → t ≡ h * suc (2 * m + 1) → 4 * (m + 1) * h ≡ 2 * t
      fin m h t k = omega (arith, k)

  module _ (z : Float) (b : Between f z) (n : ℕ) (l : n ≤ suc (ones f)) where
    abbrev x : ℕ
    x = to_bits f z

    split : x / B * B + x % B ≡ x
    split = div-add-mod' x B

    -- ---- upward
    up_word : (x / B + (whole w + n) * h) % (2 * t) ≡ (x / B + n * h) % (2 * t)
    up_word = ap (λ (z : ℕ). z % (2 * t)) (re (x / B) (whole w) n h (2 * t) whole-turn) ∙ mul-add-mod_self_right 1 (2 * t) (x / B + n * h)
      where
        re : (a v n h t : ℕ) → v * h ≡ t → a + (v + n) * h ≡ 1 * t + (a + n * h)
        re a v n h t e = omega (arith, e)

    raise : x + n * hid f ≤ infinity f → ((x / B + n * h) % (2 * t) * B + x % B) % top f ≤ infinity f
    raise most =
        let j : ℕ = x / B + n * h in
        let sum : j * B + x % B ≡ x + n * hid f = add-high (x / B) n h B (x % B) x (hid f) split K.hid-high in
        let less : j < t = high-below j t B (x % B) (x + n * hid f) (top f) sum K.top-high (lt_of_le_of_lt most (infinity-below (ours f))) in
        rw (mod-eq_of_lt (twice j t less)) (fine f (j * B + x % B) (le_trans (le_of_eq sum) most))
      where
        twice : (j t : ℕ) → j < t → j < 2 * t
        twice j t h = omega arith

    -- ---- downward
    x-most : x ≤ infinity f
    x-most = fin x (hid f) (emax f) (between-word f z b)
      where
        fin : (x h m : ℕ) → x < suc m * h → x ≤ (2 * m + 1) * h
        fin x h m l = omega (arith, l, zero-le {n = m * h})

    down_word : x / B + (whole w - n) * h ≡ x / B + (2 * t - n * h)
    down_word = ap (λ (z : ℕ). x / B + z) (fin (whole w) n h (2 * t) whole-turn (le_trans l (less (emax f))))
      where
        less : (m : ℕ) → suc (2 * m + 1) ≤ 4 * (m + 1)
        less m = omega arith

        fin : (v n h t : ℕ) → v * h ≡ t → n ≤ v → (v - n) * h ≡ t - n * h
        fin v n h t e l = go (v - n) (sym (add-sub_of_le l))
          where
            go : (d : ℕ) → v ≡ n + d → d * h ≡ t - n * h
            go d k = omega (arith, e, ap (λ (z : ℕ). z * h) k)

    lower : (x / B + (2 * t - n * h)) % (2 * t) < t → ((x / B + (2 * t - n * h)) % (2 * t) * B + x % B) % top f ≤ infinity f
    lower c = choose (ltb (x / B) (n * h)) (λ p. absurd (past (ltb→lt (x / B) (n * h) p))) (λ p. stays (nltb→le (x / B) (n * h) p))
      where
        nh : n * h ≤ t
        nh = le_trans (mul-le-mul_right h l) (le_of_eq (mul_comm (suc (ones f)) h ∙ sym K.top-hid))

        past : x / B < n * h → ⊥
        past p = let r = turn_low (x / B) (n * h) t p nh in not-le_of_lt (subst (λ (y : ℕ). y < t) (mod-eq_of_lt r.0) c) r.1

        stays : n * h ≤ x / B → ((x / B + (2 * t - n * h)) % (2 * t) * B + x % B) % top f ≤ infinity f
        stays p =
            let less : x / B < t = high-below (x / B) t B (x % B) x (top f) split K.top-high (lt_of_le_of_lt x-most (infinity-below (ours f))) in
            let r = turn-high (x / B) (n * h) t p less in
            let e : (x / B + (2 * t - n * h)) % (2 * t) ≡ x / B - n * h =
            ap (λ (y : ℕ). y % (2 * t)) r.0 ∙ mul-add-mod_self_right 1 (2 * t) (x / B - n * h) ∙ mod-eq_of_lt r.1 in
            rw e (fine f ((x / B - n * h) * B + x % B) (fin ((x / B - n * h) * B) (x / B * B) (x % B) x (infinity f) (mul-le-mul_right B r.2) split x-most))
          where
            fin : (a c r x i : ℕ) → a ≤ c → c + r ≡ x → x ≤ i → a + r ≤ i
            fin a c r x i h e k = omega arith

    -- ---- either way
    -- a product, where the raised word j is out of range, else the float of a word that is none of a NaN
    pick : (c d : Bool) (j : ℕ) (y : Float) → is_nan y ≡ false → (T (not c) → (j * B + x % B) % top f ≤ infinity f)
        → is_nan (cond (c || d) y (of_bits f (j * B + x % B))) ≡ false
    pick true d j y a g = a
    pick false true j y a g = a
    pick false false j y a g = nan-not f (j * B + x % B) (g tt)

    -- e is n more than a whole turn, or n less; upward the raised word is asked to be infinity's at most
    pub raised-number : (dn : Bool) → (dn ≡ false → x + n * hid f ≤ infinity f) → is_nan (raised_of w z (cond dn (whole w - n) (whole w + n))) ≡ false
    unfolding raised_of
    raised-number true k =
        let j : ℕ = (x / B + (whole w - n) * h) % (2 * t) in
        let e = sub_ℕ (whole w - n) (whole w) in
        pick (leb t j) (ltb j h) j (mul f z (power e)) (mul-number f z e (finite_number z b.num.finite))
        (λ c. rw down_word (lower (rw down_word at (nleb→lt t j c))))
    raised-number false k =
        let j : ℕ = (x / B + (whole w + n) * h) % (2 * t) in
        let e = sub_ℕ (whole w + n) (whole w) in
        pick (leb t j) (ltb j h) j (mul f z (power e)) (mul-number f z e (finite_number z b.num.finite)) (λ c. rw up_word (raise (k refl)))
