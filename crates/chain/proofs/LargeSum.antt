-- A number z added to a large number whose last digit counts ones, and that taken off again: a whole number is left, exactly.
-- Where z less that number is rounded to less than a half, it is less than a half.
use mathlib.Core.Path.{◌≡◌, refl, sym, ap, ◌∙◌}
use Prim.Native.Nat.{ℕ, suc, ◌+◌, ◌-◌, ◌*◌, ◌/◌, ◌%◌, ◌^◌, ◌≤◌, ◌<◌}
use native.Mathlib.Nat.{le_trans, le_of_eq, le_of_lt, lt_of_le_of_lt, lt_of_lt_of_le, le_antisymm, le-add_right, le-add_left, not-le_of_lt}
use native.Mathlib.Nat.{mul_assoc, mul-le-mul_left, mul-le-mul_right, mul-lt-mul_of_pos_right, le_of_mul-le-mul_right}
use native.Mathlib.Nat.{div-add-mod', mod-lt, div-lt_iff_lt-mul, sub-eq-zero_of_le, add-sub_of_le}
use native.Mathlib.Omega.{arith}
use mathlib.Core.Bool.{false}
use lib.Dec.{lit≤, lit<}
use lib.Pow.{pow_pos, pow_mono}
use lib.IntN.{pos}
use lib.Ieee.{Float, fin, Format, binary32, binary64, prec, emax, low, hid, ones, top, add, sub, to_bits, of_bits}
use lib.Ieee.Fits.{two, two-le_pos}
use lib.Ieee.Scale.{overflow}
use Rattle.words.specs.Format.{units_at}
use Rattle.words.proofs.Digits.{twice_hid}
use Rattle.bounds.proofs.Formats.{one}
use Rattle.bounds.proofs.Grid.{rq-exact}
use Rattle.bounds.proofs.Signed.{sign, mag, plus, minus, Num, R, parts, pos-parts, positive, round_mono}
use Rattle.bounds.proofs.RoundedSums.{Res, add-res, sub-res, sub-res-alike}
use Rattle.bounds.proofs.Within.{U}
use Rattle.bounds.proofs.Words.{word_of, mag-exact, mag-under}
use Rattle.bounds.proofs.Measured.{Whole}
use Rattle.bounds.proofs.Choice.{order}
use Rattle.chain.proofs.Sizes.{hid-pos, unit-half, emax-suc, size-under, field-most, at_field, positive-word}

-- ---- the large number 1.5 * 2 ^ (prec - 1)
abbrev pub big_word : Format → ℕ
big_word f = (emax f + prec f - 1) * hid f + hid f / 2

abbrev pub big : Format → Float
big f = of_bits f (big_word f)

hid-half : (f : Format) → hid f ≡ 2 * (hid f / 2)
hid-half binary32 = refl
hid-half binary64 = refl

-- z is below suc ones in size, and ten times that is still small
pub room : (f : Format) → 10 * suc (ones f) ≤ hid f / 2
room binary32 = lit≤ tt
room binary64 = lit≤ tt

big-field : (f : Format) → emax f + prec f - 1 < ones f
big-field binary32 = lit< tt
big-field binary64 = lit< tt

field-big : (f : Format) (t : ℕ) → units_at (hid f) (emax f + prec f - 1) t ≡ (hid f + t) * U f
field-big binary32 t = refl
field-big binary64 t = refl

field-least : (f : Format) → hid f * 2 ^ (emax f + prec f - 1 - 1) ≡ hid f * U f
field-least binary32 = refl
field-least binary64 = refl

field_next : (f : Format) → hid f * 2 ^ (emax f + prec f - 1) ≡ 2 * hid f * U f
field_next binary32 = refl
field_next binary64 = refl

above : (f : Format) → 2 * hid f * U f ≤ overflow f
above binary32 = lit≤ tt
above binary64 = lit≤ tt

pub big-less-big : (f : Format) → sub f (big f) (big f) ≡ fin false 0 (pos 0)
unfolding sub of_bits
big-less-big binary32 = refl
big-less-big binary64 = refl

big-is : (f : Format) → Whole f (U f) (hid f + hid f / 2) (big f)
big-is f =
    at_field f (big_word f) (emax f + prec f - 1) (hid f / 2) (U f) (hid f + hid f / 2) refl (less (hid f) (hid f / 2) (hid-half f) (hid-pos f)) (big-field f)
    (field-big f (hid f / 2))
  where
    less : (h k : ℕ) → h ≡ 2 * k → 0 < h → k < h
    less h k e l = omega arith

-- whole numbers of fewer digits than the format's are floats
exact-units : (f : Format) (n : ℕ) → n < 2 * hid f → R f (n * U f) ≡ n * U f
exact-units f n h = rq-exact (prec f) n (low f) (lt_of_lt_of_le h (le_of_eq (sym (twice_hid (prec f) (two-le_pos (prec f) (two f))))))

under : (f : Format) (a n : ℕ) → a ≤ n * U f → n < 2 * hid f → R f a < overflow f
under f a n h k =
    lt_of_le_of_lt (round_mono f a (n * U f) h)
    (lt_of_le_of_lt (le_of_eq (exact-units f n k)) (lt_of_lt_of_le (mul-lt-mul_of_pos_right k (pow_pos (low f))) (above f)))

float-under : (f : Format) (x : Float) → Num f x → R f (mag f x) < overflow f
float-under f x n = lt_of_le_of_lt (le_of_eq (mag-exact f x n)) (mag-under f x n)

-- p - q is less than half of u away from (a - b) * u
abbrev pub Near : ℕ → ℕ → ℕ → ℕ → ℕ → Type 0
Near u p q a b = (2 * (p + (b - a) * u) < 2 * (q + (a - b) * u) + u) × (2 * (q + (a - b) * u) < 2 * (p + (b - a) * u) + u)

-- ---- the sum with it: the digits d below its leading one are hid / 2 but for what z can be
pub record Raised (f : Format) (m : Float) (d : ℕ) : Type 0 where
  pub num : Num f m
  pub sgn : sign m ≡ false
  pub siz : mag f m ≡ (hid f + d) * U f
  pub bits : to_bits f m ≡ (emax f + prec f - 1) * hid f + d
  pub digits : d < hid f
  pub least : hid f / 2 ≤ d + suc (ones f)
  pub most : d ≤ hid f / 2 + suc (ones f)

-- a positive float from a to b ones, which are hid + hid / 2 less and more what z can be
raised : (f : Format) (m : Float) (a b : ℕ) → Num f m → sign m ≡ false → hid f ≤ a → b < 2 * hid f → a * U f ≤ mag f m → mag f m ≤ b * U f
    → hid f + hid f / 2 ≡ a + suc (ones f) → b ≡ hid f + hid f / 2 + suc (ones f) → Raised f m (to_bits f m % hid f)
raised f m a b n s ha hb la lb ea eb =
    let x = to_bits f m in
    let X = x / hid f in
    let X0 = emax f + prec f - 1 in
    let d = x % hid f in
    let dl : d < hid f = mod-lt x (hid-pos f) in
    let z = (positive-word f m n s).size in
    let up : X ≤ X0 = field-most (hid f) X d X0 (lt_of_le_of_lt (le_trans (le_of_eq (sym z)) lb)
    (lt_of_lt_of_le (mul-lt-mul_of_pos_right hb (pow_pos (low f))) (le_of_eq (sym (field_next f))))) in
    let dn : X0 ≤ X = order X X0
    (λ l. absurd (clash (mag f m) (hid f * U f) (a * U f) (lt_of_le_of_lt (le_of_eq z) (lt_of_lt_of_le (size-under (hid f) X d dl)
    (le_trans (mul-le-mul_left (hid f) (pow_mono (before X X0 l))) (le_of_eq (field-least f))))) (mul-le-mul_right (U f) ha) la))
    (λ h. h) in
    let e : X ≡ X0 = le_antisymm up dn in
    let size : mag f m ≡ (hid f + d) * U f = z ∙ ap (λ (y : ℕ). units_at (hid f) y d) e ∙ field-big f d in
    record {
      num = n;
      sgn = s;
      siz = size;
      bits = sym (div-add-mod' x (hid f)) ∙ ap (λ (y : ℕ). y * hid f + d) e;
      digits = dl;
      least = low_end (hid f) (hid f / 2) a d (suc (ones f)) ea (le_of_mul-le-mul_right (le_trans la (le_of_eq size)) (pow_pos (low f)));
      most = high_end (hid f) (hid f / 2) b d (suc (ones f)) eb (le_of_mul-le-mul_right (le_trans (le_of_eq (sym size)) lb) (pow_pos (low f)));
    }
  where
    clash : (m b a : ℕ) → m < b → b ≤ a → a ≤ m → ⊥
    clash m b a p q r = omega arith

    before : (X k : ℕ) → X < k → X ≤ k - 1
    before X k l = omega arith

    low_end : (h k a d o : ℕ) → h + k ≡ a + o → a ≤ h + d → k ≤ d + o
    low_end h k a d o e l = omega arith

    high_end : (h k b d o : ℕ) → b ≡ h + k + o → h + d ≤ b → d ≤ k + o
    high_end h k b d o e l = omega arith

module _ (f : Format) (z : Float) (n : Num f z) (l : mag f z < U f * suc (ones f)) where
  abbrev m : Float
  m = add f z (big f)

  abbrev c : ℕ
  c = suc (ones f)

  abbrev H : ℕ
  H = hid f / 2

  abbrev a : ℕ
  a = hid f + hid f / 2 - suc (ones f)

  abbrev b : ℕ
  b = hid f + hid f / 2 + suc (ones f)

  a-is : hid f + H ≡ a + c
  a-is = fin (hid f) H c (room f)
    where
      fin : (h k o : ℕ) → 10 * o ≤ k → h + k ≡ h + k - o + o
      fin h k o r = omega arith

  a-least : hid f ≤ a
  a-least = fin (hid f) H c (room f)
    where
      fin : (h k o : ℕ) → 10 * o ≤ k → h ≤ h + k - o
      fin h k o r = omega arith

  b-most : b < 2 * hid f
  b-most = fin (hid f) H c (hid-half f) (hid-pos f) (room f)
    where
      fin : (h k o : ℕ) → h ≡ 2 * k → 0 < h → 10 * o ≤ k → h + k + o < 2 * h
      fin h k o e p r = omega arith

  big-parts : (plus f (big f) ≡ mag f (big f)) × (minus f (big f) ≡ 0)
  big-parts = pos-parts f (big f) (big-is f).sgn

  sum_is : Res f m (R f ((plus f z + plus f (big f)) - (minus f z + minus f (big f)))) (R f ((minus f z + minus f (big f)) - (plus f z + plus f (big f))))
  sum_is = add-res f z (big f) n (big-is f).num (under f (mag f z + mag f (big f)) b (fin (mag f z) (mag f (big f)) (hid f + H) c (U f) l (big-is f).siz) b-most)
    where
      fin : (z y h o u : ℕ) → z < u * o → y ≡ h * u → z + y ≤ (h + o) * u
      fin z y h o u p q = omega arith

  exact-least : a * U f ≤ (plus f z + plus f (big f)) - (minus f z + minus f (big f))
  exact-least = fin (mag f z) (plus f z) (minus f z) (plus f (big f)) (minus f (big f)) (hid f + H) a c (U f) (parts f z) l
      (big-parts.0 ∙ (big-is f).siz) big-parts.1 a-is
    where
      fin : (M p q r s h a o u : ℕ) → M ≡ p + q → M < u * o → r ≡ h * u → s ≡ 0 → h ≡ a + o → a * u ≤ (p + r) - (q + s)
      fin M p q r s h a o u e k i j x = omega (arith, e, k, i, j, ap (λ (y : ℕ). y * u) x)

  exact-most : (plus f z + plus f (big f)) - (minus f z + minus f (big f)) ≤ b * U f
  exact-most = fin (mag f z) (plus f z) (minus f z) (plus f (big f)) (minus f (big f)) (hid f + H) c (U f) (parts f z) l (big-parts.0 ∙ (big-is f).siz)
    where
      fin : (M p q r s h o u : ℕ) → M ≡ p + q → M < u * o → r ≡ h * u → (p + r) - (q + s) ≤ (h + o) * u
      fin M p q r s h o u e k i = omega arith

  plus-least : a * U f ≤ plus f m
  plus-least = le_trans (le_of_eq (sym (exact-units f a (lt_of_le_of_lt (fin (hid f + H) a c a-is) b-most))))
      (le_trans (round_mono f (a * U f) ((plus f z + plus f (big f)) - (minus f z + minus f (big f))) exact-least) (le_of_eq (sym sum_is.up)))
    where
      fin : (h a o : ℕ) → h ≡ a + o → a ≤ h + o
      fin h a o e = omega arith

  plus-most : plus f m ≤ b * U f
  plus-most = le_trans (le_of_eq sum_is.up)
      (le_trans (round_mono f ((plus f z + plus f (big f)) - (minus f z + minus f (big f))) (b * U f) exact-most) (le_of_eq (exact-units f b b-most)))

  m-sign : sign m ≡ false
  m-sign = positive f m (lt_of_lt_of_le (fin a (hid f) (U f) (mul-lt-mul_of_pos_right (lt_of_lt_of_le (hid-pos f) a-least) (pow_pos (low f)))) plus-least)
    where
      fin : (a h u : ℕ) → 0 * u < a * u → 0 < a * u
      fin a h u k = omega arith

  pub sum-raised : Raised f m (to_bits f m % hid f)
  sum-raised =
      let e : plus f m ≡ mag f m = (pos-parts f m m-sign).0 in
      raised f m a b sum_is.num m-sign a-least b-most (le_trans plus-least (le_of_eq e)) (le_trans (le_of_eq (sym e)) plus-most) a-is refl

  -- ---- the large number taken off again: exact
  abbrev t : Float
  t = sub f m (big f)

  abbrev d : ℕ
  d = to_bits f m % hid f

  less-is : (h d k u : ℕ) → ((h + d) * u + 0) - (0 + (h + k) * u) ≡ (d - k) * u
  less-is h d k u =
      order d k (λ l. none h d k u (mul-le-mul_right u (le_of_lt l)) ∙ ap (λ (y : ℕ). y * u) (sym (sub-eq-zero_of_le (le_of_lt l))))
      (λ l. some h d k (d - k) u (sym (add-sub_of_le l)))
    where
      none : (h d k u : ℕ) → d * u ≤ k * u → ((h + d) * u + 0) - (0 + (h + k) * u) ≡ 0 * u
      none h d k u l = omega arith

      some : (h d k e u : ℕ) → d ≡ k + e → ((h + d) * u + 0) - (0 + (h + k) * u) ≡ e * u
      some h d k e u l = omega (arith, ap (λ (y : ℕ). y * u) l)

  pub back : Res f t ((d - H) * U f) ((H - d) * U f)
  back =
      let S = sum-raised in
      let r = sub-res-alike f m (big f) S.num (big-is f).num ((big-is f).sgn ∙ sym S.sgn) (float-under f m S.num) (float-under f (big f) (big-is f).num) in
      let p = pos-parts f m S.sgn in
      let pm : plus f m ≡ (hid f + d) * U f = p.0 ∙ S.siz in
      let pb : plus f (big f) ≡ (hid f + H) * U f = big-parts.0 ∙ (big-is f).siz in
      record {
        num = r.num;
        up = r.up ∙ ap (R f) (ends (plus f m) (minus f (big f)) (minus f m) (plus f (big f)) ((hid f + d) * U f) ((hid f + H) * U f) pm big-parts.1 p.1 pb
            ∙ less-is (hid f) d H (U f)) ∙ exact-units f (d - H) (few d H (hid f) S.digits);
        lo = r.lo ∙ ap (R f) (ends' (minus f m) (plus f (big f)) (plus f m) (minus f (big f)) ((hid f + d) * U f) ((hid f + H) * U f) pm big-parts.1 p.1 pb
            ∙ less-is (hid f) H d (U f)) ∙ exact-units f (H - d) (few' d H (hid f) (hid-half f) (hid-pos f));
      }
    where
      ends : (x y v w p q : ℕ) → x ≡ p → y ≡ 0 → v ≡ 0 → w ≡ q → (x + y) - (v + w) ≡ (p + 0) - (0 + q)
      ends x y v w p q a b c d = omega arith

      ends' : (v w x y p q : ℕ) → x ≡ p → y ≡ 0 → v ≡ 0 → w ≡ q → (v + w) - (x + y) ≡ (q + 0) - (0 + p)
      ends' v w x y p q a b c d = omega arith

      few : (d k h : ℕ) → d < h → d - k < 2 * h
      few d k h l = omega arith

      few' : (d k h : ℕ) → h ≡ 2 * k → 0 < h → k - d < 2 * h
      few' d k h e l = omega arith

  -- ---- what is left of z, where it is rounded to less than a half: it is less than a half
  back-size : mag f t ≤ c * U f
  back-size =
      let S = sum-raised in
      le_trans (le_of_eq (parts f t ∙ sums (plus f t) (minus f t) ((d - H) * U f) ((H - d) * U f) back.up back.lo))
      (le_trans (le_of_eq (re (d - H) (H - d) (U f))) (mul-le-mul_right (U f) (fin d H c S.least S.most)))
    where
      sums : (a b x y : ℕ) → a ≡ x → b ≡ y → a + b ≡ x + y
      sums a b x y p q = omega arith

      re : (a b u : ℕ) → a * u + b * u ≡ (a + b) * u
      re a b u = omega arith

      fin : (d k o : ℕ) → k ≤ d + o → d ≤ k + o → d - k + (k - d) ≤ o
      fin d k o a b = omega arith

  rest-is : Res f (sub f z t) (R f ((plus f z + minus f t) - (minus f z + plus f t))) (R f ((minus f z + plus f t) - (plus f z + minus f t)))
  rest-is = sub-res f z t n back.num (under f (mag f z + mag f t) (2 * c) (fin (mag f z) (mag f t) c (U f) l back-size) (most (hid f) H c (hid-half f) (hid-pos f) (room f)))
    where
      fin : (z t o u : ℕ) → z < u * o → t ≤ o * u → z + t ≤ 2 * o * u
      fin z t o u a b = omega arith

      most : (h k o : ℕ) → h ≡ 2 * k → 0 < h → 10 * o ≤ k → 2 * o < 2 * h
      most h k o e p r = omega arith

  -- a half, in units
  abbrev Q : ℕ
  Q = hid f * 2 ^ (emax f - 2)

  half-exact : R f Q ≡ Q
  half-exact = rq-exact (prec f) (hid f) (emax f - 2) (lt_of_lt_of_le (fin (hid f) (hid-pos f)) (le_of_eq (sym (twice_hid (prec f) (two-le_pos (prec f) (two f))))))
    where
      fin : (h : ℕ) → 0 < h → h < 2 * h
      fin h p = omega arith

  -- a number that is rounded to less than a half is less than a half
  before-half : (x k : ℕ) → R f x ≤ k → k < Q → x < Q
  before-half x k h g =
      order x Q (λ p. p) (λ p. absurd (not-le_of_lt g (le_trans (le_of_eq (sym half-exact)) (le_trans (round_mono f Q x p) h))))

  module _ (test : to_bits f (sub f z t) % top f < one f - hid f) where
    rest-small : mag f (sub f z t) < Q
    rest-small =
        let r = sub f z t in
        let v = to_bits f r % top f in
        lt_of_le_of_lt (le_of_eq (word_of f r rest-is.num).mag)
        (lt_of_lt_of_le (size-under (hid f) (v / hid f) (v % hid f) (mod-lt v (hid-pos f)))
        (mul-le-mul_left (hid f) (pow_mono (less (v / hid f) (emax f) ((div-lt_iff_lt-mul (hid-pos f)).1 (lt_of_lt_of_le test (le_of_eq (re (emax f) (emax f - 1) (hid f) (emax-suc f)))))))))
      where
        re : (e k h : ℕ) → e ≡ suc k → e * h - h ≡ k * h
        re e k h i = omega (arith, ap (λ (y : ℕ). y * h) i)

        less : (X e : ℕ) → X < e - 1 → X ≤ e - 2
        less X e h = omega arith

    pub close : Near (U f) (plus f z) (minus f z) d H
    close =
        let r = sub f z t in
        let x = plus f z + minus f t in
        let y = minus f z + plus f t in
        let pr : plus f r ≤ mag f r = le_trans (le-add_right (plus f r) (minus f r)) (le_of_eq (sym (parts f r))) in
        let mr : minus f r ≤ mag f r = le_trans (le-add_left (minus f r) (plus f r)) (le_of_eq (sym (parts f r))) in
        let u : U f ≡ 2 * Q = unit-half f ∙ mul_assoc 2 (hid f) (2 ^ (emax f - 2)) in (
          fin (plus f z) (minus f z) (minus f t) (plus f t) ((H - d) * U f) ((d - H) * U f) Q (U f) back.lo back.up u
              (before-half (x - y) (mag f r) (le_trans (le_of_eq (sym rest-is.up)) pr) rest-small),
          fin (minus f z) (plus f z) (plus f t) (minus f t) ((d - H) * U f) ((H - d) * U f) Q (U f) back.up back.lo u
              (before-half (y - x) (mag f r) (le_trans (le_of_eq (sym rest-is.lo)) mr) rest-small),
        )
      where
        fin : (p q i j k l c u : ℕ) → i ≡ k → j ≡ l → u ≡ 2 * c → (p + i) - (q + j) < c → 2 * (p + k) < 2 * (q + l) + u
        fin p q i j k l c u x y e h = omega arith
