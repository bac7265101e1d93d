-- h less the whole number nearest to z, as the code finds it by a sum: no NaN arises on the way, the sum's word is in range, and where the two tests hold it is the chain's own rest and lift.
use mathlib.Core.Path.{◌≡◌, refl, sym, ap, ◌∙◌, subst}
use Prim.Native.Nat.{ℕ, suc, ◌+◌, ◌-◌, ◌*◌, ◌/◌, ◌%◌, ◌^◌, ◌≤◌, ◌<◌}
use native.Mathlib.Nat.{lt_of_lt_of_le, lt_irrefl, mod-eq_of_lt, mul-le-mul_right, zero-add, one-mul}
use native.Mathlib.Omega.{arith}
use mathlib.Core.Bool.{Bool, true, false, true≢false, beq, not, ◌&&◌, cond}
use lib.Dec.{T, ltb, eqb}
use lib.Arith.{digits_mod}
use lib.Ieee.{Float, nan, inf, fin, Format, emax, hid, top, up, down, round, sum, neg, add, sub, fits, is_nan, to_bits}
use lib.Ieee.Scale.{finite}
use borrow.Author.Tests.{ltb-true, eqb-false, not-true}
use Rattle.words.proofs.Round.{to_bits_inf}
use Rattle.words.proofs.Words.{infinity-below}
use Rattle.words.specs.Format.{ours}
use Rattle.scale.proofs.Powers.{round_number}
use Rattle.power.specs.Width.{Width}
use Rattle.power.specs.Chain.{whole}
use Rattle.power.specs.NoNan.{Number, Finite}
use Rattle.power.proofs.Words.{both}
use Rattle.power.specs.Stages.{rest_of, lift_of}
use Rattle.bounds.proofs.Formats.{one, infinity}
use Rattle.bounds.proofs.Signed.{Num}
use Rattle.chain.proofs.Known.{Known}
use Rattle.chain.proofs.NoNan.{finite_number}
use Rattle.chain.proofs.Halves.{Limited}
use Rattle.chain.proofs.LargeSum.{big, big_word}
use Rattle.chain.proofs.ByAdding.{sum-num, sum-word, t-num, rest-by-adding}

-- ---- a number whose word is below infinity's in size is finite
size_of : (t m : ℕ) (s : Bool) → m < t → (cond s t 0 + m) % t ≡ m
size_of t m true l = ap (λ (y : ℕ). (y + m) % t) (sym (one-mul t)) ∙ digits_mod 1 l
size_of t m false l = ap (λ (y : ℕ). y % t) (zero-add m) ∙ mod-eq_of_lt l

finite-below : (f : Format) (z : Float) → Number z → to_bits f z % top f < infinity f → Finite z
unfolding is_nan
finite-below f nan n l = absurd (true≢false n)
finite-below f (inf s) n l =
    absurd (lt_irrefl (infinity f) (subst (λ (y : ℕ). y < infinity f) (ap (λ (y : ℕ). y % top f) (to_bits_inf f s) ∙ size_of (top f) (infinity f) s (infinity-below (ours f))) l))
finite-below f (fin s m e) n l = tt

-- ---- sums of finite floats are no NaNs, and neither is that of a finite float and a number
sum_number : (f : Format) (s t : Bool) (a b c : ℕ) → Number (sum f s a t b c)
unfolding sum
sum_number f s t a b c = by (beq s t) (ltb a b)
  where
    by : (p q : Bool) → Number (cond p (round f s (a + b) c) (cond q (round f t (b - a) c) (round f (s && ltb b a) (a - b) c)))
    by true q = round_number f s (a + b) c
    by false true = round_number f t (b - a) c
    by false false = round_number f (s && ltb b a) (a - b) c

pub add-number : (f : Format) (x y : Float) → Finite x → Number y → Number (add f x y)
unfolding add is_nan
add-number f nan y h n = absurd h
add-number f (inf s) y h n = absurd h
add-number f (fin s m e) nan h n = n
add-number f (fin s m e) (inf t) h n = refl
add-number f (fin s m e) (fin t k d) h n = sum_number f s t (m * up e * down d) (k * up d * down e) (down e * down d)

neg-number : (y : Float) → Number y → Number (neg y)
unfolding neg is_nan
neg-number nan n = n
neg-number (inf s) n = refl
neg-number (fin s m e) n = refl

sub_number : (f : Format) (x y : Float) → Finite x → Finite y → Number (sub f x y)
unfolding sub
sub_number f x y h k = add-number f x (neg y) h (neg-number y (finite_number y k))

module _ (w : Width) (K : Known w) (z : Float) (zf : T (fits w.format z)) (n : Number z) (small : Limited w K z) where
  abbrev f : Format
  f = w.format

  -- the sum, and what is left of it
  abbrev m : Float
  m = add w.format z (big w.format)

  abbrev t : Float
  t = sub w.format (add w.format z (big w.format)) (big w.format)

  pub z-num : Num f z
  z-num = record { finite = finite-below f z n (lt_of_lt_of_le small (mul-le-mul_right (hid f) (room (emax f) K.e K.high K.e-most K.high-most))); fits = zf }
    where
      room : (e a h : ℕ) → suc a ≤ h → 2 + h ≤ e → e + suc a ≤ 2 * e + 1
      room e a h i j = omega arith

  pub sum-is-number : Number m
  sum-is-number = finite_number m (sum-num w K z z-num small).finite

  pub off-number : Number (sub f z t)
  off-number = sub_number f z t z-num.finite (t-num w K z z-num small).finite

  pub lift-number : big_word f - whole w ≤ to_bits f m
  lift-number = (sum-word w K z z-num small).0

  pub lift-most : to_bits f m - (big_word f - whole w) < 2 * whole w
  lift-most = go (big_word f) (whole w) (to_bits f m) (sum-word w K z z-num small).0 (sum-word w K z z-num small).1
    where
      go : (b c x : ℕ) → b - c ≤ x → x < b + c → x - (b - c) < 2 * c
      go b c x h k = omega arith

  pub rest-number : (h l : Float) → Finite l → Finite h → Number (add f l (sub f h t))
  rest-number h l L H = add-number f l (sub f h t) L (sub_number f h t H (t-num w K z z-num small).finite)

  rest-sure : (h : Float) → T (fits f h) → to_bits f (sub f z t) % top f < one f - hid f
      → ¬ (to_bits f z / 2 ^ w.below % (top f / 2 ^ w.below) ≡ (one f - hid f) / 2 ^ w.below)
      → (sub f h t ≡ rest_of w h z) × (to_bits f m - (big_word f - whole w) ≡ lift_of w z)
  rest-sure h hf test ne =
      let r = rest-by-adding w K z z-num small h hf test ne in
      (r.0, go (to_bits f m) (big_word f - whole w) (lift_of w z) r.1)
    where
      go : (x b l : ℕ) → x ≡ b + l → x - b ≡ l
      go x b l e = omega arith

  -- the same by the code's two tests: `off` is the size of what is left of z, and `high` z without its sign and the digits below its high word
  pub rest-when : (one f - hid f) / 2 ^ w.below * 2 ^ w.below ≡ one f - hid f → (h : Float) → T (fits f h) → {off high : ℕ}
      → off ≡ to_bits f (sub f z t) % top f → high ≡ to_bits f z / 2 ^ w.below % (top f / 2 ^ w.below) * 2 ^ w.below
      → (ltb off (one f - hid f) && not (eqb high (one f - hid f))) ≡ true
      → (sub f h t ≡ rest_of w h z) × (to_bits f m - (big_word f - whole w) ≡ lift_of w z)
  rest-when exact h hf {off} {high} i j s =
      let b = both (ltb off (one f - hid f)) (not (eqb high (one f - hid f))) s in
      rest-sure h hf (subst (λ (y : ℕ). y < one f - hid f) i (ltb-true off (one f - hid f) b.0))
      (λ e. eqb-false high (one f - hid f) (not-true (eqb high (one f - hid f)) b.1) (j ∙ ap (λ (y : ℕ). y * 2 ^ w.below) e ∙ exact))
