-- The other sign through the open chain: its last float is the negative, and since that is no NaN exactly the sign bit of the word differs.
-- The sign enters the chain only as a factor of the three answers; the range test does not read it.
use mathlib.Core.Path.{◌≡◌, refl, sym, ap, ◌∙◌}
use Prim.Native.Nat.{ℕ, ◌/◌, ◌^◌, ◌<◌}
use mathlib.Core.Bool.{Bool, true, false, cond, true≢false}
use lib.Dec.{ltb}
use lib.Ieee.{Float, Format, mul, neg, of_bits, to_bits}
use Rattle.words.specs.Format.{ours}
use Rattle.power.specs.Width.{Width, Two}
use Rattle.power.specs.Places.{HUGE, TINY}
use Rattle.power.specs.Chain.{open_of, log_of, product_of, over_of, under_of, finish_of, fate_of, huge_of, exp2_of, con}
use Rattle.bounds.proofs.Formats.{one, magnitude, negative, infinity}
use Rattle.chain.proofs.Known.{Known}
use Rattle.chain.proofs.Open.{signed_one, answer, answer-number, answer-fits, open_is}
use Rattle.sign.specs.Sign.{flipped}
use Rattle.sign.proofs.Negated.{neg-mul, neg_bits}

-- what is done to the fate is done to the three answers
fate-map : {A B : Type 0} (g : A → B) (w : Width) (a b c : A) (p : Two) → g (fate_of w a b c p) ≡ fate_of w (g a) (g b) (g c) p
unfolding fate_of
fate-map g w a b c p = simp (push g)
  where
    push : {A B : Type 0} (g : A → B) (t : Bool) (x y : A) → g (cond t x y) ≡ cond t (g x) (g y)
    push g true x y = refl
    push g false x y = refl

neg-twice : (f : Format) (a c : Float) → mul f (mul f (neg a) c) c ≡ neg (mul f (mul f a c) c)
neg-twice f a c = ap (λ (x : Float). mul f x c) (neg-mul f a c) ∙ neg-mul f (mul f a c) c

module _ (w : Width) where
  abbrev f : Format
  f = w.format

  neg-over : (a : Float) → over_of w (neg a) ≡ neg (over_of w a)
  unfolding over_of
  neg-over a = neg-twice f a (con w HUGE)

  neg-under : (a : Float) → under_of w (neg a) ≡ neg (under_of w a)
  unfolding under_of
  neg-under a = neg-twice f a (con w TINY)

  neg-finish : (p : Two) (a : Float) → finish_of w p (neg a) ≡ neg (finish_of w p a)
  unfolding finish_of
  neg-finish p a = rw (neg-over a, neg-under a, neg-mul f a (exp2_of w p)) (sym (fate-map neg w (over_of w a) (under_of w a) (mul f a (exp2_of w p)) p))

  -- up to `must` the answer to -1 is the negative of the answer to 1
  answer-neg : (m y : ℕ) → ltb w.must (magnitude f y / 2 ^ w.below) ≡ false → answer w m y (signed_one true) ≡ neg (answer w m y (signed_one false))
  unfolding neg
  answer-neg m y h = go (ltb w.huge iy) (ltb w.must iy) h (ltb ix w.less) (ltb w.more ix) (negative f y)
    where
      ix : ℕ
      ix = m / 2 ^ w.below

      iy : ℕ
      iy = magnitude f y / 2 ^ w.below

      p : Two
      p = product_of w (of_bits f y) (log_of w m iy)

      -- the answer by its tests
      by : Bool → Bool → Bool → Bool → Bool → Float → Float
      by b c d e n a =
          cond b (cond c (huge_of w ix n) (cond d (cond n (over_of w a) (under_of w a)) (cond e (cond n (under_of w a) (over_of w a)) (finish_of w p a))))
          (finish_of w p a)

      go : (b c : Bool) → c ≡ false → (d e n : Bool) → by b c d e n (signed_one true) ≡ neg (by b c d e n (signed_one false))
      go true true k d e n = absurd (true≢false k)
      go true false k true e true = neg-over (signed_one false)
      go true false k true e false = neg-under (signed_one false)
      go true false k false true true = neg-under (signed_one false)
      go true false k false true false = neg-over (signed_one false)
      go true false k false false n = neg-finish p (signed_one false)
      go false c k d e n = neg-finish p (signed_one false)

  pub open-flips : Known w → (x y : ℕ) → magnitude f x < infinity f → (magnitude f x ≡ one f → ⊥) → magnitude f y < infinity f
      → ltb w.must (magnitude f y / 2 ^ w.below) ≡ false → open_of w x y true ≡ flipped (ours f) (open_of w x y false)
  open-flips K x y hx ne hy h =
      let m = magnitude f x in
      open_is w x y true ∙ ap (to_bits f) (answer-neg m y h)
      ∙ neg_bits f (answer w m y (signed_one false)) (answer-fits w K m y hx ne hy false) (answer-number w K m y hx ne hy false)
      ∙ ap (flipped (ours f)) (sym (open_is w x y false))
