-- No NaN arises where the chain is walked to its end: not in y, the logarithm, the product, z, the exponential, 2 to z, or the answer.
-- The bounds make them finite; 2 to z is infinite at most, and so is the answer.
use mathlib.Core.Path.{◌≡◌, ap, ◌∙◌}
use Prim.Native.Nat.{ℕ, ◌/◌, ◌^◌}
use mathlib.Core.Bool.{Bool}
use lib.Ieee.{Float, Format, is_nan, of_bits}
use Rattle.words.specs.Format.{magnitude, ours}
use Rattle.power.specs.declared.answer.Fate.{Fate}
use Rattle.power.specs.declared.answer.Fate.TheVariants.{Over, Under, Within}
use Rattle.power.specs.Width.{Width, Two}
use Rattle.power.specs.Chain.{log_of, product_of, fate_of, sign_of, finish_of}
use Rattle.power.specs.NoNan.{Number, Finite, OpenPair, Reaches, Walked}
use Rattle.power.proofs.Limits.{over-within, under-within}
use Rattle.bounds.proofs.Signed.{Num}
use Rattle.bounds.proofs.RoundedSums.{add-res}
use Rattle.chain.proofs.Known.{Known}
use Rattle.chain.proofs.NoNan.{finite_number, signed-one-is}
use Rattle.chain.proofs.InRange.{Inside, fate-by}
use Rattle.chain.proofs.Far.{Log}
use Rattle.chain.proofs.Open.{Bounded, split, in-range, finish-sound, yn, reached}

module _ (w : Width) (K : Known w) where
  abbrev f : Format
  f = w.format

  number : {x : Float} → Num f x → Number x
  number {x} n = finite_number x n.finite

  -- a z within the limits is in range
  inside : (p : Two) → fate_of w Over Under Within p ≡ Within → Inside w K p
  inside p = fate-by w K p (λ (r : Fate). r ≡ Within → Inside w K p) Over Under Within (λ e. absurd (over-within e)) (λ e. absurd (under-within e)) (λ I e. I)

  walk : (y : Float) (t : Two) (s : Bool) → Num f y → Log f t → Bounded w K y t → Walked w y t s
  unfolding sign_of
  walk y t s n l b =
      let p = product_of w y t in
      let S = split w K y t n l b in
      record {
        exponent = number n;
        logarithm = (number l.hi-num, number l.lo-num);
        product = (number S.hi-num, number S.lo-num);
        finish = record { sum = number (add-res f p.lo p.hi S.lo-num S.hi-num S.sum).num; raisable = λ e. in-range w K p S (inside p e) };
        answer = ap (λ (a : Float). is_nan (finish_of w p a)) (signed-one-is f s) ∙ (finish-sound w K y t s n l b).0;
      }

  pub walked : (x y : ℕ) (s : Bool) → OpenPair (ours f) x y → Reaches w (magnitude (ours f) x / 2 ^ w.below) (magnitude (ours f) y / 2 ^ w.below)
      → Walked w (of_bits f y) (log_of w (magnitude (ours f) x) (magnitude (ours f) y / 2 ^ w.below)) s
  walked x y s o r =
      let m = magnitude (ours f) x in
      let b = reached w K m y o.base o.not-one o.exponent r in
      walk (of_bits f y) (log_of w m (magnitude (ours f) y / 2 ^ w.below)) s (yn w K m y o.base o.not-one o.exponent) b.0 b.1

  -- the two parts of the product are finite
  pub product-finite : (x y : ℕ) → OpenPair (ours f) x y → Reaches w (magnitude (ours f) x / 2 ^ w.below) (magnitude (ours f) y / 2 ^ w.below)
      → let p = product_of w (of_bits f y) (log_of w (magnitude (ours f) x) (magnitude (ours f) y / 2 ^ w.below)) in
      Finite p.hi × Finite p.lo
  product-finite x y o r =
      let m = magnitude (ours f) x in
      let b = reached w K m y o.base o.not-one o.exponent r in
      let S = split w K (of_bits f y) (log_of w m (magnitude (ours f) y / 2 ^ w.below)) (yn w K m y o.base o.not-one o.exponent) b.0 b.1 in
      (S.hi-num.finite, S.lo-num.finite)
