-- The chain's last product, by 1 or -1: -1 turns the sign of the word, and nothing else changes. Zeros and infinities too. Over every width. Assumes nothing.
use Prim.Native.Nat.{ℕ, ◌+◌, ◌*◌, ◌%◌, ◌^◌, ◌<◌, ◌≤◌}
use mathlib.Core.Path.{◌≡◌, refl, sym, ap, ◌∙◌}
use mathlib.Core.Logic.{◌⊎◌, inl, inr}
use mathlib.Core.Bool.{Bool, true, false, cond}
use native.Mathlib.Nat.{eq-or-lt_of_le, lt_of_le_of_lt, mod-eq_of_lt, mul-pos, zero-add}
use native.Mathlib.Omega.{arith}
use lib.Dec.{T, leb}
use lib.Arith.{digits_mod}
use lib.Pow.{pow_pos}
use lib.IntN.{pos}
use lib.Ieee.{Float, inf, fin, Format, binary32, binary64, prec, low, top, unlike, mul, fits, of_bits, to_bits}
use lib.Ieee.Bits.{of_bits-to_bits, to_bits-lt}
use lib.Ieee.Fits.{two, two-le_pos}
use borrow.Author.Tests.{ltb-false}
use Rattle.words.specs.Format.{infinity, one, signed, units, ours}
use Rattle.words.proofs.Floats.{word-inf, word-val}
use Rattle.words.proofs.Products.{mul-vals}
use Rattle.words.proofs.Round.{to_bits-round, to_bits_inf}
use Rattle.words.proofs.Rounded.{rounded-exact}
use Rattle.words.proofs.Words.{infinity-below, sign-and-size}
use Rattle.power.specs.Width.{Width}
use Rattle.power.specs.Chain.{sign_of}
use Rattle.power.specs.NoNan.{Number}
use Rattle.power.proofs.Nan.{number-bits}

-- 1 and -1
unit-is : (f : Format) (s : Bool) → of_bits f (signed (ours f) s (one (ours f))) ≡ fin s 1 (pos 0)
unfolding of_bits
unit-is binary32 true = refl
unit-is binary32 false = refl
unit-is binary64 true = refl
unit-is binary64 false = refl

-- times infinity
times-inf : (f : Format) (s t : Bool) → mul f (fin s 1 (pos 0)) (inf t) ≡ inf (unlike s t)
unfolding mul
times-inf f s t = refl

-- the word x of the sign t and the size m, with t turned where s is true
turned : (p m x : ℕ) (s t : Bool) → m < p → cond t p 0 + m ≡ x → cond (unlike s t) p 0 + m ≡ cond s ((x + p) % (2 * p)) x
turned p m x true true l e = zero-add m ∙ sym (ap (λ (z : ℕ). z % (2 * p)) (around p m x e) ∙ digits_mod 1 (below p m l))
  where
    around : (p m x : ℕ) → p + m ≡ x → x + p ≡ 1 * (2 * p) + m
    around p m x e = omega arith

    below : (p m : ℕ) → m < p → m < 2 * p
    below p m l = omega arith
turned p m x true false l e = sym (ap (λ (z : ℕ). z % (2 * p)) (over p m x e) ∙ mod-eq_of_lt (below p m l))
  where
    over : (p m x : ℕ) → 0 + m ≡ x → x + p ≡ p + m
    over p m x e = omega arith

    below : (p m : ℕ) → m < p → p + m < 2 * p
    below p m l = omega arith
turned p m x false true l e = e
turned p m x false false l e = e

-- a number's word x: the product has its size, and the sign of both
module _ (f : Format) (s : Bool) (x : ℕ) where
  abbrev m : ℕ
  m = x % top f

  abbrev t : Bool
  t = leb (top f) x

  sized : (m ≡ infinity (ours f)) ⊎ (m < infinity (ours f)) → to_bits f (mul f (fin s 1 (pos 0)) (of_bits f x)) ≡ signed (ours f) (unlike s t) m
  sized (inl e) =
      ap (λ (v : Float). to_bits f (mul f (fin s 1 (pos 0)) v)) (word-inf f x e)
      ∙ ap (to_bits f) (times-inf f s t)
      ∙ to_bits_inf f (unlike s t)
      ∙ ap (signed (ours f) (unlike s t)) (sym e)
  sized (inr l) =
      let u = units (ours f) m in
      let d = 1 * 2 ^ low f in
      let D : 0 < d = mul-pos (omega arith) (pow_pos (low f)) in
      ap (to_bits f) (mul-vals f (fin s 1 (pos 0)) (of_bits f x) s t 1 1 u (2 ^ low f) (omega arith) (pow_pos (low f)) (refl, refl) (word-val f x l))
      ∙ to_bits-round f (unlike s t) (1 * u) d D
      ∙ ap (signed (ours f) (unlike s t)) (rounded-exact (ours f) m (1 * u * 2 ^ low f) d (two-le_pos (prec f) (two f)) l D (same u (2 ^ low f)))
    where
      same : (u c : ℕ) → u * (1 * c) ≡ 1 * u * c
      same u c = omega arith

  by_word : x < 2 * top f → m ≤ infinity (ours f) → to_bits f (mul f (fin s 1 (pos 0)) (of_bits f x)) ≡ cond s ((x + top f) % (2 * top f)) x
  by_word X M = sized (eq-or-lt_of_le M) ∙ turned (top f) m x s t (lt_of_le_of_lt M (infinity-below (ours f))) (sign-and-size (top f) x X)

module _ (w : Width) (v : Float) (F : T (fits w.format v)) (N : Number v) where
  pub signed_word : (s : Bool) → to_bits w.format (mul w.format (sign_of w s) v) ≡ cond s ((to_bits w.format v + top w.format) % (2 * top w.format)) (to_bits w.format v)
  unfolding sign_of
  signed_word s =
      let f = w.format in
      let x = to_bits f v in
      (λ i. to_bits f (mul f (unit-is f s i) (sym (of_bits-to_bits f v F) i)))
      ∙ by_word f s x (to_bits-lt f v F) (ltb-false (infinity (ours f)) (x % top f) (number-bits f v F N))
