-- The table's words: none is a NaN's, and of two of them the one at k by masks is the word k places on. Over every width. Assumes nothing.
use Prim.Native.Nat.{ℕ, zero, suc, ◌+◌, ◌-◌, ◌*◌, ◌%◌, ◌^◌, ◌<◌}
use mathlib.Core.Path.{◌≡◌, sym, ap, ◌∙◌}
use mathlib.Core.Bool.{Bool, true, not, ◌&&◌}
use mathlib.Core.List.{List, [], ◌∷◌}
use native.Mathlib.Nat.{mod-eq_of_lt, zero-mul, one-mul, sub_self, sub-zero, add-zero}
use native.Mathlib.Omega.{arith}
use lib.Bits.{bit_and, bit_or, and_mask, and_zero_r, or_zero_r}
use lib.Dec.{T, leb, ltb, leb→le, ltb→lt}
use lib.ListN.{get_or}
use lib.Ieee.{nan_bits, top}
use lib.Ieee.Fits.{and_l, and_r}
use Rattle.words.specs.Format.{infinity, ours}
use Rattle.words.proofs.Floats.{word_number}
use Rattle.power.specs.Width.{Width}
use Rattle.power.specs.Table32.{table32}
use Rattle.power.specs.Table64.{table64}
use Rattle.power.specs.Power.{single, double}

-- of two words of n digits one is masked out: the first stays where k is 0, the second where it is 1
module _ (n a b : ℕ) (A : a < 2 ^ n) (B : b < 2 ^ n) where
  abbrev masked : ℕ → ℕ
  masked m = bit_or (bit_and a (2 ^ n - 1 - m)) (bit_and b m)

  first : masked (0 * (2 ^ n - 1)) ≡ a
  first =
      ap masked (zero-mul (2 ^ n - 1))
      ∙ ap (λ (v : ℕ). bit_or (bit_and a v) (bit_and b 0)) (sub-zero (2 ^ n - 1))
      ∙ ap (λ (v : ℕ). bit_or (bit_and a (2 ^ n - 1)) v) (and_zero_r b)
      ∙ or_zero_r (bit_and a (2 ^ n - 1))
      ∙ and_mask a n
      ∙ mod-eq_of_lt A

  second : masked (1 * (2 ^ n - 1)) ≡ b
  second =
      ap masked (one-mul (2 ^ n - 1))
      ∙ ap (λ (v : ℕ). bit_or (bit_and a v) (bit_and b (2 ^ n - 1))) (sub_self (2 ^ n - 1))
      ∙ ap (λ (v : ℕ). bit_or v (bit_and b (2 ^ n - 1))) (and_zero_r a)
      ∙ and_mask b n
      ∙ mod-eq_of_lt B

-- a test that every number of a list meets, and 0 too, is met at every place
every : (ℕ → Bool) → List ℕ → Bool
every p [] = true
every p (x ∷ xs) = p x && every p xs

at_each : (p : ℕ → Bool) (xs : List ℕ) (i : ℕ) → T (p 0) → T (every p xs) → T (p (get_or xs i 0))
unfolding every
at_each p [] i z e = z
at_each p (x ∷ xs) zero z e = and_l (p x) (every p xs) e
at_each p (x ∷ xs) (suc i) z e = at_each p xs i z (and_r (p x) (every p xs) e)

-- a word of n digits that is no NaN's
clean : Width → ℕ → ℕ → Bool
clean w n v = ltb v (2 ^ n) && leb (v % top w.format) (infinity (ours w.format))

pub Clean : Width → ℕ → Type 0
Clean w n = T (clean w n 0 && every (clean w n) w.table)

pub clean32 : Clean single 32
unfolding Clean clean every table32
clean32 = tt

pub clean64 : Clean double 64
unfolding Clean clean every table64
clean64 = tt

module _ (w : Width) (n : ℕ) (P : Clean w n) where
  word : ℕ → ℕ
  word i = get_or w.table i 0

  holds : (i : ℕ) → T (clean w n (word i))
  unfolding Clean word
  holds i =
      let l = every (clean w n) w.table in
      at_each (clean w n) w.table i (and_l (clean w n 0) l P) (and_r (clean w n 0) l P)

  fits : (i : ℕ) → get_or w.table i 0 < 2 ^ n
  unfolding clean word
  fits i = ltb→lt (word i) (2 ^ n) (and_l (ltb (word i) (2 ^ n)) (leb (word i % top w.format) (infinity (ours w.format))) (holds i))

  pub picked : (i k : ℕ) → k < 2
      → bit_or (bit_and (get_or w.table i 0) (2 ^ n - 1 - k * (2 ^ n - 1))) (bit_and (get_or w.table (i + 1) 0) (k * (2 ^ n - 1))) ≡ get_or w.table (i + k) 0
  picked i zero l = first n _ _ (fits i) (fits (i + 1)) ∙ ap (λ (v : ℕ). get_or w.table v 0) (sym (add-zero i))
  picked i (suc zero) l = second n _ _ (fits i) (fits (i + 1))
  picked i (suc (suc k)) l = absurd (omega arith)

  pub number : (i : ℕ) → T (not (nan_bits w.format (get_or w.table i 0)))
  unfolding clean word
  number i =
      let r = word i % top w.format in
      let l = infinity (ours w.format) in
      word_number w.format (word i) (leb→le r l (and_r (ltb (word i) (2 ^ n)) (leb r l) (holds i)))
