-- A line that TestFloat writes, in either case, is of the grammar and is read as the three numbers that it was written from. For any judge. Assumes nothing.
use Prim.Native.Nat.{ℕ, zero, suc, ◌+◌, ◌-◌, ◌*◌, ◌/◌, ◌%◌, ◌^◌, ◌≤◌, ◌<◌}
use mathlib.Core.Path.{◌≡◌, refl, sym, ap, subst, ◌∙◌}
use mathlib.Core.Bool.{Bool, cond}
use mathlib.Core.Logic.{◌⊎◌, ⊎_elim}
use mathlib.Core.List.{List, [], ◌∷◌}
use native.Mathlib.Omega.{arith}
use native.Mathlib.Decide.{dec_lt}
use native.Mathlib.Nat.{pow-succ', zero-add, add-zero}
use borrow.Author.Tests.{lt-ltb, le-ltb}
use Rattle.words.specs.Format.{Format, binary16, binary32, binary64}
use Rattle.lists.specs.Digits.{digit_of, number_from, number_of}
use Rattle.lists.specs.Judge.{Judge}
use Rattle.lists.specs.Lines.{agree, verdict}
use Rattle.lists.specs.Grammar.{Digit, decimal, upper, lower, Digits, none, next, Fields}
use Rattle.lists.specs.Written.{character, hex_before, hex, line_in}
use Rattle.lists.specs.declared.line.Verdict.TheVariants.{Agrees, Disagrees}
use Rattle.lists.proofs.Characters.{decimal-value, upper-value, lower-value}
use Rattle.lists.proofs.Grammars.{said-16, said-32, said-64}

-- where a letter case stands
abbrev pub Case : ℕ → Type 0
Case letter = (letter ≡ 65) ⊎ (letter ≡ 97)

-- ---- one digit

low_digit : (letter d : ℕ) → d < 10 → character letter d ≡ 48 + d
low_digit letter d h = ap (λ (b : Bool). cond b (48 + d) (letter + (d - 10))) (lt-ltb d 10 h)

high_digit : (letter d : ℕ) → 10 ≤ d → character letter d ≡ letter + (d - 10)
high_digit letter d h = ap (λ (b : Bool). cond b (48 + d) (letter + (d - 10))) (le-ltb d 10 h)

-- a digit's character is one, and stands for it
record Right (c d : ℕ) : Type 0 where
  pub digit : Digit c
  pub value : digit_of c ≡ d

right-as : {c e d : ℕ} → c ≡ e → Right e d → Right c d
right-as {c} {e} {d} p r = subst (λ (z : ℕ). Right z d) (sym p) r

right : (letter d : ℕ) → Case letter → d < 16 → Right (character letter d) d
right letter d k h = elim (dec_lt d 10) [
  | yes a ↦ right-as (low_digit letter d a) (record { digit = decimal {c = 48 + d} (omega arith) (omega arith); value = decimal-value (48 + d) (omega arith) (omega arith) ∙ less d })
  | no a ↦ right-as (high_digit letter d (omega arith)) (⊎_elim
      (λ (e : letter ≡ 65). record { digit = upper {c = letter + (d - 10)} (omega arith) (omega arith); value = upper-value (letter + (d - 10)) (omega arith) (omega arith) ∙ omega arith })
      (λ (e : letter ≡ 97). record { digit = lower {c = letter + (d - 10)} (omega arith) (omega arith); value = lower-value (letter + (d - 10)) (omega arith) (omega arith) ∙ omega arith })
      k)
]
  where
    less : (d : ℕ) → 48 + d - 48 ≡ d
    less d = omega arith

-- ---- k digits

module _ (letter : ℕ) (case : Case letter) where
  digit-of : (n : ℕ) → Right (character letter (n % 16)) (n % 16)
  digit-of n = right letter (n % 16) case (omega arith)

  digits-before : (k n m : ℕ) (s : List ℕ) → Digits m s → Digits (k + m) (hex_before letter k n s)
  digits-before zero n m s d = subst (λ (z : ℕ). Digits z s) (sym (zero-add m)) d
  digits-before (suc k) n m s d =
      let t : List ℕ = character letter (n % 16) ∷ s in
      subst (λ (z : ℕ). Digits z (hex_before letter k (n / 16) t)) (shift k m) (digits-before k (n / 16) (suc m) t (next (digit-of n).digit d))
    where
      shift : (k m : ℕ) → k + suc m ≡ suc k + m
      shift k m = omega arith

  number-before : (k n v : ℕ) (s : List ℕ) → n < 16 ^ k → number_from v (hex_before letter k n s) ≡ number_from (v * 16 ^ k + n) s
  unfolding number_from
  number-before zero n v s h = ap (λ (z : ℕ). number_from z s) (same v n h)
    where
      same : (v n : ℕ) → n < 1 → v ≡ v * 1 + n
      same v n h = omega arith
  number-before (suc k) n v s h =
      number-before k (n / 16) v (character letter (n % 16) ∷ s) (omega (arith, h, pow-succ' 16 k))
      ∙ ap (λ (z : ℕ). number_from ((v * 16 ^ k + n / 16) * 16 + z) s) (digit-of n).value
      ∙ ap (λ (z : ℕ). number_from z s) (sum v n (16 ^ k) (16 ^ suc k) (pow-succ' 16 k))
    where
      sum : (v n q r : ℕ) → r ≡ 16 * q → (v * q + n / 16) * 16 + n % 16 ≡ v * r + n
      sum v n q r e = omega (arith, ap (λ (z : ℕ). v * z) e)

  hex-digits : (k n : ℕ) → Digits k (hex letter k n)
  hex-digits k n = subst (λ (z : ℕ). Digits z (hex letter k n)) (add-zero k) (digits-before k n 0 [] none)

  hex-number : (k n : ℕ) → n < 16 ^ k → number_of (hex letter k n) ≡ n
  unfolding number_from
  hex-number k n h = number-before k n 0 [] h ∙ same (16 ^ k) n
    where
      same : (q n : ℕ) → 0 * q + n ≡ n
      same q n = omega arith

  -- ---- a line

  abbrev fields : (w x r g : ℕ) → Fields w (line_in letter w x r g)
  fields w x r g = record {
    operand = hex letter w x;
    result = hex letter w r;
    flags = hex letter 2 g;
    operand-digits = hex-digits w x;
    result-digits = hex-digits w r;
    flags-digits = hex-digits 2 g;
    is = refl;
  }

  module _ (f : Format) (w : ℕ) (told : (j : Judge) (l : List ℕ) (d : Fields w l) → verdict j l ≡ cond (agree (j f (number_of d.operand)) f (number_of d.result) (number_of d.flags)) Agrees Disagrees) where
    written-line : (j : Judge) (x r g : ℕ) → x < 16 ^ w → r < 16 ^ w → g < 16 ^ 2 → verdict j (line_in letter w x r g) ≡ cond (agree (j f x) f r g) Agrees Disagrees
    written-line j x r g a b c =
        told j (line_in letter w x r g) (fields w x r g)
        ∙ (λ i. cond (agree (j f (hex-number w x a i)) f (hex-number w r b i) (hex-number 2 g c i)) Agrees Disagrees)

  pub written-16 : (j : Judge) (x r g : ℕ) → x < 16 ^ 4 → r < 16 ^ 4 → g < 16 ^ 2 → verdict j (line_in letter 4 x r g) ≡ cond (agree (j binary16 x) binary16 r g) Agrees Disagrees
  written-16 = written-line binary16 4 said-16

  pub written-32 : (j : Judge) (x r g : ℕ) → x < 16 ^ 8 → r < 16 ^ 8 → g < 16 ^ 2 → verdict j (line_in letter 8 x r g) ≡ cond (agree (j binary32 x) binary32 r g) Agrees Disagrees
  written-32 = written-line binary32 8 said-32

  pub written-64 : (j : Judge) (x r g : ℕ) → x < 16 ^ 16 → r < 16 ^ 16 → g < 16 ^ 2 → verdict j (line_in letter 16 x r g) ≡ cond (agree (j binary64 x) binary64 r g) Agrees Disagrees
  written-64 = written-line binary64 16 said-64
