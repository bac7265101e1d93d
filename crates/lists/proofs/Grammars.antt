-- The lines that are well formed are exactly those of the grammar, and what is said of one is said of its three numbers. For any judge. Assumes nothing.
use Prim.Native.Nat.{ℕ, suc, ◌+◌, ◌<◌}
use mathlib.Core.Path.{◌≡◌, refl, sym, ap, subst, ◌∙◌}
use mathlib.Core.Bool.{Bool, true, false, ◌&&◌, cond}
use mathlib.Core.List.{List, [], ◌∷◌, ◌++◌}
use native.Mathlib.Omega.{arith}
use native.Mathlib.Numerals.{add-one}
use native.Mathlib.Decide.{dec_lt}
use lib.Dec.{ltb}
use lib.ListN.{length, take, drop, get_or, length-append, length-drop}
use lib.Seq.{take_at, get_or_at, split_at, drop-drop, drop-append-add, get_or-drop}
use borrow.Author.Tests.{lt-ltb, ltb-true}
use Rattle.words.specs.Format.{Format, binary16, binary32, binary64}
use Rattle.lists.specs.Digits.{digit_of, hexadecimal, number_of}
use Rattle.lists.specs.Judge.{Judge}
use Rattle.lists.specs.Lines.{operand_text, result_text, flags_text, well_formed, agree, compared, verdict_at, verdict}
use Rattle.lists.specs.Grammar.{Digit, decimal, upper, lower, Digits, none, next, Fields}
use Rattle.lists.specs.declared.line.Verdict.TheVariants.{Malformed, Agrees, Disagrees}
use Rattle.lists.proofs.Characters.{decimal-value, upper-value, lower-value, value_before, value-between, value-past-upper, value-past}
use Rattle.std.proofs.lemmas.Bool.{and_parts}
use Rattle.lists.proofs.Verdicts.{Tested, tested, well-formed, ill-formed, operand-length, result-length, of_four, of-eight, of-sixteen}

-- ---- digits

digit-read : {c : ℕ} → Digit c → digit_of c < 16
digit-read {c} (decimal a b) = omega (arith, decimal-value c a b)
digit-read {c} (upper a b) = omega (arith, upper-value c a b)
digit-read {c} (lower a b) = omega (arith, lower-value c a b)

read-digit : (c : ℕ) → digit_of c < 16 → Digit c
read-digit c h = elim (dec_lt c 58) [
  | yes a ↦ elim (dec_lt c 48) [
    | yes b ↦ absurd (no_digit (value_before c b))
    | no b ↦ decimal {c = c} (omega arith) (omega arith)
  ]
  | no a ↦ elim (dec_lt c 71) [
    | yes b ↦ elim (dec_lt c 65) [
      | yes d ↦ absurd (no_digit (value-between c (omega arith) d))
      | no d ↦ upper {c = c} (omega arith) (omega arith)
    ]
    | no b ↦ elim (dec_lt c 103) [
      | yes d ↦ elim (dec_lt c 97) [
        | yes e ↦ absurd (no_digit (value-past-upper c (omega arith) e))
        | no e ↦ lower {c = c} (omega arith) (omega arith)
      ]
      | no d ↦ absurd (no_digit (value-past c (omega arith)))
    ]
  ]
]
  where
    no_digit : digit_of c ≡ 16 → ⊥
    no_digit e = omega arith

digits-hexadecimal : {n : ℕ} {s : List ℕ} → Digits n s → hexadecimal s ≡ true
unfolding hexadecimal
digits-hexadecimal none = refl
digits-hexadecimal (next {n} {c} {s} d r) = ap (λ (b : Bool). b && hexadecimal s) (lt-ltb (digit_of c) 16 (digit-read d)) ∙ digits-hexadecimal r

digits-length : {n : ℕ} {s : List ℕ} → Digits n s → length s ≡ n
digits-length none = refl
digits-length (next d r) = ap suc (digits-length r)

hexadecimal-digits : (s : List ℕ) → hexadecimal s ≡ true → Digits (length s) s
unfolding hexadecimal
hexadecimal-digits [] h = none
hexadecimal-digits (c ∷ s) h = let b = and_parts (ltb (digit_of c) 16) (hexadecimal s) h in next (read-digit c (ltb-true (digit_of c) 16 b.0)) (hexadecimal-digits s b.1)

digits_of : (s : List ℕ) (n : ℕ) → length s ≡ n → hexadecimal s ≡ true → Digits n s
digits_of s n e h = subst (λ (k : ℕ). Digits k s) e (hexadecimal-digits s h)

-- ---- a line of the grammar, cut as the reader cuts it

module _ (w : ℕ) (x r g : List ℕ) (ex : length x ≡ w) (er : length r ≡ w) where
  abbrev l : List ℕ
  l = x ++ 32 ∷ (r ++ 32 ∷ g)

  cut-operand : operand_text w l ≡ x
  cut-operand = take_at x (32 ∷ (r ++ 32 ∷ g)) w ex

  past-blank : drop (w + 1) l ≡ r ++ 32 ∷ g
  past-blank = ap (λ (n : ℕ). drop (n + 1) l) (sym ex) ∙ drop-append-add x (32 ∷ (r ++ 32 ∷ g)) 1

  cut-result : result_text w l ≡ r
  cut-result = ap (take w) past-blank ∙ take_at r (32 ∷ g) w er

  cut-flags : flags_text w l ≡ g
  cut-flags =
      ap (λ (n : ℕ). drop n l) (sum w)
      ∙ sym (drop-drop (w + 1) (w + 1) l)
      ∙ ap (drop (w + 1)) past-blank
      ∙ ap (λ (n : ℕ). drop (n + 1) (r ++ 32 ∷ g)) (sym er)
      ∙ drop-append-add r (32 ∷ g) 1
    where
      sum : (w : ℕ) → w + 1 + w + 1 ≡ w + 1 + (w + 1)
      sum w = omega arith

  cut-blank : get_or l w 0 ≡ 32
  cut-blank = get_or_at x 32 (r ++ 32 ∷ g) 0 w ex

  cut-second-blank : get_or l (w + 1 + w) 0 ≡ 32
  cut-second-blank = sym (get_or-drop (w + 1) l w 0) ∙ ap (λ (z : List ℕ). get_or z w 0) past-blank ∙ get_or_at r 32 g 0 w er

  cut-length : length g ≡ 2 → length l ≡ w + 1 + w + 1 + 2
  cut-length eg = length-append x (32 ∷ (r ++ 32 ∷ g)) ∙ omega (arith, ex, er, eg, length-append r (32 ∷ g))

-- every line of the grammar is well formed
parts-well-formed : (w : ℕ) (x r g : List ℕ) → Digits w x → Digits w r → Digits 2 g → well_formed w (x ++ 32 ∷ (r ++ 32 ∷ g)) ≡ true
parts-well-formed w x r g dx dr dg =
    let ex = digits-length dx in
    let er = digits-length dr in
    well-formed w (x ++ 32 ∷ (r ++ 32 ∷ g)) (record {
      size = cut-length w x r g ex er (digits-length dg);
      operand = ap hexadecimal (cut-operand w x r g ex er) ∙ digits-hexadecimal dx;
      result = ap hexadecimal (cut-result w x r g ex er) ∙ digits-hexadecimal dr;
      flags = ap hexadecimal (cut-flags w x r g ex er) ∙ digits-hexadecimal dg;
      first = cut-blank w x r g ex er;
      second = cut-second-blank w x r g ex er;
    })

pub fields-well-formed : (w : ℕ) (l : List ℕ) → Fields w l → well_formed w l ≡ true
fields-well-formed w l f = ap (well_formed w) f.is ∙ parts-well-formed w f.operand f.result f.flags f.operand-digits f.result-digits f.flags-digits

-- and every line that is well formed is of the grammar
tested-fields : (w : ℕ) (l : List ℕ) → Tested w l → Fields w l
tested-fields w l t = record {
  operand = operand_text w l;
  result = result_text w l;
  flags = flags_text w l;
  operand-digits = digits_of (operand_text w l) w (operand-length w l t.size) t.operand;
  result-digits = digits_of (result_text w l) w (result-length w l t.size) t.result;
  flags-digits = digits_of (flags_text w l) 2 (length-drop (w + 1 + w + 1) l ∙ omega (arith, t.size)) t.flags;
  is = whole w l t.size t.first t.second;
}
  where
    whole : (w : ℕ) (l : List ℕ) → length l ≡ w + 1 + w + 1 + 2 → get_or l w 0 ≡ 32 → get_or l (w + 1 + w) 0 ≡ 32
        → l ≡ take w l ++ 32 ∷ (take w (drop (w + 1) l) ++ 32 ∷ drop (w + 1 + w + 1) l)
    whole w l n p q =
        split_at l w 0 (omega arith)
        ∙ (λ i. take w l ++ p i ∷ drop (sym (add-one w) i) l)
        ∙ ap (λ (z : List ℕ). take w l ++ 32 ∷ z)
        (split_at (drop (w + 1) l) w 0 (simp length-drop (omega arith))
        ∙ (λ i. take w (drop (w + 1) l) ++ (get_or-drop (w + 1) l w 0 ∙ q) i ∷ (drop-drop (suc w) (w + 1) l ∙ ap (λ (z : ℕ). drop z l) (sum w)) i))
      where
        sum : (w : ℕ) → w + 1 + suc w ≡ w + 1 + w + 1
        sum w = omega arith

pub well-formed-fields : (w : ℕ) (l : List ℕ) → well_formed w l ≡ true → Fields w l
well-formed-fields w l h = tested-fields w l (tested w l h)

-- ---- what is said of a line of the grammar

said_at : (j : Judge) (f : Format) (w : ℕ) (l : List ℕ) (d : Fields w l)
    → verdict_at j f w l ≡ cond (agree (j f (number_of d.operand)) f (number_of d.result) (number_of d.flags)) Agrees Disagrees
unfolding compared
said_at j f w l d =
    ap (λ (b : Bool). cond b (compared j f w l) Malformed) (fields-well-formed w l d)
    ∙ ap (compared j f w) d.is
    ∙ compared-parts w d.operand d.result d.flags (digits-length d.operand-digits) (digits-length d.result-digits)
  where
    compared-parts : (w : ℕ) (x r g : List ℕ) → length x ≡ w → length r ≡ w
        → compared j f w (x ++ 32 ∷ (r ++ 32 ∷ g)) ≡ cond (agree (j f (number_of x)) f (number_of r) (number_of g)) Agrees Disagrees
    compared-parts w x r g ex er i = cond (agree (j f (number_of (cut-operand w x r g ex er i))) f (number_of (cut-result w x r g ex er i)) (number_of (cut-flags w x r g ex er i))) Agrees Disagrees

fields-length : (w : ℕ) (l : List ℕ) → Fields w l → length l ≡ w + 1 + w + 1 + 2
fields-length w l d = ap length d.is ∙ cut-length w d.operand d.result d.flags (digits-length d.operand-digits) (digits-length d.result-digits) (digits-length d.flags-digits)

-- the length of such a line tells its format
pub said : (f : Format) (w : ℕ) → ((j : Judge) (l : List ℕ) → length l ≡ w + 1 + w + 1 + 2 → verdict j l ≡ verdict_at j f w l)
    → (j : Judge) (l : List ℕ) (d : Fields w l) → verdict j l ≡ cond (agree (j f (number_of d.operand)) f (number_of d.result) (number_of d.flags)) Agrees Disagrees
said f w told j l d = told j l (fields-length w l d) ∙ said_at j f w l d

pub said-16 : (j : Judge) (l : List ℕ) (d : Fields 4 l) → verdict j l ≡ cond (agree (j binary16 (number_of d.operand)) binary16 (number_of d.result) (number_of d.flags)) Agrees Disagrees
said-16 = said binary16 4 of_four

pub said-32 : (j : Judge) (l : List ℕ) (d : Fields 8 l) → verdict j l ≡ cond (agree (j binary32 (number_of d.operand)) binary32 (number_of d.result) (number_of d.flags)) Agrees Disagrees
said-32 = said binary32 8 of-eight

pub said-64 : (j : Judge) (l : List ℕ) (d : Fields 16 l) → verdict j l ≡ cond (agree (j binary64 (number_of d.operand)) binary64 (number_of d.result) (number_of d.flags)) Agrees Disagrees
said-64 = said binary64 16 of-sixteen

-- any other is malformed
not-well-formed : (w : ℕ) (l : List ℕ) → ¬ Fields w l → well_formed w l ≡ false
not-well-formed w l n = ill-formed w l (λ t. n (well-formed-fields w l (well-formed w l t)))

pub said-other : (j : Judge) (l : List ℕ) → ¬ Fields 4 l → ¬ Fields 8 l → ¬ Fields 16 l → verdict j l ≡ Malformed
unfolding verdict
said-other j l a b c =
    (λ i. cond (not-well-formed 4 l a i) (compared j binary16 4 l)
    (cond (not-well-formed 8 l b i) (compared j binary32 8 l)
    (cond (not-well-formed 16 l c i) (compared j binary64 16 l) Malformed)))
