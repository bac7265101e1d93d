-- What is said of a line, by the tests of the code. Assumes nothing.
use Prim.Native.Nat.{ℕ, ◌+◌, ◌-◌, ◌*◌, ◌^◌, ◌<◌}
use mathlib.Core.Path.{◌≡◌, refl, sym, ap, subst, ◌∙◌}
use mathlib.Core.Bool.{Bool, true, false, ◌&&◌, cond, false≢true}
use mathlib.Core.List.{List}
use native.Mathlib.Omega.{arith}
use lib.Dec.{eqb}
use lib.ListN.{length, take, drop, get_or, length-drop}
use lib.Seq.{take_all, length-take-le}
use borrow.Author.Tests.{eq-eqb, eqb-true}
use Rattle.words.specs.Format.{Format, binary16, binary32, binary64}
use Rattle.std.proofs.Common.{Some, None}
use Rattle.std.proofs.lemmas.Option.{cond_some}
use Rattle.lists.specs.Digits.{hexadecimal, number_of, read_number}
use Rattle.lists.specs.Judge.{Judge}
use Rattle.lists.specs.Lines.{operand_text, result_text, flags_text, blank, well_formed, agree, compared, numbers, verdict_at, verdict}
use Rattle.lists.specs.declared.line.Numbers.{Numbers}
use Rattle.lists.specs.declared.line.Verdict.{Verdict}
use Rattle.lists.specs.declared.line.Verdict.TheVariants.{Malformed, Agrees, Disagrees}
use Rattle.std.proofs.lemmas.Bool.{and_parts}
use Rattle.lists.proofs.Hex.{cond-none, number-below}

-- ---- the parts of a line as the code cuts them

pub part-result : (w : ℕ) (l : List ℕ) → take (w + 1 + w - (w + 1)) (drop (w + 1) l) ≡ result_text w l
part-result w l = ap (λ (z : ℕ). take z (drop (w + 1) l)) (back w)
  where
    back : (w : ℕ) → w + 1 + w - (w + 1) ≡ w
    back w = omega arith

pub part-flags : (w : ℕ) (l : List ℕ) → take (length l - (w + 1 + w + 1)) (drop (w + 1 + w + 1) l) ≡ flags_text w l
part-flags w l = take_all (length l - (w + 1 + w + 1)) (flags_text w l) (simp length-drop (omega arith))

pub operand-length : (w : ℕ) (l : List ℕ) → length l ≡ w + 1 + w + 1 + 2 → length (operand_text w l) ≡ w
operand-length w l e = length-take-le w l (omega arith)

pub result-length : (w : ℕ) (l : List ℕ) → length l ≡ w + 1 + w + 1 + 2 → length (result_text w l) ≡ w
result-length w l e = length-take-le w (drop (w + 1) l) (simp length-drop (omega arith))

-- ---- a line's tests, one by one

module _ (w : ℕ) (l : List ℕ) where
  abbrev blanks : Bool
  blanks = eqb (get_or l w 0) blank && eqb (get_or l (w + 1 + w) 0) blank

  abbrev digits : Bool
  digits = (hexadecimal (operand_text w l) && hexadecimal (result_text w l)) && hexadecimal (flags_text w l)

  pub record Tested : Type 0 where
    pub size : length l ≡ w + 1 + w + 1 + 2
    pub operand : hexadecimal (operand_text w l) ≡ true
    pub result : hexadecimal (result_text w l) ≡ true
    pub flags : hexadecimal (flags_text w l) ≡ true
    pub first : get_or l w 0 ≡ blank
    pub second : get_or l (w + 1 + w) 0 ≡ blank

  pub tested : well_formed w l ≡ true → Tested
  unfolding well_formed
  tested h =
      let a = and_parts (eqb (length l) (w + 1 + w + 1 + 2)) _ h in
      let b = and_parts digits blanks a.1 in
      let c = and_parts (hexadecimal (operand_text w l) && hexadecimal (result_text w l)) _ b.0 in
      let d = and_parts (hexadecimal (operand_text w l)) _ c.0 in
      let e = and_parts (eqb (get_or l w 0) blank) _ b.1 in
      record {
        size = eqb-true (length l) (w + 1 + w + 1 + 2) a.0;
        operand = d.0;
        result = d.1;
        flags = c.1;
        first = eqb-true (get_or l w 0) blank e.0;
        second = eqb-true (get_or l (w + 1 + w) 0) blank e.1;
      }

  pub well-formed : Tested → well_formed w l ≡ true
  unfolding well_formed
  well-formed t i =
      eq-eqb (length l) (w + 1 + w + 1 + 2) t.size i
      && (((t.operand i && t.result i) && t.flags i) && (eq-eqb (get_or l w 0) blank t.first i && eq-eqb (get_or l (w + 1 + w) 0) blank t.second i))

  pub ill-formed : ¬ Tested → well_formed w l ≡ false
  ill-formed n = go (well_formed w l) refl
    where
      go : (b : Bool) → well_formed w l ≡ b → well_formed w l ≡ false
      go true e = absurd (n (tested e))
      go false e = e

-- ---- the numbers that the code reads

module _ (w : ℕ) (l : List ℕ) where
  nothing : ¬ Tested w l → numbers w l ≡ None
  nothing n = rw (ill-formed w l n)

  pub no-blank : ¬ (get_or l w 0 ≡ blank) → numbers w l ≡ None
  no-blank h = nothing (λ t. h t.first)

  pub no-second : ¬ (get_or l (w + 1 + w) 0 ≡ blank) → numbers w l ≡ None
  no-second h = nothing (λ t. h t.second)

  pub no-operand : read_number (operand_text w l) ≡ None → numbers w l ≡ None
  no-operand h = nothing (λ t. false≢true (sym (cond-none _ _ h) ∙ t.operand))

  pub no-result : read_number (result_text w l) ≡ None → numbers w l ≡ None
  no-result h = nothing (λ t. false≢true (sym (cond-none _ _ h) ∙ t.result))

  pub no-flags : read_number (flags_text w l) ≡ None → numbers w l ≡ None
  no-flags h = nothing (λ t. false≢true (sym (cond-none _ _ h) ∙ t.flags))

  pub all-read : {x r g : ℕ} → length l ≡ w + 1 + w + 1 + 2 → get_or l w 0 ≡ blank → get_or l (w + 1 + w) 0 ≡ blank
      → read_number (operand_text w l) ≡ Some x → read_number (result_text w l) ≡ Some r → read_number (flags_text w l) ≡ Some g
      → numbers w l ≡ Some (record { operand = x; result = r; flags = g })
  all-read {x} {r} {g} size first second hx hr hg =
      let a = cond_some _ _ x hx in
      let b = cond_some _ _ r hr in
      let c = cond_some _ _ g hg in
      rw (well-formed w l (record { size = size; operand = a.0; result = b.0; flags = c.0; first = first; second = second })) (λ i. Some (record { operand = a.1 i; result = b.1 i; flags = c.1 i }))

  -- ---- and what is said of the line

  module _ {n : Numbers} (h : Some n ≡ numbers w l) where
    some-read : (well_formed w l ≡ true) × (record { operand = number_of (operand_text w l); result = number_of (result_text w l); flags = number_of (flags_text w l) } ≡ n)
    some-read = cond_some (well_formed w l) _ n (sym h)

    pub small : (n.operand < 2 ^ (4 * w)) × (n.result < 2 ^ (4 * w))
    small =
        let t = tested w l some-read.0 in
        subst (λ (n : Numbers). (n.operand < 2 ^ (4 * w)) × (n.result < 2 ^ (4 * w))) some-read.1
        (number-below (operand_text w l) w (operand-length w l t.size) t.operand, number-below (result_text w l) w (result-length w l t.size) t.result)

    pub held : (j : Judge) (f : Format) → verdict_at j f w l ≡ cond (agree (j f n.operand) f n.result n.flags) Agrees Disagrees
    unfolding compared
    held j f =
        ap (λ (b : Bool). cond b (compared j f w l) Malformed) some-read.0
        ∙ ap (λ (n : Numbers). cond (agree (j f n.operand) f n.result n.flags) Agrees Disagrees) some-read.1

-- so the numbers of a line
pub ruleset reads = (no-blank, no-second, no-operand, no-result, no-flags, part-result, part-flags)

-- ---- the length tells the width

other_length : (w : ℕ) (l : List ℕ) → ¬ (length l ≡ w + 1 + w + 1 + 2) → well_formed w l ≡ false
other_length w l n = ill-formed w l (λ t. n t.size)

module _ (j : Judge) (l : List ℕ) where
  abbrev from-eight : Verdict
  from-eight = cond (well_formed 8 l) (compared j binary32 8 l) (verdict_at j binary64 16 l)

  not-four : ¬ (length l ≡ 12) → verdict j l ≡ from-eight
  unfolding verdict
  not-four n = ap (λ (b : Bool). cond b (compared j binary16 4 l) from-eight) (other_length 4 l n)

  not_eight : ¬ (length l ≡ 12) → ¬ (length l ≡ 20) → verdict j l ≡ verdict_at j binary64 16 l
  not_eight m n = not-four m ∙ ap (λ (b : Bool). cond b (compared j binary32 8 l) (verdict_at j binary64 16 l)) (other_length 8 l n)

  pub of_none : ¬ (length l ≡ 12) → ¬ (length l ≡ 20) → ¬ (length l ≡ 36) → verdict j l ≡ Malformed
  of_none k m n = not_eight k m ∙ ap (λ (b : Bool). cond b (compared j binary64 16 l) Malformed) (other_length 16 l n)

  pub of_four : length l ≡ 12 → verdict j l ≡ verdict_at j binary16 4 l
  unfolding verdict
  of_four e =
      ap (λ (b : Bool). cond (well_formed 4 l) (compared j binary16 4 l) (cond b (compared j binary32 8 l) (verdict_at j binary64 16 l))) (other_length 8 l (λ h. omega arith))
      ∙ ap (cond (well_formed 4 l) (compared j binary16 4 l)) (ap (λ (b : Bool). cond b (compared j binary64 16 l) Malformed) (other_length 16 l (λ h. omega arith)))

  pub of-eight : length l ≡ 20 → verdict j l ≡ verdict_at j binary32 8 l
  of-eight e = not-four (λ h. omega arith) ∙ ap (cond (well_formed 8 l) (compared j binary32 8 l)) (ap (λ (b : Bool). cond b (compared j binary64 16 l) Malformed) (other_length 16 l (λ h. omega arith)))

  pub of-sixteen : length l ≡ 36 → verdict j l ≡ verdict_at j binary64 16 l
  of-sixteen e = not_eight (λ h. omega arith) (λ h. omega arith)

  -- so each length has its verdict
  pub ruleset widths = (of_four, of-eight, of-sixteen, of_none)
