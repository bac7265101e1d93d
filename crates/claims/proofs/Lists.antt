-- Request 7, sentence by sentence: TestFloat's lists. Put together from the laws of `lists`. Assumes nothing.
use Prim.Native.Nat.{ℕ, ◌+◌, ◌-◌, ◌*◌, ◌^◌, ◌≤◌, min}
use native.Mathlib.Omega.{arith}
use native.Mathlib.Nat.{zero-add}
use mathlib.Core.Path.{◌≡◌, sym, ap, ◌∙◌}
use mathlib.Core.Bool.{Bool, true, false, ◌&&◌, cond}
use mathlib.Core.List.{List, ◌++◌}
use lib.Dec.{T, ltb, eqb}
use borrow.Author.Tests.{lt-ltb, ne_eqb, ltb-true, leb-true}
use lib.Ieee.{size}
use lib.ListN.{length}
use Rattle.words.specs.Format.{Format, binary16, binary32, binary64, quiet, magnitude, is_nan_word, units}
use Rattle.words.specs.Rounding.{bit}
use Rattle.root.proofs.Words.{Fine}
use Rattle.root.specs.Root.{floor_root, digits_at, significand, halves, whole, root_at, root_word}
use Rattle.lists.specs.Digits.{among_of, digit_of, hexadecimal, number_from}
use Rattle.lists.specs.Judge.{Judge, root_flags, root_judged}
use Rattle.lists.specs.Lines.{well_formed, same_result, compared, verdict}
use Rattle.lists.specs.Grammar.{Fields}
use Rattle.lists.specs.Counts.{last_line, lines_of, written, plain, all_plain, Lined, agrees, malformed, disagrees, capped, count, first_line, first_number, report}
use Rattle.lists.specs.Reader.{joined, line_of, tally_of, Run}
use Rattle.lists.specs.declared.line.Verdict.TheVariants.{Malformed}
use Rattle.lists.specs.declared.tally.Tally.{Tally}
use Rattle.lists.proofs.First as First
use Rattle.lists.proofs.Flags as Flags
use Rattle.lists.proofs.Splitting as Splitting
use Rattle.lists.proofs.Grammars as Grammars
use Rattle.lists.proofs.Cutting as Cutting
use Rattle.lists.proofs.Writing as Writing
use Rattle.claims.specs.Lists.{ByGrammar, ByWriting, FlagsMeant, FirstKept, NoneKept, all_hold, examples}

-- however a stream is cut, what the code returns is the report on the whole: a definition without state
pub request-7-report : {ps : List (List ℕ)} {r : Tally} → Run ps r → r ≡ tally_of (report root_judged (joined ps))
request-7-report = Cutting.run-report

-- and over any pieces there is a run that returns it
pub request-7-runs : (ps : List (List ℕ)) → Run ps (tally_of (report root_judged (joined ps)))
request-7-runs = Cutting.runs

-- "Any cutting of the stream gives the same counts", and the same first disagreeing line
pub request-7-any-cutting : {ps qs : List (List ℕ)} {a b : Tally} → Run ps a → Run qs b → joined ps ≡ joined qs → a ≡ b
request-7-any-cutting d e h = request-7-report d ∙ ap (λ (s : List ℕ). tally_of (report root_judged s)) h ∙ sym (request-7-report e)

-- "Counts stop at 2^64 - 1": each is the true count, or that if it is less. Every line counts as read, the malformed ones too
pub request-7-counts : {ps : List (List ℕ)} {r : Tally} → Run ps r →
    let ls : List (List ℕ) = lines_of (joined ps) in
    (r.lines ≡ min (length ls) (2 ^ 64 - 1)) × (r.agree ≡ min (count (agrees root_judged) ls) (2 ^ 64 - 1)) × (r.malformed ≡ min (count (malformed root_judged) ls) (2 ^ 64 - 1))
request-7-counts d =
    let e = request-7-report d in
    (ap (λ (t : Tally). t.lines) e, ap (λ (t : Tally). t.agree) e, ap (λ (t : Tally). t.malformed) e)

-- "writes the first disagreeing line"
pub request-7-first : {ps : List (List ℕ)} {r : Tally} → Run ps r → FirstKept (joined ps) r
request-7-first {ps} {r} d before l after e z h =
    let t = request-7-report d in (
      ap (λ (t : Tally). t.first) t ∙ ap line_of (ap (first_line (disagrees root_judged)) e ∙ First.first-line (disagrees root_judged) before l after z h),
      ap (λ (t : Tally). t.number) t ∙ ap capped (ap (first_number (disagrees root_judged) 0) e ∙ First.first-number (disagrees root_judged) before l after 0 z h ∙ zero-add (length before + 1)),
    )

pub request-7-none : {ps : List (List ℕ)} {r : Tally} → Run ps r → NoneKept (joined ps) r
request-7-none {ps} {r} d z =
    let t = request-7-report d in (
      ap (λ (t : Tally). t.first) t ∙ ap line_of (First.no-first-line (disagrees root_judged) (lines_of (joined ps)) z),
      ap (λ (t : Tally). t.number) t ∙ ap capped (First.no-first-number (disagrees root_judged) (lines_of (joined ps)) 0 z),
    )

-- "Bytes after the last newline, if any, are a line": every stream is lines that a newline ends and bytes after the last one, and of these its lines are made
pub request-7-stream : (s : List ℕ) → Lined s
request-7-stream = Splitting.lined

pub request-7-lines : (ls : List (List ℕ)) (l : List ℕ) → all_plain ls ≡ true → plain l ≡ true → lines_of (written ls ++ l) ≡ ls ++ last_line l
request-7-lines = Splitting.lines-written

-- "A line is W, W and 2 hexadecimal digits, either case, one blank between, W 4, 8 or 16 giving the width; any other is malformed"
pub request-7-line-16 : ByGrammar binary16 4
request-7-line-16 = Grammars.said-16

pub request-7-line-32 : ByGrammar binary32 8
request-7-line-32 = Grammars.said-32

pub request-7-line-64 : ByGrammar binary64 16
request-7-line-64 = Grammars.said-64

pub request-7-malformed : (j : Judge) (l : List ℕ) → ¬ Fields 4 l → ¬ Fields 8 l → ¬ Fields 16 l → verdict j l ≡ Malformed
request-7-malformed = Grammars.said-other

-- what TestFloat writes is read as the numbers that it was written from
pub request-7-written-16 : ByWriting binary16 4
request-7-written-16 = Writing.written-16

pub request-7-written-32 : ByWriting binary32 8
request-7-written-32 = Writing.written-32

pub request-7-written-64 : ByWriting binary64 16
request-7-written-64 = Writing.written-64

-- "NaN results compare as NaN": where the library's is one, any NaN in the list agrees with it, and nothing else; any other result by its bits
pub request-7-nan : (f : Format) (a b : ℕ) → is_nan_word f a ≡ true → same_result f a b ≡ is_nan_word f b
request-7-nan f a b e = ap (λ (n : Bool). cond n (is_nan_word f b) (eqb a b)) e

pub request-7-not-nan : (f : Format) (a b : ℕ) → is_nan_word f a ≡ false → same_result f a b ≡ eqb a b
request-7-not-nan f a b e = ap (λ (n : Bool). cond n (is_nan_word f b) (eqb a b)) e

-- "flags use TestFloat's bits and request 1's meaning"
flags-meant : (f : Format) → Fine f → f.digits ≤ 60 → FlagsMeant f
flags-meant f g small = record {
  of_nan = λ x e. Flags.flags-nan f x (ltb-true _ _ e) ∙ ap (λ (b : Bool). 16 * bit (b && ltb (magnitude f x) (quiet f))) (sym e);
  of_negative = λ x h s z. Flags.flags-negative f x h (leb-true _ _ s) ∙ ap (λ (b : Bool). 16 * bit b) (lt-ltb 0 (magnitude f x) z);
  of_zero = λ x z. Flags.flags-zero f x z;
  of-infinity = λ x e. Flags.flags-own f x (omega (arith, e)) (λ some. omega (arith, e));
  of-exact = λ x n some below e. Flags.flags-exact f x g small some below (Flags.exact-only f x g small some below n e);
  of-inexact = λ x some below none. Flags.flags-inexact f x g small some below (ne_eqb _ _ (none (units f (root_word f x))));
}

pub request-7-flags-16 : FlagsMeant binary16
request-7-flags-16 = flags-meant binary16 (omega arith) (omega arith)

pub request-7-flags-32 : FlagsMeant binary32
request-7-flags-32 = flags-meant binary32 (omega arith) (omega arith)

pub request-7-flags-64 : FlagsMeant binary64
request-7-flags-64 = flags-meant binary64 (omega arith) (omega arith)

-- lines that agree, disagree and are malformed, each by one computation
pub request-7-examples : T (all_hold examples)
unfolding verdict compared well_formed hexadecimal number_from among_of digit_of root_flags root_word root_at significand digits_at floor_root halves whole units size
request-7-examples = tt
