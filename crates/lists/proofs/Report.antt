-- The reader gives the report on the stream: its lines are those between newlines, 37 bytes are enough of each, and counting one by one is counting. For any judge. Assumes nothing.
use Prim.Native.Nat.{ℕ, suc, ◌+◌, ◌≤◌}
use mathlib.Core.Path.{◌≡◌, refl, sym, ap, ◌∙◌}
use mathlib.Core.Bool.{Bool, true, false, cond}
use mathlib.Core.List.{List, [], ◌∷◌, ◌++◌}
use native.Mathlib.Omega.{arith}
use native.Mathlib.Decide.{dec_lt}
use native.Mathlib.Nat.{zero-add, add-zero}
use lib.Dec.{eqb}
use lib.ListN.{length, take, length-take}
use lib.Seq.{take_all, take-take, take-append-le}
use borrow.Author.Tests.{ne_eqb}
use Rattle.lists.specs.Judge.{Judge, root_judged}
use Rattle.lists.specs.Lines.{verdict}
use Rattle.lists.specs.Counts.{newline, last_line, lines_from, lines_of, capped, one_more, is_malformed, is_agreed, is_disagreed, malformed, agrees, disagrees, count, first_line, first_number}
use Rattle.lists.specs.Counts.{Totals, report_of, report}
use Rattle.lists.specs.Reader.{Progress, ended_by, ended, fed, nothing, begun, finished, line_of, text_of}
use Rattle.lists.specs.declared.tally.Line.{Line}
use Rattle.lists.specs.declared.line.Verdict.{Verdict}
use Rattle.lists.specs.declared.line.Verdict.TheVariants.{Malformed, Agrees, Disagrees}
use Rattle.lists.proofs.Verdicts.{of_none}
use Rattle.lists.proofs.Keeping.{text-of-line}
use Rattle.lists.proofs.Progress.{tallied, keeping, step_by}
use Rattle.lists.proofs.Splitting.{lines-byte}

-- ---- 37 bytes of a line are enough

too_long : (j : Judge) (l : List ℕ) → 37 ≤ length l → verdict j l ≡ Malformed
too_long j l h = of_none j l (λ e. omega arith) (λ e. omega arith) (λ e. omega arith)

pub verdict-cut : (j : Judge) (l : List ℕ) → verdict j (take 37 l) ≡ verdict j l
verdict-cut j l = elim (dec_lt (length l) 37) [
  | yes h ↦ ap (verdict j) (take_all 37 l (omega arith))
  | no h ↦ too_long j (take 37 l) (simp length-take (omega arith)) ∙ sym (too_long j l (omega arith))
]

pub ended-cut : (j : Judge) (t : Totals) (l : List ℕ) → ended j t (take 37 l) ≡ ended j t l
unfolding ended
ended-cut j t l = elim (dec_lt (length l) 37) [
  | yes h ↦ ap (ended j t) (take_all 37 l (omega arith))
  | no h ↦
      ap (λ (v : Verdict). ended_by v t (take 37 l)) (too_long j (take 37 l) (simp length-take (omega arith)))
      ∙ sym (ap (λ (v : Verdict). ended_by v t l) (too_long j l (omega arith)))
]

-- a line that disagrees is kept whole, since a longer one is malformed
pub kept_whole : (a b : Line) (l : List ℕ) → a ≡ line_of [] → b ≡ line_of (take 37 (text_of a ++ l)) → verdict root_judged l ≡ Disagrees → take b.held b.bytes ≡ l
kept_whole a b l e h d =
    ap text_of h
    ∙ text-of-line (take 37 (text_of a ++ l))
    ∙ ap (λ (z : Line). take 37 (text_of z ++ l)) e
    ∙ short l d
  where
    short : (l : List ℕ) → verdict root_judged l ≡ Disagrees → take 37 l ≡ l
    short l d = elim (dec_lt (length l) 37) [
      | yes h ↦ take_all 37 l (omega arith)
      | no h ↦ let e : Malformed ≡ Disagrees = sym (too_long root_judged l (omega arith)) ∙ d in absurd (cc)
    ]

pub take-cut : (l m : List ℕ) → take 37 (take 37 l ++ m) ≡ take 37 (l ++ m)
take-cut l m = elim (dec_lt (length l) 37) [
  | yes h ↦ ap (λ (z : List ℕ). take 37 (z ++ m)) (take_all 37 l (omega arith))
  | no h ↦
      take-append-le 37 (take 37 l) m (simp length-take (omega arith))
      ∙ take-take 37 37 l (omega arith)
      ∙ sym (take-append-le 37 l m (omega arith))
]

-- ---- the lines that end are those between newlines

ended_all : Judge → Totals → List (List ℕ) → Totals
ended_all j t [] = t
ended_all j t (l ∷ ls) = ended_all j (ended j t l) ls

at-end : (j : Judge) (t : Totals) (l : List ℕ) → finished j (keeping t (take 37 l)) ≡ ended_all j t (last_line l)
unfolding finished ended_all
at-end j t [] = refl
at-end j t (b ∷ l) = ap (λ (e : Bool). cond e t (ended j t (take 37 (b ∷ l)))) (ne_eqb (suc (length (take 36 l))) 0 (λ e. omega arith)) ∙ ended-cut j t (b ∷ l)

-- a byte more, by whether it is a newline
by_byte : (j : Judge) (t : Totals) (l : List ℕ) (b : ℕ) (s : List ℕ)
    → finished j (fed j (keeping (ended j t l) []) s) ≡ ended_all j (ended j t l) (lines_from [] s)
    → finished j (fed j (keeping t (take 37 (l ++ b ∷ []))) s) ≡ ended_all j t (lines_from (l ++ b ∷ []) s)
    → (n : Bool) → eqb b newline ≡ n → finished j (fed j (keeping t (take 37 l)) (b ∷ s)) ≡ ended_all j t (lines_from l (b ∷ s))
unfolding fed ended_all
by_byte j t l b s line byte true e =
    ap (λ (p : Progress). finished j (fed j p s)) (step_by j t (take 37 l) b e ∙ ap (λ (u : Totals). keeping u []) (ended-cut j t l))
    ∙ line
    ∙ sym (ap (ended_all j t) (lines-byte l b s e))
by_byte j t l b s line byte false e =
    ap (λ (p : Progress). finished j (fed j p s)) (step_by j t (take 37 l) b e ∙ ap (keeping t) (take-cut l (b ∷ [])))
    ∙ byte
    ∙ sym (ap (ended_all j t) (lines-byte l b s e))

line-by-line : (j : Judge) (s : List ℕ) (t : Totals) (l : List ℕ) → finished j (fed j (keeping t (take 37 l)) s) ≡ ended_all j t (lines_from l s)
unfolding fed lines_from
line-by-line j [] t l = at-end j t l
line-by-line j (b ∷ s) t l = by_byte j t l b s (line-by-line j s (ended j t l) []) (line-by-line j s t (l ++ b ∷ [])) (eqb b newline) refl

-- ---- counting

one-more-capped : (n : ℕ) → one_more (capped n) ≡ capped (n + 1)
one-more-capped n = omega arith

abbrev at : ℕ → ℕ → ℕ → ℕ → List ℕ → Totals
at n a m k f = tallied (capped n) (capped a) (capped m) k f

shift : (n c : ℕ) → n + 1 + c ≡ n + suc c
shift n c = omega arith

-- the lines that are such, of which n came before
module _ (p : List ℕ → Bool) (l : List ℕ) (ls : List (List ℕ)) (n : ℕ) where
  count-cons : {b : Bool} → p l ≡ b → n + cond b (1 + count p ls) (count p ls) ≡ n + count p (l ∷ ls)
  unfolding count
  count-cons e = sym (ap (λ (b : Bool). n + cond b (1 + count p ls) (count p ls)) e)

  one-such : p l ≡ true → n + 1 + count p ls ≡ n + count p (l ∷ ls)
  one-such e = let s : n + 1 + count p ls ≡ n + (1 + count p ls) = omega arith in s ∙ count-cons e

-- what is counted of ls after n lines, of which a agree and m are malformed
abbrev counted : Judge → ℕ → ℕ → ℕ → ℕ → List ℕ → List (List ℕ) → Totals
counted j n a m k f ls = at (n + length ls) (a + count (agrees j) ls) (m + count (malformed j) ls) k f

module _ (j : Judge) (l : List ℕ) (ls : List (List ℕ)) (n a m : ℕ) where
  counted-malformed : (k : ℕ) (f : List ℕ) → verdict j l ≡ Malformed → counted j (n + 1) a (m + 1) k f ls ≡ counted j n a m k f (l ∷ ls)
  counted-malformed k f e i = at (shift n (length ls) i) (count-cons (agrees j) l ls a (ap is_agreed e) i) (one-such (malformed j) l ls m (ap is_malformed e) i) k f

  counted-agrees : (k : ℕ) (f : List ℕ) → verdict j l ≡ Agrees → counted j (n + 1) (a + 1) m k f ls ≡ counted j n a m k f (l ∷ ls)
  counted-agrees k f e i = at (shift n (length ls) i) (one-such (agrees j) l ls a (ap is_agreed e) i) (count-cons (malformed j) l ls m (ap is_malformed e) i) k f

  counted-disagrees : (k : ℕ) (f : List ℕ) → verdict j l ≡ Disagrees → counted j (n + 1) a m k f ls ≡ counted j n a m k f (l ∷ ls)
  counted-disagrees k f e i = at (shift n (length ls) i) (count-cons (agrees j) l ls a (ap is_agreed e) i) (count-cons (malformed j) l ls m (ap is_malformed e) i) k f

  -- one line more on the counts
  ended-malformed : (k : ℕ) (f : List ℕ) → verdict j l ≡ Malformed → ended j (at n a m k f) l ≡ at (n + 1) a (m + 1) k f
  unfolding ended
  ended-malformed k f e = ap (λ (v : Verdict). ended_by v (at n a m k f) l) e ∙ (λ i. tallied (one-more-capped n i) (capped a) (one-more-capped m i) k f)

  ended-agrees : (k : ℕ) (f : List ℕ) → verdict j l ≡ Agrees → ended j (at n a m k f) l ≡ at (n + 1) (a + 1) m k f
  unfolding ended
  ended-agrees k f e = ap (λ (v : Verdict). ended_by v (at n a m k f) l) e ∙ (λ i. tallied (one-more-capped n i) (one-more-capped a i) (capped m) k f)

  ended-first : verdict j l ≡ Disagrees → ended j (at n a m 0 []) l ≡ at (n + 1) a m (capped (n + 1)) l
  unfolding ended
  ended-first e = ap (λ (v : Verdict). ended_by v (at n a m 0 []) l) e ∙ (λ i. tallied (one-more-capped n i) (capped a) (capped m) (one-more-capped n i) l)

  ended-later : (k : ℕ) (f : List ℕ) → ¬ (k ≡ 0) → verdict j l ≡ Disagrees → ended j (at n a m k f) l ≡ at (n + 1) a m k f
  unfolding ended
  ended-later k f z e =
      ap (λ (v : Verdict). ended_by v (at n a m k f) l) e
      ∙ (λ i. cond (ne_eqb k 0 z i) (tallied (one-more-capped n i) (capped a) (capped m) (one-more-capped n i) l) (tallied (one-more-capped n i) (capped a) (capped m) k f))

  -- after the first that disagrees
  later-cons : (k : ℕ) (f : List ℕ) → ¬ (k ≡ 0) → ((n a m : ℕ) → ended_all j (at n a m k f) ls ≡ counted j n a m k f ls) → (v : Verdict) → verdict j l ≡ v
      → ended_all j (ended j (at n a m k f) l) ls ≡ counted j n a m k f (l ∷ ls)
  later-cons k f z ih Malformed e = ap (λ (t : Totals). ended_all j t ls) (ended-malformed k f e) ∙ ih (n + 1) a (m + 1) ∙ counted-malformed k f e
  later-cons k f z ih Agrees e = ap (λ (t : Totals). ended_all j t ls) (ended-agrees k f e) ∙ ih (n + 1) (a + 1) m ∙ counted-agrees k f e
  later-cons k f z ih Disagrees e = ap (λ (t : Totals). ended_all j t ls) (ended-later k f z e) ∙ ih (n + 1) a m ∙ counted-disagrees k f e

none_more : (n a m k : ℕ) (f : List ℕ) → at n a m k f ≡ at (n + 0) (a + 0) (m + 0) k f
none_more n a m k f i = at (sym (add-zero n) i) (sym (add-zero a) i) (sym (add-zero m) i) k f

later : (j : Judge) (ls : List (List ℕ)) (n a m k : ℕ) (f : List ℕ) → ¬ (k ≡ 0) → ended_all j (at n a m k f) ls ≡ counted j n a m k f ls
unfolding ended_all count
later j [] n a m k f z = none_more n a m k f
later j (l ∷ ls) n a m k f z = later-cons j l ls n a m k f z (λ n a m. later j ls n a m k f z) (verdict j l) refl

-- up to it
abbrev found : Judge → ℕ → ℕ → ℕ → List (List ℕ) → Totals
found j n a m ls = counted j n a m (capped (first_number (disagrees j) n ls)) (first_line (disagrees j) ls) ls

module _ (j : Judge) (l : List ℕ) (ls : List (List ℕ)) (n a m : ℕ) where
  -- by whether the line disagrees
  found-cons : {b : Bool} → disagrees j l ≡ b
      → counted j n a m (capped (cond b (n + 1) (first_number (disagrees j) (n + 1) ls))) (cond b l (first_line (disagrees j) ls)) (l ∷ ls) ≡ found j n a m (l ∷ ls)
  unfolding first_number first_line
  found-cons e i = counted j n a m (capped (cond (sym e i) (n + 1) (first_number (disagrees j) (n + 1) ls))) (cond (sym e i) l (first_line (disagrees j) ls)) (l ∷ ls)

  first-cons : ((n a m : ℕ) → ended_all j (at n a m 0 []) ls ≡ found j n a m ls) → (v : Verdict) → verdict j l ≡ v → ended_all j (ended j (at n a m 0 []) l) ls ≡ found j n a m (l ∷ ls)
  first-cons ih Malformed e =
      ap (λ (t : Totals). ended_all j t ls) (ended-malformed j l ls n a m 0 [] e) ∙ ih (n + 1) a (m + 1)
      ∙ counted-malformed j l ls n a m (capped (first_number (disagrees j) (n + 1) ls)) (first_line (disagrees j) ls) e
      ∙ found-cons (ap is_disagreed e)
  first-cons ih Agrees e =
      ap (λ (t : Totals). ended_all j t ls) (ended-agrees j l ls n a m 0 [] e) ∙ ih (n + 1) (a + 1) m
      ∙ counted-agrees j l ls n a m (capped (first_number (disagrees j) (n + 1) ls)) (first_line (disagrees j) ls) e
      ∙ found-cons (ap is_disagreed e)
  first-cons ih Disagrees e =
      ap (λ (t : Totals). ended_all j t ls) (ended-first j l ls n a m e) ∙ later j ls (n + 1) a m (capped (n + 1)) l (λ z. omega arith)
      ∙ counted-disagrees j l ls n a m (capped (n + 1)) l e
      ∙ found-cons (ap is_disagreed e)

up-to-first : (j : Judge) (ls : List (List ℕ)) (n a m : ℕ) → ended_all j (at n a m 0 []) ls ≡ found j n a m ls
unfolding ended_all count first_number first_line
up-to-first j [] n a m = none_more n a m 0 []
up-to-first j (l ∷ ls) n a m = first-cons j l ls n a m (λ n a m. up-to-first j ls n a m) (verdict j l) refl

all-counted : (j : Judge) (ls : List (List ℕ)) → ended_all j nothing ls ≡ report_of j ls
all-counted j ls =
    up-to-first j ls 0 0 0
    ∙ (λ i. at (zero-add (length ls) i) (zero-add (count (agrees j) ls) i) (zero-add (count (malformed j) ls) i) (capped (first_number (disagrees j) 0 ls)) (first_line (disagrees j) ls))

-- ---- the whole: byte by byte, then the end, is the report on the lines
pub reader-reports : (j : Judge) (s : List ℕ) → finished j (fed j begun s) ≡ report j s
reader-reports j s = line-by-line j s nothing [] ∙ all-counted j (lines_of s)
