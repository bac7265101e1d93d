-- Every stream is lines without a newline, a newline after each, and then bytes without one, and of such a stream those are the lines. Assumes nothing.
use Prim.Native.Nat.{ℕ}
use mathlib.Core.Path.{◌≡◌, refl, sym, ap, ◌∙◌}
use mathlib.Core.Bool.{Bool, true, false, not, ◌&&◌, cond}
use mathlib.Core.List.{List, [], ◌∷◌, ◌++◌, append-nil, append_assoc}
use lib.Dec.{eqb}
use borrow.Author.Tests.{eqb-true, not-true}
use Rattle.lists.specs.Counts.{newline, last_line, lines_from, lines_of, written, plain, all_plain, Lined}
use Rattle.std.proofs.lemmas.Bool.{and_parts}

-- a byte more, by whether it is a newline
pub lines-byte : (l : List ℕ) (b : ℕ) (s : List ℕ) {n : Bool} → eqb b newline ≡ n → lines_from l (b ∷ s) ≡ cond n (l ∷ lines_from [] s) (lines_from (l ++ b ∷ []) s)
unfolding lines_from
lines-byte l b s e = ap (λ (n : Bool). cond n (l ∷ lines_from [] s) (lines_from (l ++ b ∷ []) s)) e

-- ---- the lines of such a stream

up-to-newline : (m l s : List ℕ) → plain m ≡ true → lines_from l (m ++ newline ∷ s) ≡ (l ++ m) ∷ lines_from [] s
unfolding lines_from
up-to-newline [] l s h = ap (λ (k : List ℕ). k ∷ lines_from [] s) (sym (append-nil l))
up-to-newline (b ∷ m) l s h =
    let p = and_parts (not (eqb b newline)) (plain m) h in
    lines-byte l b (m ++ newline ∷ s) (not-true (eqb b newline) p.0) ∙ up-to-newline m (l ++ b ∷ []) s p.1 ∙ ap (λ (k : List ℕ). k ∷ lines_from [] s) (append_assoc l (b ∷ []) m)

after-newlines : (m l : List ℕ) → plain m ≡ true → lines_from l m ≡ last_line (l ++ m)
unfolding lines_from
after-newlines [] l h = ap last_line (sym (append-nil l))
after-newlines (b ∷ m) l h =
    let p = and_parts (not (eqb b newline)) (plain m) h in
    lines-byte l b m (not-true (eqb b newline) p.0) ∙ after-newlines m (l ++ b ∷ []) p.1 ∙ ap last_line (append_assoc l (b ∷ []) m)

pub lines-written : (ls : List (List ℕ)) (l : List ℕ) → all_plain ls ≡ true → plain l ≡ true → lines_of (written ls ++ l) ≡ ls ++ last_line l
lines-written [] l h e = after-newlines l [] e
lines-written (k ∷ ls) l h e =
    let p = and_parts (plain k) (all_plain ls) h in
    ap lines_of (append_assoc k (newline ∷ written ls) l)
    ∙ up-to-newline k [] (written ls ++ l) p.0
    ∙ ap (λ (r : List (List ℕ)). k ∷ r) (lines-written ls l p.1 e)

-- ---- every stream is one

-- a byte before a stream goes to its first line
before : (b : ℕ) {s : List ℕ} (n : Bool) → eqb b newline ≡ n → Lined s → Lined (b ∷ s)
before b {s} true e d = record {
  closed = [] ∷ d.closed;
  rest = d.rest;
  closed-plain = d.closed-plain;
  rest_plain = d.rest_plain;
  is = (λ i. eqb-true b newline e i ∷ d.is i);
}
before b {s} false e d = first d.closed d.closed-plain d.is
  where
    first : (ls : List (List ℕ)) → all_plain ls ≡ true → s ≡ written ls ++ d.rest → Lined (b ∷ s)
    first [] h q = record {
      closed = [];
      rest = b ∷ d.rest;
      closed-plain = refl;
      rest_plain = (λ i. not (e i) && d.rest_plain i);
      is = ap (λ (r : List ℕ). b ∷ r) q;
    }
    first (l ∷ ls) h q = record {
      closed = (b ∷ l) ∷ ls;
      rest = d.rest;
      closed-plain = (λ i. (not (e i) && plain l) && all_plain ls) ∙ h;
      rest_plain = d.rest_plain;
      is = ap (λ (r : List ℕ). b ∷ r) q;
    }

pub lined : (s : List ℕ) → Lined s
lined [] = record { closed = []; rest = []; closed-plain = refl; rest_plain = refl; is = refl }
lined (b ∷ s) = before b (eqb b newline) refl (lined s)
