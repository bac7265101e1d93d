-- Even y: the power of top + m is the power of m, rule by rule and for open pairs.
use mathlib.Core.Path.{◌≡◌, sym, ap, ◌∙◌}
use Prim.Native.Nat.{ℕ, ◌+◌, ◌≤◌}
use native.Mathlib.Nat.{zero-add}
use mathlib.Core.Bool.{Bool, true, false, cond, true≢false}
use lib.Ieee.{Format, top}
use borrow.Author.Tests.{ne_eqb}
use Rattle.words.specs.Format.{one, infinity, magnitude, signed, ours}
use Rattle.words.specs.Format as Words
use Rattle.power.specs.Numbers.{whole, odd}
use Rattle.power.specs.Width.{Width}
use Rattle.power.specs.Sorting.{two_word, half_word}
use Rattle.power.specs.Chain.{open_of}
use Rattle.power.specs.Power.{pow_of}
use Rattle.power.proofs.Edges.{Finite, edge-even}
use Rattle.power.proofs.AnnexF.{of_one}
use Rattle.power.proofs.Silent.{to-two, minus-one-whole}
use Rattle.bounds.proofs.Choice.{equal}
use Rattle.sign.proofs.Operations.{square-keeps}
use Rattle.sign.proofs.Parity.{parities}
use Rattle.sign.proofs.Reached.{plus-number, minus_number, minus-no-one, Open, open-plus, open-minus}

module _ (w : Width) (m y : ℕ) (hm : m ≤ infinity (ours w.format)) (h : Finite w.format y)
    (k : whole (ours w.format) (magnitude (ours w.format) y) ≡ true) (o : odd (ours w.format) (magnitude (ours w.format) y) ≡ false) where
  abbrev f : Format
  f = w.format

  abbrev g : Words.Format
  g = ours w.format

  abbrev x : ℕ
  x = top w.format + m

  abbrev Keep : Type 0
  Keep = pow_of w (top w.format + m) y ≡ pow_of w m y

  -- ---- rule 6: m is 0, infinity or 1
  at_edge : (i : Bool) → m ≡ cond i (infinity g) 0 → Keep
  at_edge i e =
      ap (λ (x : ℕ). pow_of w (top f + x) y) e ∙ edge-even w true i y h o
      ∙ sym (ap (λ (x : ℕ). pow_of w x y) (e ∙ sym (zero-add (cond i (infinity g) 0))) ∙ edge-even w false i y h o)

  at_one : m ≡ one g → Keep
  at_one e =
      ap (λ (x : ℕ). pow_of w (top f + x) y) e ∙ minus-one-whole w y h k ∙ ap (λ (t : Bool). signed g t (one g)) o ∙ zero-add (one g)
      ∙ sym (ap (λ (x : ℕ). pow_of w x y) e ∙ of_one w y)

  -- ---- rule 5: y is 2
  y-two : (m ≡ one g → ⊥) → y ≡ two_word g → Keep
  y-two ne e =
      ap (pow_of w x) e ∙ to-two w x (ne_eqb x (one g) (minus-no-one f m hm)) (minus_number f m hm) ∙ square-keeps f m hm
      ∙ sym (ap (pow_of w m) e ∙ to-two w m (ne_eqb m (one g) ne) (plus-number f m hm))

  -- ---- open pairs
  open-keep : Open f m y → Keep
  open-keep p = open-minus w m y hm h p k ∙ ap (open_of w m y) o ∙ sym (open-plus w m y hm h p)

  pub even-keep : Keep
  even-keep =
      equal m 0 (λ (e : m ≡ 0). at_edge false e)
      (λ (n0 : m ≡ 0 → ⊥). equal m (infinity g) (λ (e : m ≡ infinity g). at_edge true e)
      (λ (ni : m ≡ infinity g → ⊥). equal m (one g) (λ (e : m ≡ one g). at_one e)
      (λ (n1 : m ≡ one g → ⊥). equal y (two_word g) (λ (e : y ≡ two_word g). y-two n1 e)
      (λ (y2 : y ≡ two_word g → ⊥). open-keep record {
        no-infinity = ni;
        no_zero = n0;
        no_one = n1;
        to_one = λ (e : y ≡ one g). true≢false (sym (parities f).one-odd ∙ ap (λ (z : ℕ). odd g (magnitude g z)) (sym e) ∙ o);
        to-minus = λ (e : y ≡ top f + one g). true≢false (sym (parities f).minus-odd ∙ ap (λ (z : ℕ). odd g (magnitude g z)) (sym e) ∙ o);
        to-two = y2;
        to-half = λ (e : y ≡ half_word g). true≢false (sym k ∙ ap (λ (z : ℕ). whole g (magnitude g z)) e ∙ (parities f).half-part);
      }))))
