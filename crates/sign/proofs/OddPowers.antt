-- Odd y: the power of top + m is the power of m with the other sign bit, rule by rule and for open pairs.
use mathlib.Core.Path.{◌≡◌, sym, ap, ◌∙◌, subst}
use Prim.Native.Nat.{ℕ, ◌+◌, ◌*◌, ◌≤◌, ◌<◌}
use native.Mathlib.Nat.{le_of_eq, lt_of_le_of_lt, mod-eq_of_lt, zero-add}
use mathlib.Core.Bool.{Bool, true, false, cond, true≢false}
use lib.Ieee.{Format, top, div, of_bits}
use lib.Ieee.Fits.{div-fits}
use lib.Ieee.Bits.{to_bits-lt}
use borrow.Author.Tests.{ne_eqb}
use Rattle.words.specs.Format.{one, infinity, magnitude, negative, signed, ours}
use Rattle.words.specs.Format as Words
use Rattle.words.proofs.Words.{below-fits}
use Rattle.power.specs.Numbers.{whole, odd}
use Rattle.power.specs.Width.{Width}
use Rattle.power.specs.Sorting.{two_word, half_word, over, turned}
use Rattle.power.specs.Chain.{open_of}
use Rattle.power.specs.Power.{pow_of}
use Rattle.power.proofs.Edges.{Finite, edge-odd}
use Rattle.power.proofs.AnnexF.{of_one}
use Rattle.power.proofs.Silent.{to_one, to-minus-one, minus-one-whole}
use Rattle.bounds.proofs.Choice.{equal, strict}
use Rattle.chain.proofs.Known.{Known}
use Rattle.chain.proofs.Open.{open-word}
use Rattle.sign.specs.Sign.{flipped}
use Rattle.sign.proofs.Flipped.{plus-flipped}
use Rattle.sign.proofs.Operations.{over-flips}
use Rattle.sign.proofs.OtherSign.{open-flips}
use Rattle.sign.proofs.Parity.{odd-whole, parities, odd-must, turned-below}
use Rattle.sign.proofs.Reached.{below_top, plus-number, minus_number, minus-no-one, Open, open-plus, open-minus}

module _ (w : Width) (K : Known w) (m y : ℕ) (hm : m ≤ infinity (ours w.format)) (h : Finite w.format y)
    (o : odd (ours w.format) (magnitude (ours w.format) y) ≡ true) where
  abbrev f : Format
  f = w.format

  abbrev g : Words.Format
  g = ours w.format

  abbrev x : ℕ
  x = top w.format + m

  -- the two powers differ in the sign bit, and are words
  abbrev pub Turn : Type 0
  Turn = (pow_of w (top w.format + m) y ≡ flipped (ours w.format) (pow_of w m y)) × (pow_of w m y < 2 * top w.format)

  -- two powers z and top + z turn_by
  turn_by : (z : ℕ) → pow_of w m y ≡ z → pow_of w x y ≡ top f + z → z < top f → Turn
  turn_by z a b l = (b ∙ sym (plus-flipped g z l) ∙ ap (flipped g) (sym a), lt_of_le_of_lt (le_of_eq a) (below-fits g z l))

  -- ---- rule 6: m is 0, infinity or 1
  at_edge : (i : Bool) → m ≡ cond i (infinity g) 0 → Turn
  at_edge i e =
      let c = cond i (infinity g) 0 in
      let z = turned g c (negative g y) in
      turn_by z (ap (λ (x : ℕ). pow_of w x y) (e ∙ sym (zero-add c)) ∙ edge-odd w false i y h o ∙ zero-add z)
      (ap (λ (x : ℕ). pow_of w (top f + x) y) e ∙ edge-odd w true i y h o)
      (turned-below f c (negative g y) (subst (λ (x : ℕ). x < top f) e (below_top f m hm)))

  at_one : m ≡ one g → Turn
  at_one e =
      turn_by (one g) (ap (λ (x : ℕ). pow_of w x y) e ∙ of_one w y)
      (ap (λ (x : ℕ). pow_of w (top f + x) y) e ∙ minus-one-whole w y h (odd-whole g (magnitude g y) o) ∙ ap (λ (t : Bool). signed g t (one g)) o)
      (subst (λ (x : ℕ). x < top f) e (below_top f m hm))

  -- ---- rule 5: y is 1 or -1
  y-one : (m ≡ one g → ⊥) → y ≡ one g → Turn
  y-one ne e =
      turn_by m (ap (pow_of w m) e ∙ to_one w m (ne_eqb m (one g) ne) (plus-number f m hm))
      (ap (pow_of w x) e ∙ to_one w x (ne_eqb x (one g) (minus-no-one f m hm)) (minus_number f m hm)) (below_top f m hm)

  y-minus-one : (m ≡ one g → ⊥) → y ≡ top f + one g → Turn
  unfolding over
  y-minus-one ne e =
      let a : pow_of w m y ≡ over f m = ap (pow_of w m) e ∙ to-minus-one w m (ne_eqb m (one g) ne) (plus-number f m hm) in
      let b : pow_of w x y ≡ over f x = ap (pow_of w x) e ∙ to-minus-one w x (ne_eqb x (one g) (minus-no-one f m hm)) (minus_number f m hm) in (
        b ∙ over-flips f m hm ∙ ap (flipped g) (sym a),
        lt_of_le_of_lt (le_of_eq a)
            (to_bits-lt f (div f (of_bits f (one g)) (of_bits f m)) (div-fits f (of_bits f (one g)) (of_bits f m))),
      )

  -- ---- open pairs
  open_turn : Open f m y → Turn
  open_turn p =
      let s : magnitude g m ≡ m = mod-eq_of_lt (below_top f m hm) in
      let hx : magnitude g m < infinity g = lt_of_le_of_lt (le_of_eq s) (strict m (infinity g) hm p.no-infinity) in
      let ne : magnitude g m ≡ one g → ⊥ = λ (e : magnitude g m ≡ one g). p.no_one (sym s ∙ e) in
      let a = open-plus w m y hm h p in
      let b = open-minus w m y hm h p (odd-whole g (magnitude g y) o) ∙ ap (open_of w m y) o
      ∙ open-flips w K m y hx ne h.below (odd-must w K (magnitude g y) o) in
      (b ∙ ap (flipped g) (sym a), lt_of_le_of_lt (le_of_eq a) (open-word w K m y hx ne h.below false))

  pub odd-turns : Turn
  odd-turns =
      equal m 0 (λ (e : m ≡ 0). at_edge false e)
      (λ (n0 : m ≡ 0 → ⊥). equal m (infinity g) (λ (e : m ≡ infinity g). at_edge true e)
      (λ (ni : m ≡ infinity g → ⊥). equal m (one g) (λ (e : m ≡ one g). at_one e)
      (λ (n1 : m ≡ one g → ⊥). equal y (one g) (λ (e : y ≡ one g). y-one n1 e)
      (λ (y1 : y ≡ one g → ⊥). equal y (top f + one g) (λ (e : y ≡ top f + one g). y-minus-one n1 e)
      (λ (ym : y ≡ top f + one g → ⊥). open_turn record {
        no-infinity = ni;
        no_zero = n0;
        no_one = n1;
        to_one = y1;
        to-minus = ym;
        to-two = λ (e : y ≡ two_word g). true≢false (sym o ∙ ap (λ (z : ℕ). odd g (magnitude g z)) e ∙ (parities f).two-even);
        to-half = λ (e : y ≡ half_word g). true≢false (sym (odd-whole g (magnitude g y) o) ∙ ap (λ (z : ℕ). whole g (magnitude g z)) e ∙ (parities f).half-part);
      })))))
