-- The two places where C's Annex F is silent, as document 01 settles them: y = 1, -1, 2 and 0.5 by one IEEE 754 operation, and -1 to a whole y exactly. Assumes nothing.
use Prim.Native.Nat.{ℕ, ◌+◌, ◌≤◌}
use mathlib.Core.Path.{◌≡◌, refl, sym, ◌∙◌, subst}
use mathlib.Core.Bool.{Bool, true, false, cond, and-false}
use native.Mathlib.Nat.{zero-add}
use native.Mathlib.Omega.{arith}
use lib.Dec.{eqb, lit≤}
use lib.Ieee.{Format, binary32, binary64, of_bits, to_bits, mul, div, round, size}
use borrow.Author.Tests.{eq-eqb, eqb-false}
use Rattle.words.specs.Format.{units, one, infinity, top, magnitude, negative, signed, ours}
use Rattle.root.specs.Root.{root_word}
use Rattle.power.specs.Numbers.{whole, odd}
use Rattle.power.specs.Sorting.{two_word, half_word, over, square, turned, at_edge, on_edge, sorted5}
use Rattle.power.specs.Width.{Width}
use Rattle.power.specs.Power.{pow_of}
use Rattle.power.specs.Chain.{open_of}
use Rattle.power.proofs.Rules.{on_edge_lem, past4}
use Rattle.power.proofs.Edges.{Finite, by-test}

-- rules 1 to 4 do not settle an x that is no NaN and not 1, and a finite y that is not 0
reach5 : (w : Width) (x y : ℕ) → eqb x (one (ours w.format)) ≡ false → magnitude (ours w.format) x ≤ infinity (ours w.format) → Finite w.format y → pow_of w x y ≡ sorted5 (λ r. r) (open_of w x y) w.format x y
unfolding pow_of
reach5 w x y o n h =
    sym (past4 (λ r. r) (open_of w x y) w.format x y (λ e. omega (arith, h.some)) (eqb-false x (one (ours w.format)) o) n (omega (arith, h.below)) (λ e. omega (arith, h.below)))

-- the four named y
record Named (f : Format) : Type 0 where
  at_1 : Finite f (one (ours f))
  at-m1 : Finite f (top (ours f) + one (ours f))
  at-2 : Finite f (two_word (ours f))
  at-half : Finite f (half_word (ours f))
  m1-1 : eqb (top (ours f) + one (ours f)) (one (ours f)) ≡ false
  two-1 : eqb (two_word (ours f)) (one (ours f)) ≡ false
  two-m1 : eqb (two_word (ours f)) (top (ours f) + one (ours f)) ≡ false
  half-1 : eqb (half_word (ours f)) (one (ours f)) ≡ false
  half-m1 : eqb (half_word (ours f)) (top (ours f) + one (ours f)) ≡ false
  half-2 : eqb (half_word (ours f)) (two_word (ours f)) ≡ false

named : (f : Format) → Named f
named binary32 = record { at_1 = record { some = lit≤ tt; below = lit≤ tt }; at-m1 = record { some = lit≤ tt; below = lit≤ tt }; at-2 = record { some = lit≤ tt; below = lit≤ tt }; at-half = record { some = lit≤ tt; below = lit≤ tt }; m1-1 = refl; two-1 = refl; two-m1 = refl; half-1 = refl; half-m1 = refl; half-2 = refl }
named binary64 = record { at_1 = record { some = lit≤ tt; below = lit≤ tt }; at-m1 = record { some = lit≤ tt; below = lit≤ tt }; at-2 = record { some = lit≤ tt; below = lit≤ tt }; at-half = record { some = lit≤ tt; below = lit≤ tt }; m1-1 = refl; two-1 = refl; two-m1 = refl; half-1 = refl; half-m1 = refl; half-2 = refl }

module _ (w : Width) (x : ℕ) (o : eqb x (one (ours w.format)) ≡ false) (n : magnitude (ours w.format) x ≤ infinity (ours w.format)) where
  -- y is 1: x; -1: 1 / x rounded once; 2: x * x rounded once; 0.5 and the sign of x clear: the root
  pub to_one : pow_of w x (one (ours w.format)) ≡ x
  unfolding sorted5
  to_one = reach5 w x (one (ours w.format)) o n (named w.format).at_1 ∙ rw (eq-eqb (one (ours w.format)) (one (ours w.format)) refl) refl

  pub to-minus-one : pow_of w x (top (ours w.format) + one (ours w.format)) ≡ over w.format x
  unfolding sorted5
  to-minus-one =
      let v = top (ours w.format) + one (ours w.format) in
      reach5 w x v o n (named w.format).at-m1 ∙ rw ((named w.format).m1-1, eq-eqb v v refl) refl

  pub to-two : pow_of w x (two_word (ours w.format)) ≡ square w.format x
  unfolding sorted5
  to-two =
      let v = two_word (ours w.format) in
      reach5 w x v o n (named w.format).at-2 ∙ rw ((named w.format).two-1, (named w.format).two-m1, eq-eqb v v refl) refl

  pub to-half : negative (ours w.format) x ≡ false → pow_of w x (half_word (ours w.format)) ≡ root_word (ours w.format) x
  unfolding sorted5
  to-half s =
      let v = half_word (ours w.format) in
      reach5 w x v o n (named w.format).at-half ∙ rw ((named w.format).half-1, (named w.format).half-m1, (named w.format).half-2, eq-eqb v v refl, s) refl

-- ---- -1 to a whole y: -1 for an odd y, and 1 for an even one

abbrev exact : Format → ℕ → ℕ
exact f y = signed (ours f) (odd (ours f) (magnitude (ours f) y)) (one (ours f))

record MinusOne (f : Format) : Type 0 where
  size : magnitude (ours f) (top (ours f) + one (ours f)) ≡ one (ours f)
  sign : negative (ours f) (top (ours f) + one (ours f)) ≡ true
  other : eqb (top (ours f) + one (ours f)) (one (ours f)) ≡ false
  number : one (ours f) ≤ infinity (ours f)
  edge : on_edge (ours f) (one (ours f)) ≡ true
  turn : (down : Bool) → turned (ours f) (one (ours f)) down ≡ one (ours f)
  at_1 : top (ours f) + one (ours f) ≡ exact f (one (ours f))
  at-m1 : over f (top (ours f) + one (ours f)) ≡ exact f (top (ours f) + one (ours f))
  at-2 : square f (top (ours f) + one (ours f)) ≡ exact f (two_word (ours f))

same : (t : Bool → ℕ) (r : ℕ) → t true ≡ r → t false ≡ r → (b : Bool) → t b ≡ r
same t r p q true = p
same t r p q false = q

minus_one : (f : Format) → MinusOne f
unfolding turned odd whole units over square div mul round size of_bits to_bits
minus_one binary32 = record { size = refl; sign = refl; other = refl; number = lit≤ tt; edge = refl; turn = same (turned (ours binary32) (one (ours binary32))) (one (ours binary32)) refl refl; at_1 = refl; at-m1 = refl; at-2 = refl }
minus_one binary64 = record { size = refl; sign = refl; other = refl; number = lit≤ tt; edge = refl; turn = same (turned (ours binary64) (one (ours binary64))) (one (ours binary64)) refl refl; at_1 = refl; at-m1 = refl; at-2 = refl }

six-exact : (f : Format) (y : ℕ) → whole (ours f) (magnitude (ours f) y) ≡ true → at_edge (ours f) (one (ours f)) true (magnitude (ours f) y) (negative (ours f) y) ≡ exact f y
unfolding at_edge
six-exact f y h = rw ((minus_one f).turn (negative (ours f) y), h) (go (odd (ours f) (magnitude (ours f) y)))
  where
    go : (b : Bool) → cond b (top (ours f) + one (ours f)) (one (ours f)) ≡ signed (ours f) b (one (ours f))
    go true = refl
    go false = sym (zero-add (one (ours f)))

pub minus-one-whole : (w : Width) (y : ℕ) → Finite w.format y → whole (ours w.format) (magnitude (ours w.format) y) ≡ true → pow_of w (top (ours w.format) + one (ours w.format)) y ≡ exact w.format y
unfolding sorted5
minus-one-whole w y h k =
    let f = w.format in
    let x = top (ours f) + one (ours f) in
    let p = minus_one f in
    let u = open_of w x y in
    reach5 w x y p.other (subst (λ (m : ℕ). m ≤ infinity (ours f)) (sym p.size) p.number) h ∙
    by-test y (one (ours f)) x _ (exact f y) (λ e. subst (λ (v : ℕ). x ≡ exact f v) (sym e) p.at_1)
    (by-test y x (over f x) _ (exact f y) (λ e. subst (λ (v : ℕ). over f x ≡ exact f v) (sym e) p.at-m1)
    (by-test y (two_word (ours f)) (square f x) _ (exact f y) (λ e. subst (λ (v : ℕ). square f x ≡ exact f v) (sym e) p.at-2)
    (rw (p.sign, p.size, and-false (eqb y (half_word (ours f))))
    (sym (on_edge_lem (λ r. r) u (ours f) (one (ours f)) true (magnitude (ours f) y) (negative (ours f) y) p.edge) ∙ six-exact f y k))))
