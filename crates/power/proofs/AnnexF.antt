-- C's Annex F on pow, sentence by sentence, of the power's definition at both widths; and the two places where Annex F is silent. Assumes nothing.
-- f is a width's format, binary32 or binary64. A word's sign is true for negative.
use Prim.Native.Nat.{ℕ, ◌+◌, ◌<◌, ◌≤◌}
use mathlib.Core.Path.{◌≡◌, refl, sym, ap, ◌∙◌, subst, subst⁻¹}
use mathlib.Core.Bool.{Bool, true, false, ◌||◌, cond}
use mathlib.Core.Logic.{inl}
use native.Mathlib.Omega.{arith}
use lib.Dec.{T, eqb, lit≤}
use lib.Ieee.{Format, binary32, binary64}
use borrow.Author.Tests.{lt-ltb, le-ltb, eq-eqb, ne_eqb, eqb-false, leb-true}
use Rattle.words.specs.Format.{units, one, infinity, quiet, top, magnitude, negative, signed, ours}
use Rattle.power.specs.Numbers.{whole, odd}
use Rattle.power.specs.Sorting.{two_word, at_infinity, turned, at_edge, on_edge, sorted7, sorted6, sorted}
use Rattle.power.specs.Width.{Width}
use Rattle.power.specs.Power.{pow_of}
use Rattle.power.specs.Chain.{open_of}
use Rattle.power.proofs.Rules.{rule-infinite, past4, past5}
use Rattle.power.proofs.Edges.{edge_word, Finite, edge-odd, edge-even, turned-infinity}

-- ---- pow(x, ±0) is 1 for every x, and pow(+1, y) is 1 for every y, even a NaN

pub to-zero : (w : Width) (x y : ℕ) → magnitude (ours w.format) y ≡ 0 → pow_of w x y ≡ one (ours w.format)
unfolding pow_of sorted
to-zero w x y e = rw e refl

of-one-at : (b : Bool) {A : Type 0} (x y : A) → cond (b || true) x y ≡ x
of-one-at true x y = refl
of-one-at false x y = refl

pub of_one : (w : Width) (y : ℕ) → pow_of w (one (ours w.format)) y ≡ one (ours w.format)
unfolding pow_of sorted
of_one w y = rw (eq-eqb (one (ours w.format)) (one (ours w.format)) refl) (of-one-at (eqb (magnitude (ours w.format) y) 0) _ _)

module _ (w : Width) (s : Bool) (y : ℕ) (h : Finite w.format y) where
  -- pow(±0, y) is ±∞ for y an odd integer below 0, and +∞ for y below 0, finite and not odd
  pub zero-odd-below : odd (ours w.format) (magnitude (ours w.format) y) ≡ true → negative (ours w.format) y ≡ true → pow_of w (edge_word w.format s false) y ≡ signed (ours w.format) s (infinity (ours w.format))
  unfolding turned
  zero-odd-below o n = edge-odd w s false y h o ∙ rw n refl

  pub zero-even-below : odd (ours w.format) (magnitude (ours w.format) y) ≡ false → negative (ours w.format) y ≡ true → pow_of w (edge_word w.format s false) y ≡ infinity (ours w.format)
  unfolding turned
  zero-even-below o n = edge-even w s false y h o ∙ rw n refl

  -- pow(±0, y) is ±0 for y an odd integer above 0, and +0 for y above 0 and not odd
  pub zero-odd-above : odd (ours w.format) (magnitude (ours w.format) y) ≡ true → negative (ours w.format) y ≡ false → pow_of w (edge_word w.format s false) y ≡ signed (ours w.format) s 0
  unfolding turned
  zero-odd-above o n = edge-odd w s false y h o ∙ rw n refl

  pub zero-even-above : odd (ours w.format) (magnitude (ours w.format) y) ≡ false → negative (ours w.format) y ≡ false → pow_of w (edge_word w.format s false) y ≡ 0
  unfolding turned
  zero-even-above o n = edge-even w s false y h o ∙ rw n refl

  -- pow(-∞, y) is -0 for y an odd integer below 0 and +0 for y below 0 and not odd; pow(+∞, y) is +0 for y below 0
  pub infinity-odd-below : odd (ours w.format) (magnitude (ours w.format) y) ≡ true → negative (ours w.format) y ≡ true → pow_of w (edge_word w.format s true) y ≡ signed (ours w.format) s 0
  infinity-odd-below o n = edge-odd w s true y h o ∙ rw (n, turned-infinity w.format) refl

  pub infinity-even-below : odd (ours w.format) (magnitude (ours w.format) y) ≡ false → negative (ours w.format) y ≡ true → pow_of w (edge_word w.format s true) y ≡ 0
  infinity-even-below o n = edge-even w s true y h o ∙ rw (n, turned-infinity w.format) refl

  -- pow(-∞, y) is -∞ for y an odd integer above 0 and +∞ for y above 0 and not odd; pow(+∞, y) is +∞ for y above 0
  pub infinity-odd-above : odd (ours w.format) (magnitude (ours w.format) y) ≡ true → negative (ours w.format) y ≡ false → pow_of w (edge_word w.format s true) y ≡ signed (ours w.format) s (infinity (ours w.format))
  unfolding turned
  infinity-odd-above o n = edge-odd w s true y h o ∙ rw n refl

  pub infinity-even-above : odd (ours w.format) (magnitude (ours w.format) y) ≡ false → negative (ours w.format) y ≡ false → pow_of w (edge_word w.format s true) y ≡ infinity (ours w.format)
  unfolding turned
  infinity-even-above o n = edge-even w s true y h o ∙ rw n refl

-- ---- y is ±∞

record Marks (f : Format) : Type 0 where
  some : 0 < infinity (ours f)
  one_below : one (ours f) < infinity (ours f)
  one_size : magnitude (ours f) (one (ours f)) ≡ one (ours f)

marks : (f : Format) → Marks f
marks binary32 = record { some = lit≤ tt; one_below = lit≤ tt; one_size = refl }
marks binary64 = record { some = lit≤ tt; one_below = lit≤ tt; one_size = refl }

infinite-power : (w : Width) (x y : ℕ) → magnitude (ours w.format) y ≡ infinity (ours w.format) → magnitude (ours w.format) x ≤ infinity (ours w.format) → eqb x (one (ours w.format)) ≡ false → pow_of w x y ≡ at_infinity (ours w.format) (magnitude (ours w.format) x) (negative (ours w.format) y)
unfolding pow_of
infinite-power w x y e n o =
    sym (rule-infinite (λ r. r) (open_of w x y) w.format x y (λ q. omega (arith, (marks w.format).some)) (eqb-false x (one (ours w.format)) o) n (omega arith) e)

-- an x whose size is not that of 1 is not 1
not-one-by : (f : Format) (x : ℕ) → (magnitude (ours f) x ≡ one (ours f) → ⊥) → eqb x (one (ours f)) ≡ false
not-one-by f x n = ne_eqb x (one (ours f)) (λ e. n (ap (magnitude (ours f)) e ∙ (marks f).one_size))

module _ (w : Width) (x y : ℕ) (e : magnitude (ours w.format) y ≡ infinity (ours w.format)) where
  -- |x| < 1: pow(x, -∞) is +∞, and pow(x, +∞) is +0; with x = ±0 the first is the sentence on pow(±0, -∞)
  pub inside : magnitude (ours w.format) x < one (ours w.format) → pow_of w x y ≡ cond (negative (ours w.format) y) (infinity (ours w.format)) 0
  unfolding at_infinity
  inside l =
      let f = w.format in
      let m = magnitude (ours f) x in
      infinite-power w x y e (omega (arith, (marks f).one_below)) (not-one-by f x (λ q. omega arith)) ∙
      rw (ne_eqb m (one (ours f)) (λ q. omega arith), le-ltb (one (ours f)) m (omega arith)) refl

  -- |x| > 1, ±∞ among them: pow(x, -∞) is +0, and pow(x, +∞) is +∞
  pub outside : one (ours w.format) < magnitude (ours w.format) x → magnitude (ours w.format) x ≤ infinity (ours w.format) → pow_of w x y ≡ cond (negative (ours w.format) y) 0 (infinity (ours w.format))
  unfolding at_infinity
  outside l n =
      let f = w.format in
      let m = magnitude (ours f) x in
      infinite-power w x y e n (not-one-by f x (λ q. omega arith)) ∙ rw (ne_eqb m (one (ours f)) (λ q. omega arith), lt-ltb (one (ours f)) m l) refl

record MinusOne (f : Format) : Type 0 where
  size : magnitude (ours f) (top (ours f) + one (ours f)) ≡ one (ours f)
  sign : negative (ours f) (top (ours f) + one (ours f)) ≡ true
  other : eqb (top (ours f) + one (ours f)) (one (ours f)) ≡ false
  edge : on_edge (ours f) (one (ours f)) ≡ true

minus_one : (f : Format) → MinusOne f
minus_one binary32 = record { size = refl; sign = refl; other = refl; edge = refl }
minus_one binary64 = record { size = refl; sign = refl; other = refl; edge = refl }

-- pow(-1, ±∞) is 1
pub minus-one-infinite : (w : Width) (y : ℕ) → magnitude (ours w.format) y ≡ infinity (ours w.format) → pow_of w (top (ours w.format) + one (ours w.format)) y ≡ one (ours w.format)
unfolding at_infinity
minus-one-infinite w y e =
    let f = w.format in
    let p = minus_one f in
    infinite-power w (top (ours f) + one (ours f)) y e (subst⁻¹ (λ (n : ℕ). n ≤ infinity (ours f)) p.size (omega (arith, (marks f).one_below))) p.other ∙
    rw (p.size, eq-eqb (one (ours f)) (one (ours f)) refl) refl

-- ---- finite x below 0, and finite y that is not whole: NaN

record Wholes (f : Format) : Type 0 where
  at_1 : whole (ours f) (magnitude (ours f) (one (ours f))) ≡ true
  at-m1 : whole (ours f) (magnitude (ours f) (top (ours f) + one (ours f))) ≡ true
  at-2 : whole (ours f) (magnitude (ours f) (two_word (ours f))) ≡ true
  plus : negative (ours f) (one (ours f)) ≡ false

wholes : (f : Format) → Wholes f
unfolding whole units
wholes binary32 = record { at_1 = refl; at-m1 = refl; at-2 = refl; plus = refl }
wholes binary64 = record { at_1 = refl; at-m1 = refl; at-2 = refl; plus = refl }

apart : (b : Bool) → b ≡ true → b ≡ false → ⊥
apart b t f = let z : true ≡ false = sym t ∙ f in subst T z tt

not_at : (f : Format) (y v : ℕ) → whole (ours f) (magnitude (ours f) v) ≡ true → whole (ours f) (magnitude (ours f) y) ≡ false → y ≡ v → ⊥
not_at f y v t n e = apart (whole (ours f) (magnitude (ours f) y)) (ap (λ (q : ℕ). whole (ours f) (magnitude (ours f) q)) e ∙ t) n

six-nan : (u : Bool → ℕ) (f : Format) (ix iy : ℕ) (down : Bool) → 0 < ix → ix < infinity (ours f) → whole (ours f) iy ≡ false → sorted6 (λ r. r) u (ours f) ix true iy down ≡ quiet (ours f)
unfolding sorted6 sorted7 at_edge odd
six-nan u f ix iy down p l n = go (eqb ix (one (ours f))) refl
  where
    go : (t : Bool) → eqb ix (one (ours f)) ≡ t → sorted6 (λ r. r) u (ours f) ix true iy down ≡ quiet (ours f)
    go true e = rw (ne_eqb ix (infinity (ours f)) (λ q. omega arith), ne_eqb ix 0 (λ q. omega arith), e, n) refl
    go false e = rw (ne_eqb ix (infinity (ours f)) (λ q. omega arith), ne_eqb ix 0 (λ q. omega arith), e, n) refl

pub below-zero : (w : Width) (x y : ℕ) → negative (ours w.format) x ≡ true → Finite w.format x → Finite w.format y → whole (ours w.format) (magnitude (ours w.format) y) ≡ false → pow_of w x y ≡ quiet (ours w.format)
unfolding pow_of
below-zero w x y n hx hy h =
    let f = w.format in
    let m = magnitude (ours f) y in
    let k = wholes f in
    let u = open_of w x y in
    sym (past4 (λ r. r) u f x y (λ e. omega (arith, hy.some)) (λ e. apart (negative (ours f) x) n (ap (negative (ours f)) e ∙ k.plus)) (omega (arith, hx.below)) (omega (arith, hy.below)) (λ e. omega (arith, hy.below))) ∙
    sym (past5 (λ r. r) u f x y (not_at f y (one (ours f)) k.at_1 h) (not_at f y (top (ours f) + one (ours f)) k.at-m1 h) (not_at f y (two_word (ours f)) k.at-2 h) (inl (leb-true (top (ours f)) x n))) ∙
    ap (λ (b : Bool). sorted6 (λ r. r) u (ours f) (magnitude (ours f) x) b m (negative (ours f) y)) n ∙
    six-nan u f (magnitude (ours f) x) m (negative (ours f) y) hx.some hx.below h
