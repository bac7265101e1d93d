-- Powers of ±0 and ±∞ to a finite y, at both widths: rule 6 gives them, and where rule 5 stands before it they agree. Assumes nothing.
use Prim.Native.Nat.{ℕ, ◌+◌, ◌<◌}
use mathlib.Core.Path.{◌≡◌, refl, sym, ◌∙◌, subst}
use mathlib.Core.Bool.{Bool, true, false, not, ◌&&◌, cond}
use native.Mathlib.Nat.{zero-add}
use native.Mathlib.Omega.{arith}
use lib.Dec.{eqb}
use lib.Ieee.{Format, binary32, binary64, of_bits, to_bits, mul, div}
use borrow.Author.Tests.{le-ltb, ne_eqb, eqb-true}
use Rattle.words.specs.Format.{units, one, infinity, top, magnitude, negative, is_nan_word, signed, ours}
use Rattle.root.specs.Root.{root_word}
use Rattle.power.specs.Numbers.{whole, odd}
use Rattle.power.specs.Sorting.{two_word, half_word, over, square, turned, at_edge, on_edge, sorted5, sorted}
use Rattle.power.specs.Width.{Width}
use Rattle.power.specs.Power.{pow_of}
use Rattle.power.specs.Chain.{open_of}
use Rattle.power.proofs.Rules.{on_edge_lem}

-- ---- x is ±0 (i is false) or ±∞ (i is true), with the sign s

abbrev pub edge_size : Format → Bool → ℕ
edge_size f i = cond i (infinity (ours f)) 0

abbrev pub edge_word : Format → Bool → Bool → ℕ
edge_word f s i = signed (ours f) s (edge_size f i)

-- rule 6's answer, which rule 5 gives too
abbrev pub ruled : Format → Bool → Bool → ℕ → ℕ
ruled f s i y = at_edge (ours f) (edge_size f i) s (magnitude (ours f) y) (negative (ours f) y)

at_one : (f : Format) (s i : Bool) → edge_word f s i ≡ ruled f s i (one (ours f))
unfolding at_edge turned odd whole units
at_one binary32 false false = refl
at_one binary32 false true = refl
at_one binary32 true false = refl
at_one binary32 true true = refl
at_one binary64 false false = refl
at_one binary64 false true = refl
at_one binary64 true false = refl
at_one binary64 true true = refl

at-minus : (f : Format) (s i : Bool) → over f (edge_word f s i) ≡ ruled f s i (top (ours f) + one (ours f))
unfolding at_edge turned odd whole units over div of_bits to_bits
at-minus binary32 false false = refl
at-minus binary32 false true = refl
at-minus binary32 true false = refl
at-minus binary32 true true = refl
at-minus binary64 false false = refl
at-minus binary64 false true = refl
at-minus binary64 true false = refl
at-minus binary64 true true = refl

at-two : (f : Format) (s i : Bool) → square f (edge_word f s i) ≡ ruled f s i (two_word (ours f))
unfolding at_edge turned odd whole units square mul of_bits to_bits
at-two binary32 false false = refl
at-two binary32 false true = refl
at-two binary32 true false = refl
at-two binary32 true true = refl
at-two binary64 false false = refl
at-two binary64 false true = refl
at-two binary64 true false = refl
at-two binary64 true true = refl

at-half : (f : Format) (i : Bool) → root_word (ours f) (edge_word f false i) ≡ ruled f false i (half_word (ours f))
unfolding at_edge turned odd whole units root_word
at-half binary32 false = refl
at-half binary32 true = refl
at-half binary64 false = refl
at-half binary64 true = refl

-- what the tests find in such a word
record Plain (f : Format) (s i : Bool) : Type 0 where
  size : magnitude (ours f) (edge_word f s i) ≡ edge_size f i
  sign : negative (ours f) (edge_word f s i) ≡ s
  not-one : eqb (edge_word f s i) (one (ours f)) ≡ false
  number : is_nan_word (ours f) (edge_word f s i) ≡ false
  edge : on_edge (ours f) (edge_size f i) ≡ true

plain : (f : Format) (s i : Bool) → Plain f s i
plain binary32 false false = record { size = refl; sign = refl; not-one = refl; number = refl; edge = refl }
plain binary32 false true = record { size = refl; sign = refl; not-one = refl; number = refl; edge = refl }
plain binary32 true false = record { size = refl; sign = refl; not-one = refl; number = refl; edge = refl }
plain binary32 true true = record { size = refl; sign = refl; not-one = refl; number = refl; edge = refl }
plain binary64 false false = record { size = refl; sign = refl; not-one = refl; number = refl; edge = refl }
plain binary64 false true = record { size = refl; sign = refl; not-one = refl; number = refl; edge = refl }
plain binary64 true false = record { size = refl; sign = refl; not-one = refl; number = refl; edge = refl }
plain binary64 true true = record { size = refl; sign = refl; not-one = refl; number = refl; edge = refl }

pub by-test : (y v a b r : ℕ) → (y ≡ v → a ≡ r) → b ≡ r → cond (eqb y v) a b ≡ r
by-test y v a b r h k = go (eqb y v) refl
  where
    go : (t : Bool) → eqb y v ≡ t → cond t a b ≡ r
    go true e = h (eqb-true y v e)
    go false e = k

half-part : (f : Format) (s i : Bool) (y b : ℕ) → b ≡ ruled f s i y → cond (eqb y (half_word (ours f)) && not s) (root_word (ours f) (edge_word f s i)) b ≡ ruled f s i y
half-part f false i y b k = go (eqb y (half_word (ours f))) refl
  where
    go : (t : Bool) → eqb y (half_word (ours f)) ≡ t → cond (t && true) (root_word (ours f) (edge_word f false i)) b ≡ ruled f false i y
    go true e = subst (λ (v : ℕ). root_word (ours f) (edge_word f false i) ≡ ruled f false i v) (sym (eqb-true y (half_word (ours f)) e)) (at-half f i)
    go false e = k
half-part f true i y b k = go (eqb y (half_word (ours f)))
  where
    go : (t : Bool) → cond (t && false) (root_word (ours f) (edge_word f true i)) b ≡ ruled f true i y
    go true = k
    go false = k

five : (u : Bool → ℕ) (f : Format) (s i : Bool) (y : ℕ) → sorted5 (λ r. r) u f (edge_word f s i) y ≡ ruled f s i y
unfolding sorted5
five u f s i y =
    let x = edge_word f s i in
    let p = plain f s i in
    let R : ℕ → ℕ = ruled f s i in
    by-test y (one (ours f)) x _ (R y) (λ e. subst (λ (v : ℕ). x ≡ R v) (sym e) (at_one f s i))
    (by-test y (top (ours f) + one (ours f)) (over f x) _ (R y) (λ e. subst (λ (v : ℕ). over f x ≡ R v) (sym e) (at-minus f s i))
    (by-test y (two_word (ours f)) (square f x) _ (R y) (λ e. subst (λ (v : ℕ). square f x ≡ R v) (sym e) (at-two f s i))
    (rw (p.sign, p.size)
    (half-part f s i y _ (sym (on_edge_lem (λ r. r) u (ours f) (edge_size f i) s (magnitude (ours f) y) (negative (ours f) y) p.edge))))))

-- y finite and not 0
pub record Finite (f : Format) (y : ℕ) : Type 0 where
  pub some : 0 < magnitude (ours f) y
  pub below : magnitude (ours f) y < infinity (ours f)

edge-power : (w : Width) (s i : Bool) (y : ℕ) → Finite w.format y → pow_of w (edge_word w.format s i) y ≡ ruled w.format s i y
unfolding pow_of sorted
edge-power w s i y h =
    let f = w.format in
    let p = plain f s i in
    let m = magnitude (ours f) y in
    rw (p.not-one, p.number, ne_eqb m 0 (λ e. omega (arith, h.some)), le-ltb (infinity (ours f)) m (omega (arith, h.below)), ne_eqb m (infinity (ours f)) (λ e. omega (arith, h.below)))
    (five (open_of w (edge_word f s i) y) f s i y)

-- the sign is that of x for an odd y, and clear for every other
size-not-one : (f : Format) (i : Bool) → eqb (edge_size f i) (one (ours f)) ≡ false
size-not-one binary32 false = refl
size-not-one binary32 true = refl
size-not-one binary64 false = refl
size-not-one binary64 true = refl

pub edge-odd : (w : Width) (s i : Bool) (y : ℕ) → Finite w.format y → odd (ours w.format) (magnitude (ours w.format) y) ≡ true → pow_of w (edge_word w.format s i) y ≡ signed (ours w.format) s (turned (ours w.format) (edge_size w.format i) (negative (ours w.format) y))
unfolding at_edge
edge-odd w false i y h o = edge-power w false i y h ∙ sym (zero-add _)
edge-odd w true i y h o = edge-power w true i y h ∙ rw o refl

pub edge-even : (w : Width) (s i : Bool) (y : ℕ) → Finite w.format y → odd (ours w.format) (magnitude (ours w.format) y) ≡ false → pow_of w (edge_word w.format s i) y ≡ turned (ours w.format) (edge_size w.format i) (negative (ours w.format) y)
unfolding at_edge
edge-even w false i y h o = edge-power w false i y h
edge-even w true i y h o = edge-power w true i y h ∙ rw (o, size-not-one w.format i) (same (not (whole (ours w.format) (magnitude (ours w.format) y))) _ _)
  where
    same : (b : Bool) (q z : ℕ) → cond (b && false) q z ≡ z
    same true q z = refl
    same false q z = refl

pub turned-infinity : (f : Format) → turned (ours f) (infinity (ours f)) true ≡ 0
unfolding turned
turned-infinity binary32 = refl
turned-infinity binary64 = refl
