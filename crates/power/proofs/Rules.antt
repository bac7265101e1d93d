-- The sorting rule by rule: the tests that lead to a rule, and that the answer there is the sorting's. Over every format. Assumes nothing.
use Prim.Native.Nat.{ℕ, ◌+◌, ◌<◌, ◌≤◌}
use mathlib.Core.Path.{◌≡◌, refl}
use mathlib.Core.Bool.{Bool, true, false, not, ◌&&◌, and-false}
use mathlib.Core.Logic.{◌⊎◌, inl, inr}
use lib.Dec.{eqb}
use lib.Ieee.{Format, top}
use borrow.Author.Tests.{lt-ltb, le-ltb, eq-eqb, ne_eqb, le-leb, lt-leb}
use Rattle.words.specs.Format as Words
use Rattle.words.specs.Format.{one, infinity, quiet, magnitude, negative, ours}
use Rattle.root.specs.Root.{root_word}
use Rattle.power.specs.Sorting.{two_word, half_word, over, square, at_infinity, at_edge, on_edge, sorted, sorted5, sorted6, sorted7}

module _ {R : Type 0} (s : ℕ → R) (u : Bool → R) (f : Format) (x y : ℕ) where
  -- the sizes of x and y, and the words that the rules name
  abbrev ix : ℕ
  ix = magnitude (ours f) x

  abbrev iy : ℕ
  iy = magnitude (ours f) y

  abbrev inf : ℕ
  inf = infinity (ours f)

  abbrev #1 : ℕ
  #1 = one (ours f)

  abbrev #minus : ℕ
  #minus = top f + one (ours f)

  abbrev #2 : ℕ
  #2 = two_word (ours f)

  abbrev #half : ℕ
  #half = half_word (ours f)

  -- rules 1 and 2: y is 0, and x is 1
  pub rule-zero : iy ≡ 0 → s #1 ≡ sorted s u f x y
  unfolding sorted
  rule-zero e = rw (eq-eqb iy 0 e) refl

  pub rule-one : (iy ≡ 0 → ⊥) → x ≡ #1 → s #1 ≡ sorted s u f x y
  unfolding sorted
  rule-one z e = rw (ne_eqb iy 0 z, eq-eqb x #1 e) refl

  module _ (z : iy ≡ 0 → ⊥) (o : x ≡ #1 → ⊥) where
    -- rule 3: x is a NaN, and y is one
    pub rule-nan-x : inf < ix → s (quiet (ours f)) ≡ sorted s u f x y
    unfolding sorted
    rule-nan-x n =
        rw (ne_eqb iy 0 z, ne_eqb x #1 o, lt-ltb inf ix n) refl

    module _ (n : ix ≤ inf) where
      pub rule-nan-y : inf < iy → s (quiet (ours f)) ≡ sorted s u f x y
      unfolding sorted
      rule-nan-y m =
          rw (ne_eqb iy 0 z, ne_eqb x #1 o, le-ltb inf ix n, lt-ltb inf iy m) refl

      -- rule 4: y is infinite
      pub rule-infinite : iy ≤ inf → iy ≡ inf → s (at_infinity (ours f) ix (negative (ours f) y)) ≡ sorted s u f x y
      unfolding sorted
      rule-infinite m e =
          rw (ne_eqb iy 0 z, ne_eqb x #1 o, le-ltb inf ix n, le-ltb inf iy m, eq-eqb iy inf e) refl

      pub past4 : iy ≤ inf → (iy ≡ inf → ⊥) → sorted5 s u f x y ≡ sorted s u f x y
      unfolding sorted
      past4 m e =
          rw (ne_eqb iy 0 z, ne_eqb x #1 o, le-ltb inf ix n, le-ltb inf iy m, ne_eqb iy inf e) refl

  -- rule 5: y is 1, -1, 2, and 0.5 with the sign of x clear
  pub rule-to-one : y ≡ #1 → s x ≡ sorted5 s u f x y
  unfolding sorted5
  rule-to-one e = rw (eq-eqb y #1 e) refl

  module _ (a : y ≡ #1 → ⊥) where
    pub rule-to-minus : y ≡ #minus → s (over f x) ≡ sorted5 s u f x y
    unfolding sorted5
    rule-to-minus e = rw (ne_eqb y #1 a, eq-eqb y #minus e) refl

    module _ (b : y ≡ #minus → ⊥) where
      pub rule-to-two : y ≡ #2 → s (square f x) ≡ sorted5 s u f x y
      unfolding sorted5
      rule-to-two e = rw (ne_eqb y #1 a, ne_eqb y #minus b, eq-eqb y #2 e) refl

      module _ (c : y ≡ #2 → ⊥) where
        pub rule-to-half : y ≡ #half → x < top f → s (root_word (ours f) x) ≡ sorted5 s u f x y
        unfolding sorted5
        rule-to-half e h =
            rw (ne_eqb y #1 a, ne_eqb y #minus b, ne_eqb y #2 c, eq-eqb y #half e, lt-leb (top f) x h) refl

  -- past rule 5: y is not 1, -1 or 2, and the sign of x is set or y is not 0.5
  pub past5 : (y ≡ #1 → ⊥) → (y ≡ #minus → ⊥) → (y ≡ #2 → ⊥) → (top f ≤ x) ⊎ (y ≡ #half → ⊥) → sorted6 s u (ours f) ix (negative (ours f) x) iy (negative (ours f) y) ≡ sorted5 s u f x y
  unfolding sorted5
  past5 a b c h = rw (ne_eqb y #1 a, ne_eqb y #minus b, ne_eqb y #2 c, off h) refl
    where
      off : (top f ≤ x) ⊎ (y ≡ #half → ⊥) → eqb y #half && not (negative (ours f) x) ≡ false
      off (inl t) = rw (le-leb (top f) x t) (and-false (eqb y #half))
      off (inr n) = rw (ne_eqb y #half n) refl

-- rule 6, and past it a positive and a negative x
module _ {R : Type 0} (s : ℕ → R) (u : Bool → R) (f : Words.Format) (ix : ℕ) (minus : Bool) (iy : ℕ) (down : Bool) where
  pub on_edge_lem : on_edge f ix ≡ true → s (at_edge f ix minus iy down) ≡ sorted6 s u f ix minus iy down
  unfolding sorted6
  on_edge_lem e = rw e refl

  pub past-plus : on_edge f ix ≡ false → minus ≡ false → u false ≡ sorted6 s u f ix minus iy down
  unfolding sorted6 sorted7
  past-plus e m = rw (e, m) refl

  pub past-minus : on_edge f ix ≡ false → minus ≡ true → sorted7 s u f true iy ≡ sorted6 s u f ix minus iy down
  unfolding sorted6
  past-minus e m = rw (e, m) refl
