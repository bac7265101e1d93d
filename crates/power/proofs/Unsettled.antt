-- A plain pair is open and its result positive: each test of the rules fails. Over the kit's formats. Assumes nothing.
use Prim.Native.Nat.{ℕ, ◌+◌, ◌<◌}
use mathlib.Core.Path.{◌≡◌, refl, sym, subst}
use mathlib.Core.Bool.{Bool, true, false, not, ◌&&◌}
use native.Mathlib.Nat.{le_of_lt, lt_trans, mod-eq_of_lt}
use native.Mathlib.Omega.{arith}
use lib.Dec.{ltb, eqb, T}
use lib.Ieee.{Format}
use borrow.Author.Tests.{le-ltb, lt-leb, ltb-true, ne_eqb}
use Rattle.words.specs.Format as Ours
use Rattle.words.specs.Format.{infinity, top, one, magnitude, ours}
use Rattle.words.proofs.Words.{infinity-below}
use Rattle.power.specs.Sorting.{two_word, half_word, sorted, sorted5, sorted6, sorted7}
use Rattle.power.specs.Plain.{plain_base, plain_exponent, plain}
use Rattle.power.proofs.Words.{both}

pub off : (a : Bool) → not a ≡ true → a ≡ false
off false e = refl
off true e = absurd (subst T (sym e) tt)

positive : (n : ℕ) → 0 < n → eqb n 0 ≡ false
positive n h = ne_eqb n 0 (λ (e : n ≡ 0). apart n h e)
  where
    apart : (n : ℕ) → 0 < n → n ≡ 0 → ⊥
    apart n h e = omega arith

below : (n m : ℕ) → n < m → eqb n m ≡ false
below n m h = ne_eqb n m (λ (e : n ≡ m). apart n m h e)
  where
    apart : (n m : ℕ) → n < m → n ≡ m → ⊥
    apart n m h e = omega arith

module _ {R : Type 0} (s : ℕ → R) (u : Bool → R) (f : Format) (x y : ℕ) where
  abbrev g : Ours.Format
  g = ours f

  abbrev m : ℕ
  m = magnitude g y

  pub plain_open : plain g x y ≡ true → sorted s u f x y ≡ u false
  unfolding sorted sorted5 sorted6 sorted7
  plain_open h =
      let b = both (plain_base g x) (plain_exponent g y) h in
      let c = both (ltb 0 x) (ltb x (infinity g) && not (eqb x (one g))) b.0 in
      let d = both (ltb x (infinity g)) (not (eqb x (one g))) c.1 in
      let e = both (ltb 0 m && ltb m (infinity g)) ((not (eqb y (one g)) && not (eqb y (top g + one g))) && (not (eqb y (two_word g)) && not (eqb y (half_word g)))) b.1 in
      let k = both (ltb 0 m) (ltb m (infinity g)) e.0 in
      let n = both (not (eqb y (one g)) && not (eqb y (top g + one g))) (not (eqb y (two_word g)) && not (eqb y (half_word g))) e.1 in
      let v = both (not (eqb y (one g))) (not (eqb y (top g + one g))) n.0 in
      let w = both (not (eqb y (two_word g))) (not (eqb y (half_word g))) n.1 in
      let X : x < infinity g = ltb-true x (infinity g) d.0 in
      let Y : m < infinity g = ltb-true m (infinity g) k.1 in
      let L : x < top g = lt_trans X (infinity-below g) in
      let size : magnitude g x ≡ x = mod-eq_of_lt L in
      rw (
        size,
        positive m (ltb-true 0 m k.0),
        off (eqb x (one g)) d.1,
        le-ltb (infinity g) x (le_of_lt X),
        le-ltb (infinity g) m (le_of_lt Y),
        below m (infinity g) Y,
        off (eqb y (one g)) v.0,
        off (eqb y (top g + one g)) v.1,
        off (eqb y (two_word g)) w.0,
        off (eqb y (half_word g)) w.1,
        below x (infinity g) X,
        positive x (ltb-true 0 x c.0),
        lt-leb (top g) x L,
      )
      refl
