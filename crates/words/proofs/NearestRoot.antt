-- A root's digits, an odd number raised and then halved, are the nearest word to the root, and no other word is. Over any format.
-- As for a fraction, the words' units rise, and the rule takes a neighbour by the middle (Ties); here a middle is compared by its square. Assumes nothing.
use mathlib.Core.Path.{◌≡◌, sym, ap, ◌∙◌, subst}
use Prim.Native.Nat.{ℕ, suc, ◌+◌, ◌*◌, ◌/◌, ◌%◌, ◌^◌, ◌≤◌, ◌<◌}
use native.Mathlib.Nat.{le_antisymm, lt_of_not-le, lt_trans, lt_irrefl, not-le_of_lt, lt_of_le_of_lt, add_comm, add_assoc}
use native.Mathlib.Omega.{arith}
use mathlib.Core.Bool.{Bool}
use lib.Dec.{ltb}
use borrow.Author.Tests.{ltb-true, ltb-false, lt-ltb}
use lib.Ieee.Fits.{two-le_pos}
use Rattle.words.specs.Format.{Format, hid, infinity, units}
use Rattle.words.specs.Rounding.{even, odd, bit}
use Rattle.words.specs.Nearest.{square, NearestRoot}
use Rattle.words.proofs.Units.{units-step}
use Rattle.words.proofs.Even.{raised}
use Rattle.words.proofs.Grid.{Between, less, same, more, order, rises, rises-le}
use Rattle.words.proofs.Ties.{units-floor, units-next, word-parity, cut-between}

square-step : (n : ℕ) → square n < square (suc n)
square-step n = omega arith

module _ (f : Format) (P : 0 < f.digits) where
  units-order : (a b : ℕ) → units f a < units f b → a < b
  units-order a b h = lt_of_not-le (λ (l : b ≤ a). not-le_of_lt h (rises-le (units f) (units-step f P) b a l))

  between-root : (v r : ℕ) → r < infinity f → Between (units f) square (4 * v) r → NearestRoot f v r
  between-root v r R b = record {
    finite = R;
    above = λ w W h. b.above w (units-order w r h);
    below = λ w W h. b.below w (units-order r w h);
    ties-even = λ w W n e. elim (order w r) [
      | less l ↦ b.above-even w l (ap square (add_comm (units f w) (units f r)) ∙ e)
      | same s ↦ absurd (n s)
      | more m ↦ b.below-even w m e
    ];
  }

-- q is the root of 4 * v, in steps of 2 ^ k and rounded down, and not the root itself where it is odd
pub root-is-nearest : (f : Format) (v k q : ℕ) → 2 ≤ f.digits → q / 2 < 2 ^ f.digits → (0 < k → hid f ≤ q / 2) → square (q * 2 ^ k) ≤ 4 * v → 4 * v < square (suc q * 2 ^ k)
    → (q % 2 ≡ 1 → square (q * 2 ^ k) < 4 * v) → k * hid f + (q + q % 2) / 2 < infinity f → NearestRoot f v (k * hid f + (q + q % 2) / 2)
root-is-nearest f v k q P N K L U O R = between-root f P1 v (k * hid f + (q + q % 2) / 2) R (subst (λ (z : ℕ). Between (units f) square (4 * v) z) is cut)
  where
    P1 : 0 < f.digits
    P1 = two-le_pos f.digits P

    past : Bool
    past = ltb (square (q * 2 ^ k)) (4 * v)

    cut : Between (units f) square (4 * v) (k * hid f + q / 2 + bit (even (odd (q / 2)) (odd q) past))
    cut =
        cut-between (units f) square (units-step f P1) square-step (4 * v) (k * hid f + q / 2) (2 ^ k) q (units-floor f k (q / 2) P1 N K) (units-next f k (q / 2) P1 N K) (word-parity f k (q / 2) P) L U past
        (λ e. ltb-true (square (q * 2 ^ k)) (4 * v) e) (λ e. le_antisymm L (ltb-false (square (q * 2 ^ k)) (4 * v) e))

    is : k * hid f + q / 2 + bit (even (odd (q / 2)) (odd q) past) ≡ k * hid f + (q + q % 2) / 2
    is =
        add_assoc (k * hid f) (q / 2) (bit (even (odd (q / 2)) (odd q) past))
        ∙ ap (λ (z : ℕ). k * hid f + z) (raised q past (λ e. lt-ltb (square (q * 2 ^ k)) (4 * v) (O e)))

-- ---- only one word is nearest
root-not-less : (f : Format) (v r s : ℕ) → 0 < f.digits → r < s → NearestRoot f v r → NearestRoot f v s → ⊥
root-not-less f v r s P h x y =
    let u : units f r < units f s = rises (units f) (units-step f P) r s h in
    let e : square (units f r + units f s) ≡ 4 * v = le_antisymm (y.above r x.finite u) (x.below s y.finite u) in
    let a : r % 2 ≡ 0 = x.ties-even s y.finite (λ (n : s ≡ r). apart r s h (sym n)) e in
    let b : s % 2 ≡ 0 = y.ties-even r x.finite (apart r s h) (ap square (add_comm (units f s) (units f r)) ∙ e) in
    let m : suc r < s = gap r s h a b in
    let near : square (units f r + units f (suc r)) < square (units f r + units f s) = rises square square-step (units f r + units f (suc r)) (units f r + units f s) (sum (units f r) (units f (suc r)) (units f s) (rises (units f) (units-step f P) (suc r) s m)) in
    lt_irrefl (4 * v) (lt_of_le_of_lt (x.below (suc r) (lt_trans m y.finite) (units-step f P r)) (subst (λ (z : ℕ). square (units f r + units f (suc r)) < z) e near))
  where
    apart : (a b : ℕ) → a < b → a ≡ b → ⊥
    apart a b h e = omega arith

    gap : (a b : ℕ) → a < b → a % 2 ≡ 0 → b % 2 ≡ 0 → suc a < b
    gap a b h p q = omega arith

    sum : (a b c : ℕ) → b < c → a + b < a + c
    sum a b c h = omega arith

pub nearest-root-unique : (f : Format) (v r s : ℕ) → 0 < f.digits → NearestRoot f v r → NearestRoot f v s → r ≡ s
nearest-root-unique f v r s P x y = elim (order r s) [
  | less l ↦ absurd (root-not-less f v r s P l x y)
  | same e ↦ e
  | more m ↦ absurd (root-not-less f v s r P m y x)
]
