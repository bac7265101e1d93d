-- The rule `even`, at a cut, takes the nearest term of a rising sequence, a tie to the even place. For fractions and for roots.
-- The sequence's terms around the number are q / 2 and q / 2 + 1 times u; twice the number is at or above q * u and below (q + 1) * u, and `more` says whether it is above. Assumes nothing.
use mathlib.Core.Path.{◌≡◌, refl, sym, ap, ◌∙◌, subst}
use Prim.Native.Nat.{ℕ, zero, suc, ◌+◌, ◌-◌, ◌*◌, ◌/◌, ◌%◌, ◌^◌, ◌≤◌, ◌<◌}
use native.Mathlib.Nat.{le_trans, le-suc, le_of_eq, le_of_lt, lt_irrefl, add-zero, add-suc}
use native.Mathlib.Numerals.{add-one}
use native.Mathlib.Omega.{arith}
use mathlib.Core.Bool.{Bool, true, false}
use lib.Dec.{eqb}
use Rattle.words.specs.Format.{Format, hid, units}
use Rattle.words.specs.Rounding.{even, odd, bit}
use Rattle.words.proofs.Digits.{twice_hid}
use Rattle.words.proofs.Units.{units-word, units-carry}
use Rattle.words.proofs.Grid.{Between, rises-le, between_lower, between-upper}

-- ---- the words around a number of which k places are dropped and n is what stays: their units, and which is even
module _ (f : Format) (k n : ℕ) (P : 0 < f.digits) (N : n < 2 ^ f.digits) (K : 0 < k → hid f ≤ n) where
  pub units-floor : units f (k * hid f + n) ≡ n * 2 ^ k
  units-floor = units-word f k n P N K

  pub units-next : units f (suc (k * hid f + n)) ≡ suc n * 2 ^ k
  units-next = ap (units f) (sym (add-suc (k * hid f) n)) ∙ units-carry f k (suc n) P N (λ h. le_trans (K h) (le-suc n))

pub hid-even : (f : Format) → 2 ≤ f.digits → hid f ≡ 2 * 2 ^ (f.digits - 1 - 1)
hid-even f P = twice_hid (f.digits - 1) (less f.digits P)
  where
    less : (p : ℕ) → 2 ≤ p → 0 < p - 1
    less p h = omega arith

pub word-parity : (f : Format) (k n : ℕ) → 2 ≤ f.digits → (k * hid f + n) % 2 ≡ n % 2
word-parity f k n P = go k (hid f) (2 ^ (f.digits - 1 - 1)) n (hid-even f P)
  where
    go : (k h j n : ℕ) → h ≡ 2 * j → (k * h + n) % 2 ≡ n % 2
    go k h j n e = omega (arith, ap (λ (z : ℕ). k * z) e)

-- ---- sums of the two terms, by the last digit of q
below-cut : (x q u : ℕ) → q % 2 ≡ 1 → x ≡ q / 2 * u → x + x ≤ q * u
below-cut x q u h e = go x (q / 2) q u (split q h) e
  where
    split : (q : ℕ) → q % 2 ≡ 1 → q ≡ 2 * (q / 2) + 1
    split q h = omega arith

    go : (x n q u : ℕ) → q ≡ 2 * n + 1 → x ≡ n * u → x + x ≤ q * u
    go x n q u s e = omega (arith, ap (λ (z : ℕ). z * u) s)

module _ (x y q u : ℕ) (X : x ≡ q / 2 * u) (Y : y ≡ suc (q / 2) * u) where
  sums : (h : ℕ) → q % 2 ≡ h → (x + x + h * u ≡ q * u) × (x + y + h * u ≡ suc q * u)
  sums h e = go x y (q / 2) q h u (split q h e) X Y
    where
      split : (q h : ℕ) → q % 2 ≡ h → q ≡ 2 * (q / 2) + h
      split q h e = omega arith

      go : (x y n q h u : ℕ) → q ≡ 2 * n + h → x ≡ n * u → y ≡ suc n * u → (x + x + h * u ≡ q * u) × (x + y + h * u ≡ suc q * u)
      go x y n q h u s e g = (omega (arith, ap (λ (z : ℕ). z * u) s), omega (arith, ap (λ (z : ℕ). z * u) s))

module _ (g s : ℕ → ℕ) (step : (w : ℕ) → g w < g (suc w)) (step-s : (w : ℕ) → s w < s (suc w)) (v a u q : ℕ) where
  module _ (X : g a ≡ q / 2 * u) (Y : g (suc a) ≡ suc (q / 2) * u) (parity : a % 2 ≡ q / 2 % 2) (from : s (q * u) ≤ v) (to : v < s (suc q * u)) where
    -- the last digit of q is 0: the number is below the middle
    at-lower : q % 2 ≡ 0 → Between g s v a
    at-lower e =
        between_lower g s step step-s v a (subst (λ (z : ℕ). s z ≤ v) (sym low) from) (le_of_lt (subst (λ (z : ℕ). v < s z) (sym mid) to))
        (λ t. absurd (lt_irrefl v (subst (λ (z : ℕ). v < z) t (subst (λ (z : ℕ). v < s z) (sym mid) to))))
      where
        flat : (z u : ℕ) → z + 0 * u ≡ z
        flat z u = omega arith

        low : g a + g a ≡ q * u
        low = sym (flat (g a + g a) u) ∙ (sums (g a) (g (suc a)) q u X Y 0 e).0

        mid : g a + g (suc a) ≡ suc q * u
        mid = sym (flat (g a + g (suc a)) u) ∙ (sums (g a) (g (suc a)) q u X Y 0 e).1

    -- it is 1: at the middle or above it
    middle-is : q % 2 ≡ 1 → g a + g (suc a) ≡ q * u
    middle-is e = go (g a) (g (suc a)) (q / 2) q u X Y (sums (g a) (g (suc a)) q u X Y 1 e).0
      where
        go : (x y n q u : ℕ) → x ≡ n * u → y ≡ suc n * u → x + x + 1 * u ≡ q * u → x + y ≡ q * u
        go x y n q u X Y e = omega arith

    upper_is : q % 2 ≡ 1 → g (suc a) + g (suc a) ≡ suc q * u
    upper_is e = go (g a) (g (suc a)) (q / 2) (suc q * u) u X Y (sums (g a) (g (suc a)) q u X Y 1 e).1
      where
        go : (x y n t u : ℕ) → x ≡ n * u → y ≡ suc n * u → x + y + 1 * u ≡ t → y + y ≡ t
        go x y n t u X Y e = omega arith

    at-upper : q % 2 ≡ 1 → (s (q * u) ≡ v → suc a % 2 ≡ 0) → Between g s v (suc a)
    at-upper e E =
        between-upper g s step step-s v a (subst (λ (z : ℕ). v < s z) (sym (upper_is e)) to) (subst (λ (z : ℕ). s z ≤ v) (sym (middle-is e)) from) (λ t. E (ap s (sym (middle-is e)) ∙ t))

    at-middle : q % 2 ≡ 1 → s (q * u) ≡ v → a % 2 ≡ 0 → Between g s v a
    at-middle e t E =
        between_lower g s step step-s v a
        (le_trans (rises-le s step-s (g a + g a) (q * u) (below-cut (g a) q u e X)) from)
        (le_of_eq (sym t ∙ ap s (sym (middle-is e)))) (λ _. E)

    pub cut-between : (more : Bool) → (more ≡ true → s (q * u) < v) → (more ≡ false → s (q * u) ≡ v) → Between g s v (a + bit (even (odd (q / 2)) (odd q) more))
    cut-between more M E = go more refl (q % 2) refl (q / 2 % 2) refl
      where
        stay : (h l : ℕ) (b : Bool) → more ≡ b → q % 2 ≡ h → q / 2 % 2 ≡ l → bit (even (eqb l 1) (eqb h 1) b) ≡ 0 → Between g s v a → Between g s v (a + bit (even (odd (q / 2)) (odd q) more))
        stay h l b eb eh el z t = subst (λ (c : ℕ). Between g s v c) (sym (add-zero a) ∙ ap (λ (c : ℕ). a + c) (sym z) ∙ sym (λ i. a + bit (even (eqb (el i) 1) (eqb (eh i) 1) (eb i)))) t

        rise : (h l : ℕ) (b : Bool) → more ≡ b → q % 2 ≡ h → q / 2 % 2 ≡ l → bit (even (eqb l 1) (eqb h 1) b) ≡ 1 → Between g s v (suc a) → Between g s v (a + bit (even (odd (q / 2)) (odd q) more))
        rise h l b eb eh el z t = subst (λ (c : ℕ). Between g s v c) (sym (add-one a) ∙ ap (λ (c : ℕ). a + c) (sym z) ∙ sym (λ i. a + bit (even (eqb (el i) 1) (eqb (eh i) 1) (eb i)))) t

        next-even : (n m : ℕ) → n % 2 ≡ m → m ≡ 1 → suc n % 2 ≡ 0
        next-even n m e o = omega arith

        no : (n m : ℕ) → n % 2 ≡ suc (suc m) → ⊥
        no n m e = omega arith

        go : (b : Bool) → more ≡ b → (h : ℕ) → q % 2 ≡ h → (l : ℕ) → q / 2 % 2 ≡ l → Between g s v (a + bit (even (odd (q / 2)) (odd q) more))
        go b eb zero eh l el = stay 0 l b eb eh el refl (at-lower eh)
        go true eb (suc zero) eh l el = rise 1 l true eb eh el refl (at-upper eh (λ t. absurd (lt_irrefl v (subst (λ (z : ℕ). z < v) t (M eb)))))
        go false eb (suc zero) eh zero el = stay 1 0 false eb eh el refl (at-middle eh (E eb) (parity ∙ el))
        go false eb (suc zero) eh (suc zero) el = rise 1 1 false eb eh el refl (at-upper eh (λ _. next-even a (q / 2 % 2) parity el))
        go false eb (suc zero) eh (suc (suc l)) el = absurd (no (q / 2) l el)
        go b eb (suc (suc h)) eh l el = absurd (no q h eh)
