-- What the comparisons of a type say of its numbers, where its order is theirs. Assumes nothing.
use Rattle.std.proofs.Common.{◌≡◌, ℕ, Bool, true, false, cond, ◌||◌, Some, None, Option, Ordering, Less, Equal, Greater, nat_eq, not, rules, refl, ap, ◌∙◌}
use Rattle.std.specs.Prelude.{ltb, leb, eqb}
use lib.Ieee.{Float, lt, le, eq}
use Rattle.std.specs.Ordering.{nat_cmp, float_partial_cmp, partial_lt, partial_le, partial_gt, partial_ge, is_lt, is_le, is_gt, is_ge, is_some_and}

lt-at : (a b : ℕ) → is_some_and is_lt (Some (nat_cmp a b)) ≡ ltb a b
lt-at a b = search rules

le-at : (a b : ℕ) → is_some_and is_le (Some (nat_cmp a b)) ≡ leb a b
le-at a b = search rules

gt-at : (a b : ℕ) → is_some_and is_gt (Some (nat_cmp a b)) ≡ ltb b a
gt-at a b = search rules

ge-at : (a b : ℕ) → is_some_and is_ge (Some (nat_cmp a b)) ≡ leb b a
ge-at a b = search rules

eq-at : (a b : ℕ) → nat_eq a b ≡ eqb a b
eq-at a b = search rules

same : (f : ℕ → ℕ → Bool) (a n b m : ℕ) → a ≡ n → b ≡ m → f a b ≡ f n m
same f a n b m u v = ap (λ (z : ℕ). f z b) u ∙ ap (f n) v

-- the answer r of a comparison of x and y, whose numbers are n and m
module _ {X : Type 0} (number : X → ℕ) (cmp : X → X → Option Ordering) (is : (x y : X) → cmp x y ≡ Some (nat_cmp (number x) (number y))) where
  pub lt-says : (x y : X) {r : Bool} {n m : ℕ} → r ≡ partial_lt cmp x y → number x ≡ n → number y ≡ m → r ≡ ltb n m
  lt-says x y e u v = e ∙ ap (is_some_and is_lt) (is x y) ∙ lt-at (number x) (number y) ∙ same ltb _ _ _ _ u v

  pub le-says : (x y : X) {r : Bool} {n m : ℕ} → r ≡ partial_le cmp x y → number x ≡ n → number y ≡ m → r ≡ leb n m
  le-says x y e u v = e ∙ ap (is_some_and is_le) (is x y) ∙ le-at (number x) (number y) ∙ same leb _ _ _ _ u v

  pub gt-says : (x y : X) {r : Bool} {n m : ℕ} → r ≡ partial_gt cmp x y → number x ≡ n → number y ≡ m → r ≡ ltb m n
  gt-says x y e u v = e ∙ ap (is_some_and is_gt) (is x y) ∙ gt-at (number x) (number y) ∙ same ltb _ _ _ _ v u

  pub ge-says : (x y : X) {r : Bool} {n m : ℕ} → r ≡ partial_ge cmp x y → number x ≡ n → number y ≡ m → r ≡ leb m n
  ge-says x y e u v = e ∙ ap (is_some_and is_ge) (is x y) ∙ ge-at (number x) (number y) ∙ same leb _ _ _ _ v u

module _ {X : Type 0} (number : X → ℕ) (eq : X → X → Bool) (is : (x y : X) → eq x y ≡ nat_eq (number x) (number y)) where
  pub eq-says : (x y : X) {r : Bool} {n m : ℕ} → r ≡ eq x y → number x ≡ n → number y ≡ m → r ≡ eqb n m
  eq-says x y e u v = e ∙ is x y ∙ eq-at (number x) (number y) ∙ same eqb _ _ _ _ u v

  pub ne-says : (x y : X) {r : Bool} {n m : ℕ} → r ≡ not (eq x y) → number x ≡ n → number y ≡ m → r ≡ not (eqb n m)
  ne-says x y e u v = e ∙ ap not (is x y ∙ eq-at (number x) (number y) ∙ same eqb _ _ _ _ u v)

-- the same of floats, by the numbers that they stand for
float-lt-at : (a b : Float) → is_some_and is_lt (float_partial_cmp a b) ≡ lt a b
float-lt-at a b = go (lt a b) (eq a b) (lt b a)
  where
    go : (s t u : Bool) → is_some_and is_lt (cond s (Some Less) (cond t (Some Equal) (cond u (Some Greater) None))) ≡ s
    go true t u = refl
    go false true u = refl
    go false false true = refl
    go false false false = refl

float-le-at : (a b : Float) → is_some_and is_le (float_partial_cmp a b) ≡ le a b
unfolding le
float-le-at a b = go (lt a b) (eq a b) (lt b a)
  where
    go : (s t u : Bool) → is_some_and is_le (cond s (Some Less) (cond t (Some Equal) (cond u (Some Greater) None))) ≡ (s || t)
    go true t u = refl
    go false true u = refl
    go false false true = refl
    go false false false = refl

module _ {X : Type 0} (value : X → Float) (cmp : X → X → Option Ordering) (is : (x y : X) → cmp x y ≡ float_partial_cmp (value x) (value y)) where
  pub float-lt-says : (x y : X) {r : Bool} {a b : Float} → r ≡ partial_lt cmp x y → value x ≡ a → value y ≡ b → r ≡ lt a b
  float-lt-says x y {b = b} e u v = e ∙ ap (is_some_and is_lt) (is x y) ∙ float-lt-at (value x) (value y) ∙ ap (λ (z : Float). lt z (value y)) u ∙ ap (lt _) v

  pub float-le-says : (x y : X) {r : Bool} {a b : Float} → r ≡ partial_le cmp x y → value x ≡ a → value y ≡ b → r ≡ le a b
  float-le-says x y e u v = e ∙ ap (is_some_and is_le) (is x y) ∙ float-le-at (value x) (value y) ∙ ap (λ (z : Float). le z (value y)) u ∙ ap (le _) v
