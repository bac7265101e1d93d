-- The elements of the results that are wanted, and that the pairs of a part are the part of the pairs, for any function and any types of operands. Assumes nothing.
use Prim.Native.Nat.{ℕ, zero, suc, ◌<◌}
use mathlib.Core.Path.{◌≡◌, refl, ap, sym, ◌∙◌}
use mathlib.Core.List.{List, [], ◌∷◌, map}
use native.Mathlib.Omega.{arith}
use native.Mathlib.Nat.{not-suc-le-zero, le_of_suc-le-suc}
use lib.ListN.{length, get_or, take, drop}
use lib.Seq.{ext_get_or}
use Rattle.batch.specs.Batches.{zip_with}

pub map_at : {A C : Type 0} (f : A → C) (a : A) (c : C) (xs : List A) (i : ℕ) → i < length xs → get_or (map f xs) i c ≡ f (get_or xs i a)
map_at f a c [] i h = absurd (not-suc-le-zero h)
map_at f a c (x ∷ xs) zero h = refl
map_at f a c (x ∷ xs) (suc i) h = map_at f a c xs i (le_of_suc-le-suc h)

pub zip_at : {A B C : Type 0} (f : A → B → C) (a : A) (b : B) (c : C) (xs : List A) (ys : List B) (i : ℕ) → i < length xs → i < length ys
    → get_or (zip_with f xs ys) i c ≡ f (get_or xs i a) (get_or ys i b)
zip_at f a b c [] ys i h k = absurd (not-suc-le-zero h)
zip_at f a b c (x ∷ xs) [] i h k = absurd (not-suc-le-zero k)
zip_at f a b c (x ∷ xs) (y ∷ ys) zero h k = refl
zip_at f a b c (x ∷ xs) (y ∷ ys) (suc i) h k = zip_at f a b c xs ys i (le_of_suc-le-suc h) (le_of_suc-le-suc k)

pub zip_length : {A B C : Type 0} (f : A → B → C) (xs : List A) (ys : List B) → length xs ≡ length ys → length (zip_with f xs ys) ≡ length xs
zip_length f [] ys e = refl
zip_length f (x ∷ xs) [] e = sym e
zip_length f (x ∷ xs) (y ∷ ys) e = ap suc (zip_length f xs ys (omega (arith, e)))

pub zip_take : {A B C : Type 0} (f : A → B → C) (k : ℕ) (xs : List A) (ys : List B) → zip_with f (take k xs) (take k ys) ≡ take k (zip_with f xs ys)
zip_take f zero xs ys = refl
zip_take f (suc k) [] ys = refl
zip_take f (suc k) (x ∷ xs) [] = refl
zip_take f (suc k) (x ∷ xs) (y ∷ ys) = ap (λ r. f x y ∷ r) (zip_take f k xs ys)

-- no pairs with nothing
zip_none : {A B C : Type 0} (f : A → B → C) (xs : List A) → zip_with f xs [] ≡ []
zip_none f [] = refl
zip_none f (x ∷ xs) = refl

pub zip_drop : {A B C : Type 0} (f : A → B → C) (k : ℕ) (xs : List A) (ys : List B) → zip_with f (drop k xs) (drop k ys) ≡ drop k (zip_with f xs ys)
zip_drop f zero xs ys = refl
zip_drop f (suc k) [] ys = refl
zip_drop f (suc k) (x ∷ xs) [] = zip_none f (drop k xs)
zip_drop f (suc k) (x ∷ xs) (y ∷ ys) = zip_drop f k xs ys

-- what holds f of each pair at each place is all pairs
pub from_places : {A B C : Type 0} (f : A → B → C) (a : A) (b : B) (c : C) (xs : List A) (ys : List B) (vs : List C) (n : ℕ) → length xs ≡ n → length ys ≡ n → length vs ≡ n
    → ((j : ℕ) → j < n → get_or vs j c ≡ f (get_or xs j a) (get_or ys j b)) → vs ≡ zip_with f xs ys
from_places f a b c xs ys vs n x y v h =
    ext_get_or c vs (zip_with f xs ys) (v ∙ sym (zip_length f xs ys (x ∙ sym y) ∙ x))
    (λ j l. h j (omega (arith, v, l)) ∙ sym (zip_at f a b c xs ys j (omega (arith, v, l, x)) (omega (arith, v, l, y))))
