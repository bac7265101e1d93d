-- Arrays of 64 on their way through a loop: what holds at the places that are done, and that the others are as they were. Assumes nothing.
use Prim.Native.Nat.{ℕ, ◌+◌, ◌<◌, ◌≤◌}
use mathlib.Core.Path.{◌≡◌, refl, sym, ◌∙◌, subst}
use mathlib.Core.List.{List}
use native.Mathlib.Omega.{arith}
use native.Mathlib.Decide.{dec_lt}
use lib.ListN.{length, get_or, set, length-set}
use lib.Seq.{get_or-set_same, get_or-set_other}

-- the places before i are a function of their place, the others as in l₀
pub record Filled {A : Type 0} (d : A) (f : ℕ → A) (l₀ : List A) (i : ℕ) (l : List A) : Type 0 where
  pub long : length l ≡ 64
  pub within : i ≤ 64
  pub done : (j : ℕ) → j < i → get_or l j d ≡ f j
  pub rest : (j : ℕ) → i ≤ j → get_or l j d ≡ get_or l₀ j d

-- no place is before the first
not-below : (j : ℕ) → j < 0 → ⊥
not-below j h = omega arith

last : (i j : ℕ) → ¬ (j < i) → j < i + 1 → i ≡ j
last i j n k = omega arith

apart : (i j : ℕ) → j < i → j ≡ i → ⊥
apart i j y q = omega arith

after : (i j : ℕ) → i + 1 ≤ j → j ≡ i → ⊥
after i j k q = omega arith

pub none : {A : Type 0} {d : A} {f : ℕ → A} {l : List A} → length l ≡ 64 → Filled d f l 0 l
none e = record { long = e; within = omega arith; done = λ j h. absurd (not-below j h); rest = λ j h. refl }

-- what holds before i, and at i, holds before i + 1
pub each_more : {P : ℕ → Type 0} {i : ℕ} → ((j : ℕ) → j < i → P j) → P i → (j : ℕ) → j < i + 1 → P j
each_more {P} {i} p v j k = elim (dec_lt j i) [
  | yes y ↦ p j y
  | no n ↦ subst P (last i j n k) v
]

-- the next element is stored
pub one_more : {A : Type 0} {d : A} {f : ℕ → A} {l₀ l : List A} {i : ℕ} {v : A} → Filled d f l₀ i l → i < 64 → v ≡ f i → Filled d f l₀ (i + 1) (set l i v)
one_more {A} {d} {f} {l₀} {l} {i} {v} p h e =
    record {
      long = length-set l i v ∙ p.long;
      within = omega arith;
      done = each_more (λ j y. get_or-set_other l i j v d (apart i j y) ∙ p.done j y) (get_or-set_same l i v d (omega (arith, p.long)) ∙ e);
      rest = λ j k. get_or-set_other l i j v d (after i j k) ∙ p.rest j (omega arith);
    }

pub all : {A : Type 0} {d : A} {f : ℕ → A} {l₀ l : List A} {i : ℕ} → Filled d f l₀ i l → 64 ≤ i → (j : ℕ) → j < 64 → get_or l j d ≡ f j
all p h j k = p.done j (omega arith)

-- ---- two or three arrays: at each place before i a predicate holds of their elements, and the others are as they were
pub record Kept {A : Type 0} (d : A) (l₀ : List A) (i : ℕ) (l : List A) : Type 0 where
  pub long : length l ≡ 64
  pub rest : (j : ℕ) → i ≤ j → get_or l j d ≡ get_or l₀ j d

untouched : {A : Type 0} (d : A) (l : List A) → length l ≡ 64 → Kept d l 0 l
untouched d l e = record { long = e; rest = λ j h. refl }

kept_more : {A : Type 0} {d : A} {l₀ l : List A} {i : ℕ} (v : A) → Kept d l₀ i l → Kept d l₀ (i + 1) (set l i v)
kept_more {A} {d} {l₀} {l} {i} v p =
    record { long = length-set l i v ∙ p.long; rest = λ j k. get_or-set_other l i j v d (after i j k) ∙ p.rest j (omega arith) }

pub record Both {A B : Type 0} (a : A) (b : B) (P : ℕ → A → B → Type 0) (l₀ : List A) (m₀ : List B) (i : ℕ) (l : List A) (m : List B) : Type 0 where
  pub first : Kept a l₀ i l
  pub second : Kept b m₀ i m
  pub within : i ≤ 64
  pub met : (j : ℕ) → j < i → P j (get_or l j a) (get_or m j b)

pub no-two : {A B : Type 0} {a : A} {b : B} {P : ℕ → A → B → Type 0} {l : List A} {m : List B} → length l ≡ 64 → length m ≡ 64 → Both a b P l m 0 l m
no-two {A} {B} {a} {b} {P} {l} {m} e f = record { first = untouched a l e; second = untouched b m f; within = omega arith; met = λ j h. absurd (not-below j h) }

pub two-more : {A B : Type 0} {a : A} {b : B} {P : ℕ → A → B → Type 0} {l₀ l : List A} {m₀ m : List B} {i : ℕ} → Both a b P l₀ m₀ i l m → i < 64
    → (u : A) (v : B) → P i u v → Both a b P l₀ m₀ (i + 1) (set l i u) (set m i v)
two-more {A} {B} {a} {b} {P} {l₀} {l} {m₀} {m} {i} p h u v e =
    record {
      first = kept_more u p.first;
      second = kept_more v p.second;
      within = omega arith;
      met = each_more {P = λ j. P j (get_or (set l i u) j a) (get_or (set m i v) j b)}
          (λ j y. subst (λ (x : A). P j x (get_or (set m i v) j b)) (sym (get_or-set_other l i j u a (apart i j y)))
          (subst (λ (x : B). P j (get_or l j a) x) (sym (get_or-set_other m i j v b (apart i j y))) (p.met j y)))
          (subst (λ (x : A). P i x (get_or (set m i v) i b)) (sym (get_or-set_same l i u a (omega (arith, p.first.long))))
          (subst (λ (x : B). P i u x) (sym (get_or-set_same m i v b (omega (arith, p.second.long)))) e));
    }

pub record Three {A B C : Type 0} (a : A) (b : B) (c : C) (P : ℕ → A → B → C → Type 0) (l₀ : List A) (m₀ : List B) (n₀ : List C) (i : ℕ)
    (l : List A) (m : List B) (n : List C) : Type 0 where
  pub first : Kept a l₀ i l
  pub second : Kept b m₀ i m
  pub third : Kept c n₀ i n
  pub within : i ≤ 64
  pub met : (j : ℕ) → j < i → P j (get_or l j a) (get_or m j b) (get_or n j c)

pub no-three : {A B C : Type 0} {a : A} {b : B} {c : C} {P : ℕ → A → B → C → Type 0} {l : List A} {m : List B} {n : List C}
    → length l ≡ 64 → length m ≡ 64 → length n ≡ 64 → Three a b c P l m n 0 l m n
no-three {A} {B} {C} {a} {b} {c} {P} {l} {m} {n} e f g =
    record { first = untouched a l e; second = untouched b m f; third = untouched c n g; within = omega arith; met = λ j h. absurd (not-below j h) }

pub three-more : {A B C : Type 0} {a : A} {b : B} {c : C} {P : ℕ → A → B → C → Type 0} {l₀ l : List A} {m₀ m : List B} {n₀ n : List C} {i : ℕ}
    → Three a b c P l₀ m₀ n₀ i l m n → i < 64 → (u : A) (v : B) (w : C) → P i u v w → Three a b c P l₀ m₀ n₀ (i + 1) (set l i u) (set m i v) (set n i w)
three-more {A} {B} {C} {a} {b} {c} {P} {l₀} {l} {m₀} {m} {n₀} {n} {i} p h u v w e =
    record {
      first = kept_more u p.first;
      second = kept_more v p.second;
      third = kept_more w p.third;
      within = omega arith;
      met = each_more {P = λ j. P j (get_or (set l i u) j a) (get_or (set m i v) j b) (get_or (set n i w) j c)}
          (λ j y. subst (λ (x : A). P j x (get_or (set m i v) j b) (get_or (set n i w) j c)) (sym (get_or-set_other l i j u a (apart i j y)))
          (subst (λ (x : B). P j (get_or l j a) x (get_or (set n i w) j c)) (sym (get_or-set_other m i j v b (apart i j y)))
          (subst (λ (x : C). P j (get_or l j a) (get_or m j b) x) (sym (get_or-set_other n i j w c (apart i j y))) (p.met j y))))
          (subst (λ (x : A). P i x (get_or (set m i v) i b) (get_or (set n i w) i c)) (sym (get_or-set_same l i u a (omega (arith, p.first.long))))
          (subst (λ (x : B). P i u x (get_or (set n i w) i c)) (sym (get_or-set_same m i v b (omega (arith, p.second.long))))
          (subst (λ (x : C). P i u v x) (sym (get_or-set_same n i w c (omega (arith, p.third.long)))) e)));
    }

-- where none of the elements before i is set, nor the next one
pub none-set : (l : List ℕ) (i v : ℕ) → length l ≡ 64 → i < 64 → ((j : ℕ) → j < i → get_or l j 0 ≡ 0) → v ≡ 0 → (j : ℕ) → j < i + 1 → get_or (set l i v) j 0 ≡ 0
none-set l i v e h p z = each_more (λ j y. get_or-set_other l i j v 0 (apart i j y) ∙ p j y) (get_or-set_same l i v 0 (omega (arith, e)) ∙ z)
