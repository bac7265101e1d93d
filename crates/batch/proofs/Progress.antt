-- A batch on its way: the first results are in place and the rest is as before, for any function and any types of elements.
-- Assumes nothing.
use Prim.Native.Nat.{ℕ, suc, ◌+◌, ◌-◌, ◌≤◌, ◌<◌}
use mathlib.Core.Path.{◌≡◌, refl, sym, ap, subst, ◌∙◌}
use mathlib.Core.List.{List, ◌∷◌, ◌++◌, map, append-nil, append_assoc}
use native.Mathlib.Omega.{arith}
use native.Mathlib.Numerals.{add-one}
use lib.ListN.{length, take, drop, get_or, set, drop_of_length-le, length-set, length-drop, length-append}
use lib.Seq.{take_all, set_at, length-take-le, take-suc, drop-cons, append_snoc, take-append-le, take-take, drop_at, drop-drop, take-add}
use Rattle.batch.specs.Batches.{Matched, zip_with}
use Rattle.batch.specs.Stretches.{Progress}
use Rattle.batch.proofs.Elements.{map_at, zip_at, zip_length, zip_take, zip_drop}

pub begin : {C : Type 0} {wanted before : List C} → length wanted ≡ length before → Progress wanted before 0 before
begin e = record { long = e; within = omega arith; filled = refl; kept = refl }

-- one result more
pub next : {C : Type 0} {wanted before now : List C} {i : ℕ} {v : C} → Progress wanted before i now → i < length before → v ≡ get_or wanted i v
    → Progress wanted before (i + 1) (set now i v)
next {C} {wanted} {before} {now} {i} {v} p h e =
    let k : i < length wanted = omega (arith, p.long) in
    let q : length (take i wanted) ≡ i = length-take-le i wanted (omega arith) in
    record {
      long = p.long;
      within = omega arith;
      filled =
          rw (p.filled, drop-cons before i v, set_at (take i wanted) (get_or before i v) (drop (suc i) before) v i q, add-one, take-suc wanted i v)
          (ap (λ (u : C). take i wanted ++ (u ∷ drop (suc i) before)) e ∙ sym (append_snoc (take i wanted) (get_or wanted i v) (drop (suc i) before)));
      kept = length-set now i v ∙ p.kept;
    }

-- f of one element more, and of one pair more
pub next_mapped : {A C : Type 0} (f : A → C) (xs : List A) {before now : List C} {i : ℕ} {x : A} {v : C} → Progress (map f xs) before i now → length xs ≡ length before
    → i < length before → x ≡ get_or xs i x → v ≡ f x → Progress (map f xs) before (i + 1) (set now i v)
next_mapped {A} {C} f xs {before} {now} {i} {x} {v} p l h e q = next p h (q ∙ ap f e ∙ sym (map_at f x v xs i (omega arith)))

pub next_zipped : {A B C : Type 0} (f : A → B → C) (xs : List A) (ys : List B) {before now : List C} {i : ℕ} {x : A} {y : B} {v : C} → Progress (zip_with f xs ys) before i now
    → Matched xs ys before → i < length before → x ≡ get_or xs i x → y ≡ get_or ys i y → v ≡ f x y
    → Progress (zip_with f xs ys) before (i + 1) (set now i v)
next_zipped {A} {B} {C} f xs ys {before} {now} {i} {x} {y} {v} p l h d e q =
    next p h (q ∙ (λ n. f (d n) (e n)) ∙ sym (zip_at f x y v xs ys i (omega (arith, l.0)) (omega (arith, l.1))))

-- the results from a place of those in place on to before another, lent as a part and put back
part : {C : Type 0} {wanted before now : List C} {i : ℕ} → Progress wanted before i now → (vs : List C) (a e : ℕ) → a ≤ i → i ≤ e → e ≤ length before
    → vs ≡ take (e - a) (drop a wanted) → Progress wanted before e (take a now ++ (vs ++ drop (e - a) (drop a now)))
part {C} {wanted} {before} {now} {i} p vs a e lo hi h same =
    let k : ℕ = e - a in
    let to : a + k ≡ e = omega arith in
    let q : length (take i wanted) ≡ i = length-take-le i wanted (omega (arith, p.long)) in
    let front : take a now ≡ take a wanted = ap (take a) p.filled ∙ take-append-le a (take i wanted) (drop i before) (omega arith) ∙ take-take a i wanted lo in
    let over : ℕ = e - i in
    let at : a + k ≡ i + over = omega arith in
    let back : drop k (drop a now) ≡ drop (a + k) before =
    drop-drop k a now
    ∙ ap (λ (t : ℕ). drop t now) at
    ∙ sym (drop-drop over i now)
    ∙ ap (λ (r : List C). drop over (drop i r)) p.filled
    ∙ ap (drop over) (drop_at (take i wanted) (drop i before) i q)
    ∙ drop-drop over i before
    ∙ ap (λ (t : ℕ). drop t before) (sym at) in
    let made : take a now ++ (vs ++ drop k (drop a now)) ≡ take (a + k) wanted ++ drop (a + k) before =
    (λ n. front n ++ (same n ++ back n))
    ∙ sym (append_assoc (take a wanted) (take k (drop a wanted)) (drop (a + k) before)) ∙ ap (λ (r : List C). r ++ drop (a + k) before) (sym (take-add a k wanted)) in
    subst (λ (t : ℕ). Progress wanted before t (take a now ++ (vs ++ drop k (drop a now)))) to
    record {
      long = p.long;
      within = omega arith;
      filled = made;
      kept = ap length made ∙ length-append (take (a + k) wanted) (drop (a + k) before) ∙ omega (arith, length-take-le (a + k) wanted (omega (arith, p.long)), length-drop (a + k) before);
    }

-- f of each pair of a part of both operands
pub part_pairs : {A B C : Type 0} (f : A → B → C) (xs : List A) (ys : List B) {before now : List C} {i : ℕ} → Progress (zip_with f xs ys) before i now
    → (vs : List C) (a e : ℕ) → a ≤ i → i ≤ e → e ≤ length before → vs ≡ zip_with f (take (e - a) (drop a xs)) (take (e - a) (drop a ys))
    → Progress (zip_with f xs ys) before e (take a now ++ (vs ++ drop (e - a) (drop a now)))
part_pairs f xs ys p vs a e lo hi h q =
    part p vs a e lo hi h (q ∙ zip_take f (e - a) (drop a xs) (drop a ys) ∙ ap (take (e - a)) (zip_drop f a xs ys))

-- the same of a place and of results that are these
pub same : {C : Type 0} {wanted before now after : List C} {i m : ℕ} → m ≡ i → after ≡ now → Progress wanted before i now → Progress wanted before m after
same {C} {wanted} {before} {now} {after} {i} d e p = subst (λ (t : ℕ). Progress wanted before t after) (sym d) (subst (Progress wanted before i) (sym e) p)

pub whole : {C : Type 0} {wanted before now : List C} {i : ℕ} → Progress wanted before i now → length before ≤ i → now ≡ wanted
whole {C} {wanted} {before} {now} {i} p h = p.filled ∙ rw (take_all i wanted (omega (arith, p.long)), drop_of_length-le before h) (append-nil wanted)

pub no_pairs : {A B C : Type 0} (f : A → B → C) (xs : List A) (ys : List B) {before : List C} → Matched xs ys before
    → Progress (zip_with f xs ys) before 0 before
no_pairs f xs ys l = begin (zip_length f xs ys (l.0 ∙ sym l.1) ∙ l.0)
