-- A number in hexadecimal on its way: the digits that are read give a value, and the rest of the text follows it. Assumes nothing.
use Prim.Native.Nat.{ℕ, suc, ◌+◌, ◌*◌, ◌^◌, ◌≤◌, ◌<◌}
use mathlib.Core.Path.{◌≡◌, refl, sym, ap, subst, ◌∙◌}
use mathlib.Core.Bool.{Bool, true, false, ◌&&◌}
use mathlib.Core.List.{List, [], ◌∷◌}
use native.Mathlib.Omega.{arith}
use native.Mathlib.Numerals.{add-one}
use native.Mathlib.Nat.{zero-add, add-zero}
use lib.Dec.{ltb}
use lib.ListN.{length, drop, get_or, drop_of_length-le}
use lib.Seq.{drop-cons}
use lib.Pow.{pow_mono, pow-add}
use borrow.Author.Tests.{lt-ltb, ltb-true}
use Rattle.std.proofs.Common.{cond, Some, None}
use Rattle.std.proofs.lemmas.Bool.{and_parts}
use Rattle.std.proofs.lemmas.Option.{cond_some}
use Rattle.lists.specs.Digits.{digit_of, read_digit, hexadecimal, number_from, number_of, read_number}

pub record Reading (s : List ℕ) (value i : ℕ) : Type 0 where
  pub good : hexadecimal s ≡ hexadecimal (drop i s)
  pub rest : number_of s ≡ number_from value (drop i s)
  pub small : value < 2 ^ (4 * i)
  pub few : length s ≤ 16

pub begin : {s : List ℕ} → length s ≤ 16 → Reading s 0 0
begin h = record { good = refl; rest = refl; small = omega arith; few = h }

-- sixteen times as much
four : (i : ℕ) → 2 ^ (4 * (i + 1)) ≡ 2 ^ (4 * i) * 16
four i = let e : 4 * (i + 1) ≡ 4 * i + 4 = omega arith in rw e (pow-add 2 (4 * i) 4)

grow : (v d q : ℕ) → v < q → d < 16 → v * 16 + d < q * 16
grow v d q h l = omega arith

hex-cons : (c : ℕ) (s : List ℕ) → digit_of c < 16 → hexadecimal (c ∷ s) ≡ hexadecimal s
unfolding hexadecimal
hex-cons c s h = ap (λ (b : Bool). b && hexadecimal s) (lt-ltb (digit_of c) 16 h)

-- where a test says no there is nothing
pub cond-none : {A : Type 0} (b : Bool) (x : A) → cond b (Some x) None ≡ None → b ≡ false
cond-none true x e = absurd (cc)
cond-none false x e = refl

-- a digit that was read
pub digit-some : (c : ℕ) {d : ℕ} → read_digit c ≡ Some d → (d ≡ digit_of c) × (d < 16)
digit-some c e =
    let t = cond_some (ltb (digit_of c) 16) _ _ e in
    (sym t.1, subst (λ (z : ℕ). z < 16) t.1 (ltb-true (digit_of c) 16 t.0))

module _ {s : List ℕ} {value i : ℕ} (r : Reading s value i) where
  -- a digit
  pub next : {d : ℕ} → i < length s → read_digit (get_or s i 0) ≡ Some d → Reading s (value * 16 + d) (i + 1)
  unfolding number_from
  next {d} h k =
      let e = (digit-some (get_or s i 0) k).0 in
      let l = (digit-some (get_or s i 0) k).1 in
      record {
        good =
            r.good ∙ ap hexadecimal (drop-cons s i 0 h)
            ∙ hex-cons (get_or s i 0) (drop (suc i) s) (subst (λ (z : ℕ). z < 16) e l)
            ∙ ap (λ (n : ℕ). hexadecimal (drop n s)) (sym (add-one i));
        rest = r.rest ∙ ap (number_from value) (drop-cons s i 0 h) ∙ (λ k. number_from (value * 16 + sym e k) (drop (sym (add-one i) k) s));
        small = rw (four i) (grow value d (2 ^ (4 * i)) r.small l);
        few = r.few;
      }

  -- any other character
  pub bad : i < length s → read_digit (get_or s i 0) ≡ None → read_number s ≡ None
  unfolding hexadecimal
  bad h k = let g : hexadecimal s ≡ false = r.good ∙ rw (drop-cons s i 0 h, cond-none (ltb (digit_of (get_or s i 0)) 16) _ k) in rw g

  -- the end of the text
  pub end : length s ≤ i → read_number s ≡ Some value
  unfolding hexadecimal number_from
  end h =
      let g : hexadecimal s ≡ true = r.good ∙ rw (drop_of_length-le s h) in
      let n : number_of s ≡ value = r.rest ∙ rw (drop_of_length-le s h) in
      rw (g, n)

  -- there is room for one digit more
  pub room : i < length s → value < 2 ^ 60
  room h = omega (arith, r.small, pow_mono {i = 4 * i} {j = 60} (omega (arith, r.few)))

-- a number of k digits is below 2 ^ (4 * k)
pub number-from-below : (s : List ℕ) (n k : ℕ) → hexadecimal s ≡ true → n < 2 ^ (4 * k) → number_from n s < 2 ^ (4 * (k + length s))
unfolding hexadecimal number_from
number-from-below [] n k h l = subst (λ (z : ℕ). n < 2 ^ (4 * z)) (sym (add-zero k)) l
number-from-below (c ∷ s) n k h l =
    let b = and_parts (ltb (digit_of c) 16) (hexadecimal s) h in
    subst (λ (z : ℕ). number_from (n * 16 + digit_of c) s < 2 ^ (4 * z)) (shift k (length s))
    (number-from-below s (n * 16 + digit_of c) (k + 1) b.1
    (subst (λ (z : ℕ). n * 16 + digit_of c < z) (sym (four k)) (grow n (digit_of c) (2 ^ (4 * k)) l (ltb-true (digit_of c) 16 b.0))))
  where
    shift : (k m : ℕ) → (k + 1) + m ≡ k + suc m
    shift k m = omega arith

pub number-below : (s : List ℕ) (w : ℕ) → length s ≡ w → hexadecimal s ≡ true → number_of s < 2 ^ (4 * w)
number-below s w e h = subst (λ (z : ℕ). number_of s < 2 ^ (4 * z)) (zero-add (length s) ∙ e) (number-from-below s 0 0 h (omega arith))

-- so a text is read digit by digit
pub ruleset reading = (digit-some, bad, end, room)
