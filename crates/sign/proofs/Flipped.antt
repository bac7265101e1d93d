-- A word and the word with the other sign bit: m without the sign, top + m with it. Over any format.
use mathlib.Core.Path.{◌≡◌, refl, sym, ap, ◌∙◌, subst}
use Prim.Native.Nat.{ℕ, ◌+◌, ◌-◌, ◌*◌, ◌%◌, ◌≤◌, ◌<◌}
use native.Mathlib.Nat.{mod-eq_of_lt, add-mod_left, zero-add, le-add_right, add-sub_of_le}
use native.Mathlib.Omega.{arith}
use mathlib.Core.Bool.{Bool, true, false, not}
use lib.Dec.{leb, ltb, ltb→lt, nltb→le}
use borrow.Author.Tests.{le-leb, lt-leb}
use Rattle.words.specs.Format.{Format, top, signed}
use Rattle.bounds.proofs.Choice.{choose}
use Rattle.sign.specs.Sign.{flipped}

module _ (f : Format) where
  -- the size and the sign of top + m
  pub minus-size : (m : ℕ) → m < top f → (top f + m) % top f ≡ m
  minus-size m h = add-mod_left (top f) m ∙ mod-eq_of_lt h

  pub minus-sign : (m : ℕ) → leb (top f) (top f + m) ≡ true
  minus-sign m = le-leb (top f) (top f + m) (le-add_right (top f) m)

  -- m and top + m are each other's flipped words
  pub plus-flipped : (m : ℕ) → m < top f → flipped f m ≡ top f + m
  plus-flipped m h = rw (lt-leb (top f) m h, mod-eq_of_lt h) refl

  pub minus-flipped : (m : ℕ) → m < top f → flipped f (top f + m) ≡ m
  minus-flipped m h = rw (minus-sign m, minus-size m h) (zero-add m)

  pub flipped_signed : (s : Bool) (m : ℕ) → m < top f → flipped f (signed f s m) ≡ signed f (not s) m
  flipped_signed true m h = minus-flipped m h ∙ sym (zero-add m)
  flipped_signed false m h = ap (flipped f) (zero-add m) ∙ plus-flipped m h

  -- every word is one or the other
  pub by_sign : (P : ℕ → Type 0) → ((m : ℕ) → m < top f → P m) → ((m : ℕ) → m < top f → P (top f + m)) → (x : ℕ) → x < 2 * top f → P x
  by_sign P p q x h = choose (ltb x (top f)) (λ t. p x (ltb→lt x (top f) t))
      (λ t. let l = nltb→le x (top f) t in subst P (add-sub_of_le l) (q (x - top f) (less x (top f) l h)))
    where
      less : (x c : ℕ) → c ≤ x → x < 2 * c → x - c < c
      less x c h k = omega arith

  pub flipped-twice : (x : ℕ) → x < 2 * top f → flipped f (flipped f x) ≡ x
  flipped-twice = by_sign (λ x. flipped f (flipped f x) ≡ x)
      (λ m h. ap (flipped f) (plus-flipped m h) ∙ minus-flipped m h)
      (λ m h. ap (flipped f) (minus-flipped m h) ∙ plus-flipped m h)
