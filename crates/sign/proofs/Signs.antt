-- Changing the sign of an x that is no NaN changes the sign bit of the power when y is odd, and no bit when y is even: at both widths. Assumes nothing.
use mathlib.Core.Path.{◌≡◌, refl, sym, ap, ◌∙◌}
use Prim.Native.Nat.{ℕ, zero, suc, ◌*◌, ◌≤◌, ◌<◌}
use native.Mathlib.Nat.{mod-eq_of_lt, zero-lt-suc}
use mathlib.Core.Bool.{true, false, true≢false}
use lib.Dec.{ltb}
use lib.Ieee.{Format, top}
use borrow.Author.Tests.{ltb-false}
use Rattle.words.specs.Format.{infinity, magnitude, is_nan_word, ours}
use Rattle.words.specs.Format as Words
use Rattle.power.specs.Numbers.{whole, odd}
use Rattle.power.specs.Width.{Width}
use Rattle.power.specs.Power.{single, double, pow_of}
use Rattle.power.proofs.Edges.{Finite}
use Rattle.power.proofs.AnnexF.{to-zero}
use Rattle.bounds.proofs.Choice.{equal}
use Rattle.chain.proofs.Known.{Known}
use Rattle.chain.proofs.Widths.{known32, known64}
use Rattle.sign.specs.Sign.{flipped, Signs}
use Rattle.sign.proofs.Flipped.{plus-flipped, minus-flipped, minus-size, by_sign, flipped-twice}
use Rattle.sign.proofs.Parity.{parities}
use Rattle.sign.proofs.OddPowers.{odd-turns}
use Rattle.sign.proofs.EvenPowers.{even-keep}

-- a size that is no NaN's
size_number : (g : Words.Format) {m n : ℕ} → n ≡ m → ltb (infinity g) n ≡ false → m ≤ infinity g
size_number g {m} e h = ltb-false (infinity g) m (rw e at h)

some : (m : ℕ) → (m ≡ 0 → ⊥) → 0 < m
some zero h = absurd (h refl)
some (suc m) h = zero-lt-suc m

module _ (w : Width) (K : Known w) where
  abbrev f : Format
  f = w.format

  abbrev g : Words.Format
  g = ours w.format

  odd-flips : (x y : ℕ) → x < 2 * top f → is_nan_word g x ≡ false → magnitude g y < infinity g → odd g (magnitude g y) ≡ true
      → pow_of w (flipped g x) y ≡ flipped g (pow_of w x y)
  odd-flips x y hx nx hy o =
      let h : Finite f y = record {
        some = some (magnitude g y) (λ (e : magnitude g y ≡ 0). true≢false (sym o ∙ ap (odd g) e ∙ (parities f).zero-even));
        below = hy;
      } in
      by_sign g (λ x. is_nan_word g x ≡ false → pow_of w (flipped g x) y ≡ flipped g (pow_of w x y))
      (λ m l n.
      let r = odd-turns w K m y (size_number g (mod-eq_of_lt l) n) h o in
      ap (λ (z : ℕ). pow_of w z y) (plus-flipped g m l) ∙ r.0)
      (λ m l n.
      let r = odd-turns w K m y (size_number g (minus-size g m l) n) h o in
      ap (λ (z : ℕ). pow_of w z y) (minus-flipped g m l) ∙ sym (flipped-twice g (pow_of w m y) r.1) ∙ ap (flipped g) (sym r.0))
      x hx nx

  even-keeps : (x y : ℕ) → x < 2 * top f → is_nan_word g x ≡ false → magnitude g y < infinity g → whole g (magnitude g y) ≡ true → odd g (magnitude g y) ≡ false
      → pow_of w (flipped g x) y ≡ pow_of w x y
  even-keeps x y hx nx hy k o =
      equal (magnitude g y) 0
      (λ (e : magnitude g y ≡ 0). to-zero w (flipped g x) y e ∙ sym (to-zero w x y e))
      (λ (ne : magnitude g y ≡ 0 → ⊥).
      let h : Finite f y = record { some = some (magnitude g y) ne; below = hy } in
      by_sign g (λ x. is_nan_word g x ≡ false → pow_of w (flipped g x) y ≡ pow_of w x y)
      (λ m l n. ap (λ (z : ℕ). pow_of w z y) (plus-flipped g m l) ∙ even-keep w m y (size_number g (mod-eq_of_lt l) n) h k o)
      (λ m l n. ap (λ (z : ℕ). pow_of w z y) (minus-flipped g m l) ∙ sym (even-keep w m y (size_number g (minus-size g m l) n) h k o))
      x hx nx)

  signs : Signs w
  signs = record { odd-flips = odd-flips; even-keeps = even-keeps }

pub signs32 : Signs single
signs32 = signs single known32

pub signs64 : Signs double
signs64 = signs double known64
