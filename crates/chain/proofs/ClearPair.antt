-- A clear pair walks the chain to its end: its logarithm is no NaN, and the two parts of its product with y are finite. Over the width. Assumes nothing.
use mathlib.Core.Path.{◌≡◌, subst}
use Prim.Native.Nat.{ℕ}
use mathlib.Core.Bool.{false}
use lib.Ieee.{nan, of_bits}
use Rattle.power.specs.Width.{Width, Two}
use Rattle.power.specs.Chain.{chop, reduced_of, series_of, logarithm_of, far_of, product_of}
use Rattle.power.specs.NoNan.{Number, Finite}
use Rattle.power.specs.Stages.{ratio_of}
use Rattle.power.proofs.MadeOf.{far-quotient, far-logarithm}
use Rattle.power.proofs.Clear.{Clear, Room, clear-open, clear-reaches, clear-log}
use Rattle.chain.proofs.Known.{Known}
use Rattle.chain.proofs.Numbers.{walked, product-finite}

module _ (w : Width) (K : Known w) (R : Room w) {x y : ℕ} (c : Clear w x y) where
  pub far-number : Number (far_of w x).lo
  far-number = subst (λ (t : Two). Number t.lo) (clear-log w R c) (walked w K x y false (clear-open w R c) (clear-reaches w R c)).logarithm.1

  pub parts-finite : Finite (product_of w (of_bits w.format y) (far_of w x)).hi × Finite (product_of w (of_bits w.format y) (far_of w x)).lo
  parts-finite =
      subst (λ (t : Two). Finite (product_of w (of_bits w.format y) t).hi × Finite (product_of w (of_bits w.format y) t).lo) (clear-log w R c)
      (product-finite w K x y (clear-open w R c) (clear-reaches w R c))

  -- so the logarithm's stages are no NaNs, if the leading part of a NaN is one
  pub ratio-number : chop w w.short nan ≡ nan → Number (ratio_of w x).lo
  unfolding ratio_of far_of
  ratio-number e = far-quotient w e (reduced_of w x) far-number

  pub logarithm-number : chop w w.short nan ≡ nan → Number (logarithm_of w (ratio_of w x) (series_of w (ratio_of w x))).lo
  unfolding ratio_of far_of
  logarithm-number e = far-logarithm w e (reduced_of w x) far-number
