-- The stages of the logarithm, lane by lane: what each leaves is the chain's, since it keeps what the later ones read. Over the width. Assumes nothing.
use Prim.Native.Nat.{ℕ, ◌+◌}
use mathlib.Core.Path.{◌≡◌, sym, ap, ◌∙◌}
use lib.Ieee.{Float}
use Rattle.power.specs.Width.{Width}
use Rattle.power.specs.Places.{DP-H, DP-L}
use Rattle.power.specs.Chain.{con, exponent_of, far_of, log2_of, logarithm_of, product_of, reduced_of, series_of}
use Rattle.power.specs.Stages.{ratio_of, times_of}
use Rattle.power.proofs.Blocks.{log2-is, logarithm-is, product_is}
use Rattle.pow.specs.declared.lane.Lane.{Lane}
use Rattle.pow.specs.Parts.{three_in, two_in}

module _ {F W : Type 0} (w : Width) (value : F → Float) (number : W → ℕ) where
  -- what the stages promise of a lane, from one to the next
  abbrev pub Started : Lane F W → Lane F W → Type 0
  Started l m =
      (number m.w ≡ (reduced_of w (number l.w)).k) × (three_in value m ≡ ratio_of w (number l.w)) × (value m.t ≡ exponent_of w (reduced_of w (number l.w)).e)
      × (m.flag ≡ l.flag) × (m.e ≡ l.e)

  abbrev pub Summed : Lane F W → Lane F W → Type 0
  Summed l m =
      (value m.r ≡ series_of w (three_in value l)) × (m.flag ≡ l.flag) × (m.w ≡ l.w) × (m.e ≡ l.e) × (three_in value m ≡ three_in value l) × (m.t ≡ l.t)

  abbrev pub Logged : Lane F W → Lane F W → Type 0
  Logged l m =
      (two_in value m ≡ logarithm_of w (three_in value l) (value l.r)) × (m.flag ≡ l.flag) × (m.w ≡ l.w) × (m.e ≡ l.e) × (m.t ≡ l.t)

  module _ (a b c : Lane F W) (s : Started a b) (q : Summed b c) where
    pub logarithm : logarithm_of w (three_in value c) (value c.r) ≡ logarithm_of w (ratio_of w (number a.w)) (series_of w (ratio_of w (number a.w)))
    logarithm = logarithm-is w (number a.w) (q.4 ∙ s.1) (q.0 ∙ ap (series_of w) (sym q.4))

    module _ (d : Lane F W) (p : Logged c d) where
      pub interval : number d.w ≡ (reduced_of w (number a.w)).k
      interval = ap number (p.2 ∙ q.2) ∙ s.0

      pub flag : d.flag ≡ a.flag
      flag = p.1 ∙ q.1 ∙ s.3

      pub word : d.e ≡ a.e
      word = p.3 ∙ q.3 ∙ s.4

      time : value d.t ≡ exponent_of w (reduced_of w (number a.w)).e
      time = ap value (p.4 ∙ q.5) ∙ s.2

      pub logarithm-two : log2_of w (two_in value d) (con w (DP-H + number d.w)) (con w (DP-L + number d.w)) (value d.t) ≡ far_of w (number a.w)
      logarithm-two = log2-is w (number a.w) (p.0 ∙ logarithm) interval time

      pub product : (f : ℕ → Float) → times_of w (f (number d.e)) (two_in value d) (number d.w) (value d.t) ≡ product_of w (f (number a.e)) (far_of w (number a.w))
      product f =
          ap (λ (v : W). times_of w (f (number v)) (two_in value d) (number d.w) (value d.t)) word
          ∙ product_is w (f (number a.e)) (number a.w) (p.0 ∙ logarithm) interval time
