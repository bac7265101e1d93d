-- 2 ** (p_h + p_l), cut where the whole number nearest to z is taken off: what is left is raised by that number, and the word's sign is set. And the whole number by the digits of z's high word.
-- Over every width. Assumes nothing.
use Prim.Native.Nat.{ℕ, ◌+◌, ◌-◌, ◌*◌, ◌/◌, ◌%◌, ◌^◌}
use mathlib.Core.Path.{◌≡◌, refl, sym, ap, subst, ◌∙◌}
use mathlib.Core.Bool.{Bool, true, false, ◌||◌, cond}
use lib.Dec.{T, leb, ltb}
use lib.IntN.{sub_ℕ}
use lib.Ieee.{Float, add, sub, mul, fits, to_bits, of_bits, hid, top}
use lib.Ieee.Bits.{of_bits-fits}
use lib.Ieee.Fits.{cond-fits, mul-fits}
use Rattle.words.specs.Format.{one, ours}
use Rattle.scale.specs.Scale.{power}
use Rattle.power.specs.Width.{Width, Two, Nearest}
use Rattle.power.specs.Chain.{fate_of, nearest_of, parts_of, exponential_of, whole, raised_of, exp2_of, finish_of, sign_of}
use Rattle.power.specs.NoNan.{Number, Raisable, fraction_of}
use Rattle.power.specs.declared.answer.Fate.{Fate}
use Rattle.power.specs.declared.answer.Fate.TheVariants.{Over, Under, Within}
use Rattle.power.specs.Stages.{past_half, rest_of, lift_of}
use Rattle.power.proofs.Cases.{finish-ended}
use Rattle.power.proofs.SignOf.{signed_word}

module _ (w : Width) where
  module _ (p : Two) where
    abbrev z : Float
    z = add w.format p.lo p.hi

    abbrev j : ℕ
    j = to_bits w.format (add w.format p.lo p.hi) / 2 ^ w.below

    pub fraction-cut : fraction_of w p ≡ record { hi = rest_of w p.hi z; lo = p.lo }
    unfolding fraction_of rest_of
    fraction-cut = go (past_half w z)
      where
        go : (b : Bool) → cond b (record { hi = sub w.format p.hi (nearest_of w j).float; lo = p.lo }) p
            ≡ record { hi = cond b (sub w.format p.hi (nearest_of w j).float) p.hi; lo = p.lo }
        go true = refl
        go false = refl

    pub exp2-cut : exp2_of w p ≡ raised_of w (exponential_of w (parts_of w (record { hi = rest_of w p.hi z; lo = p.lo }))) (lift_of w z)
    unfolding exp2_of rest_of lift_of
    exp2-cut = go (past_half w z) (cond (leb (top w.format / 2 ^ w.below) j) (whole w - (nearest_of w j).size) (whole w + (nearest_of w j).size))
      where
        go : (b : Bool) (n : ℕ) → cond b (raised_of w (exponential_of w (parts_of w (record { hi = sub w.format p.hi (nearest_of w j).float; lo = p.lo }))) n)
            (raised_of w (exponential_of w (parts_of w p)) (whole w))
            ≡ raised_of w (exponential_of w (parts_of w (record { hi = cond b (sub w.format p.hi (nearest_of w j).float) p.hi; lo = p.lo }))) (cond b n (whole w))
        go true n = refl
        go false n = refl

    -- h is what is left of p_h, and e the whole number
    module _ (h : Float) (e : ℕ) (hi : h ≡ rest_of w p.hi z) (lift : e ≡ lift_of w z) where
      pub cut-number : Raisable w p → Number (exponential_of w (parts_of w (record { hi = h; lo = p.lo })))
      cut-number r = subst (λ (q : Two). Number (exponential_of w (parts_of w q))) (fraction-cut ∙ (λ i. record { hi = sym hi i; lo = p.lo })) r.exponential

      pub cut-raised : raised_of w (exponential_of w (parts_of w (record { hi = h; lo = p.lo }))) e ≡ exp2_of w p
      cut-raised = (λ i. raised_of w (exponential_of w (parts_of w (record { hi = hi i; lo = p.lo }))) (lift i)) ∙ sym exp2-cut

    -- ---- the end, with the sign s: v is the word of 2 ** (p_h + p_l)
    raised-fits : (x : Float) (e : ℕ) → T (fits w.format (raised_of w x e))
    unfolding raised_of
    raised-fits x e =
        let f = w.format in
        let b = 2 ^ w.below in
        let k = (to_bits f x / b + e * (hid f / b)) % (2 * (top f / b)) in
        let y = power (sub_ℕ e (whole w)) in
        let v = k * b + to_bits f x % b in
        cond-fits f (leb (top f / b) k || ltb k (hid f / b)) (mul f x y) (of_bits f v) (mul-fits f x y) (of_bits-fits f v)

    pub finish-within : (s : Bool) → Number (exp2_of w p) → {f : Fate} → f ≡ fate_of w Over Under Within p → f ≡ Within → {v r : ℕ} → v ≡ to_bits w.format (exp2_of w p)
        → r ≡ cond s ((v + top w.format) % (2 * top w.format)) v → r ≡ to_bits w.format (finish_of w p (sign_of w s))
    finish-within s n e t k q =
        q
        ∙ ap (λ (v : ℕ). cond s ((v + top w.format) % (2 * top w.format)) v) k
        ∙ sym (signed_word w (exp2_of w p) (subst (λ (x : Float). T (fits w.format x)) (sym exp2-cut) (raised-fits _ _)) n s)
        ∙ ap (to_bits w.format) (finish-ended w p (sign_of w s) e t refl)

  -- ---- the whole number by digits: v is z's high word, and n the whole number nearest to z, which v's sign adds or takes off
  module _ (h z : Float) {v : ℕ} (e : v ≡ to_bits w.format z / 2 ^ w.below) where
    abbrev past : Bool
    past = ltb ((one (ours w.format) - hid w.format) / 2 ^ w.below) (v % (top w.format / 2 ^ w.below))

    pub taken-off : past ≡ true → (n : Nearest) → n ≡ nearest_of w v → (s : Bool) → leb (top w.format / 2 ^ w.below) v ≡ s
        → (sub w.format h n.float ≡ rest_of w h z) × (cond s (whole w - n.size) (whole w + n.size) ≡ lift_of w z)
    unfolding rest_of lift_of
    taken-off t n i s k = (rw (← e, t, i) refl, rw (← e, t, i, k) refl)

    pub left_alone : past ≡ false → (h ≡ rest_of w h z) × (whole w ≡ lift_of w z)
    unfolding rest_of lift_of
    left_alone t = (rw (← e, t) refl, rw (← e, t) refl)
