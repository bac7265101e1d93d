-- Where an answer of the chain is no NaN, neither are the numbers that it was made of: a NaN would have gone through. Over the width. Assumes nothing.
-- So the code of the chain takes leading parts without a test, if the second part of its answer is no NaN.
use Prim.Native.Nat.{◌+◌}
use mathlib.Core.Path.{◌≡◌, refl, sym, ap, ◌∙◌}
use mathlib.Core.Bool.{true≢false}
use lib.Ieee.{Float, nan, inf, fin, add, sub, mul, div, is_nan}
use Rattle.power.specs.Width.{Width, Two, Three, Reduction}
use Rattle.power.specs.Places.{BP, DP-H, DP-L, LG2, LG2-H, LG2-L}
use Rattle.power.specs.Chain.{at, #1, #3, con, chop, split_of, head_of, quotient_of, series_of, logarithm_of, sum_of, log2_of, exponent_of, far_at, parts_of, exponential_of}
use Rattle.power.specs.NoNan.{Number}
use Rattle.power.proofs.Nan.{add-nan-l, add-nan-r, sub-nan-l, sub-nan-r, mul-nan-l, mul-nan-r, div-nan-l}

number_of : (F : Float → Float) (x : Float) → F nan ≡ nan → Number (F x) → Number x
unfolding is_nan
number_of F nan e h = absurd (true≢false (sym (ap is_nan e) ∙ h))
number_of F (inf s) e h = refl
number_of F (fin s m k) e h = refl

module _ (w : Width) where
  -- the chain's operations, as its definitions write them
  infixl 20 ◌⊕◌ ◌⊖◌
  infixl 30 ◌⊗◌ ◌⊘◌
  abbrev ◌⊕◌ : Float → Float → Float
  x ⊕ y = add w.format x y

  abbrev ◌⊖◌ : Float → Float → Float
  x ⊖ y = sub w.format x y

  abbrev ◌⊗◌ : Float → Float → Float
  x ⊗ y = mul w.format x y

  abbrev ◌⊘◌ : Float → Float → Float
  x ⊘ y = div w.format x y

  module _ (short : chop w w.short nan ≡ nan) where
    -- x without the digits that a leading part lacks
    abbrev led : Float → Float
    led x = chop w w.short x

    -- ---- a leading part is taken of u + v
    pub split-sum : (u v : Float) → Number (split_of w u v).lo → Number (u ⊕ v)
    unfolding split_of
    split-sum u v h = number_of (λ t. v ⊖ (led t ⊖ u)) (u ⊕ v) (simp (short, sub-nan-l, sub-nan-r)) h

    -- ---- of s
    pub quotient-s : (ax bp t-h : Float) → Number (quotient_of w ax bp t-h).lo → Number (quotient_of w ax bp t-h).s
    unfolding quotient_of
    quotient-s ax bp t-h h = number_of
        (λ s. #1 w ⊘ (ax ⊕ bp) ⊗ (((ax ⊖ bp) ⊖ led s ⊗ t-h) ⊖ led s ⊗ (ax ⊖ (t-h ⊖ bp))))
        (quotient_of w ax bp t-h).s (simp (short, mul-nan-l, mul-nan-r, sub-nan-l, sub-nan-r)) h

    -- ---- of 3 + s_h * s_h + r
    pub logarithm-t : (q : Three) (r : Float) → Number (logarithm_of w q r).lo → Number (#3 w ⊕ q.hi ⊗ q.hi ⊕ r)
    unfolding logarithm_of split_of
    logarithm-t q r h =
        let s2 = q.hi ⊗ q.hi in
        number_of (λ t. (split_of w (q.hi ⊗ led t) (q.lo ⊗ led t ⊕ (r ⊖ ((led t ⊖ #3 w) ⊖ s2)) ⊗ q.s)).lo)
        (#3 w ⊕ s2 ⊕ r) (simp (short, mul-nan-l, mul-nan-r, add-nan-l, sub-nan-l, sub-nan-r)) h

    -- ---- of z_h + z_l + dp_h + t
    pub sum_first : (z-h z-l dp-h t : Float) → Number (sum_of w z-h z-l dp-h t).lo → Number ((z-h ⊕ z-l) ⊕ dp-h ⊕ t)
    unfolding sum_of
    sum_first z-h z-l dp-h t h = number_of (λ x. z-l ⊖ (((led x ⊖ t) ⊖ dp-h) ⊖ z-h)) ((z-h ⊕ z-l) ⊕ dp-h ⊕ t) (simp (short, sub-nan-l, sub-nan-r)) h

    -- ---- the logarithm's stages, from its answer back
    log2-product : (p : Two) (dp-h dp-l t : Float) → Number (log2_of w p dp-h dp-l t).lo → Number p.lo
    unfolding log2_of sum_of
    log2-product p dp-h dp-l t h = number_of (λ x. (log2_of w (record { hi = p.hi; lo = x }) dp-h dp-l t).lo) p.lo (simp (mul-nan-l, add-nan-l, add-nan-r, sub-nan-l)) h

    logarithm-quotient : (q : Three) (r : Float) → Number (logarithm_of w q r).lo → Number q.lo
    unfolding logarithm_of split_of
    logarithm-quotient q r h = number_of (λ x. (logarithm_of w (record { s = q.s; hi = q.hi; lo = x }) r).lo) q.lo (simp (mul-nan-l, add-nan-l, sub-nan-l)) h

    abbrev ratio : Reduction → Three
    ratio r = quotient_of w (at w r.word) (con w (BP + r.k)) (head_of w r.word r.k)

    pub far-logarithm : (r : Reduction) → Number (far_at w r).lo → Number (logarithm_of w (ratio r) (series_of w (ratio r))).lo
    unfolding far_at
    far-logarithm r h =
        log2-product (logarithm_of w (ratio r) (series_of w (ratio r))) (con w (DP-H + r.k)) (con w (DP-L + r.k)) (exponent_of w r.e) h

    pub far-quotient : (r : Reduction) → Number (far_at w r).lo → Number (ratio r).lo
    far-quotient r h = logarithm-quotient (ratio r) (series_of w (ratio r)) (far-logarithm r h)

  -- ---- the exponential's leading part is taken of p_l + p_h
  pub exponential-sum : (p : Two) → chop w w.shorter nan ≡ nan → Number (exponential_of w (parts_of w p)) → Number (p.lo ⊕ p.hi)
  unfolding exponential_of parts_of
  exponential-sum p shorter h = number_of
      (λ s.
      let t = chop w w.shorter s in
      let u = t ⊗ con w LG2-H in
      let v = (p.lo ⊖ (t ⊖ p.hi)) ⊗ con w LG2 ⊕ t ⊗ con w LG2-L in
      let z = u ⊕ v in
      exponential_of w (record { hi = z; lo = v ⊖ (z ⊖ u) }))
      (p.lo ⊕ p.hi) (simp (shorter, mul-nan-l, add-nan-l, sub-nan-l, sub-nan-r, div-nan-l)) h
