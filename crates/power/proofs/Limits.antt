-- What becomes of an open power, by the word j of z = p_l + p_h: overflow, underflow or neither, and what the fate says of j. Over every width. Assumes nothing.
use Prim.Native.Nat.{ℕ, ◌+◌, ◌-◌, ◌*◌, ◌%◌, ◌<◌, ◌≤◌}
use mathlib.Core.Path.{◌≡◌, refl}
use mathlib.Core.Bool.{Bool, true, false, cond, ◌||◌}
use mathlib.Core.Logic.{◌⊎◌, inl, inr, ⊎_elim}
use native.Mathlib.Nat.{le_trans, le_of_eq, mod-le, mod-eq_of_lt, mod-eq-sub-mod}
use native.Mathlib.Omega.{arith}
use lib.Dec.{ltb}
use lib.Ieee.{Float, nan, inf, fin, add, sub, lt, le, is_nan, to_bits, top}
use borrow.Author.Tests.{lt-ltb, le-ltb, eq-eqb, ne_eqb, ltb-true, ltb-false}
use Rattle.power.specs.declared.answer.Fate.TheVariants.{Over, Under, Within}
use Rattle.words.specs.Format.{quiet, ours}
use Rattle.words.proofs.Words.{quiet-below}
use Rattle.words.proofs.Floats.{to_bits_nan}
use Rattle.power.specs.NoNan.{Number}
use Rattle.power.specs.Places.{OVT}
use Rattle.power.specs.Width.{Width, Two}
use Rattle.power.specs.Chain.{con, fate_of}

abbrev sum : Width → Two → Float
sum w p = add w.format p.lo p.hi

-- what z has lost
abbrev lost : Width → Two → Float
lost w p = sub w.format (sum w p) p.hi

module _ (w : Width) (p : Two) {j : ℕ} (e : j ≡ to_bits w.format (sum w p)) where
  -- z is positive and above the limit; at the limit what z has lost decides, against o, the constant OVT
  pub fate-above : j < top w.format → w.large < j → Over ≡ fate_of w Over Under Within p
  unfolding fate_of
  fate-above t h = rw (← e, lt-ltb j (top w.format) t, lt-ltb w.large j h) refl

  pub fate-at-large : w.large ≤ j % top w.format → j < top w.format → j ≤ w.large → {o : Float} → o ≡ con w OVT → (b : Bool) → lt (lost w p) (add w.format p.lo o) ≡ b → cond b Over Within ≡ fate_of w Over Under Within p
  unfolding fate_of
  fate-at-large g t h c b d =
      let m = mod-eq_of_lt t in
      rw (← e, lt-ltb j (top w.format) t, le-ltb w.large j h, eq-eqb j w.large (omega arith), ← c, d) refl

  -- z is negative and its size above the limit, at it, and neither
  pub fate-below : top w.format ≤ j → top w.format + w.small < j → Under ≡ fate_of w Over Under Within p
  unfolding fate_of
  fate-below t h = rw (← e, le-ltb j (top w.format) t, lt-ltb (top w.format + w.small) j h) refl

  pub fate-at-small : top w.format ≤ j → j ≡ top w.format + w.small → (b : Bool) → le p.lo (lost w p) ≡ b → cond b Under Within ≡ fate_of w Over Under Within p
  unfolding fate_of
  fate-at-small t h b d =
      rw (← e, le-ltb j (top w.format) t, le-ltb (top w.format + w.small) j (omega arith), eq-eqb j (top w.format + w.small) h, d) refl

  pub fate-not-below : top w.format ≤ j → j ≤ top w.format + w.small → (j ≡ top w.format + w.small → ⊥) → Within ≡ fate_of w Over Under Within p
  unfolding fate_of
  fate-not-below t h n =
      rw (← e, le-ltb j (top w.format) t, le-ltb (top w.format + w.small) j h, ne_eqb j (top w.format + w.small) n) refl

  -- a size within both limits
  pub fate-inside : j < 2 * top w.format → j % top w.format < w.large → w.large ≤ w.small → Within ≡ fate_of w Over Under Within p
  unfolding fate_of
  fate-inside f h l = go (ltb j (top w.format)) refl
    where
      past : (t n : ℕ) → t ≤ n → n < 2 * t → n ≡ t + n % t
      past t n g f = let s = mod-eq-sub-mod g in let r : (n - t) % t ≡ n - t = mod-eq_of_lt (omega arith) in omega arith

      go : (t : Bool) → ltb j (top w.format) ≡ t → Within ≡ fate_of w Over Under Within p
      go true g =
          let m = mod-eq_of_lt (ltb-true j (top w.format) g) in
          rw (← e, g, le-ltb w.large j (omega arith), ne_eqb j w.large (λ q. omega arith)) refl
      go false g =
          let t = ltb-false j (top w.format) g in
          let m = past (top w.format) j t f in
          fate-not-below t (omega arith) (λ q. omega arith)

-- ---- from the fate to j

abbrev pub Inside : Width → ℕ → Type 0
Inside w j = (j ≤ w.large) ⊎ ((top w.format ≤ j) × (j ≤ top w.format + w.small))

within-at : {A : Type 0} (w : Width) (x y z : A) (n1 : x ≡ z → ⊥) (n2 : y ≡ z → ⊥) (j : ℕ) (t u v a b : Bool) → ltb j (top w.format) ≡ t → ltb w.large j ≡ u → ltb (top w.format + w.small) j ≡ v → cond t (cond (u || a) x z) (cond (v || b) y z) ≡ z → Inside w j
within-at w x y z n1 n2 j true true v a b p q r e = absurd (n1 e)
within-at w x y z n1 n2 j true false v a b p q r e = inl (ltb-false w.large j q)
within-at w x y z n1 n2 j false u true a b p q r e = absurd (n2 e)
within-at w x y z n1 n2 j false u false a b p q r e = inr (ltb-false j (top w.format) p, ltb-false (top w.format + w.small) j r)

pub over-within : Over ≡ Within → ⊥
over-within e = let z : ◌≡◌ {A = ℕ} 0 1 = cc in omega arith

pub under-within : Under ≡ Within → ⊥
under-within e = let z : ◌≡◌ {A = ℕ} 0 1 = cc in omega arith

pub within : (w : Width) (p : Two) → fate_of w Over Under Within p ≡ Within → Inside w (to_bits w.format (sum w p))
unfolding fate_of
within w p e = within-at w Over Under Within over-within under-within (to_bits w.format (sum w p)) _ _ _ _ _ refl refl refl e

-- a z within the limits is no NaN, whose word stands between them
pub within-number : (w : Width) (p : Two) → w.large < quiet (ours w.format) → fate_of w Over Under Within p ≡ Within → Number (sum w p)
unfolding is_nan
within-number w p l e = by (sum w p) (within w p e)
  where
    q : ℕ
    q = quiet (ours w.format)

    between : (n : ℕ) → n ≡ q → Inside w n → ⊥
    between n e (inl h) = omega (arith, e, h, l)
    between n e (inr h) = omega (arith, e, h.0, quiet-below (ours w.format))

    by : (z : Float) → Inside w (to_bits w.format z) → Number z
    by nan i = absurd (between (to_bits w.format nan) (to_bits_nan w.format) i)
    by (inf s) i = refl
    by (fin s m k) i = refl

-- its size is at most the larger limit
pub within-most : (w : Width) (p : Two) → w.large ≤ w.small → fate_of w Over Under Within p ≡ Within → to_bits w.format (sum w p) % top w.format ≤ w.small
within-most w p l e =
    ⊎_elim (λ h. le_trans (mod-le x t) (le_trans h l))
    (λ h. le_trans (le_of_eq (mod-eq-sub-mod h.0)) (le_trans (mod-le (x - t) t) (less x t w.small h.1))) (within w p e)
  where
    t : ℕ
    t = top w.format

    x : ℕ
    x = to_bits w.format (sum w p)

    less : (x t s : ℕ) → x ≤ t + s → x - t ≤ s
    less x t s h = omega arith
