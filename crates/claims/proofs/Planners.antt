-- Request 12: a root never falls, 4 ^ k times the operand has 2 ^ k times the root, and what the sign of x does to a power. The roots' facts go by the laws of `root`, once over the format; the power's by those of `sign`. Assumes nothing.
use Prim.Native.Nat.{ℕ, suc, ◌-◌, ◌*◌, ◌^◌, ◌≤◌, ◌<◌}
use mathlib.Core.Path.{◌≡◌, refl, sym, ap, subst, ◌∙◌}
use mathlib.Core.Logic.{◌⊎◌, inl, inr, ⊎_elim}
use native.Mathlib.Nat.{le_of_lt, lt_of_le_of_lt, lt_of_lt_of_le, eq-zero-or-pos, mul-one, zero-mod, mod-eq_of_lt}
use native.Mathlib.Decide.{dec_lt}
use native.Mathlib.Omega.{arith}
use lib.IntN.{ℤ, pos, negsuc}
use lib.Dec.{lit≤, lit<}
use lib.Pow.{pow_pos}
use lib.Ieee.{up, down}
use lib.Ieee.Fits.{down_pos}
use Rattle.words.specs.Format.{Format, binary32, binary64, top, infinity, magnitude, units}
use Rattle.words.proofs.Words.{infinity-some, infinity-below}
use Rattle.words.proofs.Units.{units-step, units-raised}
use Rattle.words.proofs.Grid.{rises, rises-le}
use Rattle.words.proofs.Rounded.{rounded-exact}
use Rattle.root.specs.Root.{root_word}
use Rattle.root.proofs.Engine.{four-pow}
use Rattle.root.proofs.Words.{Fine, root-zero}
use Rattle.root.proofs.Sentences.{root-normal}
use Rattle.root.proofs.Order.{root-of-infinity, root-rises, root-most, root-four}
use Rattle.scale.proofs.Scaled.{scaled-size}
use Rattle.power.specs.Power.{single, double}
use Rattle.sign.specs.Sign.{Signs}
use Rattle.sign.proofs.Signs.{signs32, signs64}
use Rattle.claims.specs.Planners.{Nonnegative, AtMost, RootRises, PositiveNormal, FourTimes, RootFour}

module _ (f : Format) (g : Fine f) (small : f.digits ≤ 60) where
  normal : (x : ℕ) → 0 < x → x < infinity f → PositiveNormal f (root_word f x)
  normal x some h = root-normal f x g small some h

  -- ---- a root never falls

  -- a word from +0 to +inf is its own size
  own : (x : ℕ) → x ≤ infinity f → magnitude f x ≡ x
  own x h = mod-eq_of_lt (lt_of_le_of_lt h (infinity-below f))

  of_zero : root_word f 0 ≡ 0
  of_zero = root-zero f 0 (zero-mod (top f))

  finite : (n : ℕ) → n < infinity f → root_word f n < infinity f
  finite n h = ⊎_elim
      (λ z. subst (λ (k : ℕ). k < infinity f) (sym (ap (root_word f) z ∙ of_zero)) (infinity-some f))
      (λ some. (normal n some h).1)
      (eq-zero-or-pos n)

  -- the root's size is the size's root
  size-root : (x : ℕ) → Nonnegative f x → magnitude f (root_word f x) ≡ root_word f (magnitude f x)
  size-root x (inl z) = ap (magnitude f) (root-zero f x z) ∙ z ∙ sym (ap (root_word f) z ∙ of_zero)
  size-root x (inr h) = own (root_word f x) (root-most f g small x h) ∙ ap (root_word f) (sym (own x h))

  -- more units, a larger word, and the other way round
  units-rise : (m n : ℕ) → m ≤ n → units f m ≤ units f n
  units-rise = rises-le (units f) (units-step f g.least)

  word-rises : (m n : ℕ) → units f m ≤ units f n → m ≤ n
  word-rises m n h = elim (dec_lt n m) [ yes l ↦ absurd (clash (units f m) (units f n) h (rises (units f) (units-step f g.least) n m l)) | no l ↦ at_most n m l ]
    where
      clash : (a b : ℕ) → a ≤ b → b < a → ⊥
      clash a b h l = omega arith

      at_most : (a b : ℕ) → ¬ (a < b) → b ≤ a
      at_most a b l = omega arith

  pub request-12-order : RootRises f
  request-12-order = record { nonnegative = nonnegative; rises = in_order }
    where
      nonnegative : (x : ℕ) → Nonnegative f x → Nonnegative f (root_word f x)
      nonnegative x (inl z) = inl (ap (magnitude f) (root-zero f x z) ∙ z)
      nonnegative x (inr h) = inr (root-most f g small x h)

      in_order : (x y : ℕ) → Nonnegative f x → Nonnegative f y → AtMost f x y → AtMost f (root_word f x) (root_word f y)
      in_order x y hx hy (inl e) = inl (ap (root_word f) e ∙ root-of-infinity f g small)
      in_order x y hx hy (inr t) =
          let m = magnitude f x in
          let n = magnitude f y in
          let le = root-rises f g small m n (word-rises m n t.2) (le_of_lt t.1) in
          inr (rw (size-root x hx, size-root y hy) (lt_of_le_of_lt le (finite n t.1), finite n t.1, units-rise (root_word f m) (root_word f n) le))

  -- ---- 4 ^ k times the operand

  raised : (n x y : ℕ) → PositiveNormal f x → PositiveNormal f y → units f y ≡ units f x * 4 ^ n → units f (root_word f y) ≡ units f (root_word f x) * 2 ^ n
  raised n x y hx hy e =
      ap (units f) (root-four f g small x y n (some hx) hx.1 (some hy) hy.1 e)
      ∙ units-raised f n (root_word f x) g.least (normal x (some hx) hx.1).0
    where
      some : {z : ℕ} → PositiveNormal f z → 0 < z
      some h = lt_of_lt_of_le (pow_pos (f.digits - 1)) h.0

  value : (k : ℤ) (x y : ℕ) → PositiveNormal f x → PositiveNormal f y → FourTimes f k x y → units f (root_word f y) * down k ≡ units f (root_word f x) * up k
  value (pos n) x y hx hy e = mul-one (units f (root_word f y)) ∙ raised n x y hx hy (sym (mul-one (units f y)) ∙ e ∙ ap (λ (z : ℕ). units f x * z) (sym (four-pow n)))
  value (negsuc n) x y hx hy e =
      sym (raised (suc n) y x hy hx (sym (mul-one (units f x)) ∙ sym e ∙ ap (λ (z : ℕ). units f y * z) (sym (four-pow (suc n)))))
      ∙ sym (mul-one (units f (root_word f x)))

  pub request-12-four : RootFour f
  request-12-four = record {
    value = value;
    word = λ k x y hx hy e. sym (scaled-size f (root_word f x) k (below x hx)
        ∙ rounded-exact f (root_word f y) (units f (root_word f x) * up k) (down k) g.least (below y hy) (down_pos k) (value k x y hx hy e));
  }
    where
      below : (z : ℕ) → PositiveNormal f z → root_word f z < infinity f
      below z h = finite z h.1

-- ---- at each width

pub request-12-order-32 : RootRises binary32
request-12-order-32 = request-12-order binary32 (omega arith) (omega arith)

pub request-12-order-64 : RootRises binary64
request-12-order-64 = request-12-order binary64 (omega arith) (omega arith)

pub request-12-four-32 : RootFour binary32
request-12-four-32 = request-12-four binary32 (omega arith) (omega arith)

pub request-12-four-64 : RootFour binary64
request-12-four-64 = request-12-four binary64 (omega arith) (omega arith)

-- ---- changing the sign of x changes the sign bit of the power for odd y, and no bit for even y

pub request-12-sign-32 : Signs single
request-12-sign-32 = signs32

pub request-12-sign-64 : Signs double
request-12-sign-64 = signs64

-- ---- the definitions on a few words: -0 and +0 are equal and below the least number, the largest number is below +inf, and 1/4, 1 and 4 are each four times the one before

zeros_equal : AtMost binary32 0x8000_0000 0 × AtMost binary32 0 0x8000_0000
unfolding units
zeros_equal = (inr (lit< tt, lit< tt, lit≤ tt), inr (lit< tt, lit< tt, lit≤ tt))

zero-least : AtMost binary32 0x8000_0000 0x0000_0001
unfolding units
zero-least = inr (lit< tt, lit< tt, lit≤ tt)

infinity-largest : AtMost binary32 0x7f7f_ffff 0x7f80_0000 × AtMost binary32 0x7f80_0000 0x7f80_0000
infinity-largest = (inl refl, inl refl)

four-ones : FourTimes binary32 (pos 1) 0x3f80_0000 0x4080_0000 × FourTimes binary32 (negsuc 0) 0x3f80_0000 0x3e80_0000
unfolding units
four-ones = (refl, refl)
