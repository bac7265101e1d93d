-- Open powers: the float whose word an open power is fits its format and is no NaN, for every finite x whose size is not 1 and every finite y.
-- Whichever logarithm is taken, its product with y is bounded, so the range test decides; and in range 2 to the product is no NaN. Assumes nothing.
use mathlib.Core.Path.{◌≡◌, refl, sym, ap, ◌∙◌}
use mathlib.Core.Logic.{inl, inr, ⊎_elim}
use Prim.Native.Nat.{ℕ, ◌+◌, ◌*◌, ◌/◌, ◌^◌, ◌≤◌, ◌<◌}
use native.Mathlib.Nat.{le_trans, le_of_eq, le_of_lt, lt_of_le_of_lt, lt_of_lt_of_le, mul-le-mul, mul-le-mul_right, le_of_mul-le-mul_right}
use native.Mathlib.Omega.{arith}
use mathlib.Core.Bool.{Bool, true, false, cond, true≢false}
use lib.Dec.{T, ltb, lit≤}
use lib.Pow.{pow_pos}
use lib.IntN.{pos}
use lib.Ieee.{Float, fin, Format, emax, hid, top, mul, is_nan, of_bits, to_bits, fits}
use lib.Ieee.Fits.{mul-fits}
use lib.Ieee.Bits.{to_bits-lt, of_bits-to_bits, nan_bits_is, nan_bits_above}
use Rattle.words.specs.Format.{is_nan_word, ours}
use Rattle.power.specs.Width.{Width, Two}
use Rattle.power.specs.NoNan.{Raisable, Reaches}
use Rattle.power.proofs.Nan.{one-is}
use Rattle.power.specs.Places.{HUGE, TINY}
use Rattle.power.specs.Chain.{open_of, log_of, product_of, near_of, far_of, over_of, under_of, finish_of, huge_of, exp2_of, sign_of, con}
use Rattle.bounds.proofs.Formats.{one, magnitude, negative, infinity}
use Rattle.bounds.proofs.Signed.{mag, Num}
use Rattle.bounds.proofs.Within.{U}
use Rattle.bounds.proofs.Words.{word}
use Rattle.chain.proofs.NoNan.{proper, proper-number, twice-number, signed-one-is}
use Rattle.chain.proofs.Known.{Known}
use Rattle.chain.proofs.Sizes.{size_below, high-most}
use Rattle.chain.proofs.Product.{Split, product}
use Rattle.chain.proofs.InRange.{Inside, within-raisable, fate-by}
use Rattle.chain.proofs.Top.{at_top}
use Rattle.chain.proofs.Far.{Log}
use Rattle.chain.proofs.Reduced.{far}
use Rattle.chain.proofs.NearOne.{Beside, near-x, near-log, near-tight}

-- 1 and -1
abbrev pub signed_one : Bool → Float
signed_one s = fin s 1 (pos 0)

signed-one-number : (s : Bool) → is_nan (signed_one s) ≡ false
unfolding is_nan
signed-one-number s = refl

-- the float whose word the open power is: m is the size of x, a is 1 or -1
module _ (w : Width) where
  abbrev pub answer : ℕ → ℕ → Float → Float
  answer m y a =
      let ix = m / 2 ^ w.below in
      let iy = magnitude w.format y / 2 ^ w.below in
      let down = negative w.format y in
      let end = finish_of w (product_of w (of_bits w.format y) (log_of w m iy)) a in
      cond (ltb w.huge iy)
      (cond (ltb w.must iy) (huge_of w ix down)
      (cond (ltb ix w.less) (cond down (over_of w a) (under_of w a)) (cond (ltb w.more ix) (cond down (under_of w a) (over_of w a)) end)))
      end

  pub open_is : (x y : ℕ) (s : Bool) → open_of w x y s ≡ to_bits w.format (answer (magnitude w.format x) y (signed_one s))
  unfolding open_of sign_of
  open_is x y s = ap (λ (a : Float). to_bits w.format (answer (magnitude w.format x) y a)) (signed-one-is w.format s)

module _ (w : Width) (K : Known w) where
  abbrev f : Format
  f = w.format

  abbrev B : ℕ
  B = 2 ^ w.below

  -- no NaN, and in the format
  abbrev Sound : Float → Type 0
  Sound v = (is_nan v ≡ false) × T (fits w.format v)

  over-sound : (a : Float) → is_nan a ≡ false → Sound (over_of w a)
  unfolding over_of
  over-sound a n = (twice-number f a (con w HUGE) n K.huge, mul-fits f (mul f a (con w HUGE)) (con w HUGE))

  under-sound : (a : Float) → is_nan a ≡ false → Sound (under_of w a)
  unfolding under_of
  under-sound a n = (twice-number f a (con w TINY) n K.tiny, mul-fits f (mul f a (con w TINY)) (con w TINY))

  -- ---- a product whose second part is small, in range
  pub in-range : (p : Two) → Split f p.hi p.lo → Inside w K p → Raisable w p
  in-range p S I = within-raisable w K p S I (λ a b c H L. at_top w K p S I a b c H L)

  -- ---- y times a logarithm, where neither is too large
  unfoldable pub Bounded : Float → Two → Type 0
  Bounded y t = mag f y * mag f t.hi ≤ 2 ^ 110 * (U f * U f)

  pub split : (y : Float) (t : Two) → Num f y → Log f t → Bounded y t → Split f (product_of w y t).hi (product_of w y t).lo
  unfolding Bounded
  split y t n l b = product w K y t.hi t.lo n l.hi-num l.lo-num l.small l.most b

  pub finish-sound : (y : Float) (t : Two) (s : Bool) → Num f y → Log f t → Bounded y t → Sound (finish_of w (product_of w y t) (signed_one s))
  unfolding finish_of proper
  finish-sound y t s n l b =
      let p = product_of w y t in
      let S = split y t n l b in
      let e = exp2_of w p in
      fate-by w K p (λ (v : Float). Sound v) (over_of w (signed_one s)) (under_of w (signed_one s)) (mul f (signed_one s) e)
      (over-sound (signed_one s) (signed-one-number s))
      (under-sound (signed_one s) (signed-one-number s))
      (λ I. (proper-number f (signed_one s) e tt (in-range p S I).answer, mul-fits f (signed_one s) e))

  module _ (m y : ℕ) (hm : m < infinity f) (ne : m ≡ one f → ⊥) (hy : magnitude f y < infinity f) where
    abbrev iy : ℕ
    iy = magnitude w.format y / 2 ^ w.below

    abbrev yf : Float
    yf = of_bits w.format y

    pub yn : Num f yf
    yn = (word f y hy).num

    y-below : (k : ℕ) → magnitude f y < (emax f + k) * hid f → mag f yf ≤ U f * 2 ^ k
    y-below k l = le_of_lt (lt_of_le_of_lt (le_of_eq (word f y hy).mag) (size_below f (magnitude f y) k l))

    -- |y| is below 2 ^ 65 here, and the logarithm 2 ^ 11 at most
    far-bound : ltb w.huge iy ≡ false → Bounded yf (far_of w m)
    unfolding Bounded
    far-bound e =
        let yk = y-below 65 (lt_of_lt_of_le (high-most w.below w.huge (magnitude f y) e) K.huge-most) in
        cap (mag f yf) (mag f (far_of w m).hi) (U f) (mul-le-mul yk (far w K m hm ne).most)
      where
        cap : (a b u : ℕ) → a * b ≤ u * 2 ^ 65 * (2 ^ 11 * u) → a * b ≤ 2 ^ 110 * (u * u)
        cap a b u h = le_trans h (last (u * u) (u * 2 ^ 65 * (2 ^ 11 * u)) (re u))
          where
            re : (u : ℕ) → u * 2 ^ 65 * (2 ^ 11 * u) ≡ 2 ^ 76 * (u * u)
            re u = omega arith

            last : (s z : ℕ) → z ≡ 2 ^ 76 * s → z ≤ 2 ^ 110 * s
            last s z e = omega arith

    -- |y| is below 2 ^ 128 here, and the logarithm 2 ^ -19 at most
    near-bound : Beside f (of_bits f m) → ltb w.must iy ≡ false → Bounded yf (near_of w m)
    unfolding Bounded
    near-bound b e =
        let yl = ⊎_elim (λ l. lt_of_lt_of_le hy l) (λ l. lt_of_lt_of_le (high-most w.below w.must (magnitude f y) e) l) K.must-most in
        cap (mag f yf) (mag f (near_of w m).hi) (U f) (mul-le-mul (y-below 128 yl) (near-tight w K m b))
      where
        cap : (a b u : ℕ) → a * (2 ^ 19 * b) ≤ u * 2 ^ 128 * u → a * b ≤ 2 ^ 110 * (u * u)
        cap a b u h = le_trans (le_of_mul-le-mul_right (le_trans (le_of_eq (re a b)) (le_trans h (le_of_eq (shift u (2 ^ 128) (2 ^ 109) (2 ^ 19) refl))))
            (pow_pos 19))
            (mul-le-mul_right (u * u) (lit≤ tt))
          where
            re : (a b : ℕ) → a * b * 2 ^ 19 ≡ a * (2 ^ 19 * b)
            re a b = omega arith

            turn : (u q r : ℕ) → u * (q * r) * u ≡ q * (u * u) * r
            turn u q r = omega arith

            shift : (u p q r : ℕ) → p ≡ q * r → u * p * u ≡ q * (u * u) * r
            shift u p q r e = ap (λ (z : ℕ). u * z * u) e ∙ turn u q r

    -- where the chain is walked to its end, its logarithm is bounded, and so is the product with y
    by_size : (b : Bool) → ltb w.huge iy ≡ b → Reaches w (m / B) iy → Log f (cond b (near_of w m) (far_of w m)) × Bounded yf (cond b (near_of w m) (far_of w m))
    by_size true p (inl e) = absurd (true≢false (sym p ∙ e))
    by_size true p (inr h) = let b = near-x w K m ne h.1 h.2 in (near-log w K m b, near-bound b h.0)
    by_size false p r = (far w K m hm ne, far-bound p)

    pub reached : Reaches w (m / B) iy → Log f (log_of w m iy) × Bounded yf (log_of w m iy)
    unfolding log_of
    reached r = by_size (ltb w.huge iy) refl r

    -- ---- past `must`, and in every branch
    huge-sound : (ix : ℕ) (dn : Bool) → Sound (huge_of w ix dn)
    unfolding huge_of
    huge-sound ix dn = go (ltb ix (one f / B)) dn
      where
        #1 : Float
        #1 = of_bits f (one f)

        num : is_nan #1 ≡ false
        num = ap is_nan (one-is f) ∙ signed-one-number false

        go : (b d : Bool) → Sound (cond b (cond d (over_of w #1) (under_of w #1)) (cond d (under_of w #1) (over_of w #1)))
        go true true = over-sound #1 num
        go true false = under-sound #1 num
        go false true = under-sound #1 num
        go false false = over-sound #1 num

    answer-sound : (s : Bool) → Sound (answer w m y (signed_one s))
    unfolding log_of
    answer-sound s = go (ltb w.huge iy) refl (ltb w.must iy) refl (ltb ix w.less) refl (ltb w.more ix) refl (negative f y)
      where
        ix : ℕ
        ix = m / B

        a : Float
        a = signed_one s

        end : Two → Float
        end t = finish_of w (product_of w yf t) a

        go : (b : Bool) → ltb w.huge iy ≡ b → (c : Bool) → ltb w.must iy ≡ c → (d : Bool) → ltb ix w.less ≡ d → (e : Bool)
            → ltb w.more ix ≡ e → (n : Bool)
            → Sound (cond b (cond c (huge_of w ix n) (cond d (cond n (over_of w a) (under_of w a)) (cond e (cond n (under_of w a) (over_of w a))
            (end (cond b (near_of w m) (far_of w m)))))) (end (cond b (near_of w m) (far_of w m))))
        go true p true q d r e t n = huge-sound ix n
        go true p false q true r e t true = over-sound a (signed-one-number s)
        go true p false q true r e t false = under-sound a (signed-one-number s)
        go true p false q false r true t true = under-sound a (signed-one-number s)
        go true p false q false r true t false = over-sound a (signed-one-number s)
        go true p false q false r false t n = let h = by_size true p (inr (q, r, t)) in finish-sound yf (near_of w m) s yn h.0 h.1
        go false p c q d r e t n = let h = by_size false p (inl p) in finish-sound yf (far_of w m) s yn h.0 h.1

    pub answer-number : (s : Bool) → is_nan (answer w m y (signed_one s)) ≡ false
    answer-number s = (answer-sound s).0

    pub answer-fits : (s : Bool) → T (fits f (answer w m y (signed_one s)))
    answer-fits s = (answer-sound s).1

  -- ---- the words
  module _ (x y : ℕ) (hx : magnitude f x < infinity f) (ne : magnitude f x ≡ one f → ⊥) (hy : magnitude f y < infinity f) where
    abbrev m : ℕ
    m = magnitude w.format x

    pub open-word : (s : Bool) → open_of w x y s < 2 * top f
    open-word s = lt_of_le_of_lt (le_of_eq (open_is w x y s)) (to_bits-lt f (answer w m y (signed_one s)) (answer-fits m y hx ne hy s))

    pub open-number : (s : Bool) → is_nan_word (ours f) (open_of w x y s) ≡ false
    open-number s =
        let v = answer w m y (signed_one s) in
        ap (is_nan_word (ours f)) (open_is w x y s) ∙ sym (nan_bits_above f (to_bits f v)) ∙ nan_bits_is f (to_bits f v)
        ∙ ap is_nan (of_bits-to_bits f v (answer-fits m y hx ne hy s)) ∙ answer-number m y hx ne hy s
