-- The stages of a block together are the chain, and a word whose flag ends clear is the power. Over the width. Assumes nothing.
use Prim.Native.Nat.{ℕ, ◌+◌, ◌-◌, ◌*◌, ◌/◌, ◌%◌, ◌<◌, ◌≤◌}
use mathlib.Core.Path.{◌≡◌, refl, sym, ap, subst, ◌∙◌}
use mathlib.Core.Bool.{Bool, true, false, not, cond}
use native.Mathlib.Nat.{lt_trans, le_of_lt, mod-eq_of_lt}
use native.Mathlib.Omega.{arith}
use lib.Dec.{T, ltb}
use lib.Ieee.{Float, Format, add, mul, of_bits, to_bits, nan_bits, hid, prec, top}
use lib.Ieee.Bits.{to_bits-lt, to_bits-of_bits, nan_bits_is, of_bits-fits}
use lib.Ieee.Fits.{add-fits}
use borrow.Author.Tests.{le-ltb}
use Rattle.words.specs.Format.{ours, one, infinity}
use Rattle.words.proofs.Words.{infinity-below}
use Rattle.words.proofs.Floats.{word_number}
use Rattle.power.specs.Width.{Width, Two, Three, Reduction}
use Rattle.power.specs.Places.{DP-H, DP-L, TWO}
use Rattle.power.specs.Chain.{con, interval_of, reduced_of, exponent_of, series_of, logarithm_of, log2_of, far_at, far_of, product_of, parts_of, exponential_of, raised_of, exp2_of, sign_of}
use Rattle.power.specs.Power.{pow_of}
use Rattle.power.specs.Stages.{ratio_of, times_of, rest_of, lift_of, Stepped, Ended}
use Rattle.power.proofs.Stages.{exp2-cut}
use Rattle.power.proofs.HighWord.{High, raised-normal}
use Rattle.power.proofs.Limits.{fate-inside}
use Rattle.power.proofs.Cases.{finish-ended}
use Rattle.power.proofs.SignOf.{signed_word}
use Rattle.power.proofs.Nan.{is_number}
use Rattle.power.specs.NoNan.{Number}
use Rattle.power.proofs.Clear.{Clear, Room, clear-power}

-- a word whose size is not past infinity's is a number's
pub word-is-number : (f : Format) (n : ℕ) → n % top f ≤ infinity (ours f) → Number (of_bits f n)
word-is-number f n h = sym (nan_bits_is f n) ∙ not-nan (nan_bits f n) (word_number f n h)
  where
    not-nan : (b : Bool) → T (not b) → b ≡ false
    not-nan true h = absurd h
    not-nan false h = refl

-- the fields make the record
pub two_is : {a b : Float} {t : Two} → a ≡ t.hi → b ≡ t.lo → record { hi = a; lo = b } ≡ t
two_is e f = rw (e, f) refl

pub three-is : {a b c : Float} {t : Three} → a ≡ t.s → b ≡ t.hi → c ≡ t.lo → record { s = a; hi = b; lo = c } ≡ t
three-is e f g = rw (e, f, g) refl

module _ (w : Width) where
  -- a normal word's interval
  pub reduced-normal : (x : ℕ) → hid w.format ≤ x → reduced_of w x ≡ interval_of w x (prec w.format)
  unfolding reduced_of
  reduced-normal x h = rw (le-ltb x (hid w.format) h) refl

  -- the interval is 0 or 1
  interval-small : (ix e : ℕ) → (interval_of w ix e).k < 2
  unfolding interval_of
  interval-small ix e = go (ltb j w.first) (ltb j w.second)
    where
      j : ℕ
      j = ix % hid w.format

      n : ℕ
      n = e + ix / hid w.format

      go : (b c : Bool) → (cond {A = Reduction} b (record { word = one (ours w.format) + j; k = 0; e = n })
          (cond c (record { word = one (ours w.format) + j; k = 1; e = n }) (record { word = one (ours w.format) + j - hid w.format; k = 0; e = n + 1 }))).k < 2
      go true c = omega arith
      go false true = omega arith
      go false false = omega arith

  pub reduced-small : (x : ℕ) → (reduced_of w x).k < 2
  unfolding reduced_of
  reduced-small x = go (ltb x (hid w.format))
    where
      scaled : ℕ
      scaled = to_bits w.format (mul w.format (of_bits w.format x) (con w TWO))

      go : (b : Bool) → (cond b (interval_of w scaled 0) (interval_of w x (prec w.format))).k < 2
      go true = interval-small scaled 0
      go false = interval-small x (prec w.format)

  -- the logarithm's stages: what each leaves in its arrays, for the word x
  pub far-cut : (y : Float) (x : ℕ) → times_of w y (logarithm_of w (ratio_of w x) (series_of w (ratio_of w x))) (reduced_of w x).k (exponent_of w (reduced_of w x).e) ≡ product_of w y (far_of w x)
  unfolding times_of ratio_of far_of far_at
  far-cut y x = refl

  -- the stages by what the one before left: the logarithm of x, and y times it
  pub logarithm-is : {q : Three} {r : Float} (x : ℕ) → q ≡ ratio_of w x → r ≡ series_of w q → logarithm_of w q r ≡ logarithm_of w (ratio_of w x) (series_of w (ratio_of w x))
  logarithm-is x e f = λ n. logarithm_of w (e n) ((f ∙ ap (series_of w) e) n)

  pub product_is : (y : Float) (x : ℕ) {p : Two} {k : ℕ} {t : Float} → p ≡ logarithm_of w (ratio_of w x) (series_of w (ratio_of w x)) → k ≡ (reduced_of w x).k
      → t ≡ exponent_of w (reduced_of w x).e → times_of w y p k t ≡ product_of w y (far_of w x)
  product_is y x e f g = (λ n. times_of w y (e n) (f n) (g n)) ∙ far-cut y x

  pub log2-is : (x : ℕ) {p : Two} {k : ℕ} {t : Float} → p ≡ logarithm_of w (ratio_of w x) (series_of w (ratio_of w x)) → k ≡ (reduced_of w x).k
      → t ≡ exponent_of w (reduced_of w x).e → log2_of w p (con w (DP-H + k)) (con w (DP-L + k)) t ≡ far_of w x
  unfolding ratio_of far_of far_at
  log2-is x e f g = λ n. log2_of w (e n) (con w (DP-H + f n)) (con w (DP-L + f n)) (g n)

  -- a word whose flag ends clear: z is within the limits, so the power is 1 times 2 to it, and that has this word
  module _ (R : Room w) (l : w.large ≤ w.small) {m d : ℕ} (g : High w m d) {x y : ℕ} (c : Clear w x y) where
    abbrev p : Two
    p = product_of w (of_bits w.format y) (far_of w x)

    abbrev z : Float
    z = add w.format p.lo p.hi

    one-times : (r : ℕ) → r < infinity (ours w.format) → to_bits w.format (mul w.format (sign_of w false) (of_bits w.format r)) ≡ r
    one-times r h =
        let t : r < top w.format = lt_trans h (infinity-below (ours w.format)) in
        let n = word-is-number w.format r (rw (mod-eq_of_lt t) (le_of_lt h)) in
        signed_word w (of_bits w.format r) (of_bits-fits w.format r) n false ∙ to_bits-of_bits w.format r (twice r (top w.format) t) (is_number (of_bits w.format r) n)
      where
        twice : (r t : ℕ) → r < t → r < 2 * t
        twice r t h = omega arith

    end_is : {hi : Float} {e r : ℕ} → to_bits w.format z % top w.format < w.large → hi ≡ rest_of w p.hi z → e ≡ lift_of w z
        → r ≡ (to_bits w.format (exponential_of w (parts_of w (record { hi = hi; lo = p.lo }))) + e * hid w.format) % (2 * top w.format)
        → hid w.format ≤ r → r < infinity (ours w.format) → r ≡ pow_of w x y
    end_is {hi} {e} {r} n h k q a b =
        let E : Float = exponential_of w (parts_of w (record { hi = hi; lo = p.lo })) in
        let up : of_bits w.format r ≡ exp2_of w p = raised-normal g E e r q a (lt_trans b (infinity-below (ours w.format)))
        ∙ (λ i. raised_of w (exponential_of w (parts_of w (record { hi = h i; lo = p.lo }))) (k i)) ∙ sym (exp2-cut w p) in
        sym (one-times r b)
        ∙ ap (to_bits w.format) (finish-ended w p (sign_of w false) (fate-inside w p refl (to_bits-lt w.format z (add-fits w.format p.lo p.hi)) n l) refl
        (ap (mul w.format (sign_of w false)) up))
        ∙ clear-power w R c

    -- the same by what the last two stages say of the pair
    pub pair_is : {q : Two} {flag flag₂ flag₃ e r : ℕ} {hi : Float} {v : Two} → q ≡ p → Stepped w q flag hi e flag₂
        → v ≡ parts_of w (record { hi = hi; lo = q.lo }) → Ended w v e flag₂ r flag₃ → flag₃ ≡ 0
        → (flag ≡ 0) × (r ≡ pow_of w x y)
    pair_is {q} {flag} {flag₂} {flag₃} {e} {r} {hi} {v} i s j t f =
        let b = t.clean f in
        let a = s.clean b.0 in
        let z-of : Two → Float = λ v. add w.format v.lo v.hi in
        let raised_by : Two → ℕ = λ u. (to_bits w.format (exponential_of w u) + e * hid w.format) % (2 * top w.format) in (
          a.0,
          end_is (subst (λ (v : Two). to_bits w.format (z-of v) % top w.format < w.large) i a.1) (a.2 ∙ ap (λ (v : Two). rest_of w v.hi (z-of v)) i)
              (a.3 ∙ ap (λ (v : Two). lift_of w (z-of v)) i) (b.1 ∙ ap raised_by j ∙ ap (λ (v : Two). raised_by (parts_of w (record { hi = hi; lo = v.lo }))) i) b.2 b.3,
        )
