-- The kit's product and quotient of two finite words, as ours: one rounding of the exact fraction, in units. For x * x and 1 / x of the settled powers. Assumes nothing.
use mathlib.Core.Path.{◌≡◌, sym, ap, ◌∙◌, subst}
use Prim.Native.Nat.{ℕ, ◌*◌, ◌%◌, ◌^◌, ◌<◌}
use native.Mathlib.Nat.{mul_assoc, mul_comm, mul_left_comm, mul-mul-mul_comm, mul-pos, lt_irrefl, zero-mul}
use mathlib.Core.Bool.{Bool, cond}
use lib.Dec.{T, leb, eqb, eqb→eq, not_T}
use lib.Pow.{pow_pos}
use lib.Ieee as Ieee
use lib.Ieee.{Float, nan, inf, fin, up, down, unlike, round, mul, div, of_bits, to_bits}
use lib.Ieee.Fits.{down_pos}
use lib.Ieee.Bits.{cond_no}
use lib.Ieee.Exact.{HasValue}
use lib.Ieee.Positive.{first_pos}
use lib.Ieee.Scale.{round_same}
use Rattle.words.specs.Format.{top, infinity, signed, units, ours}
use Rattle.words.specs.Rounding.{rounded}
use Rattle.words.proofs.Round.{to_bits-round}
use Rattle.words.proofs.Rounded.{rounded-same}
use Rattle.words.proofs.Floats.{word-val}

pub mul-vals : (f : Ieee.Format) (x y : Float) (s t : Bool) (a c b d : ℕ) → 0 < c → 0 < d → HasValue x s a c → HasValue y t b d → mul f x y ≡ round f (unlike s t) (a * b) (c * d)
unfolding mul
mul-vals f nan y s t a c b d C D v w = absurd v
mul-vals f (inf r) y s t a c b d C D v w = absurd v
mul-vals f (fin r m e) nan s t a c b d C D v w = absurd w
mul-vals f (fin r m e) (inf q) s t a c b d C D v w = absurd w
mul-vals f (fin r m e) (fin q n g) s t a c b d C D v w =
    (λ i. round f (unlike (v.0 i) (w.0 i)) (m * up e * (n * up g)) (down e * down g))
    ∙ round_same f (unlike s t) (m * up e * (n * up g)) (down e * down g) (a * b) (c * d) (mul-pos (down_pos e) (down_pos g)) (mul-pos C D)
    (mul-mul-mul_comm (m * up e) (n * up g) c d ∙ (λ i. v.1 i * w.1 i) ∙ mul-mul-mul_comm a (down e) b (down g))

pub div-vals : (f : Ieee.Format) (x y : Float) (s t : Bool) (a c b d : ℕ) → 0 < c → 0 < d → 0 < b → HasValue x s a c → HasValue y t b d → div f x y ≡ round f (unlike s t) (a * d) (b * c)
unfolding div
div-vals f nan y s t a c b d C D B v w = absurd v
div-vals f (inf r) y s t a c b d C D B v w = absurd v
div-vals f (fin r m e) nan s t a c b d C D B v w = absurd w
div-vals f (fin r m e) (inf q) s t a c b d C D B v w = absurd w
div-vals f (fin r m e) (fin q n g) s t a c b d C D B v w =
    let N : 0 < n * up g = first_pos (n * up g) d (subst (λ (z : ℕ). 0 < z) (sym w.1) (mul-pos B (down_pos g))) in
    cond_no (eqb n 0) (cond (eqb m 0) nan (inf (unlike r q))) (round f (unlike r q) (m * up e * down g) (n * up g * down e))
    (not_T (eqb n 0) (λ (u : T (eqb n 0)). lt_irrefl 0 (subst (λ (z : ℕ). 0 < z) (ap (λ (z : ℕ). z * up g) (eqb→eq n 0 u) ∙ zero-mul (up g)) N)))
    ∙ (λ i. round f (unlike (v.0 i) (w.0 i)) (m * up e * down g) (n * up g * down e))
    ∙ round_same f (unlike s t) (m * up e * down g) (n * up g * down e) (a * d) (b * c) (mul-pos N (down_pos e)) (mul-pos B C)
    (cross (m * up e) (down g) b c ∙ (λ i. v.1 i * (sym w.1 i)) ∙ sym (cross' a d (n * up g) (down e)))
  where
    cross : (x y b c : ℕ) → x * y * (b * c) ≡ x * c * (b * y)
    cross x y b c = simp (mul_assoc, mul_comm, mul_left_comm)

    cross' : (a d n e : ℕ) → a * d * (n * e) ≡ a * e * (n * d)
    cross' a d n e = simp (mul_assoc, mul_comm, mul_left_comm)

module _ (f : Ieee.Format) (x y : ℕ) (X : x % top (ours f) < infinity (ours f)) (Y : y % top (ours f) < infinity (ours f)) where
  L : 0 < 2 ^ Ieee.low f
  L = pow_pos (Ieee.low f)

  pub product_is : to_bits f (mul f (of_bits f x) (of_bits f y))
      ≡ signed (ours f) (unlike (leb (top (ours f)) x) (leb (top (ours f)) y)) (rounded (ours f) (units (ours f) (x % top (ours f)) * units (ours f) (y % top (ours f))) (2 ^ Ieee.low f))
  product_is =
      let a = units (ours f) (x % top (ours f)) in
      let b = units (ours f) (y % top (ours f)) in
      let l = 2 ^ Ieee.low f in
      ap (to_bits f) (mul-vals f (of_bits f x) (of_bits f y) (leb (top (ours f)) x) (leb (top (ours f)) y) a l b l L L (word-val f x X) (word-val f y Y))
      ∙ to_bits-round f (unlike (leb (top (ours f)) x) (leb (top (ours f)) y)) (a * b) (l * l) (mul-pos L L)
      ∙ ap (signed (ours f) (unlike (leb (top (ours f)) x) (leb (top (ours f)) y))) (rounded-same (ours f) (a * b * l) (l * l) (a * b) l (mul-pos L L) L (mul_assoc (a * b) l l))

  pub quotient_is : 0 < units (ours f) (y % top (ours f)) → to_bits f (div f (of_bits f x) (of_bits f y))
      ≡ signed (ours f) (unlike (leb (top (ours f)) x) (leb (top (ours f)) y)) (rounded (ours f) (units (ours f) (x % top (ours f)) * 2 ^ Ieee.low f) (units (ours f) (y % top (ours f))))
  quotient_is B =
      let a = units (ours f) (x % top (ours f)) in
      let b = units (ours f) (y % top (ours f)) in
      let l = 2 ^ Ieee.low f in
      ap (to_bits f) (div-vals f (of_bits f x) (of_bits f y) (leb (top (ours f)) x) (leb (top (ours f)) y) a l b l L L B (word-val f x X) (word-val f y Y))
      ∙ to_bits-round f (unlike (leb (top (ours f)) x) (leb (top (ours f)) y)) (a * l) (b * l) (mul-pos B L)
      ∙ ap (signed (ours f) (unlike (leb (top (ours f)) x) (leb (top (ours f)) y))) (rounded-same (ours f) (a * l * l) (b * l) (a * l) b (mul-pos B L) B (swap (a * l) l b))
    where
      swap : (a l b : ℕ) → a * l * b ≡ a * (b * l)
      swap a l b = simp (mul_assoc, mul_comm)
