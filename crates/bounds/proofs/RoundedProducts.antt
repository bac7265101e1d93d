-- What a product and a quotient of two finite floats are: the sign by the two signs, the size the exact fraction of units, rounded once.
use mathlib.Core.Path.{◌≡◌, refl, sym, ap, ◌∙◌, subst}
use Prim.Native.Nat.{ℕ, zero, suc, ◌*◌, ◌^◌, ◌<◌}
use native.Mathlib.Nat.{mul_comm, mul-mul-mul_comm, lt_irrefl, mul-pos, zero-mul, zero-lt-suc}
use native.Mathlib.Omega.{arith}
use mathlib.Core.Bool.{Bool, true, false, cond}
use lib.IntN.{ℤ}
use lib.Dec.{T, eqb, eqb-suc-zero}
use lib.Pow.{pow_pos}
use lib.Ieee.{Float, nan, inf, fin, Format, prec, low, up, down, unlike, round, mul, div, fits}
use lib.Ieee.Fits.{up_pos, down_pos, round-fits}
use lib.Ieee.Exact.{HasValue}
use lib.Ieee.Scale.{overflow}
use Rattle.bounds.proofs.Grid.{rq}
use Rattle.bounds.proofs.Signed.{sign, mag, Num, value, mag_is, has-finite, round-value}

-- r is finite, with the sign s and a size of n units
pub record Siz (f : Format) (r : Float) (s : Bool) (n : ℕ) : Type 0 where
  pub num : Num f r
  pub sgn : sign r ≡ s
  pub mag : mag f r ≡ n

pub siz-of : (f : Format) (r : Float) (s : Bool) (n : ℕ) → HasValue r s n (2 ^ low f) → T (fits f r) → Siz f r s n
siz-of f r s n h t =
    let e = mag_is f r s n h in
    record { num = record { finite = has-finite r s n (2 ^ low f) h; fits = t }; sgn = e.0; mag = e.1 }

pub mul-siz : (f : Format) (x y : Float) → Num f x → Num f y → rq (prec f) (mag f x * mag f y) (2 ^ low f) < overflow f
    → Siz f (mul f x y) (unlike (sign x) (sign y)) (rq (prec f) (mag f x * mag f y) (2 ^ low f))
unfolding mul
mul-siz f nan y h k l = absurd h.finite
mul-siz f (inf s) y h k l = absurd h.finite
mul-siz f (fin s m e) nan h k l = absurd k.finite
mul-siz f (fin s m e) (inf t) h k l = absurd k.finite
mul-siz f (fin s m e) (fin t n d) h k l =
    let a = mag f (fin s m e) in
    let b = mag f (fin t n d) in
    let u = 2 ^ low f in
    let num = m * up e * (n * up d) in
    let den = down e * down d in
    siz-of f (round f (unlike s t) num den) (unlike s t) (rq (prec f) (a * b) u)
    (round-value f (unlike s t) num den (a * b) u (mul-pos (down_pos e) (down_pos d)) (pow_pos (low f))
    (cross (m * up e) (n * up d) u a b (down e) (down d) (value f (fin s m e) h).1 (value f (fin t n d) k).1) l)
    (round-fits f (unlike s t) num den)
  where
    cross : (m n u a b e d : ℕ) → m * u ≡ a * e → n * u ≡ b * d → m * n * u * u ≡ a * b * (e * d)
    cross m n u a b e d p q = re m n u ∙ ap (λ (z : ℕ). z * (n * u)) p ∙ ap (λ (z : ℕ). a * e * z) q ∙ mul-mul-mul_comm a e b d
      where
        re : (m n u : ℕ) → m * n * u * u ≡ m * u * (n * u)
        re m n u = omega arith

pub div-siz : (f : Format) (x y : Float) → Num f x → Num f y → 0 < mag f y → rq (prec f) (mag f x * 2 ^ low f) (mag f y) < overflow f
    → Siz f (div f x y) (unlike (sign x) (sign y)) (rq (prec f) (mag f x * 2 ^ low f) (mag f y))
unfolding div
div-siz f nan y h k o l = absurd h.finite
div-siz f (inf s) y h k o l = absurd h.finite
div-siz f (fin s m e) nan h k o l = absurd k.finite
div-siz f (fin s m e) (inf t) h k o l = absurd k.finite
div-siz f (fin s m e) (fin t zero d) h k o l = absurd (lt_irrefl 0 (subst (λ (z : ℕ). 0 < z) (zero-mag t d) o))
  where
    zero-mag : (t : Bool) (d : ℤ) → mag f (fin t 0 d) ≡ 0
    zero-mag t d = (mag_is f (fin t 0 d) t 0 (refl, ap (λ (z : ℕ). z * 2 ^ low f) (zero-mul (up d)) ∙ zero-mul (2 ^ low f) ∙ sym (zero-mul (down d)))).1
div-siz f (fin s m e) (fin t (suc n) d) h k o l =
    let a = mag f (fin s m e) in
    let b = mag f (fin t (suc n) d) in
    let u = 2 ^ low f in
    let num = m * up e * down d in
    let den = suc n * up d * down e in
    let r = round f (unlike s t) num den in
    subst (λ (z : Bool). Siz f (cond z (cond (eqb m 0) nan (inf (unlike s t))) r) (unlike s t) (rq (prec f) (a * u) b)) (sym (eqb-suc-zero n))
    (siz-of f r (unlike s t) (rq (prec f) (a * u) b)
    (round-value f (unlike s t) num den (a * u) b (mul-pos (mul-pos (zero-lt-suc n) (up_pos d)) (down_pos e)) o
    (cross (m * up e) (suc n * up d) u a b (down e) (down d) (value f (fin s m e) h).1 (value f (fin t (suc n) d) k).1) l)
    (round-fits f (unlike s t) num den))
  where
    cross : (m n u a b e d : ℕ) → m * u ≡ a * e → n * u ≡ b * d → m * d * u * b ≡ a * u * (n * e)
    cross m n u a b e d p q = re m d u b ∙ ap (λ (z : ℕ). z * (b * d)) p ∙ ap (λ (z : ℕ). a * e * z) (sym q) ∙ re' a e n u
      where
        re : (m d u b : ℕ) → m * d * u * b ≡ m * u * (b * d)
        re m d u b = omega arith

        re' : (a e n u : ℕ) → a * e * (n * u) ≡ a * u * (n * e)
        re' a e n u = omega arith

-- ---- the factors in the other order
unlike-swap : (s t : Bool) → unlike s t ≡ unlike t s
unlike-swap true true = refl
unlike-swap true false = refl
unlike-swap false true = refl
unlike-swap false false = refl

pub unlike-false : (b : Bool) → unlike b false ≡ b
unlike-false true = refl
unlike-false false = refl

pub mul-swap : (f : Format) (x y : Float) → mul f x y ≡ mul f y x
unfolding mul
mul-swap f nan nan = refl
mul-swap f nan (inf t) = refl
mul-swap f nan (fin t n d) = refl
mul-swap f (inf s) nan = refl
mul-swap f (inf s) (inf t) = ap inf (unlike-swap s t)
mul-swap f (inf s) (fin t n d) = ap (λ (b : Bool). cond (eqb n 0) nan (inf b)) (unlike-swap s t)
mul-swap f (fin s m e) nan = refl
mul-swap f (fin s m e) (inf t) = ap (λ (b : Bool). cond (eqb m 0) nan (inf b)) (unlike-swap s t)
mul-swap f (fin s m e) (fin t n d) =
    ap (λ (b : Bool). round f b (m * up e * (n * up d)) (down e * down d)) (unlike-swap s t)
    ∙ ap (λ (z : ℕ). round f (unlike t s) z (down e * down d)) (mul_comm (m * up e) (n * up d))
    ∙ ap (round f (unlike t s) (n * up d * (m * up e))) (mul_comm (down e) (down d))
