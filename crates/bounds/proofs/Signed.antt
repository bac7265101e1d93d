-- A finite float as a signed whole number of the format's least units, `plus` less `minus`, one of them 0; and one rounding, seen as a number of units.
use mathlib.Core.Path.{◌≡◌, refl, sym, ap, ◌∙◌, subst}
use mathlib.Core.Logic.{◌⊎◌, inl, inr}
use Prim.Native.Nat.{ℕ, zero, suc, ◌+◌, ◌-◌, ◌*◌, ◌/◌, ◌%◌, ◌^◌, ◌≤◌, ◌<◌}
use native.Mathlib.Nat.{zero-add, add-zero, sub-add_cancel, sub-eq-zero_of_le, not-le_of_lt, lt_irrefl, zero-lt-suc}
use native.Mathlib.Nat.{mul-one, mul_assoc, mul-le-mul_right, div-one, mul-div_cancel}
use native.Mathlib.Omega.{arith}
use mathlib.Core.Bool.{Bool, true, false, not, ◌&&◌, cond, true≢false}
use lib.IntN.{ℤ, pos, negsuc}
use lib.Dec.{T, ltb, leb, eqb, leb→le, eqb→eq}
use lib.Pow.{pow-add, pow_pos, pow-lt}
use lib.Ieee.{Float, nan, inf, fin, Format, prec, emax, low, up, down, units, round, neg, fits}
use lib.Ieee.Fits.{two, two-le_pos, down_pos, and_l, and_r, round_is, neg-fits}
use lib.Ieee.Exact.{HasValue, units_val}
use lib.Ieee.Order.{drop, kept}
use lib.Ieee.Scale.{finite, overflow}
use Rattle.bounds.proofs.Choice.{order}
use Rattle.bounds.proofs.Grid.{rq, rq-same, rq-mono, rq-zero}

abbrev pub sign : Float → Bool
sign nan = false
sign (inf s) = s
sign (fin s m e) = s

-- the size in units
unfoldable pub mag : Format → Float → ℕ
mag f nan = 0
mag f (inf s) = 0
mag f (fin s m e) = m * up e * 2 ^ low f / down e

abbrev pub when : Bool → ℕ → ℕ
when s n = cond s n 0

unfoldable pub plus : Format → Float → ℕ
plus f x = when (not (sign x)) (mag f x)

unfoldable pub minus : Format → Float → ℕ
minus f x = when (sign x) (mag f x)

-- a finite float of the format
pub record Num (f : Format) (x : Float) : Type 0 where
  pub finite : T (finite x)
  pub fits : T (fits f x)

-- ---- the two parts and the size
pub parts : (f : Format) (x : Float) → mag f x ≡ plus f x + minus f x
unfolding plus minus
parts f x = go (sign x) (mag f x)
  where
    go : (s : Bool) (n : ℕ) → n ≡ when (not s) n + when s n
    go true n = sym (zero-add n)
    go false n = sym (add-zero n)

pub one-zero : (f : Format) (x : Float) → (plus f x ≡ 0) ⊎ (minus f x ≡ 0)
unfolding plus minus
one-zero f x = go (sign x)
  where
    go : (s : Bool) → (when (not s) (mag f x) ≡ 0) ⊎ (when s (mag f x) ≡ 0)
    go true = inl refl
    go false = inr refl

-- a float without a sign, and one that must be
pub pos-parts : (f : Format) (x : Float) → sign x ≡ false → (plus f x ≡ mag f x) × (minus f x ≡ 0)
unfolding plus minus
pos-parts f x e = (ap (λ (b : Bool). when (not b) (mag f x)) e, ap (λ (b : Bool). when b (mag f x)) e)

pub positive : (f : Format) (x : Float) → 0 < plus f x → sign x ≡ false
unfolding plus
positive f x h = go (sign x) h
  where
    go : (s : Bool) → 0 < when (not s) (mag f x) → s ≡ false
    go true h = absurd (lt_irrefl 0 h)
    go false h = refl

-- two floats of one sign
pub parts-of : (f : Format) (x r : Float) → sign r ≡ sign x
    → ((plus f r ≡ mag f r) × (minus f r ≡ 0) × (plus f x ≡ mag f x) × (minus f x ≡ 0))
    ⊎ ((plus f r ≡ 0) × (minus f r ≡ mag f r) × (plus f x ≡ 0) × (minus f x ≡ mag f x))
unfolding plus minus
parts-of f x r e = go (sign x) (sign r) (mag f x) (mag f r) e
  where
    go : (s t : Bool) (m n : ℕ) → t ≡ s
        → ((when (not t) n ≡ n) × (when t n ≡ 0) × (when (not s) m ≡ m) × (when s m ≡ 0))
        ⊎ ((when (not t) n ≡ 0) × (when t n ≡ n) × (when (not s) m ≡ 0) × (when s m ≡ m))
    go false false m n e = inl (refl, refl, refl, refl)
    go true true m n e = inr (refl, refl, refl, refl)
    go true false m n e = absurd (true≢false (sym e))
    go false true m n e = absurd (true≢false e)

-- the float with the other sign
pub neg-parts : (f : Format) (x : Float) → Num f x
    → Num f (neg x) × (plus f (neg x) ≡ minus f x) × (minus f (neg x) ≡ plus f x) × (mag f (neg x) ≡ mag f x)
unfolding neg plus minus mag
neg-parts f nan h = absurd h.finite
neg-parts f (inf s) h = absurd h.finite
neg-parts f (fin true m e) h = (record { finite = tt; fits = neg-fits f (fin true m e) h.fits }, refl, refl, refl)
neg-parts f (fin false m e) h = (record { finite = tt; fits = neg-fits f (fin false m e) h.fits }, refl, refl, refl)

-- ---- the float's value is that number of units, and no other number is
divides : (e : ℤ) (l a : ℕ) → down e ≤ 2 ^ l → a * 2 ^ l / down e * down e ≡ a * 2 ^ l
divides (pos k) l a h = mul-one (a * 2 ^ l / 1) ∙ div-one (a * 2 ^ l)
divides (negsuc k) l a h =
    let q : ℕ = 2 ^ suc k in
    order l (suc k) (λ p. absurd (not-le_of_lt (pow-lt p) h))
    (λ p. let d : ℕ = l - suc k in
    let z : a * 2 ^ l ≡ a * 2 ^ d * q =
    ap (λ (x : ℕ). a * 2 ^ x) (sym (sub-add_cancel p)) ∙ ap (λ (x : ℕ). a * x) (pow-add 2 d (suc k)) ∙ sym (mul_assoc a (2 ^ d) q) in
    ap (λ (x : ℕ). x / q * q) z ∙ ap (λ (x : ℕ). x * q) (mul-div_cancel (a * 2 ^ d) (pow_pos (suc k))) ∙ sym z)

-- a format's float is a whole number of units
least-place : (f : Format) (s : Bool) (m : ℕ) (e : ℤ) → T (fits f (fin s m e)) → down e ≤ 2 ^ low f
unfolding fits
least-place f s zero e t = one e (eqb→eq (up e * down e) 1 t)
  where
    one : (e : ℤ) → up e * down e ≡ 1 → down e ≤ 2 ^ low f
    one (pos k) p = pow_pos (low f)
    one (negsuc k) p = go (2 ^ suc k) (2 ^ low f) p (pow_pos (low f))
      where
        go : (x y : ℕ) → 1 * x ≡ 1 → 0 < y → x ≤ y
        go x y p h = omega arith
least-place f s (suc m) e t =
    let a : Bool = eqb (suc m % 2) 1 && ltb (suc m) (2 ^ prec f) in
    let b : Bool = leb (down e) (2 ^ low f) in
    let c : Bool = ltb (suc m * up e) (2 ^ suc (emax f) * down e) in
    leb→le (down e) (2 ^ low f) (and_r a b (and_l (a && b) c t))

pub value : (f : Format) (x : Float) → Num f x → HasValue x (sign x) (mag f x) (2 ^ low f)
unfolding mag
value f nan h = absurd h.finite
value f (inf s) h = absurd h.finite
value f (fin s m e) h = (refl, sym (divides e (low f) (m * up e) (least-place f s m e h.fits)))

pub mag_is : (f : Format) (x : Float) (s : Bool) (n : ℕ) → HasValue x s n (2 ^ low f) → (sign x ≡ s) × (mag f x ≡ n)
unfolding mag
mag_is f nan s n h = absurd h
mag_is f (inf t) s n h = absurd h
mag_is f (fin t m e) s n h = (h.0, ap (λ (z : ℕ). z / down e) h.1 ∙ mul-div_cancel n (down_pos e))

pub has-finite : (x : Float) (s : Bool) (a c : ℕ) → HasValue x s a c → T (finite x)
has-finite nan s a c h = absurd h
has-finite (inf t) s a c h = absurd h
has-finite (fin t m e) s a c h = tt

-- ---- rounding: n units become R f n
abbrev pub R : Format → ℕ → ℕ
R f n = rq (prec f) n 1

pub round_mono : (f : Format) (m n : ℕ) → m ≤ n → R f m ≤ R f n
round_mono f m n h =
    rq-mono (prec f) m 1 n 1 (two-le_pos (prec f) (two f)) (zero-lt-suc 0) (zero-lt-suc 0) (mul-le-mul_right 1 h)

-- nothing is left of a smaller number
pub round-none : (f : Format) (m n : ℕ) → m ≤ n → R f (m - n) ≡ 0
round-none f m n h = ap (R f) (sub-eq-zero_of_le h) ∙ rq-zero (prec f)

-- a / c rounded, where a / c is n / d units and the result does not overflow
pub round-value : (f : Format) (s : Bool) (a c n d : ℕ) → 0 < c → 0 < d → a * 2 ^ low f * d ≡ n * c
    → rq (prec f) n d < overflow f → HasValue (round f s a c) s (rq (prec f) n d) (2 ^ low f)
round-value f s a c n d C D e h =
    let m = a * 2 ^ low f in
    let q = kept (prec f) m c in
    let k = drop (prec f) m c in
    let g : rq (prec f) m c ≡ rq (prec f) n d = rq-same (prec f) m c n d C D e in
    subst (λ (z : Float). HasValue z s (rq (prec f) n d) (2 ^ low f)) (sym (round_is f s a c))
    (subst (λ (z : ℕ). HasValue (units f s q k) s z (2 ^ low f)) g
    (units_val f s q k (subst (λ (z : ℕ). z < overflow f) (sym g) h)))
