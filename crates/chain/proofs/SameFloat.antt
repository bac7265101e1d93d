-- A finite float is known by its sign and its size; and 0 taken off a float changes nothing.
use mathlib.Core.Path.{◌≡◌, refl, sym, ap, ◌∙◌, subst}
use Prim.Native.Nat.{ℕ, suc, ◌+◌, ◌-◌, ◌*◌, ◌%◌, ◌^◌, ◌≤◌, ◌<◌}
use native.Mathlib.Nat.{le_of_eq, lt_of_le_of_lt, le_antisymm, mul-one, mod-eq-sub-mod, mod-eq_of_lt, zero-lt-suc}
use native.Mathlib.Omega.{arith}
use mathlib.Core.Bool.{Bool, true, false, not, cond}
use lib.Dec.{T, leb, ltb, leb→le, nleb→lt, ltb→lt, not_T}
use lib.IntN.{ℤ, pos}
use lib.Ieee.{Float, nan, inf, fin, Format, prec, low, up, down, top, round, add, sub, neg, sum, fits, to_bits, of_bits}
use lib.Ieee.Fits.{two, two-le_pos, down_pos, sub-fits}
use lib.Ieee.Bits.{is_false, of_bits-to_bits, to_bits-lt}
use lib.Ieee.Exact.{HasValue}
use Rattle.words.specs.Format.{ours, units}
use Rattle.words.proofs.Grid.{rises}
use Rattle.words.proofs.Units.{units-step}
use Rattle.bounds.proofs.Signed.{sign, mag, Num, R, value, mag_is, has-finite, round-value}
use Rattle.bounds.proofs.Words.{word_of, mag-exact, mag-under}
use Rattle.bounds.proofs.Choice.{choose, order}

-- ---- a finite float is known by its sign and its size
words-by : (t a b : ℕ) → a < 2 * t → b < 2 * t → leb t a ≡ leb t b → a % t ≡ b % t → a ≡ b
words-by t a b la lb s e =
    choose (leb t a) (λ c. above a la (leb→le t a c) ∙ ap (λ (y : ℕ). t + y) e ∙ sym (above b lb (leb→le t b (subst T s c))))
    (λ c. sym (mod-eq_of_lt (nleb→lt t a c)) ∙ e ∙ mod-eq_of_lt (nleb→lt t b (subst (λ (v : Bool). T (not v)) s c)))
  where
    less : (t a : ℕ) → a < 2 * t → t ≤ a → a - t < t
    less t a l h = omega arith

    back : (t a r : ℕ) → t ≤ a → r ≡ a - t → a ≡ t + r
    back t a r h e = omega arith

    above : (a : ℕ) → a < 2 * t → t ≤ a → a ≡ t + a % t
    above a l h = back t a (a % t) h (mod-eq-sub-mod h ∙ mod-eq_of_lt (less t a l h))

units-same : (f : Format) (a b : ℕ) → units (ours f) a ≡ units (ours f) b → a ≡ b
units-same f a b e =
    order a b (λ l. absurd (clash (units (ours f) a) (units (ours f) b) e (rises (units (ours f)) step a b l)))
    (λ h. order b a (λ l. absurd (clash (units (ours f) b) (units (ours f) a) (sym e) (rises (units (ours f)) step b a l))) (λ k. le_antisymm k h))
  where
    step : (n : ℕ) → units (ours f) n < units (ours f) (suc n)
    step = units-step (ours f) (two-le_pos (prec f) (two f))

    clash : (x y : ℕ) → x ≡ y → x < y → ⊥
    clash x y e l = omega arith

pub same_float : (f : Format) (x y : Float) → Num f x → Num f y → sign x ≡ sign y → mag f x ≡ mag f y → x ≡ y
unfolding units
same_float f x y h k s e =
    let a = word_of f x h in
    let b = word_of f y k in
    sym (of_bits-to_bits f x h.fits)
    ∙ ap (of_bits f) (words-by (top f) (to_bits f x) (to_bits f y) (to_bits-lt f x h.fits) (to_bits-lt f y k.fits) (sym a.sgn ∙ s ∙ b.sgn)
    (units-same f (to_bits f x % top f) (to_bits f y % top f) (sym a.mag ∙ e ∙ b.mag)))
    ∙ of_bits-to_bits f y k.fits

-- ---- 0 taken off changes nothing
by-round : (f : Format) (s : Bool) (m : ℕ) (e : ℤ) → sub f (fin s m e) (fin false 0 (pos 0)) ≡ round f s (m * up e) (down e)
unfolding sub add neg sum
by-round f true m e = re (m * up e) (down e)
  where
    re : (a c : ℕ) → round f true (a * 1 + 0 * 1 * c) (c * 1) ≡ round f true a c
    re a c = ap (λ (y : ℕ). round f true y (c * 1)) (flat a c) ∙ ap (round f true a) (mul-one c)
      where
        flat : (a c : ℕ) → a * 1 + 0 * 1 * c ≡ a
        flat a c = omega arith
by-round f false m e = re (m * up e) (down e)
  where
    re : (a c : ℕ) → cond (ltb (a * 1) (0 * 1 * c)) (round f true (0 * 1 * c - a * 1) (c * 1)) (round f false (a * 1 - 0 * 1 * c) (c * 1)) ≡ round f false a c
    re a c =
        ap (λ (b : Bool). cond b (round f true (0 * 1 * c - a * 1) (c * 1)) (round f false (a * 1 - 0 * 1 * c) (c * 1)))
        (is_false (ltb (a * 1) (0 * 1 * c)) (not_T (ltb (a * 1) (0 * 1 * c)) (λ t. none a c (ltb→lt (a * 1) (0 * 1 * c) t))))
        ∙ ap (λ (y : ℕ). round f false y (c * 1)) (flat a c) ∙ ap (round f false a) (mul-one c)
      where
        none : (a c : ℕ) → a * 1 < 0 * 1 * c → ⊥
        none a c h = omega arith

        flat : (a c : ℕ) → a * 1 - 0 * 1 * c ≡ a
        flat a c = omega arith

pub sub-zero-is : (f : Format) (h : Float) → T (fits f h) → sub f h (fin false 0 (pos 0)) ≡ h
unfolding sub add neg
sub-zero-is f nan t = refl
sub-zero-is f (inf s) t = refl
sub-zero-is f (fin s m e) t =
    let x = fin s m e in
    let n : Num f x = record { finite = tt; fits = t } in
    let r = round f s (m * up e) (down e) in
    let exact : R f (mag f x) ≡ mag f x = mag-exact f x n in
    let v : HasValue r s (R f (mag f x)) (2 ^ low f) =
    round-value f s (m * up e) (down e) (mag f x) 1 (down_pos e) (zero-lt-suc 0) (mul-one (m * up e * 2 ^ low f) ∙ (value f x n).1)
    (lt_of_le_of_lt (le_of_eq exact) (mag-under f x n)) in
    let i = mag_is f r s (R f (mag f x)) v in
    let fit : T (fits f r) = subst (λ (y : Float). T (fits f y)) (by-round f s m e) (sub-fits f x (fin false 0 (pos 0))) in
    by-round f s m e ∙ same_float f r x (record { finite = has-finite r s (R f (mag f x)) (2 ^ low f) v; fits = fit }) n i.0 (i.1 ∙ exact)
