-- What a sum and a difference of two finite floats are: the exact number of units, rounded once. By the four ways that the signs can meet.
use mathlib.Core.Path.{◌≡◌, refl, sym, ap, ◌∙◌, subst}
use Prim.Native.Nat.{ℕ, ◌+◌, ◌-◌, ◌*◌, ◌^◌, ◌≤◌, ◌<◌}
use native.Mathlib.Nat.{le_trans, le_of_eq, lt_of_le_of_lt, le_of_lt, le-add_right, le-add_left, sub-le, zero-lt-suc}
use native.Mathlib.Nat.{mul-one, mul_comm, mul-sub, add-mul, mul-pos, mul-le-mul_right, le_of_mul-le-mul_right}
use native.Mathlib.Omega.{arith}
use mathlib.Core.Bool.{Bool, true, false, not, ◌&&◌, beq, cond, true≢false}
use lib.Dec.{T, ltb, ltb→lt, nltb→le}
use lib.Ieee.{Float, nan, inf, fin, Format, prec, low, up, down, round, sum, add, sub, neg, fits}
use lib.Ieee.Fits.{down_pos, round-fits}
use lib.Ieee.Exact.{HasValue}
use lib.Ieee.Scale.{overflow}
use Rattle.bounds.proofs.Grid.{rq-zero}
use Rattle.bounds.proofs.Signed.{sign, mag, when, plus, minus, Num, R, neg-parts, value, mag_is, has-finite, round-value, round_mono}

-- r is finite, and it is p - m units
pub record Res (f : Format) (r : Float) (p m : ℕ) : Type 0 where
  pub num : Num f r
  pub up : plus f r ≡ p
  pub lo : minus f r ≡ m

-- r is the number a - b of units, rounded
abbrev pub Rounded : Format → Float → ℕ → ℕ → Type 0
Rounded f r a b = Res f r (R f (a - b)) (R f (b - a))

-- from its value
pub res-of : (f : Format) (r : Float) (s : Bool) (n : ℕ) → HasValue r s n (2 ^ low f) → T (fits f r) → Res f r (when (not s) n) (when s n)
unfolding plus minus
res-of f r s n h t =
    let e = mag_is f r s n h in
    record {
      num = record { finite = has-finite r s n (2 ^ low f) h; fits = t };
      up = ap (λ (b : Bool). when (not b) (mag f r)) e.0 ∙ ap (when (not s)) e.1;
      lo = ap (λ (b : Bool). when b (mag f r)) e.0 ∙ ap (when s) e.1;
    }

res-to : (f : Format) (r : Float) (p m p' m' : ℕ) → Res f r p m → p ≡ p' → m ≡ m' → Res f r p' m'
res-to f r p m p' m' h a b = record { num = h.num; up = h.up ∙ a; lo = h.lo ∙ b }

-- n units with the sign s, rounded; p and q are what its two parts are before that
piece : (f : Format) (s : Bool) (N C n p q : ℕ) → 0 < C → N * 2 ^ low f ≡ n * C → R f n < overflow f
    → when (not s) n ≡ p → when s n ≡ q → Res f (round f s N C) (R f p) (R f q)
piece f s N C n p q H e h a b =
    let v = round-value f s N C n 1 H (zero-lt-suc 0) (mul-one (N * 2 ^ low f) ∙ e) h in
    res-to f (round f s N C) (when (not s) (R f n)) (when s (R f n)) (R f p) (R f q)
    (res-of f (round f s N C) s (R f n) v (round-fits f s N C))
    (inside (not s) n ∙ ap (R f) a) (inside s n ∙ ap (R f) b)
  where
    inside : (s : Bool) (n : ℕ) → when s (R f n) ≡ R f (when s n)
    inside true n = refl
    inside false n = sym (rq-zero (prec f))

below : (f : Format) (m n : ℕ) → m ≤ n → R f n < overflow f → R f m < overflow f
below f m n h k = lt_of_le_of_lt (round_mono f m n h) k

-- ---- numbers: over a common denominator, and the two parts of a sum by the order of its terms
pub cross : (m d u a e : ℕ) → m * u ≡ a * e → m * d * u ≡ a * (e * d)
cross m d u a e h = omega (arith, ap (λ (z : ℕ). z * d) h)

pub cross-le : (U C : ℕ) {X Y x y : ℕ} → 0 < C → X * U ≡ x * C → Y * U ≡ y * C → X ≤ Y → x ≤ y
cross-le U C P e g l = le_of_mul-le-mul_right (le_trans (le_of_eq (sym e)) (le_trans (mul-le-mul_right U l) (le_of_eq g))) P

less_none : (x y : ℕ) → x ≤ y → 0 ≡ (x + 0) - (0 + y)
less_none x y l = omega arith

none-less : (x y : ℕ) → y ≤ x → 0 ≡ (0 + y) - (x + 0)
none-less x y l = omega arith

less-is : (x y : ℕ) → x - y ≡ (x + 0) - (0 + y)
less-is x y = omega arith

is-less : (x y : ℕ) → y - x ≡ (0 + y) - (x + 0)
is-less x y = omega arith

-- ---- the kit's sum of A / C and B / C, which are a and b units
sum-res : (f : Format) (s : Bool) (A : ℕ) (t : Bool) (B C a b : ℕ) → 0 < C → A * 2 ^ low f ≡ a * C → B * 2 ^ low f ≡ b * C
    → (s ≡ t → R f (a + b) < overflow f) → R f a < overflow f → R f b < overflow f
    → Rounded f (sum f s A t B C) (when (not s) a + when (not t) b) (when s a + when t b)
unfolding sum
sum-res f s A t B C a b H p q h ha hb = by s t h
  where
    U : ℕ
    U = 2 ^ low f

    both : (A + B) * U ≡ (a + b) * C
    both = add-mul A B U ∙ ap (λ (z : ℕ). z + B * U) p ∙ ap (λ (z : ℕ). a * C + z) q ∙ sym (add-mul a b C)

    difference : (X Y x y : ℕ) → X * U ≡ x * C → Y * U ≡ y * C → (X - Y) * U ≡ (x - y) * C
    difference X Y x y e g =
        mul_comm (X - Y) U ∙ mul-sub U X Y
        ∙ ap (λ (z : ℕ). z - U * Y) (mul_comm U X ∙ e ∙ mul_comm x C)
        ∙ ap (λ (z : ℕ). C * x - z) (mul_comm U Y ∙ g ∙ mul_comm y C)
        ∙ sym (mul-sub C x y) ∙ mul_comm C (x - y)

    by : (s t : Bool) → (s ≡ t → R f (a + b) < overflow f)
        → Rounded f (cond (beq s t) (round f s (A + B) C) (cond (ltb A B) (round f t (B - A) C) (round f (s && ltb B A) (A - B) C)))
        (when (not s) a + when (not t) b) (when s a + when t b)
    by false false h = piece f false (A + B) C (a + b) ((a + b) - 0) (0 - (a + b)) H both (h refl) (omega arith) (omega arith)
    by true true h = piece f true (A + B) C (a + b) (0 - (a + b)) ((a + b) - 0) H both (h refl) (omega arith) (omega arith)
    by false true h = go (ltb A B) (ltb→lt A B) (nltb→le A B)
      where
        go : (u : Bool) → (T u → A < B) → (T (not u) → B ≤ A)
            → Rounded f (cond u (round f true (B - A) C) (round f false (A - B) C)) (a + 0) (0 + b)
        go true l k =
            piece f true (B - A) C (b - a) ((a + 0) - (0 + b)) ((0 + b) - (a + 0)) H (difference B A b a q p) (below f (b - a) b (sub-le b a) hb)
            (less_none a b (cross-le U C H p q (le_of_lt (l tt)))) (is-less a b)
        go false l k =
            piece f false (A - B) C (a - b) ((a + 0) - (0 + b)) ((0 + b) - (a + 0)) H (difference A B a b p q) (below f (a - b) a (sub-le a b) ha)
            (less-is a b) (none-less a b (cross-le U C H q p (k tt)))
    by true false h = go (ltb A B) (ltb→lt A B) (nltb→le A B) (ltb B A) (nltb→le B A)
      where
        go : (u : Bool) → (T u → A < B) → (T (not u) → B ≤ A) → (v : Bool) → (T (not v) → A ≤ B)
            → Rounded f (cond u (round f false (B - A) C) (round f v (A - B) C)) (0 + b) (a + 0)
        go true l k v k' =
            piece f false (B - A) C (b - a) ((0 + b) - (a + 0)) ((a + 0) - (0 + b)) H (difference B A b a q p) (below f (b - a) b (sub-le b a) hb)
            (is-less a b) (less_none a b (cross-le U C H p q (le_of_lt (l tt))))
        go false l k true k' =
            piece f true (A - B) C (a - b) ((0 + b) - (a + 0)) ((a + 0) - (0 + b)) H (difference A B a b p q) (below f (a - b) a (sub-le a b) ha)
            (none-less a b (cross-le U C H q p (k tt))) (less-is a b)
        go false l k false k' =
            piece f false (A - B) C (a - b) ((0 + b) - (a + 0)) ((a + 0) - (0 + b)) H (difference A B a b p q) (below f (a - b) a (sub-le a b) ha)
            (same a b (cross-le U C H p q (k' tt)) (cross-le U C H q p (k tt))) (less_none a b (cross-le U C H p q (k' tt)))
          where
            same : (x y : ℕ) → x ≤ y → y ≤ x → x - y ≡ (0 + y) - (x + 0)
            same x y h k = omega arith

-- ---- the sum: with like signs the larger number must not overflow; with unlike signs neither operand must
pub add-res-by-signs : (f : Format) (x y : Float) → Num f x → Num f y → (sign x ≡ sign y → R f (mag f x + mag f y) < overflow f)
    → R f (mag f x) < overflow f → R f (mag f y) < overflow f
    → Rounded f (add f x y) (plus f x + plus f y) (minus f x + minus f y)
unfolding add plus minus
add-res-by-signs f nan y h k l la lb = absurd h.finite
add-res-by-signs f (inf s) y h k l la lb = absurd h.finite
add-res-by-signs f (fin s m e) nan h k l la lb = absurd k.finite
add-res-by-signs f (fin s m e) (inf t) h k l la lb = absurd k.finite
add-res-by-signs f (fin s m e) (fin t n d) h k l la lb =
    let a = mag f (fin s m e) in
    let b = mag f (fin t n d) in
    sum-res f s (m * up e * down d) t (n * up d * down e) (down e * down d) a b (mul-pos (down_pos e) (down_pos d))
    (cross (m * up e) (down d) (2 ^ low f) a (down e) (value f (fin s m e) h).1)
    (cross (n * up d) (down e) (2 ^ low f) b (down d) (value f (fin t n d) k).1 ∙ ap (λ (z : ℕ). b * z) (mul_comm (down d) (down e))) l la lb

pub add-res : (f : Format) (x y : Float) → Num f x → Num f y → R f (mag f x + mag f y) < overflow f
    → Rounded f (add f x y) (plus f x + plus f y) (minus f x + minus f y)
add-res f x y h k l =
    add-res-by-signs f x y h k (λ e. l) (below f (mag f x) (mag f x + mag f y) (le-add_right (mag f x) (mag f y)) l)
    (below f (mag f y) (mag f x + mag f y) (le-add_left (mag f y) (mag f x)) l)

-- ---- the difference is the sum with the other sign
turned : (f : Format) (x y : Float) → Num f y → Rounded f (add f x (neg y)) (plus f x + plus f (neg y)) (minus f x + minus f (neg y))
    → Rounded f (sub f x y) (plus f x + minus f y) (minus f x + plus f y)
unfolding sub
turned f x y k r =
    let n = neg-parts f y k in
    rw (n.1, n.2) at r

pub sub-res : (f : Format) (x y : Float) → Num f x → Num f y → R f (mag f x + mag f y) < overflow f
    → Rounded f (sub f x y) (plus f x + minus f y) (minus f x + plus f y)
sub-res f x y h k l =
    let n = neg-parts f y k in
    turned f x y k (add-res f x (neg y) h n.0 (subst (λ (z : ℕ). R f (mag f x + z) < overflow f) (sym n.3) l))

unlike-neg : (f : Format) (y : Float) → Num f y → sign y ≡ sign (neg y) → ⊥
unfolding neg
unlike-neg f nan k e = k.finite
unlike-neg f (inf s) k e = k.finite
unlike-neg f (fin true m d) k e = true≢false e
unlike-neg f (fin false m d) k e = true≢false (sym e)

-- of two floats of one sign: nothing overflows
pub sub-res-alike : (f : Format) (x y : Float) → Num f x → Num f y → sign y ≡ sign x → R f (mag f x) < overflow f → R f (mag f y) < overflow f
    → Rounded f (sub f x y) (plus f x + minus f y) (minus f x + plus f y)
sub-res-alike f x y h k e la lb =
    let n = neg-parts f y k in
    turned f x y k (add-res-by-signs f x (neg y) h n.0 (λ i. absurd (unlike-neg f y k (e ∙ i))) la (subst (λ (z : ℕ). R f z < overflow f) (sym n.3) lb))
