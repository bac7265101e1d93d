-- A float times a power of two, and that product times another: one rounding, wherever the steps take it. Over the kit's formats. Assumes nothing.
use mathlib.Core.Path.{◌≡◌, sym, ap, ◌∙◌}
use Prim.Native.Nat.{ℕ, suc, ◌+◌, ◌-◌, ◌*◌, ◌^◌, ◌≤◌, ◌<◌}
use native.Mathlib.Nat.{le_trans, le_of_eq, le_of_lt, lt_of_lt_of_le, lt_of_le_of_lt, lt_of_not-le, not-le_of_lt, mul-one, mul_comm, mul_assoc, mul-pos, mul-le-mul_right, mul-le-mul_left, mul-lt-mul_of_pos_right, pow-suc}
use native.Mathlib.Omega.{arith}
use mathlib.Core.Bool.{Bool, true, false, not}
use lib.Dec.{T, ltb, ltb→lt, nltb→le}
use lib.Pow.{pow-add, pow_pos, pow_mono, shl_lt}
use lib.IntN.{pos, negsuc}
use lib.Ieee.{Float, nan, inf, fin, Format, prec, low, round, mul, fits}
use lib.Ieee.Exact.{HasValue, round_exact}
use lib.Ieee.Scale.{overflow}
use Rattle.scale.specs.Scale.{power}
use Rattle.scale.proofs.Powers.{mul_val, mul-nan, mul-inf, round-zero, round-inf, round-low, held}

-- ---- two steps up are one
up_up : (f : Format) (x : Float) (s : Bool) (q j c t : ℕ) → q < 2 ^ prec f → HasValue x s (q * 2 ^ j) (2 ^ low f)
    → mul f (mul f x (power (pos c))) (power (pos t)) ≡ mul f x (power (pos (c + t)))
up_up f x s q j c t Q v = go (ltb (a * 2 ^ c) (overflow f)) (ltb→lt (a * 2 ^ c) (overflow f)) (nltb→le (a * 2 ^ c) (overflow f))
  where
    a : ℕ
    a = q * 2 ^ j

    l : ℕ
    l = 2 ^ low f

    L : 0 < l * 1
    L = mul-pos (pow_pos (low f)) (pow_pos 0)

    one : (n : ℕ) → mul f x (power (pos n)) ≡ round f s (a * 2 ^ n) (l * 1)
    one n = mul_val f x s a l (pos n) (pow_pos (low f)) v

    over : (n : ℕ) → overflow f ≤ a * 2 ^ n → mul f x (power (pos n)) ≡ inf s
    over n h = one n ∙ round-inf f s (a * 2 ^ n) (l * 1) L (le_trans (le_of_eq (ap (λ (z : ℕ). overflow f * z) (mul-one l))) (mul-le-mul_right l h))

    shift : q * 2 ^ (j + c) ≡ a * 2 ^ c
    shift = ap (λ (z : ℕ). q * z) (pow-add 2 j c) ∙ sym (mul_assoc q (2 ^ j) (2 ^ c))

    go : (b : Bool) → (T b → a * 2 ^ c < overflow f) → (T (not b) → overflow f ≤ a * 2 ^ c) → mul f (mul f x (power (pos c))) (power (pos t)) ≡ mul f x (power (pos (c + t)))
    go true h k =
        let exact : HasValue (round f s (a * 2 ^ c) (l * 1)) s (a * 2 ^ c) (l * 1) =
        round_exact f s (a * 2 ^ c) (l * 1) q (j + c) L Q (lt_of_le_of_lt (le_of_eq shift) (h tt)) (ap (λ (z : ℕ). z * l) (sym shift) ∙ ap (λ (z : ℕ). q * 2 ^ (j + c) * z) (sym (mul-one l))) in
        ap (λ (y : Float). mul f y (power (pos t))) (one c)
        ∙ mul_val f (round f s (a * 2 ^ c) (l * 1)) s (a * 2 ^ c) (l * 1) (pos t) L exact
        ∙ ap (λ (z : ℕ). round f s (a * 2 ^ c * 2 ^ t) z) (mul-one (l * 1))
        ∙ ap (λ (z : ℕ). round f s z (l * 1)) (mul_assoc a (2 ^ c) (2 ^ t) ∙ ap (λ (z : ℕ). a * z) (sym (pow-add 2 c t)))
        ∙ sym (one (c + t))
    go false h k =
        ap (λ (y : Float). mul f y (power (pos t))) (over c (k tt))
        ∙ mul-inf f s (pos t)
        ∙ sym (over (c + t) (le_trans (k tt) (mul-le-mul_left a (pow_mono (more c t)))))
      where
        more : (c t : ℕ) → c ≤ c + t
        more c t = omega arith

pub steps_up : (f : Format) (x : Float) (c t : ℕ) → T (fits f x) → mul f (mul f x (power (pos c))) (power (pos t)) ≡ mul f x (power (pos (c + t)))
steps_up f nan c t h = ap (λ (y : Float). mul f y (power (pos t))) (mul-nan f (pos c)) ∙ mul-nan f (pos t) ∙ sym (mul-nan f (pos (c + t)))
steps_up f (inf s) c t h = ap (λ (y : Float). mul f y (power (pos t))) (mul-inf f s (pos c)) ∙ mul-inf f s (pos t) ∙ sym (mul-inf f s (pos (c + t)))
steps_up f (fin s m e) c t h = let v = held f (fin s m e) h in up_up f (fin s m e) s v.0 v.1 c t v.2 v.4

-- ---- two steps down are one, if the second is of 2 ^ -(prec + 1) or less: either the first is exact, or both ways end in zero
down-down : (f : Format) (x : Float) (s : Bool) (q j c t : ℕ) → q < 2 ^ prec f → q * 2 ^ j < overflow f → HasValue x s (q * 2 ^ j) (2 ^ low f) → prec f ≤ t
    → mul f (mul f x (power (negsuc c))) (power (negsuc t)) ≡ mul f x (power (negsuc (suc (c + t))))
down-down f x s q j c t Q O v P = go (ltb a (2 ^ (prec f + suc c))) (ltb→lt a (2 ^ (prec f + suc c))) (nltb→le a (2 ^ (prec f + suc c)))
  where
    a : ℕ
    a = q * 2 ^ j

    l : ℕ
    l = 2 ^ low f

    L : (n : ℕ) → 0 < l * 2 ^ suc n
    L n = mul-pos (pow_pos (low f)) (pow_pos (suc n))

    one : (n : ℕ) → mul f x (power (negsuc n)) ≡ round f s (a * 1) (l * 2 ^ suc n)
    one n = mul_val f x s a l (negsuc n) (pow_pos (low f)) v

    -- b units, b at most 2 ^ n, times 2 ^ -(n + 1)
    gone : (b n : ℕ) → b ≤ 2 ^ n → round f s (b * 1) (l * 2 ^ suc n) ≡ fin s 0 (pos 0)
    gone b n h =
        round-zero f s (b * 1) (l * 2 ^ suc n) (L n)
        (le_trans (le_of_eq (ap (λ (z : ℕ). z * l * 2) (mul-one b) ∙ ap (λ (z : ℕ). z * 2) (mul_comm b l) ∙ mul_assoc l b 2))
        (mul-le-mul_left l (le_trans (mul-le-mul_right 2 h) (le_of_eq (sym (pow-suc 2 n))))))

    fewer : (p c t : ℕ) → p ≤ t → p + suc c ≤ suc (c + t)
    fewer p c t h = omega arith

    split : (c t : ℕ) → suc (suc (c + t)) ≡ suc c + suc t
    split c t = omega arith

    back : (p c j : ℕ) → p + suc c < p + j → j ≡ j - suc c + suc c
    back p c j h = omega arith

    go : (b : Bool) → (T b → a < 2 ^ (prec f + suc c)) → (T (not b) → 2 ^ (prec f + suc c) ≤ a)
        → mul f (mul f x (power (negsuc c))) (power (negsuc t)) ≡ mul f x (power (negsuc (suc (c + t))))
    go true h k =
        let r = round f s (a * 1) (l * 2 ^ suc c) in
        let under : a * 1 * l < 2 ^ prec f * (l * 2 ^ suc c) =
        lt_of_le_of_lt (le_of_eq (ap (λ (z : ℕ). z * l) (mul-one a)))
        (lt_of_lt_of_le (mul-lt-mul_of_pos_right (h tt) (pow_pos (low f)))
        (le_of_eq (ap (λ (z : ℕ). z * l) (pow-add 2 (prec f) (suc c)) ∙ mul_assoc (2 ^ prec f) (2 ^ suc c) l ∙ ap (λ (z : ℕ). 2 ^ prec f * z) (mul_comm (2 ^ suc c) l)))) in
        let g = round-low f s (a * 1) (l * 2 ^ suc c) (L c) under in
        ap (λ (y : Float). mul f y (power (negsuc t))) (one c)
        ∙ mul_val f r s g.0 l (negsuc t) (pow_pos (low f)) g.2
        ∙ gone g.0 t (le_trans g.1 (pow_mono P))
        ∙ sym (one (suc (c + t)) ∙ gone a (suc (c + t)) (le_trans (le_of_lt (h tt)) (pow_mono (fewer (prec f) c t P))))
    go false h k =
        let i = j - suc c in
        let far : 2 ^ (prec f + suc c) < 2 ^ (prec f + j) = lt_of_le_of_lt (k tt) (shl_lt (prec f) j Q) in
        let e : j ≡ i + suc c = back (prec f) c j (pow_lt_back (prec f + suc c) (prec f + j) far) in
        let cut : q * 2 ^ i * 2 ^ suc c ≡ a = mul_assoc q (2 ^ i) (2 ^ suc c) ∙ ap (λ (z : ℕ). q * z) (sym (pow-add 2 i (suc c)) ∙ ap (λ (z : ℕ). 2 ^ z) (sym e)) in
        let exact : HasValue (round f s (a * 1) (l * 2 ^ suc c)) s (a * 1) (l * 2 ^ suc c) =
        round_exact f s (a * 1) (l * 2 ^ suc c) q i (L c) Q
        (lt_of_le_of_lt (le_trans (le_of_eq (sym (mul-one (q * 2 ^ i)))) (le_trans (mul-le-mul_left (q * 2 ^ i) (pow_pos (suc c))) (le_of_eq cut))) O)
        (ap (λ (z : ℕ). z * l) (mul-one a ∙ sym cut) ∙ mul_assoc (q * 2 ^ i) (2 ^ suc c) l ∙ ap (λ (z : ℕ). q * 2 ^ i * z) (mul_comm (2 ^ suc c) l)) in
        ap (λ (y : Float). mul f y (power (negsuc t))) (one c)
        ∙ mul_val f (round f s (a * 1) (l * 2 ^ suc c)) s (a * 1) (l * 2 ^ suc c) (negsuc t) (L c) exact
        ∙ ap (λ (z : ℕ). round f s z (l * 2 ^ suc c * 2 ^ suc t)) (mul-one (a * 1))
        ∙ ap (λ (z : ℕ). round f s (a * 1) z) (mul_assoc l (2 ^ suc c) (2 ^ suc t) ∙ ap (λ (z : ℕ). l * z) (sym (pow-add 2 (suc c) (suc t)) ∙ ap (λ (z : ℕ). 2 ^ z) (sym (split c t))))
        ∙ sym (one (suc (c + t)))
      where
        pow_lt_back : (i p : ℕ) → 2 ^ i < 2 ^ p → i < p
        pow_lt_back i p h = lt_of_not-le (λ (g : p ≤ i). not-le_of_lt h (pow_mono g))

pub steps-down : (f : Format) (x : Float) (c t : ℕ) → T (fits f x) → prec f ≤ t → mul f (mul f x (power (negsuc c))) (power (negsuc t)) ≡ mul f x (power (negsuc (suc (c + t))))
steps-down f nan c t h P = ap (λ (y : Float). mul f y (power (negsuc t))) (mul-nan f (negsuc c)) ∙ mul-nan f (negsuc t) ∙ sym (mul-nan f (negsuc (suc (c + t))))
steps-down f (inf s) c t h P = ap (λ (y : Float). mul f y (power (negsuc t))) (mul-inf f s (negsuc c)) ∙ mul-inf f s (negsuc t) ∙ sym (mul-inf f s (negsuc (suc (c + t))))
steps-down f (fin s m e) c t h P = let v = held f (fin s m e) h in down-down f (fin s m e) s v.0 v.1 c t v.2 v.3 v.4 P
