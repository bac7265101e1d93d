-- Far up every number but zero is an infinity, and far down every number is zero: so the exponent may be clamped. Over the kit's formats. Assumes nothing.
use mathlib.Core.Path.{◌≡◌, sym, ap, ◌∙◌}
use mathlib.Core.Logic.{◌⊎◌, inl, inr}
use Prim.Native.Nat.{ℕ, suc, ◌+◌, ◌*◌, ◌^◌, ◌≤◌, ◌<◌, zero-le}
use native.Mathlib.Nat.{le_trans, le_of_eq, le_of_lt, eq-zero-or-pos, mul-one, one-mul, zero-mul, mul_comm, mul_assoc, mul-pos, mul-le-mul_right, mul-le-mul_left, pow-suc}
use mathlib.Core.Bool.{Bool}
use lib.Dec.{T}
use lib.Pow.{pow_pos, pow_mono}
use lib.IntN.{pos, negsuc}
use lib.Ieee.{Float, nan, inf, fin, Format, emax, low, round, mul, fits}
use lib.Ieee.Exact.{HasValue}
use lib.Ieee.Scale.{overflow}
use Rattle.scale.specs.Scale.{power}
use Rattle.scale.proofs.Powers.{mul_val, mul-nan, mul-inf, round-zero, round-inf, held}

pub far-up : (f : Format) (x : Float) (s : Bool) (a n : ℕ) → HasValue x s a (2 ^ low f) → low f + suc (emax f) ≤ n → mul f x (power (pos n)) ≡ elim (eq-zero-or-pos a) [ inl z ↦ fin s 0 (pos 0) | inr z ↦ inf s ]
far-up f x s a n v h = go (eq-zero-or-pos a)
  where
    l : ℕ
    l = 2 ^ low f

    L : 0 < l * 1
    L = mul-pos (pow_pos (low f)) (pow_pos 0)

    one : mul f x (power (pos n)) ≡ round f s (a * 2 ^ n) (l * 1)
    one = mul_val f x s a l (pos n) (pow_pos (low f)) v

    go : (d : (a ≡ 0) ⊎ (0 < a)) → mul f x (power (pos n)) ≡ elim d [ inl z ↦ fin s 0 (pos 0) | inr z ↦ inf s ]
    go (inl z) =
        one
        ∙ round-zero f s (a * 2 ^ n) (l * 1) L (le_trans (le_of_eq (ap (λ (y : ℕ). y * 2 ^ n * l * 2) z ∙ ap (λ (y : ℕ). y * l * 2) (zero-mul (2 ^ n)) ∙ ap (λ (y : ℕ). y * 2) (zero-mul l))) zero-le)
    go (inr z) =
        one
        ∙ round-inf f s (a * 2 ^ n) (l * 1) L (le_trans (le_of_eq (ap (λ (y : ℕ). overflow f * y) (mul-one l))) (mul-le-mul_right l (le_trans (pow_mono h) (le_trans (le_of_eq (sym (one-mul (2 ^ n)))) (mul-le-mul_right (2 ^ n) z)))))

pub clamp-up : (f : Format) (x : Float) (n k : ℕ) → T (fits f x) → low f + suc (emax f) ≤ n → low f + suc (emax f) ≤ k → mul f x (power (pos n)) ≡ mul f x (power (pos k))
clamp-up f nan n k h a b = mul-nan f (pos n) ∙ sym (mul-nan f (pos k))
clamp-up f (inf s) n k h a b = mul-inf f s (pos n) ∙ sym (mul-inf f s (pos k))
clamp-up f (fin s m e) n k h a b = let v = held f (fin s m e) h in far-up f (fin s m e) s (v.0 * 2 ^ v.1) n v.4 a ∙ sym (far-up f (fin s m e) s (v.0 * 2 ^ v.1) k v.4 b)

pub far-down : (f : Format) (x : Float) (s : Bool) (a n : ℕ) → HasValue x s a (2 ^ low f) → a < overflow f → low f + suc (emax f) ≤ n → mul f x (power (negsuc n)) ≡ fin s 0 (pos 0)
far-down f x s a n v o h =
    let l = 2 ^ low f in
    mul_val f x s a l (negsuc n) (pow_pos (low f)) v
    ∙ round-zero f s (a * 1) (l * 2 ^ suc n) (mul-pos (pow_pos (low f)) (pow_pos (suc n)))
    (le_trans (le_of_eq (ap (λ (z : ℕ). z * l * 2) (mul-one a) ∙ ap (λ (z : ℕ). z * 2) (mul_comm a l) ∙ mul_assoc l a 2))
    (mul-le-mul_left l (le_trans (mul-le-mul_right 2 (le_trans (le_of_lt o) (pow_mono h))) (le_of_eq (sym (pow-suc 2 n))))))

pub clamp-down : (f : Format) (x : Float) (n k : ℕ) → T (fits f x) → low f + suc (emax f) ≤ n → low f + suc (emax f) ≤ k → mul f x (power (negsuc n)) ≡ mul f x (power (negsuc k))
clamp-down f nan n k h a b = mul-nan f (negsuc n) ∙ sym (mul-nan f (negsuc k))
clamp-down f (inf s) n k h a b = mul-inf f s (negsuc n) ∙ sym (mul-inf f s (negsuc k))
clamp-down f (fin s m e) n k h a b = let v = held f (fin s m e) h in far-down f (fin s m e) s (v.0 * 2 ^ v.1) n v.4 v.3 a ∙ sym (far-down f (fin s m e) s (v.0 * 2 ^ v.1) k v.4 v.3 b)
