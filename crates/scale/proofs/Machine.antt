-- The steps as the machine takes them: a signed number is held as bits and read back, and each test and sum is one on what was read back. Assumes nothing.
use mathlib.Core.Path.{◌≡◌, refl, sym, ap, ◌∙◌, subst}
use Prim.Native.Nat.{ℕ, suc, ◌+◌, ◌-◌, ◌*◌, ◌%◌, ◌^◌, ◌≤◌, ◌<◌}
use native.Mathlib.Omega.{arith}
use mathlib.Core.Bool.{Bool, true, false, not, cond}
use lib.Dec.{T, leb→le, ltb}
use lib.IntN.{ℤ, pos, negsuc, ◌+ℤ◌, ◌-ℤ◌, nat_abs}
use lib.Signed.{lt_z, ◌≤ℤ◌}
use lib.Ieee.{Float, Format, binary32, binary64, prec, emax, low, hid, add, mul, lt, of_int, is_nan, nan_bits, of_bits, to_bits, fits}
use mir.Syntax.{Width, w32}
use mir.Val.{SFits, hbits, to_z, of_z}
use mir.ValLaws.{to_z-of_z}
use Rattle.std.specs.Int.{int_max, int_min}
use Rattle.words.specs.Format.{ours}
use Rattle.scale.specs.Scale.{scaled, power}
use Rattle.scale.specs.Steps.{Normal, past_up, past_down, fall, step_float, step_left, between, clamped}
use Rattle.scale.proofs.Ways.{scale-steps, up_fits, down_fits, left-fits}
use Rattle.scale.proofs.Fields.{field-word}
use Rattle.scale.proofs.Exponents as Exponents
use Rattle.scale.proofs.Exponents.{tiny_exponent}
use Rattle.scale.proofs.Tiny.{held-far, whole-number, by_whole, sum_number, by-sum}

-- what is read back of a number
abbrev pub held : Width → ℤ → ℤ
held w z = to_z w (of_z w z)

-- ---- the ends of the normal exponents and the step downward, as the machine holds them
pub most-held : (f : Format) {m : ℤ} → m ≡ pos (emax f) → held w32 m ≡ pos (emax f)
most-held binary32 e = ap (held w32) e
most-held binary64 e = ap (held w32) e

pub least-held : (f : Format) {l : ℤ} → l ≡ negsuc (emax f - 2) → held w32 l ≡ negsuc (emax f - 2)
least-held binary32 e = ap (held w32) e
least-held binary64 e = ap (held w32) e

pub down-held : (f : Format) {d : ℤ} → d ≡ pos (suc (fall f)) → held w32 d ≡ pos (suc (fall f))
down-held binary32 e = ap (held w32) e
down-held binary64 e = ap (held w32) e

pub down-power : (f : Format) {d : ℤ} → d ≡ pos (suc (fall f)) → held w32 (pos 0 -ℤ held w32 d) ≡ negsuc (fall f)
down-power binary32 e = ap (λ (z : ℤ). held w32 (pos 0 -ℤ held w32 z)) e
down-power binary64 e = ap (λ (z : ℤ). held w32 (pos 0 -ℤ held w32 z)) e

-- ---- the most places up and down to which a number can stay one, as the machine makes them of e and d
pub up-held : (f : Format) {e d : ℕ} → e ≡ emax f → d ≡ prec f → to_z w32 (2 * e + d - 1) ≡ pos (low f + suc (emax f))
up-held binary32 E D = λ i. to_z w32 (2 * E i + D i - 1)
up-held binary64 E D = λ i. to_z w32 (2 * E i + D i - 1)

pub down-limit : (f : Format) {e d : ℕ} → e ≡ emax f → d ≡ prec f → held w32 (pos 0 -ℤ to_z w32 (2 * e + d - 1)) ≡ negsuc (low f + emax f)
down-limit binary32 E D = ap (λ (z : ℤ). held w32 (pos 0 -ℤ z)) (up-held binary32 E D)
down-limit binary64 E D = ap (λ (z : ℤ). held w32 (pos 0 -ℤ z)) (up-held binary64 E D)

-- ---- one step, on each of its three ways: by P, which is 2 ^ emax, by D, which is 2 ^ -(fall + 1), or none
module _ (f : Format) (w : Width) (x : Float) (n : ℤ) (N : SFits w n) where
  e : held w n ≡ n
  e = to_z-of_z w n N

  pub sub-fits : past_up f (held w n) ≡ true → SFits w (held w n -ℤ pos (emax f))
  sub-fits h = up_fits f w (held w n) (subst (SFits w) (sym e) N) h

  pub add-fits : past_down f (held w n) ≡ true → SFits w (held w n +ℤ pos (suc (fall f)))
  add-fits h = down_fits f w (held w n) (subst (SFits w) (sym e) N) h

  pub step-up : (P : Float) → P ≡ power (pos (emax f)) → past_up f (held w n) ≡ true → (mul f x P ≡ step_float f x n) × (held w (held w n -ℤ pos (emax f)) ≡ step_left f n)
  unfolding step_float step_left
  step-up P p h =
      let u : past_up f n ≡ true = ap (past_up f) (sym e) ∙ h in
      (ap (mul f x) p ∙ rw u refl, to_z-of_z w _ (sub-fits h) ∙ rw (e, u) refl)

  pub step_down : (D : Float) → D ≡ power (negsuc (fall f)) → past_up f (held w n) ≡ false → past_down f (held w n) ≡ true
      → (mul f x D ≡ step_float f x n) × (held w (held w n +ℤ pos (suc (fall f))) ≡ step_left f n)
  unfolding step_float step_left
  step_down D p g h =
      let u : past_up f n ≡ false = ap (past_up f) (sym e) ∙ g in
      let d : past_down f n ≡ true = ap (past_down f) (sym e) ∙ h in
      (ap (mul f x) p ∙ rw (u, d) refl, to_z-of_z w _ (add-fits h) ∙ rw (e, u, d) refl)

  pub step-none : past_up f (held w n) ≡ false → past_down f (held w n) ≡ false → (x ≡ step_float f x n) × (held w n ≡ step_left f n)
  unfolding step_float step_left
  step-none g h =
      let u : past_up f n ≡ false = ap (past_up f) (sym e) ∙ g in
      let d : past_down f n ≡ false = ap (past_down f) (sym e) ∙ h in
      (rw (u, d) refl, e ∙ rw (u, d) refl)

-- ---- a number held between two others
pub max-min : (l m n : ℤ) → lt_z m l ≡ false → int_max l (int_min n m) ≡ between l m n
max-min l m n h = go (lt_z m n)
  where
    go : (t : Bool) → cond (lt_z (cond t m n) l) l (cond t m n) ≡ cond t m (cond (lt_z n l) l n)
    go true = rw h
    go false = refl

pub clamp-held : (f : Format) {l m : ℤ} (n : ℤ) → l ≡ negsuc (emax f - 2) → m ≡ pos (emax f) → int_max (held w32 l) (int_min n (held w32 m)) ≡ clamped f n
clamp-held f n L M = rw (least-held f L, most-held f M) (max-min (negsuc (emax f - 2)) (pos (emax f)) n refl)

-- by tests of what the machine holds
module _ (w : Width) (l m n : ℤ) (L : SFits w l) (M : SFits w m) (N : SFits w n) where
  pub clamp-most : lt_z (held w m) (held w n) ≡ true → held w m ≡ between l m n
  clamp-most h = let u : lt_z m n ≡ true = (λ i. lt_z (sym (to_z-of_z w m M) i) (sym (to_z-of_z w n N) i)) ∙ h in to_z-of_z w m M ∙ rw u refl

  pub clamp-least : lt_z (held w m) (held w n) ≡ false → lt_z (held w n) (held w l) ≡ true → held w l ≡ between l m n
  clamp-least g h =
      let u : lt_z m n ≡ false = (λ i. lt_z (sym (to_z-of_z w m M) i) (sym (to_z-of_z w n N) i)) ∙ g in
      let d : lt_z n l ≡ true = (λ i. lt_z (sym (to_z-of_z w n N) i) (sym (to_z-of_z w l L) i)) ∙ h in
      to_z-of_z w l L ∙ rw (u, d) refl

  pub clamp-none : lt_z (held w m) (held w n) ≡ false → lt_z (held w n) (held w l) ≡ false → held w n ≡ between l m n
  clamp-none g h =
      let u : lt_z m n ≡ false = (λ i. lt_z (sym (to_z-of_z w m M) i) (sym (to_z-of_z w n N) i)) ∙ g in
      let d : lt_z n l ≡ false = (λ i. lt_z (sym (to_z-of_z w n N) i) (sym (to_z-of_z w l L) i)) ∙ h in
      to_z-of_z w n N ∙ rw (u, d) refl

-- ---- 2 ^ n for a normal exponent, as the machine holds it
pub held-normal : (f : Format) (w : Width) (n : ℤ) → SFits w n → Normal f n → Normal f (held w n)
held-normal f w n N h = subst (Normal f) (sym (to_z-of_z w n N)) h

-- b is its word, as the machine makes it of the largest exponent m and d digits
pub power-word : (f : Format) (n m : ℤ) (d b : ℕ) → SFits w32 n → Normal f n → m ≡ pos (emax f) → d ≡ prec f → b ≡ nat_abs (held w32 (held w32 m +ℤ held w32 n)) * 2 ^ (d - 1) % 2 ^ 64
    → (nan_bits f b ≡ false) × (of_bits f b ≡ power n)
power-word f n m d b N h M D e =
    let g = held-normal f w32 n N h in
    let F = field-word f (held w32 n) b g.0 g.1 (e ∙ (λ i. nat_abs (held w32 (most-held f M i +ℤ held w32 n)) * 2 ^ (D i - 1) % 2 ^ 64)) in
    (F.0, F.1 ∙ ap power (to_z-of_z w32 n N))

-- ---- the sum of an n that is not above a limit and a y, as the machine holds it
module _ (w : Width) (n : ℤ) (y most : ℕ) (N : SFits w n) (u : held w n ≤ℤ pos most) (Y : most + y < 2 ^ hbits w) where
  plain-sum : held w n +ℤ held w (pos y) ≡ n +ℤ pos y
  plain-sum = λ i. to_z-of_z w n N i +ℤ to_z-of_z w (pos y) (record { sfits = less most y (2 ^ hbits w) Y }) i
    where
      less : (m y W : ℕ) → m + y < W → y < W
      less m y W h = omega arith

  small-sum : SFits w (n +ℤ pos y)
  small-sum = go n N (rw (to_z-of_z w n N) at u)
    where
      up_to : (m a y W : ℕ) → m + y < W → a ≤ m → a + y < W
      up_to m a y W h l = omega arith

      down_to : (a y W : ℕ) → a < W → suc a - suc y < W
      down_to a y W h = omega arith

      rest : (m a y W : ℕ) → m + y < W → y - suc a < W
      rest m a y W h = omega arith

      mixed : (a : ℕ) → a < 2 ^ hbits w → (t : Bool) → SFits w (cond t (negsuc (suc a - suc y)) (pos (y - suc a)))
      mixed a h true = record { sfits = down_to a y (2 ^ hbits w) h }
      mixed a h false = record { sfits = rest most a y (2 ^ hbits w) Y }

      go : (n : ℤ) → SFits w n → n ≤ℤ pos most → SFits w (n +ℤ pos y)
      go (pos a) h l = record { sfits = up_to most a y (2 ^ hbits w) Y (leb→le a most l.le) }
      go (negsuc a) h l = mixed a h.sfits (ltb y (suc a))

  pub sum_fits : SFits w (held w n +ℤ held w (pos y))
  sum_fits = subst (SFits w) (sym plain-sum) small-sum

  pub sum-held : held w (held w n +ℤ held w (pos y)) ≡ n +ℤ pos y
  sum-held = ap (held w) plain-sum ∙ to_z-of_z w (n +ℤ pos y) small-sum

-- ---- two steps and the last factor, each handed on as the machine holds it: r is the clamped exponent
pub scale-held : (f : Format) (w : Width) (x y₁ y₂ p : Float) (n n₁ n₂ r : ℤ) → T (fits f x) → SFits w n → SFits w r
    → (y₁ ≡ step_float f x (held w n)) × (n₁ ≡ step_left f (held w n)) → (y₂ ≡ step_float f y₁ (held w n₁)) × (n₂ ≡ step_left f (held w n₁))
    → r ≡ clamped f (held w n₂) → p ≡ power (held w r) → mul f y₂ p ≡ mul f x (power n)
scale-held f w x y₁ y₂ p n n₁ n₂ r X N R a b l m =
    let e : held w n ≡ n = to_z-of_z w n N in
    let c : n₁ ≡ step_left f n = a.1 ∙ ap (step_left f) e in
    let N₁ : SFits w (step_left f n) = left-fits f w n N in
    let c' : held w n₁ ≡ step_left f n = ap (held w) c ∙ to_z-of_z w (step_left f n) N₁ in
    let d : n₂ ≡ step_left f (step_left f n) = b.1 ∙ ap (step_left f) c' in
    let d' : held w n₂ ≡ step_left f (step_left f n) = ap (held w) d ∙ to_z-of_z w (step_left f (step_left f n)) (left-fits f w (step_left f n) N₁) in
    let y : y₂ ≡ step_float f (step_float f x n) (step_left f n) = b.0 ∙ (λ i. step_float f ((a.0 ∙ ap (step_float f x) e) i) (c' i)) in
    (λ i. mul f (y i) ((m ∙ ap power (to_z-of_z w r R ∙ l ∙ ap (clamped f) d')) i)) ∙ scale-steps f x n X

-- ---- a word m of at most prec digits: r is the clamped exponent
-- t is the sum of the product and 2 ^ (prec - 1), and it is their units' word beside that one's; v is the product itself
pub record SumWord (f : Format) (m : ℕ) (n : ℤ) (t : Float) : Type 0 where
  pub number : T (not (is_nan t))
  pub enough : (low f + 1) * hid f ≤ to_bits f t
  pub word : to_bits f t - (low f + 1) * hid f ≡ scaled (ours f) m n

pub record WholeWord (f : Format) (m : ℕ) (n : ℤ) (v : Float) : Type 0 where
  pub number : T (not (is_nan v))
  pub word : to_bits f v ≡ scaled (ours f) m n

module _ (f : Format) (w : Width) (m : ℕ) (M : m < 2 ^ prec f) (n r : ℤ) (N : SFits w n) (R : SFits w r) (e : r ≡ tiny_exponent f (held w n)) where
  exponent : held w r ≡ tiny_exponent f n
  exponent = to_z-of_z w r R ∙ e ∙ ap (tiny_exponent f) (to_z-of_z w n N)

  same : scaled (ours f) m (held w r) ≡ scaled (ours f) m n
  same = ap (scaled (ours f) m) exponent ∙ held-far f m M n

  pub tiny-sum : (y P : Float) → y ≡ mul f (of_int f (pos m)) (power (held w r)) → P ≡ power (pos (prec f - 1)) → lt y P ≡ true → SumWord f m n (add f y P)
  tiny-sum y P a b h =
      let K = subst (λ (k : ℤ). negsuc (emax f - 2) ≤ℤ k) (sym exponent) (Exponents.least-held f n) in
      let L : lt (mul f (of_int f (pos m)) (power (held w r))) (power (pos (prec f - 1))) ≡ true = (λ i. lt (sym a i) (sym b i)) ∙ h in
      let s : add f y P ≡ add f (mul f (of_int f (pos m)) (power (held w r))) (power (pos (prec f - 1))) = λ i. add f (a i) (b i) in
      let t : to_bits f (add f y P) ≡ (low f + 1) * hid f + scaled (ours f) m n = ap (to_bits f) s ∙ by-sum f m M (held w r) K L ∙ ap (λ (z : ℕ). (low f + 1) * hid f + z) same in
      record {
        number = subst (λ (v : Float). T (not (is_nan v))) (sym s) (sum_number f m M (held w r) K L);
        enough = over (to_bits f (add f y P)) ((low f + 1) * hid f) (scaled (ours f) m n) t;
        word = past (to_bits f (add f y P)) ((low f + 1) * hid f) (scaled (ours f) m n) t;
      }
    where
      over : (x c z : ℕ) → x ≡ c + z → c ≤ x
      over x c z e = omega arith

      past : (x c z : ℕ) → x ≡ c + z → x - c ≡ z
      past x c z e = omega arith

  module _ (W : low f + suc (emax f) + low f + 1 < 2 ^ hbits w) where
    pub tiny-fits : SFits w (held w r -ℤ pos (low f))
    tiny-fits = subst (λ (k : ℤ). SFits w (k -ℤ pos (low f))) (sym exponent) (Exponents.most-held f w n W)

    pub tiny-whole : (v : Float) → v ≡ mul f (of_int f (pos m)) (power (held w (held w r -ℤ pos (low f)))) → WholeWord f m n v
    tiny-whole v a =
        let b : v ≡ mul f (of_int f (pos m)) (power (held w r -ℤ pos (low f))) = a ∙ ap (λ (k : ℤ). mul f (of_int f (pos m)) (power k)) (to_z-of_z w (held w r -ℤ pos (low f)) tiny-fits) in
        record {
          number = subst (λ (x : Float). T (not (is_nan x))) (sym b) (whole-number f m M (held w r -ℤ pos (low f)));
          word = ap (to_bits f) b ∙ by_whole f m M (held w r) ∙ same;
        }
