-- At most two long steps and a clamped last one are x times 2 ^ n, rounded once, for every n.
-- Up and down are two sides of one thing (`Side`), and what holds of the steps is shown of any side. Assumes nothing.
use mathlib.Core.Path.{◌≡◌, refl, sym, ap, ◌∙◌, subst}
use mathlib.Core.Logic.{◌⊎◌, inl, inr}
use Prim.Native.Nat.{ℕ, zero, suc, ◌+◌, ◌-◌, ◌≤◌, ◌<◌}
use native.Mathlib.Nat.{le_refl, le_trans, le_of_lt, lt_of_le_of_lt}
use native.Mathlib.Omega.{arith}
use mathlib.Core.Bool.{Bool, true, false, not, cond}
use lib.Dec.{T, ltb, ltb→lt, nltb→le, lit≤}
use lib.IntN.{ℤ, pos, negsuc, ◌+ℤ◌, ◌-ℤ◌}
use lib.Signed.{lt_z, lt_z_no, ≤ℤ_refl, le_z_yes}
use lib.Ieee.{Float, Format, binary32, binary64, prec, emax, low, mul, fits}
use lib.Ieee.Fits.{mul-fits}
use mir.Syntax.{Width}
use mir.Val.{SFits}
use Rattle.scale.specs.Scale.{power}
use Rattle.scale.specs.Steps.{Normal, past_up, past_down, fall, step_float, step_left, clamped}
use Rattle.scale.proofs.Steps.{steps_up, steps-down}
use Rattle.scale.proofs.Far.{clamp-up, clamp-down}

-- ---- signed sums, by the naturals
yes : (b : Bool) → b ≡ true → T b
yes b e = subst T (sym e) tt

no : (b : Bool) → b ≡ false → T (not b)
no b e = subst (λ (c : Bool). T (not c)) (sym e) tt

known : (b : Bool) → (b ≡ true) ⊎ (b ≡ false)
known true = inl refl
known false = inr refl

sub-pos : (a b : ℕ) → b ≤ a → pos a -ℤ pos b ≡ pos (a - b)
sub-pos a zero h = ap pos (plain a)
  where
    plain : (a : ℕ) → a + 0 ≡ a - 0
    plain a = omega arith
sub-pos a (suc b) h = go (ltb a (suc b)) (ltb→lt a (suc b))
  where
    clash : (a b : ℕ) → b ≤ a → a < b → ⊥
    clash a b h k = omega arith

    go : (t : Bool) → (T t → a < suc b) → cond t (negsuc (suc b - suc a)) (pos (a - suc b)) ≡ pos (a - suc b)
    go true l = absurd (clash a (suc b) h (l tt))
    go false l = refl

add-neg : (m d : ℕ) → d ≤ m → negsuc m +ℤ pos d ≡ negsuc (m - d)
add-neg m d h = go (ltb d (suc m)) (nltb→le d (suc m))
  where
    clash : (m d : ℕ) → d ≤ m → suc m ≤ d → ⊥
    clash m d h k = omega arith

    same : (m d : ℕ) → suc m - suc d ≡ m - d
    same m d = omega arith

    go : (t : Bool) → (T (not t) → suc m ≤ d) → cond t (negsuc (suc m - suc d)) (pos (d - suc m)) ≡ negsuc (m - d)
    go true l = ap negsuc (same m d)
    go false l = absurd (clash m d h (l tt))

less : (a e : ℕ) → a - e ≤ a
less a e = omega arith

-- n, known to be above e, less e; n, known to be below -(b + 1), and d, up to b
above : (e : ℕ) (n : ℤ) → lt_z (pos e) n ≡ true → (a : ℕ) × (e < a) × (n ≡ pos a) × (n -ℤ pos e ≡ pos (a - e))
above e (pos a) t = let l = ltb→lt e a (yes (ltb e a) t) in (a, l, refl, sub-pos a e (le_of_lt l))
above e (negsuc m) t = absurd (yes false t)

under : (b d : ℕ) (n : ℤ) → d ≤ b → lt_z n (negsuc b) ≡ true → (m : ℕ) × (b < m) × (n ≡ negsuc m) × (n +ℤ pos d ≡ negsuc (m - d))
under b d (pos a) D t = absurd (yes false t)
under b d (negsuc m) D t = let l = ltb→lt b m (yes (ltb b m) t) in (m, l, refl, add-neg m d (le_trans D (le_of_lt l)))

-- ---- an n that is past neither end: nothing is to be done
abbrev pub Inside : Format → ℤ → Type 0
Inside f n = (past_up f n ≡ false) × (past_down f n ≡ false)

pick : {A : Type 0} {u d : Bool} (a b c : A) → (u ≡ false) × (d ≡ false) → cond u a (cond d b c) ≡ c
pick a b c h = rw (h.0, h.1)

float-inside : (f : Format) (x : Float) (n : ℤ) → Inside f n → step_float f x n ≡ x
unfolding step_float
float-inside f x n h = pick _ _ x h

left-inside : (f : Format) (n : ℤ) → Inside f n → step_left f n ≡ n
unfolding step_left
left-inside f n h = pick _ _ n h

clamped-inside : (f : Format) (n : ℤ) → Inside f n → clamped f n ≡ n
clamped-inside f n h = pick _ _ n h

-- ---- a side: an n that is past an end is brought nearer, and x is multiplied with 2 ^ `by` for it; what is past after two steps is clamped to `end`
record Side (f : Format) (past : ℤ → Bool) (next : ℤ → ℤ) (end by : ℤ) : Type 0 where
  float-past : (x : Float) (n : ℤ) → past n ≡ true → step_float f x n ≡ mul f x (power by)
  left-past : (n : ℤ) → past n ≡ true → step_left f n ≡ next n
  clamped-past : (n : ℤ) → past n ≡ true → clamped f n ≡ end
  inside : (n : ℤ) → past n ≡ true → past (next n) ≡ false → Inside f (next n)
  step : (x : Float) → T (fits f x) → (n : ℤ) → past n ≡ true → mul f (mul f x (power by)) (power (next n)) ≡ mul f x (power n)
  clamp : (x : Float) → T (fits f x) → (n : ℤ) → past n ≡ true
      → mul f (mul f (mul f x (power by)) (power by)) (power end) ≡ mul f (mul f (mul f x (power by)) (power by)) (power n)

-- the second step and the last one
abbrev pub finish : Format → Float → ℤ → Float
finish f y m = mul f (step_float f y m) (power (clamped f (step_left f m)))

finish-inside : (f : Format) (y : Float) (m : ℤ) → Inside f m → finish f y m ≡ mul f y (power m)
finish-inside f y m h = λ i. mul f (float-inside f y m h i) (power ((ap (clamped f) (left-inside f m h) ∙ clamped-inside f m h) i))

module _ {f : Format} {past : ℤ → Bool} {next : ℤ → ℤ} {end by : ℤ} (S : Side f past next end by) (x : Float) (X : T (fits f x)) (n : ℤ) (h : past n ≡ true) where
  abbrev y : Float
  y = mul f x (power by)

  y-fits : T (fits f y)
  y-fits = mul-fits f x (power by)

  again : past (next n) ≡ true → finish f y (next n) ≡ mul f y (power (next n))
  again g =
      (λ i. mul f (S.float-past y (next n) g i) (power (clamped f (S.left-past (next n) g i))))
      ∙ elim (known (past (next (next n)))) [
        | inl k ↦ ap (λ (z : ℤ). mul f (mul f y (power by)) (power z)) (S.clamped-past (next (next n)) k) ∙ S.clamp x X (next (next n)) k
        | inr k ↦ ap (λ (z : ℤ). mul f (mul f y (power by)) (power z)) (clamped-inside f (next (next n)) (S.inside (next n) g k))
      ]
      ∙ S.step y y-fits (next n) g

  scale-past : finish f (step_float f x n) (step_left f n) ≡ mul f x (power n)
  scale-past =
      (λ i. finish f (S.float-past x n h i) (S.left-past n h i))
      ∙ elim (known (past (next n))) [ inl g ↦ again g | inr g ↦ finish-inside f y (next n) (S.inside n h g) ]
      ∙ S.step x X n h

-- ---- what the sides use of a format
abbrev Fine : ℕ → ℕ → ℕ → ℕ → Type 0
Fine e p l c = (p + p + p + 3 ≤ e) × (p + e ≡ l + 2) × (2 ≤ p) × (c + p + 2 ≡ e)

fine : (f : Format) → Fine (emax f) (prec f) (low f) (fall f)
fine binary32 = (lit≤ tt, refl, lit≤ tt, refl)
fine binary64 = (lit≤ tt, refl, lit≤ tt, refl)

-- ---- up, by 2 ^ emax
module _ (f : Format) where
  abbrev e : ℕ
  e = emax f

  abbrev P : Float
  P = power (pos e)

  up₂ : (x : Float) → T (fits f x) → (t : ℕ) → mul f (mul f (mul f x P) P) (power (pos t)) ≡ mul f x (power (pos (e + (e + t))))
  up₂ x X t = steps_up f (mul f x P) e t (mul-fits f x P) ∙ steps_up f x e (e + t) X

  up-side : Side f (past_up f) (λ n. n -ℤ pos e) (pos e) (pos e)
  unfolding step_float step_left
  up-side = record {
    float-past = λ x n h. rw h;
    left-past = λ n h. rw h;
    clamped-past = λ n h. rw h;
    inside = λ n h k. (k, ap (λ (z : ℤ). lt_z z (negsuc (e - 2))) (above e n h).3);
    step = λ x X n h. let a = above e n h in
        ap (λ (z : ℤ). mul f (mul f x P) (power z)) a.3 ∙ steps_up f x e (a.0 - e) X ∙ ap (λ (z : ℤ). mul f x (power z)) (ap pos (join a.0 e a.1) ∙ sym a.2);
    clamp = λ x X n h. let a = above e n h in
        up₂ x X e
        ∙ clamp-up f x (e + (e + e)) (e + (e + a.0)) X (far e (prec f) (low f) (fall f) e (fine f) (le_refl e)) (far e (prec f) (low f) (fall f) a.0 (fine f) (le_of_lt a.1))
        ∙ sym (up₂ x X a.0)
        ∙ ap (λ (z : ℤ). mul f (mul f (mul f x P) P) (power z)) (sym a.2);
  }
    where
      join : (a e : ℕ) → e < a → e + (a - e) ≡ a
      join a e h = omega arith

      far : (e p l c a : ℕ) → Fine e p l c → e ≤ a → l + suc e ≤ e + (e + a)
      far e p l c a F h = omega arith

  -- ---- down, by 2 ^ -(fall + 1)
  abbrev c : ℕ
  c = fall f

  abbrev D : Float
  D = power (negsuc c)

  down₂ : (x : Float) → T (fits f x) → (t : ℕ) → e - 2 ≤ t → mul f (mul f (mul f x D) D) (power (negsuc t)) ≡ mul f x (power (negsuc (suc (c + suc (c + t)))))
  down₂ x X t h = steps-down f (mul f x D) c t (mul-fits f x D) (wide e (prec f) (low f) (fall f) t (fine f) h) ∙ steps-down f x c (suc (c + t)) X (wider e (prec f) (low f) (fall f) t (fine f) h)
    where
      wide : (e p l c m : ℕ) → Fine e p l c → e - 2 ≤ m → p ≤ m
      wide e p l c m F h = omega arith

      wider : (e p l c m : ℕ) → Fine e p l c → e - 2 ≤ m → p ≤ suc (c + m)
      wider e p l c m F h = omega arith

  low_end : (n : ℤ) → past_down f n ≡ true → (m : ℕ) × (e - 2 < m) × (n ≡ negsuc m) × (n +ℤ pos (suc c) ≡ negsuc (m - suc c))
  low_end n h = under (e - 2) (suc c) n (in-range e (prec f) (low f) (fall f) (fine f)) h
    where
      in-range : (e p l c : ℕ) → Fine e p l c → suc (c) ≤ e - 2
      in-range e p l c F = omega arith

  not-up : (n : ℤ) → past_down f n ≡ true → past_up f n ≡ false
  not-up n h = ap (λ (z : ℤ). lt_z (pos e) z) (low_end n h).2

  down-side : Side f (past_down f) (λ n. n +ℤ pos (suc c)) (negsuc (e - 2)) (negsuc c)
  unfolding step_float step_left
  down-side = record {
    float-past = λ x n h. rw (not-up n h, h);
    left-past = λ n h. rw (not-up n h, h);
    clamped-past = λ n h. rw (not-up n h, h);
    inside = λ n h k. (ap (λ (z : ℤ). lt_z (pos e) z) (low_end n h).3, k);
    step = λ x X n h. let m = low_end n h in
        ap (λ (z : ℤ). mul f (mul f x D) (power z)) m.3
        ∙ steps-down f x c (m.0 - suc c) X (deep e (prec f) (low f) (fall f) m.0 (fine f) m.1)
        ∙ ap (λ (z : ℤ). mul f x (power z)) (ap negsuc (join e (prec f) (low f) (fall f) m.0 (fine f) m.1) ∙ sym m.2);
    clamp = λ x X n h. let m = low_end n h in
        down₂ x X (e - 2) (le_refl (e - 2))
        ∙ clamp-down f x (suc (c + suc (c + (e - 2)))) (suc (c + suc (c + m.0))) X (far e (prec f) (low f) (fall f) (e - 2) (fine f) (le_refl (e - 2))) (far e (prec f) (low f) (fall f) m.0 (fine f) (le_of_lt m.1))
        ∙ sym (down₂ x X m.0 (le_of_lt m.1))
        ∙ ap (λ (z : ℤ). mul f (mul f (mul f x D) D) (power z)) (sym m.2);
  }
    where
      deep : (e p l c m : ℕ) → Fine e p l c → e - 2 < m → p ≤ m - suc (c)
      deep e p l c m F h = omega arith

      join : (e p l c m : ℕ) → Fine e p l c → e - 2 < m → suc (c + (m - suc (c))) ≡ m
      join e p l c m F h = omega arith

      far : (e p l c m : ℕ) → Fine e p l c → e - 2 ≤ m → l + suc e ≤ suc (c + suc (c + m))
      far e p l c m F h = omega arith

  -- ---- all three ways: two steps and a clamped last one are one rounding
  pub scale-steps : (x : Float) (n : ℤ) → T (fits f x) → finish f (step_float f x n) (step_left f n) ≡ mul f x (power n)
  scale-steps x n X =
      elim (known (past_up f n)) [
        | inl u ↦ scale-past up-side x X n u
        | inr u ↦ elim (known (past_down f n)) [
          | inl d ↦ scale-past down-side x X n d
          | inr d ↦ (λ i. finish f (float-inside f x n (u, d) i) (left-inside f n (u, d) i)) ∙ finish-inside f x n (u, d)
        ]
      ]

  -- ---- the machine's sums fit, and the clamped exponent is a normal number's
  pub up_fits : (w : Width) (n : ℤ) → SFits w n → past_up f n ≡ true → SFits w (n -ℤ pos e)
  up_fits w n N h = let a = above e n h in let s : SFits w (pos a.0) = subst (SFits w) a.2 N in subst (SFits w) (sym a.3) (record { sfits = lt_of_le_of_lt (less a.0 e) s.sfits })

  pub down_fits : (w : Width) (n : ℤ) → SFits w n → past_down f n ≡ true → SFits w (n +ℤ pos (suc c))
  down_fits w n N h = let m = low_end n h in let s : SFits w (negsuc m.0) = subst (SFits w) m.2 N in subst (SFits w) (sym m.3) (record { sfits = lt_of_le_of_lt (less m.0 (suc c)) s.sfits })

  pub left-fits : (w : Width) (n : ℤ) → SFits w n → SFits w (step_left f n)
  left-fits w n N =
      elim (known (past_up f n)) [
        | inl u ↦ subst (SFits w) (sym (up-side.left-past n u)) (up_fits w n N u)
        | inr u ↦ elim (known (past_down f n)) [
          | inl d ↦ subst (SFits w) (sym (down-side.left-past n d)) (down_fits w n N d)
          | inr d ↦ subst (SFits w) (sym (left-inside f n (u, d))) N
        ]
      ]

  pub inside-normal : (n : ℤ) → Inside f n → Normal f n
  inside-normal n h = (lt_z_no (no (past_down f n) h.1), lt_z_no (no (past_up f n) h.0))

  pub clamped-normal : (n : ℤ) → Normal f (clamped f n)
  clamped-normal n =
      elim (known (past_up f n)) [
        | inl u ↦ subst (Normal f) (sym (up-side.clamped-past n u)) (le_z_yes tt, ≤ℤ_refl (pos e))
        | inr u ↦ elim (known (past_down f n)) [
          | inl d ↦ subst (Normal f) (sym (down-side.clamped-past n d)) (≤ℤ_refl (negsuc (e - 2)), le_z_yes tt)
          | inr d ↦ subst (Normal f) (sym (clamped-inside f n (u, d))) (inside-normal n (u, d))
        ]
      ]
