-- Document 01's section Root, sentence by sentence, at every positive finite word of every format; and that the root is one rounding to nearest even, as IEEE 754 has it.
-- Everything is put together from `Roots` (once over p) and `Words` (the operand's W and E). Assumes nothing.
use Prim.Native.Nat.{ℕ, zero, suc, ◌+◌, ◌-◌, ◌*◌, ◌/◌, ◌%◌, ◌^◌, ◌≤◌, ◌<◌, min}
use mathlib.Core.Path.{◌≡◌, sym, ap, subst, ◌∙◌}
use native.Mathlib.Nat.{mod-eq_of_lt, lt_trans, not-le_of_lt, mul-le-mul, mul-le-mul_left, mul-le-mul_right, mul-lt-mul_of_pos_right}
use native.Mathlib.Omega.{arith}
use native.Mathlib.Numerals.{add-one}
use lib.Dec.{ltb}
use lib.Ieee.{size}
use lib.Pow.{pow-add}
use borrow.Author.Tests.{lt-ltb}
use Rattle.words.specs.Format.{Format, low, hid, infinity, units}
use Rattle.words.specs.Rounding.{even, odd, bit, word_at, rounded_at}
use Rattle.words.specs.Nearest.{square, NearestRoot}
use Rattle.words.proofs.Even.{raised}
use Rattle.words.proofs.Words.{infinity-below}
use Rattle.words.proofs.Units.{units-word}
use Rattle.words.proofs.NearestRoot.{root-is-nearest}
use Rattle.root.specs.Root.{digits_at, left_at, significand, lifted, halves, whole_of, root_at, root_word}
use Rattle.root.specs.Engine.{Asked, Split}
use Rattle.root.proofs.Engine.{powers, four-pow}
use Rattle.root.proofs.Roots.{Near, near, IsRoot, last-root, digits_low, digits-high, digits-size, digits_above, digits-below, left-whole, exact, exact-only}
use Rattle.root.proofs.Operands.{four-pos}
use Rattle.root.proofs.Words.{Fine, finite-split, split-asked, full, root-finite, root_below}

-- where the digits are odd, something is left
odd-left : (p w : ℕ) → Asked p w (p + 1) → w + 1 < 2 ^ (p + 1) → digits_at p w (p + 1) % 2 ≡ 1 → 0 < left_at p w (p + 1)
odd-left p w a h e = some (left_at p w (p + 1)) (λ (z : left_at p w (p + 1) ≡ 0). not-both (digits_at p w (p + 1)) e (exact p w a h z).0)
  where
    some : (n : ℕ) → ¬ (n ≡ 0) → 0 < n
    some n h = omega arith

    not-both : (q : ℕ) → q % 2 ≡ 1 → q % 2 ≡ 0 → ⊥
    not-both q a b = omega arith

module _ (f : Format) (x : ℕ) (g : Fine f) (small : f.digits ≤ 60) (some : 0 < x) (below : x < infinity f) where
  abbrev p : ℕ
  p = f.digits

  abbrev v : ℕ
  v = lifted f (units f x)

  abbrev W : ℕ
  W = whole_of f x

  abbrev H : ℕ
  H = halves p v

  split : Split p v W H
  split = (finite-split f x g some below).0

  asked : (k : ℕ) → k ≤ p + 1 → Asked p W k
  asked k h = split-asked p v W H k small h split

  last : Asked p W (p + 1)
  last = asked (p + 1) (omega arith)

  -- "A positive finite x is M * 4 ^ E, 1 <= M < 4, and W = M * 2 ^ (p - 1) is whole."
  pub operand-is : W * 4 ^ H ≡ units f x * 2 ^ (f.emax - 1)
  operand-is = split.value

  pub operand-range : (2 ^ (p - 1) ≤ W) × (W < 2 ^ (p + 1))
  operand-range = (omega (arith, split.above, full f x g), omega (arith, split.below))

  -- "After k rounds the digits Q satisfy .." both inequalities: so Q is the largest
  pub rounds-low : (k : ℕ) → k ≤ p + 1 → 2 ^ (p + 1) * (digits_at p W k * digits_at p W k) ≤ 4 ^ k * W
  rounds-low k h = digits_low p W k (asked k h)

  pub rounds-high : (k : ℕ) → k ≤ p + 1 → 4 ^ k * W < 2 ^ (p + 1) * ((digits_at p W k + 1) * (digits_at p W k + 1))
  rounds-high k h = digits-high p W k (asked k h)

  pub rounds-largest : (k q : ℕ) → k ≤ p + 1 → 2 ^ (p + 1) * (q * q) ≤ 4 ^ k * W → q ≤ digits_at p W k
  rounds-largest k q h l = go q (digits_at p W k) (λ (m : digits_at p W k + 1 ≤ q). not-le_of_lt (rounds-high k h) (le-both m l))
    where
      go : (q d : ℕ) → ¬ (d + 1 ≤ q) → q ≤ d
      go q d n = omega arith

      le-both : digits_at p W k + 1 ≤ q → 2 ^ (p + 1) * (q * q) ≤ 4 ^ k * W → 2 ^ (p + 1) * ((digits_at p W k + 1) * (digits_at p W k + 1)) ≤ 4 ^ k * W
      le-both m l = omega (arith, mul-le-mul_left (2 ^ (p + 1)) (mul-le-mul m m), l)

  -- "The left-over is 2 ^ (k + 1) * W - 2 ^ (p + 2 - k) * Q * Q, always whole."
  pub rounds-left : (k : ℕ) → k ≤ p + 1 → left_at p W k + 2 ^ (p + 2 - k) * (digits_at p W k * digits_at p W k) ≡ 2 ^ (k + 1) * W
  rounds-left k h = left-whole p W k (asked k h)

  -- "For k >= 1 Q has exactly k binary digits."
  pub rounds-size : (k : ℕ) → suc k ≤ p + 1 → size (digits_at p W (suc k)) ≡ suc k
  rounds-size k h = digits-size p W k (asked (suc k) h)

  -- "2 ^ (p - 1) <= S < 2 ^ p and (2 * S - 1) ^ 2 < 2 ^ (p + 1) * W < (2 * S + 1) ^ 2."
  pub root-near : Near p W (significand p W)
  root-near = near p W last split.below

  -- "The root is exact when the last left-over is 0; Q is then even." And only then.
  pub root-exact : left_at p W (p + 1) ≡ 0 → (digits_at p W (p + 1) % 2 ≡ 0) × (2 * significand p W * (2 * significand p W) ≡ 2 ^ (p + 1) * W)
  root-exact z = exact p W last split.below z

  pub root-exact-only : (s : ℕ) → s * s ≡ 2 ^ (p + 1) * W → left_at p W (p + 1) ≡ 0
  root-exact-only s e = exact-only p W last split.below s e

  -- "The result is S * 2 ^ (E - p + 1)": in units, S * 2 ^ (E + emax - 1)
  root_is : root_word f x ≡ H * hid f + significand p W
  unfolding root_at
  root_is = root-finite f x (λ e. omega (arith, mod-eq_of_lt (lt_trans below (infinity-below f)), e, some)) below

  pub root-digits : (2 ^ (p - 1) ≤ significand p W) × (significand p W < 2 ^ p)
  root-digits = (omega (arith, root-near.low, full f x g), root-near.high)

  least : hid f ≤ significand p W
  least = omega (arith, root-near.low, full f x g)

  pub root-units : units f (root_word f x) ≡ significand p W * 2 ^ H
  root-units = ap (units f) root_is ∙ units-word f H (significand p W) g.least root-near.high (λ h. least)

  -- a normal number
  pub root-normal : (hid f ≤ root_word f x) × (root_word f x < infinity f)
  root-normal = (
    subst (λ (z : ℕ). hid f ≤ z) (sym root_is) (omega (arith, least)),
    subst (λ (z : ℕ). z < infinity f) (sym (root-finite f x (λ e. omega (arith, mod-eq_of_lt (lt_trans below (infinity-below f)), e, some)) below)) (root_below f x g small some below),
  )

  -- what stands under the root, times 4 ^ H, is four times the operand
  pub scaled : 2 ^ (p + 1) * W * 4 ^ H ≡ 4 * (units f x * 2 ^ low f)
  scaled =
      move (2 ^ (p + 1)) W (4 ^ H) (units f x) (2 ^ (f.emax - 1)) split.value
      ∙ ap (λ (z : ℕ). units f x * z) (sym (pow-add 2 (p + 1) (f.emax - 1)) ∙ ap (λ (z : ℕ). 2 ^ z) (sum f.emax p g.least g.room) ∙ pow-add 2 2 (low f))
      ∙ last-move (units f x) (2 ^ low f)
    where
      move : (a w h u e : ℕ) → w * h ≡ u * e → a * w * h ≡ u * (a * e)
      move a w h u e i = omega (arith, ap (λ (z : ℕ). a * z) i)

      sum : (e p : ℕ) → 1 ≤ p → p + 1 ≤ e → p + 1 + (e - 1) ≡ 2 + (e + p - 2)
      sum e p a b = omega arith

      last-move : (u l : ℕ) → u * (4 * l) ≡ 4 * (u * l)
      last-move u l = omega arith

  pub squared : (n : ℕ) → square (n * 2 ^ H) ≡ n * n * 4 ^ H
  squared n = swap n (2 ^ H) ∙ ap (λ (z : ℕ). n * n * z) (sym (four-pow H))
    where
      swap : (n h : ℕ) → n * h * (n * h) ≡ n * n * (h * h)
      swap n h = omega arith

  -- the two inequalities of `root-near` in units: a unit is 2 ^ -low, so the root of u units is that of u * 2 ^ low, in units
  pub root-square-low : square (2 * units f (root_word f x) - 2 ^ H) < 4 * (units f x * 2 ^ low f)
  root-square-low =
      subst (λ (z : ℕ). square (2 * z - 2 ^ H) < 4 * (units f x * 2 ^ low f)) (sym root-units)
      (subst (λ (z : ℕ). square z < 4 * (units f x * 2 ^ low f)) (sym (factor (significand p W) (2 ^ H)))
      (less (squared (2 * significand p W - 1)) scaled (mul-lt-mul_of_pos_right root-near.after (four-pos H))))
    where
      factor : (s h : ℕ) → 2 * (s * h) - h ≡ (2 * s - 1) * h
      factor zero h = omega arith
      factor (suc s) h = named (suc s) h (2 * suc s - 1) (omega arith)
        where
          named : (s h d : ℕ) → 2 * s ≡ d + 1 → 2 * (s * h) - h ≡ d * h
          named s h d e = omega (arith, ap (λ (z : ℕ). z * h) e)

      less : {a b c d : ℕ} → a ≡ b → c ≡ d → b < c → a < d
      less e i l = omega arith

  pub root-square-high : 4 * (units f x * 2 ^ low f) < square (2 * units f (root_word f x) + 2 ^ H)
  root-square-high =
      subst (λ (z : ℕ). 4 * (units f x * 2 ^ low f) < square (2 * z + 2 ^ H)) (sym root-units)
      (subst (λ (z : ℕ). 4 * (units f x * 2 ^ low f) < square z) (sym (factor (significand p W) (2 ^ H)))
      (more (squared (2 * significand p W + 1)) scaled (mul-lt-mul_of_pos_right root-near.before (four-pos H))))
    where
      factor : (s h : ℕ) → 2 * (s * h) + h ≡ (2 * s + 1) * h
      factor s h = omega arith

      more : {a b c d : ℕ} → a ≡ b → c ≡ d → c < b → d < a
      more e i l = omega arith

  -- ---- the same single rounding as `rounded`: the digits after all rounds are a cut, and `rounded_at` with the rule `even` makes the word of it
  pub root-once : root_word f x ≡ rounded_at even f H (digits_at p W (p + 1)) (ltb 0 (left_at p W (p + 1)))
  unfolding rounded_at word_at significand
  root-once = sym (ap (λ (z : ℕ). min z (infinity f - 1 + 1)) word ∙ capped (root_word f x) (infinity f) root-normal.1)
    where
      q : ℕ
      q = digits_at p W (p + 1)

      assoc : (a b c : ℕ) → a + b + c ≡ a + (b + c)
      assoc a b c = omega arith

      capped : (a b : ℕ) → a < b → min a (b - 1 + 1) ≡ a
      capped a b h = omega arith

      word : H * hid f + q / 2 + bit (even (odd (q / 2)) (odd q) (ltb 0 (left_at p W (p + 1)))) ≡ root_word f x
      word =
          assoc (H * hid f) (q / 2) (bit (even (odd (q / 2)) (odd q) (ltb 0 (left_at p W (p + 1)))))
          ∙ ap (λ (z : ℕ). H * hid f + z) (raised q (ltb 0 (left_at p W (p + 1))) (λ e. lt-ltb 0 (left_at p W (p + 1)) (odd-left p W last split.below e)))
          ∙ sym root_is

  -- ---- IEEE 754 squareRoot: no finite word is nearer to the root of the operand. A unit is 2 ^ -low, so the root of u units is that of u * 2 ^ low, in units.
  pub root-nearest : 2 ≤ p → NearestRoot f (units f x * 2 ^ low f) (root_word f x)
  unfolding significand
  root-nearest P = subst (NearestRoot f (units f x * 2 ^ low f)) (sym root_is)
      (root-is-nearest f (units f x * 2 ^ low f) H q P kept_low (λ h. kept_high) (subst (λ (z : ℕ). square (q * 2 ^ H) ≤ z) scaled at_most) (subst (λ (z : ℕ). z < square (suc q * 2 ^ H)) scaled under)
      (λ e. subst (λ (z : ℕ). square (q * 2 ^ H) < z) scaled (strict e)) (subst (λ (z : ℕ). z < infinity f) root_is root-normal.1))
    where
      q : ℕ
      q = digits_at p W (p + 1)

      r : IsRoot (2 ^ (p + 1) * W) q
      r = last-root p W last

      kept_low : q / 2 < 2 ^ p
      kept_low = omega (arith, digits-below p W (p + 1) last, (powers p).0)

      kept_high : hid f ≤ q / 2
      kept_high = omega (arith, full f x g, subst (λ (k : ℕ). 2 ^ p ≤ digits_at p W k) (sym (add-one p)) (digits_above p W p (subst (λ (k : ℕ). Asked p W k) (add-one p) last)))

      at_most : square (q * 2 ^ H) ≤ 2 ^ (p + 1) * W * 4 ^ H
      at_most = subst (λ (z : ℕ). z ≤ 2 ^ (p + 1) * W * 4 ^ H) (sym (squared q)) (mul-le-mul_right (4 ^ H) r.0)

      under : 2 ^ (p + 1) * W * 4 ^ H < square (suc q * 2 ^ H)
      under = subst (λ (z : ℕ). 2 ^ (p + 1) * W * 4 ^ H < z) (sym (squared (suc q))) (mul-lt-mul_of_pos_right (subst (λ (z : ℕ). 2 ^ (p + 1) * W < z * z) (add-one q) r.1) (four-pos H))

      strict : q % 2 ≡ 1 → square (q * 2 ^ H) < 2 ^ (p + 1) * W * 4 ^ H
      strict e =
          subst (λ (z : ℕ). z < 2 ^ (p + 1) * W * 4 ^ H) (sym (squared q))
          (mul-lt-mul_of_pos_right (less (q * q) (2 ^ (p + 1) * W) r.0 (λ (s : q * q ≡ 2 ^ (p + 1) * W). none (left_at p W (p + 1)) (odd-left p W last split.below e) (root-exact-only q s))) (four-pos H))
        where
          less : (a b : ℕ) → a ≤ b → ¬ (a ≡ b) → a < b
          less a b h n = omega arith

          none : (n : ℕ) → 0 < n → n ≡ 0 → ⊥
          none n h z = omega arith
