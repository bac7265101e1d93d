-- A root never falls when its operand grows, and 4 ^ k times an operand has 2 ^ k times its root: over any format. Assumes nothing.
-- Both are read off x = W * 4 ^ h: a larger x has a larger h, or the same h and a larger W; 4 ^ k * x has the same W.
use Prim.Native.Nat.{ℕ, ◌+◌, ◌-◌, ◌*◌, ◌%◌, ◌^◌, ◌≤◌, ◌<◌, zero-le}
use mathlib.Core.Path.{◌≡◌, refl, sym, ap, subst, ◌∙◌}
use mathlib.Core.Logic.{⊎_elim}
use native.Mathlib.Nat.{le_refl, le_of_eq, le_of_lt, lt_of_le_of_lt, lt_of_lt_of_le, mul-le-mul_left, mul-le-mul_right, le_of_mul-le-mul_right, eq-or-lt_of_le, eq-zero-or-pos, zero-mod, mod-eq_of_lt}
use native.Mathlib.Omega.{arith}
use lib.Pow.{pow-add}
use lib.Ieee.{size}
use lib.Ieee.Digits.{size-lt, size-le}
use Rattle.words.specs.Format.{Format, hid, top, infinity, units}
use Rattle.words.proofs.Words.{infinity-some, infinity-below}
use Rattle.words.proofs.Units.{units-step}
use Rattle.words.proofs.Grid.{rises-le}
use Rattle.root.specs.Root.{significand, halves, whole, lifted, root_at, root_word}
use Rattle.root.specs.Engine.{Asked, Split}
use Rattle.root.proofs.Roots.{square-lt, last-root, near}
use Rattle.root.proofs.Operands.{four-pos, halves-is, whole_is}
use Rattle.root.proofs.Words.{Fine, full, finite-split, split-asked, root-zero, root-infinity, root-finite, root_below}

-- ---- the order

module _ (f : Format) (g : Fine f) (small : f.digits ≤ 60) (v u : ℕ)
    (sv : Split f.digits v (whole f.digits v) (halves f.digits v)) (su : Split f.digits u (whole f.digits u) (halves f.digits u)) where
  abbrev p : ℕ
  p = f.digits

  halves-rise : v ≤ u → halves p v ≤ halves p u
  unfolding halves
  halves-rise le = omega (arith, size-le v (size u) (lt_of_le_of_lt le (size-lt u)))

  asked : (n : ℕ) → Split p n (whole p n) (halves p n) → Asked p (whole p n) (p + 1)
  asked n s = split-asked p n (whole p n) (halves p n) (p + 1) small (omega arith) s

  -- the same h: W decides, by its digits; another h: the digits have p places, so h decides
  at-rises : v ≤ u → root_at f v ≤ root_at f u
  unfolding root_at significand
  at-rises le = ⊎_elim level apart (eq-or-lt_of_le (halves-rise le))
    where
      level : halves p v ≡ halves p u → halves p v * hid f + significand p (whole p v) ≤ halves p u * hid f + significand p (whole p u)
      level e =
          let same = ap (λ (z : ℕ). whole p v * 4 ^ z) e in
          let w : whole p v ≤ whole p u = le_of_mul-le-mul_right {k = 4 ^ halves p u} (omega (arith, le, sv.value, su.value, same)) (four-pos (halves p u)) in
          let grows = lt_of_le_of_lt (mul-le-mul_left (2 ^ (p + 1)) w) (last-root p (whole p u) (asked u su)).1 in
          let q = square-lt _ _ (lt_of_le_of_lt (last-root p (whole p v) (asked v sv)).0 grows) in
          omega (arith, q, ap (λ (z : ℕ). z * hid f) e)

      apart : halves p v < halves p u → halves p v * hid f + significand p (whole p v) ≤ halves p u * hid f + significand p (whole p u)
      apart l =
          let nv = near p (whole p v) (asked v sv) sv.below in
          let nu = near p (whole p u) (asked u su) su.below in
          omega (arith, nv.high, nu.low, full f 0 g, mul-le-mul_right (hid f) l)

module _ (f : Format) (g : Fine f) (small : f.digits ≤ 60) where
  not-zero : (x : ℕ) → 0 < x → x ≤ infinity f → ¬ (x % top f ≡ 0)
  not-zero x some h e = none x some (sym (mod-eq_of_lt (lt_of_le_of_lt h (infinity-below f))) ∙ e)
    where
      none : (x : ℕ) → 0 < x → x ≡ 0 → ⊥
      none x some e = omega arith

  finite-is : (x : ℕ) → 0 < x → x < infinity f → root_word f x ≡ root_at f (lifted f (units f x))
  finite-is x some h = root-finite f x (not-zero x some (le_of_lt h)) h

  finite-rises : (x y : ℕ) → 0 < x → x ≤ y → y < infinity f → root_word f x ≤ root_word f y
  finite-rises x y some le h =
      let hx = lt_of_le_of_lt le h in
      let some-y = lt_of_lt_of_le some le in
      rw (finite-is x some hx, finite-is y some-y h)
      (at-rises f g small (lifted f (units f x)) (lifted f (units f y)) (finite-split f x g some hx).0 (finite-split f y g some-y h).0
      (mul-le-mul_right (2 ^ (f.emax - 1)) (rises-le (units f) (units-step f g.least) x y le)))

  pub root-of-infinity : root_word f (infinity f) ≡ infinity f
  root-of-infinity = root-infinity f (infinity f) (not-zero (infinity f) (infinity-some f) (le_refl (infinity f))) refl

  -- The words from +0 to +inf stand in the order of their values, and so do the words of their roots.
  pub root-rises : (x y : ℕ) → x ≤ y → y ≤ infinity f → root_word f x ≤ root_word f y
  root-rises x y le h = ⊎_elim zero-first (λ some. ⊎_elim (λ e. last some e) (λ l. finite-rises x y some le l) (eq-or-lt_of_le h)) (eq-zero-or-pos x)
    where
      zero-first : x ≡ 0 → root_word f x ≤ root_word f y
      zero-first e = subst (λ (z : ℕ). z ≤ root_word f y) (sym (root-zero f x (ap (λ (z : ℕ). z % top f) e ∙ zero-mod (top f)) ∙ e)) zero-le

      last : 0 < x → y ≡ infinity f → root_word f x ≤ root_word f y
      last some e = rw (e, root-of-infinity) (⊎_elim
          (λ i. le_of_eq (ap (root_word f) i ∙ root-of-infinity))
          (λ l. le_of_lt (subst (λ (z : ℕ). z < infinity f) (sym (finite-is x some l)) (root_below f x g small some l)))
          (eq-or-lt_of_le (subst (λ (z : ℕ). x ≤ z) e le)))

  pub root-most : (x : ℕ) → x ≤ infinity f → root_word f x ≤ infinity f
  root-most x h = subst (λ (z : ℕ). root_word f x ≤ z) root-of-infinity (root-rises x (infinity f) h (le_refl (infinity f)))

  -- ---- 4 ^ k times the operand: h grows by k, and no digit changes

  pub root-four : (x y k : ℕ) → 0 < x → x < infinity f → 0 < y → y < infinity f → units f y ≡ units f x * 4 ^ k → root_word f y ≡ k * hid f + root_word f x
  unfolding root_at
  root-four x y k some hx some-y hy e =
      let p : ℕ = f.digits in
      let v : ℕ = lifted f (units f x) in
      let s = (finite-split f x g some hx).0 in
      let lift : v * 4 ^ k ≡ lifted f (units f y) = omega (arith, ap (λ (z : ℕ). z * 2 ^ (f.emax - 1)) e) in
      let t : Split p (lifted f (units f y)) (whole p v) (halves p v + k) = record {
        value = ap (λ (z : ℕ). whole p v * z) (pow-add 4 (halves p v) k) ∙ (sides (whole p v) (4 ^ halves p v) (4 ^ k) v s.value ∙ lift);
        above = s.above;
        below = s.below;
      } in
      finite-is y some-y hy ∙ (rw (halves-is p _ _ _ t, whole_is p _ _ _ t) (sum (halves p v) k (hid f) (significand p (whole p v)))) ∙ ap (λ (z : ℕ). k * hid f + z) (sym (finite-is x some hx))
    where
      sides : (w a b v : ℕ) → w * a ≡ v → w * (a * b) ≡ v * b
      sides w a b v e = omega (arith, ap (λ (z : ℕ). z * b) e)

      sum : (h k d s : ℕ) → (h + k) * d + s ≡ k * d + (h * d + s)
      sum h k d s = omega arith
