-- A rising sequence of numbers and the term of it that is nearest to a number, a tie to the even place: shown from the two terms around the number, by their middle, and then said by distances.
-- Twice a middle is a sum of two terms. The number itself need not be whole: it is given by v, what a rising s makes of twice it. Nothing here is about words. Assumes nothing.
use mathlib.Core.Path.{◌≡◌, sym, ap, ◌∙◌, subst}
use Prim.Native.Nat.{ℕ, zero, suc, ◌+◌, ◌*◌, ◌%◌, ◌≤◌, ◌<◌}
use native.Mathlib.Nat.{le_trans, le_of_eq, le_of_lt, le_of_suc-le-suc, lt_trans, lt_of_lt_of_le}
use native.Mathlib.Omega.{arith}
use native.Mathlib.Decide.{dec_lt}
use Rattle.words.specs.Nearest.{distance}

-- the number is at or between the middles around g r, and at one of them only where r is even
pub record Between (g s : ℕ → ℕ) (v r : ℕ) : Type 0 where
  pub above : (w : ℕ) → w < r → s (g w + g r) ≤ v
  pub above-even : (w : ℕ) → w < r → s (g w + g r) ≡ v → r % 2 ≡ 0
  pub below : (w : ℕ) → r < w → v ≤ s (g r + g w)
  pub below-even : (w : ℕ) → r < w → s (g r + g w) ≡ v → r % 2 ≡ 0

-- of all places below `most`, none is nearer to v than r, and where one is as near r is even
pub record Closest (g : ℕ → ℕ) (v most r : ℕ) : Type 0 where
  pub none-nearer : (w : ℕ) → w < most → distance (g r) v ≤ distance (g w) v
  pub ties-even : (w : ℕ) → w < most → ¬ (w ≡ r) → distance (g w) v ≡ distance (g r) v → r % 2 ≡ 0

-- two places are in one order or the other
pub data Order (a b : ℕ) : Type 0 where
  less : a < b → Order a b
  same : a ≡ b → Order a b
  more : b < a → Order a b

pub order : (a b : ℕ) → Order a b
order a b = elim (dec_lt a b) [
  | yes l ↦ less l
  | no l ↦ elim (dec_lt b a) [ yes m ↦ more m | no m ↦ same (neither a b l m) ]
]
  where
    neither : (a b : ℕ) → ¬ (a < b) → ¬ (b < a) → a ≡ b
    neither a b l m = omega arith

apart : (a b : ℕ) → a < b → a ≡ b → ⊥
apart a b h e = omega arith

squeezed : (x y z : ℕ) → x ≤ y → y ≤ z → z ≡ x → y ≡ x
squeezed x y z p q e = omega arith

module _ (g : ℕ → ℕ) (step : (w : ℕ) → g w < g (suc w)) where
  pub rises : (a b : ℕ) → a < b → g a < g b
  rises a zero h = absurd (none a h)
    where
      none : (a : ℕ) → a < 0 → ⊥
      none a h = omega arith
  rises a (suc b) h = elim (order a b) [
    | less l ↦ lt_trans (rises a b l) (step b)
    | same e ↦ subst (λ (z : ℕ). g z < g (suc b)) (sym e) (step b)
    | more m ↦ absurd (past a b m h)
  ]
    where
      past : (a b : ℕ) → b < a → a < suc b → ⊥
      past a b m h = omega arith

  pub rises-le : (a b : ℕ) → a ≤ b → g a ≤ g b
  rises-le a b h = elim (order a b) [
    | less l ↦ le_of_lt (rises a b l)
    | same e ↦ le_of_eq (ap g e)
    | more m ↦ absurd (past a b m h)
  ]
    where
      past : (a b : ℕ) → b < a → a ≤ b → ⊥
      past a b m h = omega arith

-- ---- from the two terms around the number: the lower one up to their middle, the upper one from there on
module _ (g s : ℕ → ℕ) (step : (w : ℕ) → g w < g (suc w)) (step-s : (w : ℕ) → s w < s (suc w)) (v a : ℕ) where
  pub between_lower : s (g a + g a) ≤ v → v ≤ s (g a + g (suc a)) → (s (g a + g (suc a)) ≡ v → a % 2 ≡ 0) → Between g s v a
  between_lower L M E = record {
    above = λ w h. le_of_lt (under w h);
    above-even = λ w h e. absurd (apart (s (g w + g a)) v (under w h) e);
    below = λ w h. le_trans M (over w h);
    below-even = λ w h e. E (squeezed v (s (g a + g (suc a))) (s (g a + g w)) M (over w h) e);
  }
    where
      under : (w : ℕ) → w < a → s (g w + g a) < v
      under w h = lt_of_lt_of_le (rises s step-s (g w + g a) (g a + g a) (more (g w) (g a) (g a) (rises g step w a h))) L
        where
          more : (x y z : ℕ) → x < y → x + z < y + z
          more x y z l = omega arith

      over : (w : ℕ) → a < w → s (g a + g (suc a)) ≤ s (g a + g w)
      over w h = rises-le s step-s (g a + g (suc a)) (g a + g w) (more (g (suc a)) (g w) (g a) (rises-le g step (suc a) w h))
        where
          more : (x y z : ℕ) → x ≤ y → z + x ≤ z + y
          more x y z l = omega arith

  pub between-upper : v < s (g (suc a) + g (suc a)) → s (g a + g (suc a)) ≤ v → (s (g a + g (suc a)) ≡ v → suc a % 2 ≡ 0) → Between g s v (suc a)
  between-upper U M E = record {
    above = λ w h. le_trans (under w h) M;
    above-even = λ w h e. E (squeezed (s (g w + g (suc a))) (s (g a + g (suc a))) v (under w h) M (sym e) ∙ e);
    below = λ w h. le_of_lt (over w h);
    below-even = λ w h e. absurd (apart v (s (g (suc a) + g w)) (over w h) (sym e));
  }
    where
      under : (w : ℕ) → w < suc a → s (g w + g (suc a)) ≤ s (g a + g (suc a))
      under w h = rises-le s step-s (g w + g (suc a)) (g a + g (suc a)) (more (g w) (g a) (g (suc a)) (rises-le g step w a (le_of_suc-le-suc h)))
        where
          more : (x y z : ℕ) → x ≤ y → x + z ≤ y + z
          more x y z l = omega arith

      over : (w : ℕ) → suc a < w → v < s (g (suc a) + g w)
      over w h = lt_trans U (rises s step-s (g (suc a) + g (suc a)) (g (suc a) + g w) (more (g (suc a)) (g w) (g (suc a)) (rises g step (suc a) w h)))
        where
          more : (x y z : ℕ) → x < y → z + x < z + y
          more x y z l = omega arith

module _ (g : ℕ → ℕ) (step : (w : ℕ) → g w < g (suc w)) where
  -- ---- said by distances, of all places or of those below `most`
  pub between-closest : (v most r : ℕ) → Between g (λ (m : ℕ). m) (2 * v) r → Closest g v most r
  between-closest v most r b = record {
    none-nearer = λ w W. elim (order w r) [
      | less l ↦ near-above (g w) (g r) v (rises g step w r l) (b.above w l)
      | same e ↦ level (g w) (g r) v (ap g e)
      | more m ↦ near-below (g w) (g r) v (rises g step r w m) (b.below w m)
    ];
    ties-even = λ w W n d. elim (order w r) [
      | less l ↦ b.above-even w l (tie-above (g w) (g r) v (rises g step w r l) (b.above w l) d)
      | same e ↦ absurd (n e)
      | more m ↦ b.below-even w m (tie-below (g w) (g r) v (rises g step r w m) (b.below w m) d)
    ];
  }
    where
      near-above : (x y v : ℕ) → x < y → x + y ≤ 2 * v → distance y v ≤ distance x v
      near-above x y v h m = omega arith

      near-below : (x y v : ℕ) → y < x → 2 * v ≤ y + x → distance y v ≤ distance x v
      near-below x y v h m = omega arith

      level : (x y v : ℕ) → x ≡ y → distance y v ≤ distance x v
      level x y v e = omega arith

      tie-above : (x y v : ℕ) → x < y → x + y ≤ 2 * v → distance x v ≡ distance y v → x + y ≡ 2 * v
      tie-above x y v h m e = omega arith

      tie-below : (x y v : ℕ) → y < x → 2 * v ≤ y + x → distance x v ≡ distance y v → y + x ≡ 2 * v
      tie-below x y v h m e = omega arith

  -- ---- with an even end: the place is past the end from the middle below the end on, and before it below that middle
  module _ (v r end : ℕ) (b : Between g (λ (m : ℕ). m) (2 * v) r) (even : suc end % 2 ≡ 0) where
    pub between-past : g end + g (suc end) ≤ 2 * v → end < r
    between-past h = elim (order r end) [
      | less l ↦ absurd (high (g r) (g end) (g (suc end)) v (rises g step r end l) (b.below (suc end) (later r end l)) h)
      | same e ↦ absurd (odd end r even e (b.below-even (suc end) (next r end e) (level (g r) (g end) (g (suc end)) v (ap g e) (b.below (suc end) (next r end e)) h)))
      | more m ↦ m
    ]
      where
        later : (r n : ℕ) → r < n → r < suc n
        later r n h = omega arith

        next : (r n : ℕ) → r ≡ n → r < suc n
        next r n e = omega arith

        high : (x y z v : ℕ) → x < y → 2 * v ≤ x + z → y + z ≤ 2 * v → ⊥
        high x y z v a b c = omega arith

        level : (x y z v : ℕ) → x ≡ y → 2 * v ≤ x + z → y + z ≤ 2 * v → x + z ≡ 2 * v
        level x y z v a b c = omega arith

        odd : (n r : ℕ) → suc n % 2 ≡ 0 → r ≡ n → r % 2 ≡ 0 → ⊥
        odd n r u e z = omega arith

    pub between-before : 2 * v < g end + g (suc end) → r ≤ end
    between-before h = elim (dec_lt end r) [
      | yes l ↦ absurd (low (g end) (g (suc end)) (g r) v (rises-le g step (suc end) r l) (b.above end l) h)
      | no l ↦ at_most r end l
    ]
      where
        at_most : (r n : ℕ) → ¬ (n < r) → r ≤ n
        at_most r n l = omega arith

        low : (x y z v : ℕ) → y ≤ z → x + z ≤ 2 * v → 2 * v < x + y → ⊥
        low x y z v a b c = omega arith

  -- ---- only one place is closest
  closest-not-less : (v most r s : ℕ) → r < s → s < most → Closest g v most r → Closest g v most s → ⊥
  closest-not-less v most r s h S x y =
      let d : distance (g r) v ≡ distance (g s) v = level (distance (g r) v) (distance (g s) v) (x.none-nearer s S) (y.none-nearer r (lt_trans h S)) in
      let a : r % 2 ≡ 0 = x.ties-even s S (apart h) (sym d) in
      let b : s % 2 ≡ 0 = y.ties-even r (lt_trans h S) (apart' h) d in
      nearer (g r) (g (suc r)) (g s) v (step r) (rises g step (suc r) s (gap r s h a b)) d (x.none-nearer (suc r) (lt_trans (gap r s h a b) S))
    where
      level : (a b : ℕ) → a ≤ b → b ≤ a → a ≡ b
      level a b p q = omega arith

      apart : r < s → s ≡ r → ⊥
      apart h e = omega arith

      apart' : r < s → r ≡ s → ⊥
      apart' h e = omega arith

      gap : (r s : ℕ) → r < s → r % 2 ≡ 0 → s % 2 ≡ 0 → suc r < s
      gap r s h a b = omega arith

      nearer : (x y z v : ℕ) → x < y → y < z → distance x v ≡ distance z v → distance x v ≤ distance y v → ⊥
      nearer x y z v a b d e = omega arith

  pub closest-unique : (v most r s : ℕ) → r < most → s < most → Closest g v most r → Closest g v most s → r ≡ s
  closest-unique v most r s R S x y = elim (order r s) [
    | less l ↦ absurd (closest-not-less v most r s l S x y)
    | same e ↦ e
    | more m ↦ absurd (closest-not-less v most s r m R y x)
  ]
