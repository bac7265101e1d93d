-- From the test of a table's entry to the reciprocal root at each number that the entry is for: the curve by its control points, its bounds, and what the code rounds off. Assumes nothing.
use Prim.Native.Nat.{ℕ, ◌+◌, ◌-◌, ◌*◌, ◌/◌, ◌^◌, ◌≤◌, ◌<◌}
use mathlib.Core.Path.{◌≡◌, sym, ap, subst, ◌∙◌}
use mathlib.Core.Bool.{Bool, true, false, ◌&&◌}
use native.Mathlib.Nat.{mul-le-mul, le_trans, le_of_eq, le_of_mul-le-mul_left, mul-pos, mul_comm}
use native.Mathlib.Omega.{arith}
use lib.Dec.{T, leb, leb→le, lit<}
use Rattle.recip.specs.Reciprocal.{Reciprocal, nearly, fall, bend, cut, start, middle, end, crest, under, over, good}
use Rattle.recip.proofs.ControlPoints.{curve, line, fifth, Six, below, above}

-- ---- the curve over D = d + e, by its control points

-- the line through the numbers that the entry is for
straight : (D d e l k : ℕ) → D ≡ d + e → line (l * k) (l * (k + D)) d e ≡ D * (l * (k + d))
straight D d e l k s = omega (arith, ap (λ (n : ℕ). l * (k * n)) s)

lowered : (a b c a' b' c' k d e : ℕ) → a ≡ a' + k → b ≡ b' + k → c ≡ c' + k → curve a b c d e ≡ curve a' b' c' d e + (d + e) * (d + e) * k
lowered a b c a' b' c' k d e p q r = omega (arith, ap (λ (n : ℕ). n * (e * e)) p, ap (λ (n : ℕ). n * (d * e)) q, ap (λ (n : ℕ). n * (d * d)) r)

-- a curve that starts at a, falls by 2 * f for each d, and bends by c
drawn : (a b c f g D d e : ℕ) → D ≡ d + e → b + D * f ≡ a → g + 2 * (D * f) ≡ a + c * (D * D) → curve a b g d e + D * D * (2 * f * d) ≡ D * D * (a + c * (d * d))
drawn a b c f g D d e s p q =
    subst (λ (n : ℕ). curve a b g d e + n * n * (2 * f * d) ≡ n * n * (a + c * (d * d))) (sym s)
    (core (subst (λ (n : ℕ). b + n * f ≡ a) s p) (subst (λ (n : ℕ). g + 2 * (n * f) ≡ a + c * (n * n)) s q))
  where
    core : b + (d + e) * f ≡ a → g + 2 * ((d + e) * f) ≡ a + c * ((d + e) * (d + e)) → curve a b g d e + (d + e) * (d + e) * (2 * f * d) ≡ (d + e) * (d + e) * (a + c * (d * d))
    core p q = omega (arith, ap (λ (n : ℕ). n * (2 * (d * e))) p, ap (λ (n : ℕ). n * (d * d)) q)

-- what is bounded with all control points is bounded without D
module _ (D d e l y m C R : ℕ) (s : D ≡ d + e) (some : 0 < D) where
  power : D * D * (D * D) * D ≡ fifth d e
  power = ap (λ (n : ℕ). n * n * (n * n) * n) s

  fifth-pos : 0 < D * D * (D * D) * D
  fifth-pos = mul-pos (mul-pos (mul-pos some some) (mul-pos some some)) some

  regroup : D * D * R * (D * D * R) * (D * (l * (y + d))) ≡ D * D * (D * D) * D * (R * R * (l * (y + d)))
  regroup = sort (D * D) R D (l * (y + d))
    where
      sort : (a r b z : ℕ) → a * r * (a * r) * (b * z) ≡ a * a * b * (r * r * z)
      sort a r b z = omega arith

  swap : m * fifth d e ≡ D * D * (D * D) * D * m
  swap = ap (λ (n : ℕ). m * n) (sym power) ∙ mul_comm m (D * D * (D * D) * D)

  highest : D * D * R ≤ C → C * C * line (l * y) (l * (y + D)) d e ≤ m * fifth d e → R * R * (l * (y + d)) ≤ m
  highest h b =
      le_of_mul-le-mul_left {k = D * D * (D * D) * D}
      (le_trans (le_of_eq (sym regroup)) (le_trans (mul-le-mul (mul-le-mul h h) (le_of_eq (sym (straight D d e l y s)))) (le_trans b (le_of_eq swap))))
      fifth-pos

  lowest : C ≤ D * D * R → m * fifth d e ≤ C * C * line (l * y) (l * (y + D)) d e → m ≤ R * R * (l * (y + d))
  lowest h b =
      le_of_mul-le-mul_left {k = D * D * (D * D) * D}
      (le_trans (le_of_eq (sym swap)) (le_trans b (le_trans (mul-le-mul (mul-le-mul h h) (le_of_eq (straight D d e l y s))) (le_of_eq regroup))))
      fifth-pos

-- ---- the test, apart

both : (a b : Bool) → T (a && b) → T a × T b
both true b t = (tt, t)
both false b t = absurd t

six : (p0 q0 p1 q1 p2 q2 p3 q3 p4 q4 p5 q5 : ℕ)
    → T (leb p0 q0 && (leb p1 q1 && (leb p2 q2 && (leb p3 q3 && (leb p4 q4 && (leb p5 q5))))))
    → (p0 ≤ q0) × (p1 ≤ q1) × (p2 ≤ q2) × (p3 ≤ q3) × (p4 ≤ q4) × (p5 ≤ q5)
six p0 q0 p1 q1 p2 q2 p3 q3 p4 q4 p5 q5 t0 =
    let t1 = both (leb p0 q0) (leb p1 q1 && (leb p2 q2 && (leb p3 q3 && (leb p4 q4 && (leb p5 q5))))) t0 in
    let t2 = both (leb p1 q1) (leb p2 q2 && (leb p3 q3 && (leb p4 q4 && (leb p5 q5)))) t1.1 in
    let t3 = both (leb p2 q2) (leb p3 q3 && (leb p4 q4 && (leb p5 q5))) t2.1 in
    let t4 = both (leb p3 q3) (leb p4 q4 && (leb p5 q5)) t3.1 in
    let t5 = both (leb p4 q4) (leb p5 q5) t4.1 in
    (leb→le p0 q0 t1.0, leb→le p1 q1 t2.0, leb→le p2 q2 t3.0, leb→le p3 q3 t4.0, leb→le p4 q4 t5.0, leb→le p5 q5 t5.1)

-- the six control points, by name
module _ (a b c y z m : ℕ) where
  abbrev c0 : ℕ
  c0 = a * a * y

  abbrev c1 : ℕ
  c1 = 4 * (a * b) * y + a * a * z

  abbrev c2 : ℕ
  c2 = (4 * (b * b) + 2 * (a * c)) * y + 4 * (a * b) * z

  abbrev c3 : ℕ
  c3 = 4 * (b * c) * y + (4 * (b * b) + 2 * (a * c)) * z

  abbrev c4 : ℕ
  c4 = c * c * y + 4 * (b * c) * z

  abbrev c5 : ℕ
  c5 = c * c * z

  six-under : T (crest leb a b c y z m) → Six (λ (x n : ℕ). x ≤ n) a b c y z m
  six-under t = six c0 m c1 (5 * m) c2 (10 * m) c3 (10 * m) c4 (5 * m) c5 m t

  six-over : T (crest (λ x n. leb n x) a b c y z m) → Six (λ (x n : ℕ). n ≤ x) a b c y z m
  six-over t = six m c0 (5 * m) c1 (10 * m) c2 (10 * m) c3 (5 * m) c4 m c5 t

record Tests (l i x : ℕ) : Type 0 where
  small : x ≤ 2 ^ 63
  first : 2 ^ 30 * fall x + cut ≤ 2 ^ 9 * x
  second : 2 ^ 31 * fall x + cut ≤ 2 ^ 9 * x + 2 ^ 44 * bend x
  not-above : Six (λ (p n : ℕ). p ≤ n) (start x) (middle x) (end x) (l * (i * 2 ^ 22 + 1)) (l * (i * 2 ^ 22 + 1 + 2 ^ 22)) (2 ^ 174)
  not-below : Six (λ (p n : ℕ). n ≤ p) (start x - cut) (middle x - cut) (end x - cut) (l * (i * 2 ^ 22)) (l * (i * 2 ^ 22 + 2 ^ 22)) (nearly * nearly * 2 ^ 110)

tested : (l i x : ℕ) → T (good l i x) → Tests l i x
tested l i x t0 =
    let t1 = both (leb x (2 ^ 63)) (m && (n && (under l i x && over l i x))) t0 in
    let t2 = both m (n && (under l i x && over l i x)) t1.1 in
    let t3 = both n (under l i x && over l i x) t2.1 in
    let t4 = both (under l i x) (over l i x) t3.1 in
    record {
      small = leb→le _ _ t1.0;
      first = leb→le _ _ t2.0;
      second = leb→le _ _ t3.0;
      not-above = six-under _ _ _ _ _ _ t4.0;
      not-below = six-over _ _ _ _ _ _ t4.1;
    }
  where
    m : Bool
    m = leb (2 ^ 30 * fall x + cut) (2 ^ 9 * x)

    n : Bool
    n = leb (2 ^ 31 * fall x + cut) (2 ^ 9 * x + 2 ^ 44 * bend x)

-- ---- one entry x, and d of the numbers that it is for

-- the reciprocal that the code finds at d
abbrev pub found : ℕ → ℕ → ℕ
found x d = (x + bend x * (d * d) / 2 ^ 9 - d * fall x) / 2 ^ 32

-- p is the curve, and q the same lowered by `cut`: what is found lies between
roundings : (x u v p q : ℕ) → p + 2 ^ 44 * (2 ^ 9 * u) ≡ 2 ^ 44 * (2 ^ 9 * x + v) → p ≡ q + 2 ^ 44 * cut
    → (u ≤ x + v / 2 ^ 9) × (2 ^ 44 * (2 ^ 41 * ((x + v / 2 ^ 9 - u) / 2 ^ 32)) ≤ p) × (q ≤ 2 ^ 44 * (2 ^ 41 * ((x + v / 2 ^ 9 - u) / 2 ^ 32)))
roundings x u v p q g h =
    let k : ℕ = v / 2 ^ 9 in
    let a : 2 ^ 9 * k ≤ v = omega arith in
    let b : v < 2 ^ 9 * k + 2 ^ 9 = omega arith in
    let l : u ≤ x + k = omega arith in
    let n : ℕ = x + k - u in
    let e : n + u ≡ x + k = omega arith in
    let r : ℕ = n / 2 ^ 32 in
    let r0 : 2 ^ 32 * r ≤ n = omega arith in
    let r1 : n < 2 ^ 32 * r + 2 ^ 32 = omega arith in
    (l, omega arith, omega arith)

module _ (l i x d : ℕ) (inside : d < 2 ^ 22) (t : T (good l i x)) where
  abbrev other : ℕ
  other = 2 ^ 22 - d

  covers : 2 ^ 22 ≡ d + other
  covers = omega arith

  abbrev high : ℕ
  high = curve (start x) (middle x) (end x) d other

  abbrev low : ℕ
  low = curve (start x - cut) (middle x - cut) (end x - cut) d other

  tests : Tests l i x
  tests = tested l i x t

  shape : high + 2 ^ 44 * (2 ^ 9 * (d * fall x)) ≡ 2 ^ 44 * (2 ^ 9 * x + bend x * (d * d))
  shape = omega (arith, drawn (start x) (middle x) (bend x) (2 ^ 8 * fall x) (end x) (2 ^ 22) d other covers (omega (arith, tests.first)) (omega (arith, tests.second)))

  cut_off : high ≡ low + 2 ^ 44 * cut
  cut_off = subst (λ (n : ℕ). high ≡ low + n * n * cut) (sym covers)
      (lowered (start x) (middle x) (end x) (start x - cut) (middle x - cut) (end x - cut) cut d other
      (omega (arith, tests.first)) (omega (arith, tests.first)) (omega (arith, tests.second)))

  sides : (d * fall x ≤ x + bend x * (d * d) / 2 ^ 9) × (2 ^ 44 * (2 ^ 41 * found x d) ≤ high) × (low ≤ 2 ^ 44 * (2 ^ 41 * found x d))
  sides = roundings x (d * fall x) (bend x * (d * d)) high low shape cut_off

  pub found-small : x ≤ 2 ^ 63
  found-small = tests.small

  pub found-whole : d * fall x ≤ x + bend x * (d * d) / 2 ^ 9
  found-whole = sides.0

  -- never too high, at each d
  not-high : 2 ^ 41 * found x d * (2 ^ 41 * found x d) * (l * (i * 2 ^ 22 + 1 + d)) ≤ 2 ^ 174
  not-high = highest (2 ^ 22) d other l (i * 2 ^ 22 + 1) (2 ^ 174) high (2 ^ 41 * found x d) covers (lit< tt) sides.1
      (below (start x) (middle x) (end x) (l * (i * 2 ^ 22 + 1)) (l * (i * 2 ^ 22 + 1 + 2 ^ 22)) (2 ^ 174) d other tests.not-above)

  -- nor too low
  not_low : nearly * nearly * 2 ^ 110 ≤ 2 ^ 41 * found x d * (2 ^ 41 * found x d) * (l * (i * 2 ^ 22 + d))
  not_low = lowest (2 ^ 22) d other l (i * 2 ^ 22) (nearly * nearly * 2 ^ 110) low (2 ^ 41 * found x d) covers (lit< tt) sides.2
      (above (start x - cut) (middle x - cut) (end x - cut) (l * (i * 2 ^ 22)) (l * (i * 2 ^ 22 + 2 ^ 22)) (nearly * nearly * 2 ^ 110) d other tests.not-below)

  pub found-reciprocal : Reciprocal (l * (i * 2 ^ 22 + d)) (l * (i * 2 ^ 22 + d + 1)) (found x d)
  found-reciprocal = record {
    most = subst (λ (z : ℕ). found x d * found x d * (l * z) ≤ 2 ^ 92) (shift (i * 2 ^ 22) d) (unscale (found x d) (l * (i * 2 ^ 22 + 1 + d)) (2 ^ 92) not-high);
    least = unscaled (found x d) (l * (i * 2 ^ 22 + d)) (nearly * nearly * 2 ^ 28) not_low;
  }
    where
      shift : (a b : ℕ) → a + 1 + b ≡ a + b + 1
      shift a b = omega arith

      squares : (k r z : ℕ) → k * r * (k * r) * z ≡ k * k * (r * r * z)
      squares k r z = omega arith

      unscale : (r z m : ℕ) → 2 ^ 41 * r * (2 ^ 41 * r) * z ≤ 2 ^ 82 * m → r * r * z ≤ m
      unscale r z m h = le_of_mul-le-mul_left {k = 2 ^ 82} (subst (λ (n : ℕ). n ≤ 2 ^ 82 * m) (squares (2 ^ 41) r z) h) (lit< tt)

      unscaled : (r z m : ℕ) → 2 ^ 82 * m ≤ 2 ^ 41 * r * (2 ^ 41 * r) * z → m ≤ r * r * z
      unscaled r z m h = le_of_mul-le-mul_left {k = 2 ^ 82} (subst (λ (n : ℕ). 2 ^ 82 * m ≤ n) (squares (2 ^ 41) r z) h) (lit< tt)
