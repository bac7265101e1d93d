-- A curve by its three control points, squared and times a line, by the six control points of that: where each of these is below a bound, so is the whole. Assumes nothing.
use Prim.Native.Nat.{ℕ, ◌+◌, ◌*◌, ◌≤◌}
use mathlib.Core.Path.{◌≡◌, refl, sym, ap, ap₂, ◌∙◌}
use native.Mathlib.Nat.{mul-le-mul_right, add-le-add, le_trans, le_of_eq}
use native.Mathlib.Omega.{arith}

-- the curve and the line at d of an interval of length d + e, times the length's square and the length
abbrev pub curve : ℕ → ℕ → ℕ → ℕ → ℕ → ℕ
curve a b c d e = a * (e * e) + 2 * (b * (d * e)) + c * (d * d)

abbrev pub line : ℕ → ℕ → ℕ → ℕ → ℕ
line y z d e = y * e + z * d

abbrev pub fifth : ℕ → ℕ → ℕ
fifth d e = (d + e) * (d + e) * ((d + e) * (d + e)) * (d + e)

-- ---- the six products of five, from e to the fifth down to d to the fifth

-- k5 .. k0 of them
abbrev sixfold : ℕ → ℕ → ℕ → ℕ → ℕ → ℕ → ℕ → ℕ → ℕ
sixfold k5 k4 k3 k2 k1 k0 d e =
    k5 * (e * e * (e * e) * e) + k4 * (e * e * (e * e) * d) + k3 * (e * e * (e * d) * d)
    + k2 * (e * e * (d * d) * d) + k1 * (e * (d * d) * (d * d)) + k0 * (d * d * (d * d) * d)

fifths : (m d e : ℕ) → m * fifth d e ≡ sixfold m (5 * m) (10 * m) (10 * m) (5 * m) m d e
fifths m d e = omega arith

-- a curve squared, by five numbers
squared : (a b c d e : ℕ) → curve a b c d e * curve a b c d e
    ≡ a * a * (e * e * (e * e)) + 4 * (a * b) * (e * e * (e * d)) + (4 * (b * b) + 2 * (a * c)) * (e * e * (d * d))
    + 4 * (b * c) * (e * d * (d * d)) + c * c * (d * d * (d * d))
squared a b c d e = omega arith

-- and times a line, by six: each of the five products with e and with d
module _ (k l m n o y z d e : ℕ) where
  spread : (a b c f g h : ℕ) → (a + b + c + f + g) * h ≡ a * h + b * h + c * h + f * h + g * h
  spread a b c f g h = omega arith

  term : (i x u v : ℕ) → x * e ≡ u → x * d ≡ v → i * x * line y z d e ≡ i * y * u + i * z * v
  term i x u v g h = omega (arith, ap (λ (s : ℕ). i * y * s) g, ap (λ (s : ℕ). i * z * s) h)

  gather : (w5 w4 w3 w2 w1 w0 : ℕ)
      → k * y * w5 + k * z * w4 + (l * y * w4 + l * z * w3) + (m * y * w3 + m * z * w2) + (n * y * w2 + n * z * w1) + (o * y * w1 + o * z * w0)
      ≡ k * y * w5 + (l * y + k * z) * w4 + (m * y + l * z) * w3 + (n * y + m * z) * w2 + (o * y + n * z) * w1 + o * z * w0
  gather w5 w4 w3 w2 w1 w0 = omega arith

  times : (k * (e * e * (e * e)) + l * (e * e * (e * d)) + m * (e * e * (d * d)) + n * (e * d * (d * d)) + o * (d * d * (d * d))) * line y z d e
      ≡ sixfold (k * y) (l * y + k * z) (m * y + l * z) (n * y + m * z) (o * y + n * z) (o * z) d e
  times =
      let w5 : ℕ = e * e * (e * e) * e in
      let w4 : ℕ = e * e * (e * e) * d in
      let w3 : ℕ = e * e * (e * d) * d in
      let w2 : ℕ = e * e * (d * d) * d in
      let w1 : ℕ = e * (d * d) * (d * d) in
      let w0 : ℕ = d * d * (d * d) * d in
      let t4 = term k (e * e * (e * e)) w5 w4 refl refl in
      let t3 = term l (e * e * (e * d)) w4 w3 (omega arith) refl in
      let t2 = term m (e * e * (d * d)) w3 w2 (omega arith) refl in
      let t1 = term n (e * d * (d * d)) w2 w1 (omega arith) (omega arith) in
      let t0 = term o (d * d * (d * d)) w1 w0 (omega arith) refl in
      spread (k * (e * e * (e * e))) (l * (e * e * (e * d))) (m * (e * e * (d * d))) (n * (e * d * (d * d))) (o * (d * d * (d * d))) (line y z d e)
      ∙ (ap₂ ◌+◌ (ap₂ ◌+◌ (ap₂ ◌+◌ (ap₂ ◌+◌ t4 t3) t2) t1) t0 ∙ gather w5 w4 w3 w2 w1 w0)

-- ---- the six control points against m times 1, 5, 10, 10, 5, 1

abbrev pub Six : (ℕ → ℕ → Type 0) → ℕ → ℕ → ℕ → ℕ → ℕ → ℕ → Type 0
Six R a b c y z m =
    R (a * a * y) m × R (4 * (a * b) * y + a * a * z) (5 * m) × R ((4 * (b * b) + 2 * (a * c)) * y + 4 * (a * b) * z) (10 * m)
    × R (4 * (b * c) * y + (4 * (b * b) + 2 * (a * c)) * z) (10 * m) × R (c * c * y + 4 * (b * c) * z) (5 * m) × R (c * c * z) m

-- what is at most, number by number, is at most in all
sixfold-mono : (k5 k4 k3 k2 k1 k0 m5 m4 m3 m2 m1 m0 d e : ℕ) → k5 ≤ m5 → k4 ≤ m4 → k3 ≤ m3 → k2 ≤ m2 → k1 ≤ m1 → k0 ≤ m0
    → sixfold k5 k4 k3 k2 k1 k0 d e ≤ sixfold m5 m4 m3 m2 m1 m0 d e
sixfold-mono k5 k4 k3 k2 k1 k0 m5 m4 m3 m2 m1 m0 d e h5 h4 h3 h2 h1 h0 =
    add-le-add (add-le-add (add-le-add (add-le-add (add-le-add
    (mul-le-mul_right _ h5) (mul-le-mul_right _ h4)) (mul-le-mul_right _ h3)) (mul-le-mul_right _ h2)) (mul-le-mul_right _ h1)) (mul-le-mul_right _ h0)

module _ (a b c y z m d e : ℕ) where
  whole : curve a b c d e * curve a b c d e * line y z d e
      ≡ sixfold (a * a * y) (4 * (a * b) * y + a * a * z) ((4 * (b * b) + 2 * (a * c)) * y + 4 * (a * b) * z)
      (4 * (b * c) * y + (4 * (b * b) + 2 * (a * c)) * z) (c * c * y + 4 * (b * c) * z) (c * c * z) d e
  whole = ap (λ (s : ℕ). s * line y z d e) (squared a b c d e) ∙ times (a * a) (4 * (a * b)) (4 * (b * b) + 2 * (a * c)) (4 * (b * c)) (c * c) y z d e

  pub below : Six (λ (x n : ℕ). x ≤ n) a b c y z m → curve a b c d e * curve a b c d e * line y z d e ≤ m * fifth d e
  below h = le_trans (le_of_eq whole) (le_trans (sixfold-mono _ _ _ _ _ _ _ _ _ _ _ _ d e h.0 h.1 h.2 h.3 h.4 h.5) (le_of_eq (sym (fifths m d e))))

  pub above : Six (λ (x n : ℕ). n ≤ x) a b c y z m → m * fifth d e ≤ curve a b c d e * curve a b c d e * line y z d e
  above h = le_trans (le_of_eq (fifths m d e)) (le_trans (sixfold-mono _ _ _ _ _ _ _ _ _ _ _ _ d e h.0 h.1 h.2 h.3 h.4 h.5) (le_of_eq (sym whole)))
