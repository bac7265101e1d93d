-- The numbers of the product y * (t1 + t2): YT stands for y * t1, ZT for y1 * t1, GT for their difference, DT for (y - y1) rounded times t1, Y2 for y * t2.
use mathlib.Core.Path.{◌≡◌, sym, ap, ◌∙◌}
use Prim.Native.Nat.{ℕ, ◌+◌, ◌*◌, ◌^◌, ◌≤◌, ◌<◌}
use native.Mathlib.Nat.{le_trans, le_of_eq, mul_assoc, mul-le-mul_right, mul-le-mul_left, mul-one}
use native.Mathlib.Omega.{arith}

-- ---- a rounding, coarsely: an eighth up and a 127th down
pub rounded-up : (x y c : ℕ) → 2 ^ 21 * x ≤ 2 ^ 21 * y + y + 2 ^ 20 * c → 8 * x ≤ 9 * y + 8 * c
rounded-up x y c h = omega arith

pub rounded-down : (x y c : ℕ) → 2 ^ 21 * y ≤ 2 ^ 21 * x + y + 2 ^ 20 * c → 127 * y ≤ 128 * x + 128 * c
rounded-down x y c h = omega arith

pub sum-up : (m d k : ℕ) → 2 ^ 21 * m ≤ 2 ^ 21 * d + d + 2 ^ 21 → d ≤ k → 8 * m ≤ 9 * k + 8
sum-up m d k h l = omega arith

pub times-up : (m n T : ℕ) → 8 * m ≤ 9 * n + 8 → 8 * (m * T) ≤ 9 * (n * T) + 8 * T
times-up m n T h = omega (arith, mul-le-mul_right T h)

-- ---- squares of the unit u, against the bound Z = 2 ^ 110 * u ^ 2
pub unit-square : (u : ℕ) → 1 ≤ u → u ≤ u * u
unit-square u h = le_trans (le_of_eq (sym (mul-one u))) (mul-le-mul_left u h)

pub cap-least : (s : ℕ) → 2 ^ 20 * s ≤ 2 ^ 110 * s
cap-least s = omega arith

pub cap-one : (s : ℕ) → 2 ^ 110 * s ≤ 2 ^ 112 * s
cap-one s = omega arith

pub cap-four : (s : ℕ) → 4 * (2 ^ 110 * s) ≡ 2 ^ 112 * s
cap-four s = omega arith

pub cap-more : (z : ℕ) → 16 * z ≤ 64 * z
cap-more z = omega arith

pub cap-unit : (u : ℕ) → 64 * (2 ^ 110 * (u * u)) ≡ 2 ^ 116 * u * u
cap-unit u = re (u * u) ∙ sym (mul_assoc (2 ^ 116) u u)
  where
    re : (s : ℕ) → 64 * (2 ^ 110 * s) ≡ 2 ^ 116 * s
    re s = omega arith

-- a product within 2 ^ 112 units squared is within 2 ^ 120 of them after it is rounded
pub rounded-cap : (a n u : ℕ) → 8 * (a * u) ≤ 9 * n + 8 * u → n ≤ 2 ^ 112 * (u * u) → 1 ≤ u → a * u < 2 ^ 120 * u * u
rounded-cap a n u h k l = le_trans (fin (a * u) n (2 ^ 112 * (u * u)) u (2 ^ 120 * (u * u)) h k (big (u * u) u (unit-square u l)) l)
    (le_of_eq (sym (mul_assoc (2 ^ 120) u u)))
  where
    big : (s u : ℕ) → u ≤ s → 4 * (2 ^ 112 * s) + 2 * u ≤ 2 ^ 120 * s
    big s u h = omega arith

    fin : (a n z u b : ℕ) → 8 * a ≤ 9 * n + 8 * u → n ≤ z → 4 * z + 2 * u ≤ b → 1 ≤ u → a < b
    fin a n z u b h k l p = omega arith

-- ---- the caps of the three products and of their sums
pub rest-cap : (DT GT YT T u s Z : ℕ) → 8 * DT ≤ 9 * GT + 8 * T → GT ≤ YT → YT ≤ Z → T ≤ 2 ^ 11 * u → u ≤ s → 2 ^ 20 * s ≤ Z → DT ≤ 4 * Z
rest-cap DT GT YT T u s Z h g k l m n = omega arith

pub low-cap : (a b DT Y2 GT YT T u s Z : ℕ) → 8 * (a * u) ≤ 9 * DT + 8 * u → 8 * (b * u) ≤ 9 * Y2 + 8 * u → 8 * DT ≤ 9 * GT + 8 * T → GT ≤ YT → Y2 ≤ YT
    → YT ≤ Z → T ≤ 2 ^ 11 * u → u ≤ s → 2 ^ 20 * s ≤ Z → (a + b) * u ≤ 16 * Z
low-cap a b DT Y2 GT YT T u s Z h k l g m n o p q = omega arith

pub both-cap : (l h a ZT YT u s Z : ℕ) → 8 * l ≤ 9 * a + 8 → a * u ≤ 16 * Z → 8 * (h * u) ≤ 9 * ZT + 8 * u → ZT ≤ YT → YT ≤ Z → u ≤ s → 2 ^ 20 * s ≤ Z
    → (l + h) * u ≤ 64 * Z
both-cap l h a ZT YT u s Z p q r k m n o = omega (arith, mul-le-mul_right u p)

-- ---- what the digits that y1 lacks come to: with lead digits kept, and 16 * E at most 2 ^ lead
pub digits-lost : (E p G Y Z h T : ℕ) → 16 * E ≤ p → p * Y ≤ p * Z + Y + h → Y ≡ Z + G → 16 * (E * (G * T)) ≤ Y * T + h * T
digits-lost E p G Y Z h T a b e = last (gap (mul-le-mul_right G a))
  where
    gap : 16 * E * G ≤ p * G → 16 * E * G ≤ Y + h
    gap x = omega (arith, x, b, ap (λ (z : ℕ). p * z) e)

    last : 16 * E * G ≤ Y + h → 16 * (E * (G * T)) ≤ Y * T + h * T
    last x = omega (arith, mul-le-mul_right T x)

-- the low part l against the high part h, with E = emax + 1: here h and l are times u, and z covers all the small terms
low_small : (E YT ZT GT DT Y2 h l u t k z : ℕ) → YT ≡ ZT + GT → 128 * GT ≤ E * GT → 8 * (E * DT) ≤ 9 * (E * GT) + 8 * (E * t) → 16 * (E * GT) ≤ YT + k
    → 64 * (E * l) ≤ 81 * (E * DT) + 81 * (E * Y2) + 300 * (E * u) → 4 * (E * Y2) ≤ YT → 127 * ZT ≤ 128 * h + 128 * u → u ≤ z → k ≤ z → E * t ≤ z → E * u ≤ z
    → 2 * (E * l) ≤ h + 2 ^ 14 * z
low_small E YT ZT GT DT Y2 h l u t k z e m a b c d g i1 i2 i3 i4 =
    last (E * l) (E * DT) (E * Y2) (E * u) YT h z c (first (E * DT) (E * GT) (E * t) YT k z a b i2 i3) d
    (third YT ZT GT h u k z e (second GT (E * GT) YT k m b) g i1 i2) i4
  where
    first : (d g t y k z : ℕ) → 8 * d ≤ 9 * g + 8 * t → 16 * g ≤ y + k → k ≤ z → t ≤ z → 128 * d ≤ 9 * y + 200 * z
    first d g t y k z a b c e = omega arith

    second : (G EG Y k : ℕ) → 128 * G ≤ EG → 16 * EG ≤ Y + k → 2048 * G ≤ Y + k
    second G EG Y k a b = omega arith

    third : (Y Z G h u k z : ℕ) → Y ≡ Z + G → 2048 * G ≤ Y + k → 127 * Z ≤ 128 * h + 128 * u → u ≤ z → k ≤ z → 100 * Y ≤ 102 * h + 200 * z
    third Y Z G h u k z e a b c d = omega arith

    last : (l d y2 u y h z : ℕ) → 64 * l ≤ 81 * d + 81 * y2 + 300 * u → 128 * d ≤ 9 * y + 200 * z → 4 * y2 ≤ y → 100 * y ≤ 102 * h + 200 * z
        → u ≤ z → 2 * l ≤ h + 2 ^ 14 * z
    last l d y2 u y h z a b c d' e = omega arith

pub low-most : (E YT ZT GT DT Y2 h a b l t u k : ℕ) → 2 ^ 7 ≤ E → E ≤ 2 ^ 10 → YT ≡ ZT + GT → 8 * DT ≤ 9 * GT + 8 * t → 16 * (E * GT) ≤ YT + k
    → 8 * a ≤ 9 * DT + 8 * u → 8 * b ≤ 9 * Y2 + 8 * u → 8 * (l * u) ≤ 9 * (a + b) + 8 * u → 4 * E * Y2 ≤ YT
    → 127 * ZT ≤ 128 * (h * u) + 128 * u → k ≤ 2 ^ 63 * u → t ≤ 2 ^ 11 * u → 2 * E * l * u ≤ (h + 2 ^ 77) * u
low-most E YT ZT GT DT Y2 h a b l t u k e7 e10 y d g p q r s i ku tu =
    last (low_small E YT ZT GT DT Y2 (h * u) (l * u) u t k (2 ^ 63 * u) y (mul-le-mul_right GT e7) (scale d) g (scale2 (sums DT Y2 a b (l * u) p q r)) (re s) i
    (one u) ku (small t (mul-le-mul_right t e10) tu) (small' (mul-le-mul_right u e10)))
  where
    scale : 8 * DT ≤ 9 * GT + 8 * t → 8 * (E * DT) ≤ 9 * (E * GT) + 8 * (E * t)
    scale h = omega (arith, mul-le-mul_left E h)

    sums : (D Y a b l : ℕ) → 8 * a ≤ 9 * D + 8 * u → 8 * b ≤ 9 * Y + 8 * u → 8 * l ≤ 9 * (a + b) + 8 * u → 64 * l ≤ 81 * D + 81 * Y + 300 * u
    sums D Y a b l p q r = omega arith

    scale2 : 64 * (l * u) ≤ 81 * DT + 81 * Y2 + 300 * u → 64 * (E * (l * u)) ≤ 81 * (E * DT) + 81 * (E * Y2) + 300 * (E * u)
    scale2 h = omega (arith, mul-le-mul_left E h)

    re : 4 * E * Y2 ≤ YT → 4 * (E * Y2) ≤ YT
    re h = omega (arith, h)

    one : (u : ℕ) → u ≤ 2 ^ 63 * u
    one u = omega arith

    small : (t : ℕ) → E * t ≤ 2 ^ 10 * t → t ≤ 2 ^ 11 * u → E * t ≤ 2 ^ 63 * u
    small t h k = omega (arith, h, k)

    small' : E * u ≤ 2 ^ 10 * u → E * u ≤ 2 ^ 63 * u
    small' h = omega (arith, h)

    last : 2 * (E * (l * u)) ≤ h * u + 2 ^ 14 * (2 ^ 63 * u) → 2 * E * l * u ≤ (h + 2 ^ 77) * u
    last e = omega (arith, e)
