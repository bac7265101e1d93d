-- A word of at most prec digits is its own number of units: its product with 2 ^ n is that of a whole float with 2 ^ (n - low). Over the kit's formats. Assumes nothing.
use mathlib.Core.Path.{◌≡◌, refl, sym, ap, ◌∙◌, subst}
use Prim.Native.Nat.{ℕ, suc, ◌+◌, ◌-◌, ◌*◌, ◌/◌, ◌%◌, ◌^◌, ◌≤◌, ◌<◌}
use native.Mathlib.Nat.{pow-suc, zero-add, mul-le-mul_left, le_refl, le_trans, le_of_eq, le_of_lt, lt_of_lt_of_le, lt_trans, mul-one, one-mul, mul-pos, mul-le-mul_right, lt_of_mul-lt-mul_right, mod-eq_of_lt, mod-lt}
use native.Mathlib.Omega.{arith}
use mathlib.Core.Bool.{Bool, true, false, not, cond}
use lib.Dec.{T, leb, ltb, ltb→lt, nltb→le, leb→le, lit≤}
use lib.Arith.{lt→nleb}
use lib.Pow.{pow_pos, pow_mono}
use lib.IntN.{ℤ, pos, negsuc, ◌+ℤ◌, ◌-ℤ◌}
use lib.Signed.{◌≤ℤ◌}
use lib.Ieee.{Float, fin, Format, binary32, binary64, prec, emax, low, hid, top, up, down, round, add, mul, lt, is_nan, of_int, of_bits, to_bits}
use lib.Ieee.Back.{round_whole}
use lib.Ieee.Bits.{is_false, of_bits-fits}
use lib.Ieee.Exact.{HasValue, round_exact}
use lib.Ieee.Fits.{two, down_pos}
use lib.Ieee.Scale.{round_same, overflow}
use Rattle.words.specs.Format.{infinity, units, ours}
use Rattle.words.specs.Rounding.{rounded}
use Rattle.words.proofs.Floats.{word-val}
use Rattle.words.proofs.Round.{to_bits-round}
use Rattle.words.proofs.Digits.{twice_hid}
use Rattle.words.proofs.Rounded.{rounded-same}
use Rattle.words.proofs.Units.{units-normal, units-word}
use Rattle.words.proofs.Words.{infinity-below}
use Rattle.scale.specs.Scale.{scaled, power}
use Rattle.scale.proofs.Powers.{mul_val, round_number, round-zero, round-inf, place}
use Rattle.scale.proofs.Far.{clamp-up}
use Rattle.scale.proofs.Scaled.{scaled-is, scaled-size}
use Rattle.scale.proofs.Exponents.{lowered_by, raised, tiny_exponent}
use Rattle.scale.proofs.Sums.{add-power, below_power, rounded-beside}

-- ---- a word of at most prec digits
module _ (f : Format) (m : ℕ) (M : m < 2 ^ prec f) where
  one : 0 < prec f
  one = lt_trans (lit≤ tt) (two f)

  whole : m < infinity (ours f)
  whole = lt_of_lt_of_le M (subst (λ (z : ℕ). z ≤ infinity (ours f)) (sym (twice_hid (prec f) one)) (grows f (hid f)))
    where
      grows : (f : Format) (h : ℕ) → 2 * h ≤ (2 * emax f + 1) * h
      grows binary32 h = omega arith
      grows binary64 h = omega arith

  under : m < top f
  under = lt_trans whole (infinity-below (ours f))

  itself : m % top f ≡ m
  itself = mod-eq_of_lt under

  clear : leb (top f) m ≡ false
  clear = is_false (leb (top f) m) (lt→nleb (top f) m under)

  own : units (ours f) (m % top f) ≡ m
  own = ap (units (ours f)) itself ∙ ap (units (ours f)) (alone (hid f) m) ∙ units-word (ours f) 0 m one M (λ h. absurd (never h)) ∙ mul-one m
    where
      alone : (h m : ℕ) → m ≡ 0 * h + m
      alone h m = omega arith

      never : 0 < 0 → ⊥
      never h = omega arith

  finite : m % top f < infinity (ours f)
  finite = subst (λ (z : ℕ). z < infinity (ours f)) (sym itself) whole

  word_value : HasValue (of_bits f m) false m (2 ^ low f)
  word_value = subst (λ (s : Bool). HasValue (of_bits f m) s m (2 ^ low f)) clear (subst (λ (a : ℕ). HasValue (of_bits f m) (leb (top f) m) a (2 ^ low f)) own (word-val f m finite))

  whole-value : HasValue (of_int f (pos m)) false m 1
  unfolding of_int
  whole-value = round_whole f false m (le_of_lt M)

  pub scaled-word : (n : ℤ) → scaled (ours f) m n ≡ rounded (ours f) (m * up n) (down n)
  scaled-word n = scaled-size (ours f) m n whole ∙ ap (λ (a : ℕ). rounded (ours f) (a * up n) (down n)) (ap (units (ours f)) (sym itself) ∙ own)

  by_word : (n : ℤ) → to_bits f (mul f (of_bits f m) (power n)) ≡ scaled (ours f) m n
  by_word n = scaled-is f m n (le_trans under (twice (top f)))
    where
      twice : (t : ℕ) → t ≤ 2 * t
      twice t = omega arith

  -- by a whole float, which meets no subnormal number before the result
  as-whole : (k : ℤ) → mul f (of_int f (pos m)) (power k) ≡ round f false (m * up k) (down k)
  as-whole k = mul_val f (of_int f (pos m)) false m 1 k (lit≤ tt) whole-value ∙ ap (round f false (m * up k)) (one-mul (down k))

  pub whole-number : (k : ℤ) → T (not (is_nan (mul f (of_int f (pos m)) (power k))))
  whole-number k = subst (λ (b : Bool). T (not b)) (sym (ap is_nan (as-whole k) ∙ round_number f false (m * up k) (down k))) tt

  pub by_whole : (k : ℤ) → to_bits f (mul f (of_int f (pos m)) (power (k -ℤ pos (low f)))) ≡ scaled (ours f) m k
  by_whole k =
      let j = k -ℤ pos (low f) in
      let l = 2 ^ low f in
      ap (to_bits f)
      (as-whole j
      ∙ round_same f false (m * up j) (down j) (m * up k) (l * down k) (down_pos j) (mul-pos (pow_pos (low f)) (down_pos k)) (turn (up j) (l * down k) (up k) (down j) (lowered_by f k))
      ∙ sym (mul_val f (of_bits f m) false m l k (pow_pos (low f)) word_value))
      ∙ by_word k
    where
      turn : (a b c d : ℕ) → a * b ≡ c * d → m * a * b ≡ m * c * d
      turn a b c d e = omega (arith, ap (λ (z : ℕ). m * z) e)

  -- beside as many units as the least normal number has
  low-down : (k : ℤ) → negsuc (emax f - 2) ≤ℤ k → down k ≤ 2 ^ low f
  low-down (pos a) h = pow_pos (low f)
  low-down (negsuc a) h = pow_mono {i = suc a} {j = low f} (room f a (leb→le a (emax f - 2) h.le))
    where
      room : (f : Format) (a : ℕ) → a ≤ emax f - 2 → suc a ≤ low f
      room binary32 a l = omega arith
      room binary64 a l = omega arith

  module _ (k : ℤ) (K : negsuc (emax f - 2) ≤ℤ k) (L : lt (mul f (of_int f (pos m)) (power k)) (power (pos (prec f - 1))) ≡ true) where
    abbrev y : Float
    y = mul f (of_int f (pos m)) (power k)

    finite-sum : m * up k * 2 ^ low f < overflow f * down k
    unfolding lt
    finite-sum = go (ltb (m * up k * 2 ^ low f) (overflow f * down k)) (ltb→lt (m * up k * 2 ^ low f) (overflow f * down k)) (nltb→le (m * up k * 2 ^ low f) (overflow f * down k))
      where
        go : (t : Bool) → (T t → m * up k * 2 ^ low f < overflow f * down k) → (T (not t) → overflow f * down k ≤ m * up k * 2 ^ low f) → m * up k * 2 ^ low f < overflow f * down k
        go true l g = l tt
        go false l g = absurd (subst T (sym L ∙ ap (λ (v : Float). lt v (power (pos (prec f - 1)))) (as-whole k ∙ round-inf f false (m * up k) (down k) (down_pos k) (g tt))) tt)

    exact : HasValue y false (m * up k) (down k)
    exact =
        let j = place (low f) m k (low-down k K) in
        subst (λ (v : Float). HasValue v false (m * up k) (down k)) (sym (as-whole k))
        (round_exact f false (m * up k) (down k) m j.0 (down_pos k) M (lt_of_mul-lt-mul_right (down k) (subst (λ (z : ℕ). z < overflow f * down k) j.1 finite-sum)) j.1)

    sum_is : add f y (power (pos (prec f - 1))) ≡ round f false (hid f * down k + m * up k) (down k)
    sum_is = add-power f y (m * up k) (down k) (prec f - 1) (down_pos k) exact

    pub sum_number : T (not (is_nan (add f y (power (pos (prec f - 1))))))
    sum_number = subst (λ (b : Bool). T (not b)) (sym (ap is_nan sum_is ∙ round_number f false (hid f * down k + m * up k) (down k))) tt

    pub by-sum : to_bits f (add f y (power (pos (prec f - 1)))) ≡ (low f + 1) * hid f + scaled (ours f) m k
    by-sum =
        ap (to_bits f) sum_is
        ∙ to_bits-round f false (hid f * down k + m * up k) (down k) (down_pos k)
        ∙ zero-add (rounded (ours f) ((hid f * down k + m * up k) * 2 ^ low f) (down k))
        ∙ rounded-beside f (m * up k) (down k) (down_pos k) (below_power y (m * up k) (down k) (prec f - 1) (down_pos k) exact L)
        ∙ ap (λ (z : ℕ). (low f + 1) * hid f + z) (sym (scaled-word k))

  -- far up an infinity or zero, and far down zero
  far-down : (a : ℕ) → prec f ≤ a → mul f (of_bits f m) (power (negsuc a)) ≡ fin false 0 (pos 0)
  far-down a h =
      let l = 2 ^ low f in
      mul_val f (of_bits f m) false m l (negsuc a) (pow_pos (low f)) word_value
      ∙ round-zero f false (m * 1) (l * 2 ^ suc a) (mul-pos (pow_pos (low f)) (pow_pos (suc a)))
      (le_trans (le_of_eq (turn m l)) (mul-le-mul_left l (le_trans (mul-le-mul_right 2 (le_trans (le_of_lt M) (pow_mono {i = prec f} {j = a} h))) (le_of_eq (sym (pow-suc 2 a))))))
    where
      turn : (m l : ℕ) → m * 1 * l * 2 ≡ l * (m * 2)
      turn m l = omega arith

  pub held-far : (n : ℤ) → scaled (ours f) m (tiny_exponent f n) ≡ scaled (ours f) m n
  held-far n = sym (by_word (tiny_exponent f n)) ∙ ap (to_bits f) (go n) ∙ by_word n
    where
      room : (f : Format) → prec f ≤ emax f - 2
      room binary32 = lit≤ tt
      room binary64 = lit≤ tt

      up-side : (K a : ℕ) → low f + suc (emax f) ≤ K → (t : Bool) → (T t → K < a) → mul f (of_bits f m) (power (cond t (pos K) (pos a))) ≡ mul f (of_bits f m) (power (pos a))
      up-side K a R true l = clamp-up f (of_bits f m) K a (of_bits-fits f m) R (le_trans R (le_of_lt (l tt)))
      up-side K a R false l = refl

      down-side : (c a : ℕ) → prec f ≤ c → (t : Bool) → (T t → c < a) → mul f (of_bits f m) (power (cond t (negsuc c) (negsuc a))) ≡ mul f (of_bits f m) (power (negsuc a))
      down-side c a R true l = far-down c R ∙ sym (far-down a (le_trans R (le_of_lt (l tt))))
      down-side c a R false l = refl

      go : (n : ℤ) → mul f (of_bits f m) (power (tiny_exponent f n)) ≡ mul f (of_bits f m) (power n)
      go (pos a) = up-side (low f + suc (emax f)) a (le_refl (low f + suc (emax f))) (ltb (low f + suc (emax f)) a) (ltb→lt (low f + suc (emax f)) a)
      go (negsuc a) = down-side (emax f - 2) a (room f) (ltb (emax f - 2) a) (ltb→lt (emax f - 2) a)

-- ---- a normal size's word is 2 ^ y times one of prec digits, whose field is 1
module _ (f : Format) (w y : ℕ) (W : w < infinity (ours f)) (e : w / hid f ≡ suc y) where
  pub digits : hid f + w % hid f < 2 ^ prec f
  digits = subst (λ (z : ℕ). hid f + w % hid f < z) (sym (twice_hid (prec f) (lt_trans (lit≤ tt) (two f)))) (full (hid f) (w % hid f) (mod-lt w (pow_pos (prec f - 1))))
    where
      full : (h t : ℕ) → t < h → h + t < 2 * h
      full h t l = omega arith

  pub by_digits : (n : ℤ) → scaled (ours f) (hid f + w % hid f) (n +ℤ pos y) ≡ scaled (ours f) w n
  by_digits n =
      let m = hid f + w % hid f in
      let k = n +ℤ pos y in
      scaled-word f m digits k
      ∙ rounded-same (ours f) (m * up k) (down k) (m * 2 ^ y * up n) (down n) (down_pos k) (down_pos n) (turn (up k) (down n) (2 ^ y) (up n) (down k) (raised n y))
      ∙ ap (λ (a : ℕ). rounded (ours f) (a * up n) (down n)) (units-normal (ours f) w y e)
      ∙ sym (scaled-size (ours f) w n W)
    where
      turn : (a b c d g : ℕ) → d * (c * g) ≡ a * b → (hid f + w % hid f) * a * b ≡ (hid f + w % hid f) * c * d * g
      turn a b c d g e = omega (arith, ap (λ (z : ℕ). (hid f + w % hid f) * z) e)
