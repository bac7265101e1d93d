-- The whole number nearest to z, from the high word of z: it has z's sign and is at most a half away.
-- The chain adds a half to the high word and cuts it below its unit's digit; where the sum carries into the next field, the number is a power of two.
use mathlib.Core.Path.{◌≡◌, refl, sym, ap, ◌∙◌, subst}
use Prim.Native.Nat.{ℕ, zero, suc, ◌+◌, ◌-◌, ◌*◌, ◌/◌, ◌%◌, ◌^◌, ◌≤◌, ◌<◌}
use native.Mathlib.Nat.{le_of_eq, lt_of_le_of_lt, lt_of_lt_of_le, mul_comm, mul_assoc, mul-le-mul_right, mul-pos, zero-lt-suc, div-add-mod', mod-lt}
use native.Mathlib.Nat.{mul-div_cancel, pow-succ', sub-zero, add-sub_of_le, le-suc}
use native.Mathlib.Omega.{arith}
use lib.Dec.{ltb, ltb→lt, nltb→le}
use lib.Pow.{pow_pos, pow-add}
use lib.Ieee.{Float, Format, emax, hid, ones, top, to_bits}
use lib.Ieee.Bits.{of_bits-to_bits}
use Rattle.words.specs.Format.{units_at}
use Rattle.power.specs.Width.{Width, Nearest}
use Rattle.power.specs.Chain.{nearest_of}
use Rattle.bounds.proofs.Signed.{sign, mag, Num}
use Rattle.bounds.proofs.Within.{U}
use Rattle.bounds.proofs.Words.{Placed, placed, quo, rem, same_sign}
use Rattle.bounds.proofs.Choice.{choose}
use Rattle.chain.proofs.Known.{Known}
use Rattle.chain.proofs.Sizes.{no-times, emax-least}
use Rattle.chain.proofs.HighWord.{in-places, cut_of, nearest-cut, cut-is, hid-is, whole_word, in-hid, field-size, unit-digit}

-- n is a whole number of z's sign, and at most a half away from z
pub record Rounded (f : Format) (z : Float) (n : Nearest) : Type 0 where
  pub num : Num f n.float
  pub sgn : sign n.float ≡ sign z
  pub siz : mag f n.float ≡ n.size * U f
  pub lo : 2 * mag f z ≤ 2 * (n.size * U f) + U f
  pub hi : 2 * (n.size * U f) ≤ 2 * mag f z + U f

-- a field of emax - 1 + k, counted from emax, and where it stands in the cut
past-emax : (F m k : ℕ) → 2 ≤ m → F ≡ m - 1 + k → suc F - m ≡ k
past-emax F m k a b = omega arith

to-emax : (F m k : ℕ) → 2 ≤ m → F ≡ m - 1 + suc k → F - m ≡ k
to-emax F m k a b = omega arith

-- the half-unit bounds, with the common factor X taken out: z is M * X, a unit is G * X
scaled-up : (m M N G X u : ℕ) → m ≡ M * X → u ≡ G * X → 2 * M ≤ 2 * (N * G) + G → 2 * m ≤ 2 * (N * u) + u
scaled-up m M N G X u a b c = omega (arith, a, b, mul-le-mul_right X c, ap (λ (y : ℕ). N * y) b)

scaled-down : (m M N G X u : ℕ) → m ≡ M * X → u ≡ G * X → 2 * (N * G) ≤ 2 * M + G → 2 * (N * u) ≤ 2 * m + u
scaled-down m M N G X u a b c = omega (arith, a, b, mul-le-mul_right X c, ap (λ (y : ℕ). N * y) b)

module _ (w : Width) (K : Known w) where
  abbrev f : Format
  f = w.format

  abbrev B : ℕ
  B = 2 ^ w.below

  abbrev o : ℕ
  o = suc (ones w.format)

  abbrev g : ℕ
  g = 2 ^ K.high

  -- z is at a field of emax - 1 + k, and below 2 ^ high
  module _ (z : Float) (h : Num f z) (F k r lo q : ℕ) (kl : k ≤ K.high) (Fe : F ≡ emax f - 1 + k) (rl : r < g) (ll : lo < B)
      (xe : to_bits f z ≡ (q * (g * o) + (F * g + r)) * B + lo) where
    -- the high word, the digit of a half, and the word with the half added
    abbrev j : ℕ
    j = q * (g * o) + (F * g + r)

    abbrev A : ℕ
    A = 2 ^ (K.high - k)

    abbrev n : ℕ
    n = q * (g * o) + (F * g + (r + A))

    abbrev X : ℕ
    X = 2 ^ (emax f - 2) * 2 ^ k

    abbrev D : ℕ
    D = r * B + lo

    g_a : g ≡ 2 ^ k * A
    g_a = ap (λ (n : ℕ). 2 ^ n) (sym (add-sub_of_le kl)) ∙ pow-add 2 k (K.high - k)

    Fo : suc F < ones f
    Fo = fin (emax f) F k K.high K.high-most kl Fe
      where
        fin : (m F k l : ℕ) → 2 + l ≤ m → k ≤ l → F ≡ m - 1 + k → suc F < 2 * m + 1
        fin m F k l b c d = omega arith

    Fl : F < ones f
    Fl = lt_of_le_of_lt (le-suc F) Fo

    n-is : j + g / 2 ^ (j % (g * o) / g - (emax f - 1)) ≡ n
    n-is =
        let big : F * g + r < g * o = lt_of_lt_of_le (in-places F o g r rl (lt_of_lt_of_le Fl (le-suc (ones f)))) (le_of_eq (mul_comm o g)) in
        let e : j % (g * o) / g ≡ F = ap (λ (y : ℕ). y / g) (rem q (g * o) (F * g + r) big) ∙ quo F g r rl in
        ap (λ (y : ℕ). j + g / 2 ^ (y - (emax f - 1))) e ∙ ap (λ (y : ℕ). j + g / 2 ^ y) (less F (emax f) k Fe)
        ∙ ap (λ (y : ℕ). j + y / 2 ^ k) (g_a ∙ mul_comm (2 ^ k) A) ∙ ap (λ (y : ℕ). j + y) (mul-div_cancel A (pow_pos k)) ∙ re (q * (g * o)) (F * g) r A
      where
        less : (F m k : ℕ) → F ≡ m - 1 + k → F - (m - 1) ≡ k
        less F m k e = omega arith

        re : (a b r A : ℕ) → a + (b + r) + A ≡ a + (b + (r + A))
        re a b r A = omega arith

    -- z itself, measured
    z-placed : Placed f q F D z
    z-placed = subst (λ (v : Float). Placed f q F D v) (of_bits-to_bits f z h.fits)
        (placed f (to_bits f z) q F D (xe ∙ whole_word w K q F r lo) (in-hid w K r lo rl ll) Fl)

    z-size : mag f z ≡ (hid f + D) * X
    z-size = z-placed.mag ∙ field-size w K k D F Fe

    -- a cut below the digit a that leaves the field Y and c digits: the size is p + c, and with that half a unit is not exceeded
    settle : (Y s d c e a p : ℕ) → n ≡ q * (g * o) + (Y * g + s) → s < g → Y < ones f → K.high - (Y - emax f) ≡ d → 2 ^ d ≡ a
        → g ≡ p * a → s ≡ c * a + e → e < a
        → units_at (hid f) Y (c * a * B + 0) ≡ (p + c) * (2 * A * B) * X
        → 2 * (hid f + D) ≤ 2 * ((p + c) * (2 * A * B)) + 2 * A * B → 2 * ((p + c) * (2 * A * B)) ≤ 2 * (hid f + D) + 2 * A * B
        → Rounded f z (cut_of w K g (g * o) K.high n)
    settle Y s d c e a p ns sg Yo de ae ga se el m up dn =
        let t : ℕ = c * a * B + 0 in
        let u = cut-is w K n q Y s d c e a p ns sg (lt_of_lt_of_le Yo (le-suc (ones f))) de ae ga se el in
        let u-is = unit-digit w K A (2 ^ k) g_a in
        let tl : t < hid f = in-hid w K (c * a) 0 (lt_of_le_of_lt (under c a e s se) sg) (pow_pos w.below) in
        let word = (q * (g * o) + (Y * g + c * a)) * B in
        let pl = subst (λ (v : Float). Placed f q Y t v) (sym u.1) (placed f word q Y t (zero_right word ∙ whole_word w K q Y (c * a) 0) tl Yo) in
        let M : ℕ = hid f + D in
        let G : ℕ = 2 * A * B in
        record {
          num = pl.num;
          sgn = pl.sgn ∙ same_sign q (top f) (F * hid f + D) (Y * hid f + t) (in_top F D Fl (in-hid w K r lo rl ll)) (in_top Y t Yo tl) ∙ sym z-placed.sgn;
          siz = pl.mag ∙ m ∙ mul_assoc (p + c) G X ∙ ap (λ (y : ℕ). (p + c) * y) (sym u-is) ∙ ap (λ (y : ℕ). y * U f) (sym u.0);
          lo = subst (λ (y : ℕ). 2 * mag f z ≤ 2 * (y * U f) + U f) (sym u.0) (scaled-up (mag f z) M (p + c) G X (U f) z-size u-is up);
          hi = subst (λ (y : ℕ). 2 * (y * U f) ≤ 2 * mag f z + U f) (sym u.0) (scaled-down (mag f z) M (p + c) G X (U f) z-size u-is dn);
        }
      where
        under : (c a e s : ℕ) → s ≡ c * a + e → c * a ≤ s
        under c a e s h = omega arith

        zero_right : (a : ℕ) → a ≡ a + 0
        zero_right a = omega arith

        in_top : (Y t : ℕ) → Y < ones f → t < hid f → Y * hid f + t < top f
        in_top Y t a b = fin Y (ones f) (hid f) t a b
          where
            fin : (Y o h t : ℕ) → Y < o → t < h → Y * h + t < h * suc o
            fin Y o h t a b = omega (arith, b, mul-le-mul_right h a)

    -- the sum carries: the field is one more, and no digit is left
    carry : g ≤ r + A → Rounded f z (cut_of w K g (g * o) K.high n)
    carry p =
        let s : ℕ = r + A - g in
        let sA : s < A = less r A g p rl in
        settle (suc F) s (K.high - k) 0 s A (2 ^ k) (carried (q * (g * o)) F g r A p) (lt_of_lt_of_le sA (most (2 ^ k) A g g_a (pow_pos k))) Fo
        (ap (λ (y : ℕ). K.high - y) (past-emax F (emax f) k (emax-least f) Fe)) refl g_a (no-times s A) sA
        (field-size w K (k + 1) (0 * A * B + 0) (suc F) (next F (emax f) k Fe)
        ∙ size (hid f) g B A (2 ^ k) (2 ^ (emax f - 2)) (2 ^ (k + 1)) (hid-is w K) g_a (pow-add 2 k 1))
        (up (hid f) g B A (2 ^ k) D (hid-is w K) g_a (in-hid w K r lo rl ll)) (dn (hid f) g B A (2 ^ k) r lo (hid-is w K) g_a p)
      where
        less : (r A g : ℕ) → g ≤ r + A → r < g → r + A - g < A
        less r A g h k = omega arith

        carried : (a F g r A : ℕ) → g ≤ r + A → a + (F * g + (r + A)) ≡ a + (suc F * g + (r + A - g))
        carried a F g r A h = omega arith

        most : (K A g : ℕ) → g ≡ K * A → 0 < K → A ≤ g
        most K A g e h = omega (arith, e, mul-le-mul_right A h)

        next : (F m k : ℕ) → F ≡ m - 1 + k → suc F ≡ m - 1 + (k + 1)
        next F m k e = omega arith

        size : (h g b A K Q K2 : ℕ) → g * b ≡ h → g ≡ K * A → K2 ≡ K * 2 → (h + (0 * A * b + 0)) * (Q * K2) ≡ (K + 0) * (2 * A * b) * (Q * K)
        size h g b A K Q K2 c d e =
            ap (λ (y : ℕ). (h + (0 * A * b + 0)) * (Q * y)) e ∙ ap (λ (y : ℕ). (y + (0 * A * b + 0)) * (Q * (K * 2))) (sym c ∙ ap (λ (y : ℕ). y * b) d)
            ∙ re A b K Q
          where
            re : (A b K Q : ℕ) → (K * A * b + (0 * A * b + 0)) * (Q * (K * 2)) ≡ (K + 0) * (2 * A * b) * (Q * K)
            re A b K Q = omega arith

        up : (h g b A K D : ℕ) → g * b ≡ h → g ≡ K * A → D < h → 2 * (h + D) ≤ 2 * ((K + 0) * (2 * A * b)) + 2 * A * b
        up h g b A K D c d e = omega (arith, c, e, ap (λ (y : ℕ). y * b) d)

        dn : (h g b A K r lo : ℕ) → g * b ≡ h → g ≡ K * A → g ≤ r + A → 2 * ((K + 0) * (2 * A * b)) ≤ 2 * (h + (r * b + lo)) + 2 * A * b
        dn h g b A K r lo c d e = omega (arith, c, mul-le-mul_right b e, ap (λ (y : ℕ). y * b) d)

    -- the sum stays in its field: k is not 0, and the unit's digit is 2 * A
    still : (k' : ℕ) → k ≡ suc k' → r + A < g → Rounded f z (cut_of w K g (g * o) K.high n)
    still k' ke p =
        let c : ℕ = (r + A) / (2 * A) in
        let e : ℕ = (r + A) % (2 * A) in
        let s-is : r + A ≡ c * (2 * A) + e = sym (div-add-mod' (r + A) (2 * A)) in
        let eA : e < 2 * A = mod-lt (r + A) (mul-pos (zero-lt-suc 1) (pow_pos (K.high - k))) in
        let gK : g ≡ 2 ^ k' * (2 * A) = g_a ∙ half (2 ^ k) (2 ^ k') A (ap (λ (y : ℕ). 2 ^ y) ke ∙ pow-succ' 2 k') in
        settle F (r + A) (K.high - k') c e (2 * A) (2 ^ k') refl p Fl
        (ap (λ (y : ℕ). K.high - y) (to-emax F (emax f) k' (emax-least f) (Fe ∙ ap (λ (y : ℕ). emax f - 1 + y) ke)))
        (ap (λ (y : ℕ). 2 ^ y) (next K.high k k' kl ke) ∙ pow-succ' 2 (K.high - k)) gK s-is eA
        (field-size w K k (c * (2 * A) * B + 0) F Fe ∙ ap (λ (y : ℕ). y * X) (size (hid f) g B A (2 ^ k') c (hid-is w K) gK))
        (up (hid f) g B A (2 ^ k') c e r lo (hid-is w K) gK s-is eA ll) (dn (hid f) g B A (2 ^ k') c e r lo (hid-is w K) gK s-is)
      where
        half : (K k A : ℕ) → K ≡ 2 * k → K * A ≡ k * (2 * A)
        half K k A e = ap (λ (y : ℕ). y * A) e ∙ re k A
          where
            re : (k A : ℕ) → 2 * k * A ≡ k * (2 * A)
            re k A = omega arith

        next : (L k k' : ℕ) → k ≤ L → k ≡ suc k' → L - k' ≡ suc (L - k)
        next L k k' h e = omega arith

        size : (h g b A K c : ℕ) → g * b ≡ h → g ≡ K * (2 * A) → h + (c * (2 * A) * b + 0) ≡ (K + c) * (2 * A * b)
        size h g b A K c d e = omega (arith, d, ap (λ (y : ℕ). y * b) e)

        up : (h g b A K c e r lo : ℕ) → g * b ≡ h → g ≡ K * (2 * A) → r + A ≡ c * (2 * A) + e → e < 2 * A → lo < b
            → 2 * (h + (r * b + lo)) ≤ 2 * ((K + c) * (2 * A * b)) + 2 * A * b
        up h g b A K c e r lo d i s l m = omega (arith, d, m, ap (λ (y : ℕ). y * b) i, ap (λ (y : ℕ). y * b) s, mul-le-mul_right b l)

        dn : (h g b A K c e r lo : ℕ) → g * b ≡ h → g ≡ K * (2 * A) → r + A ≡ c * (2 * A) + e → 2 * ((K + c) * (2 * A * b)) ≤ 2 * (h + (r * b + lo)) + 2 * A * b
        dn h g b A K c e r lo d i s = omega (arith, d, ap (λ (y : ℕ). y * b) i, ap (λ (y : ℕ). y * b) s)

    pub nearest-whole : Rounded f z (nearest_of w j)
    nearest-whole =
        subst (λ (n : Nearest). Rounded f z n) (sym (nearest-cut w K j ∙ ap (λ (n : ℕ). cut_of w K g (g * o) K.high n) n-is))
        (choose (ltb (r + A) g) (λ c. by k refl (ltb→lt (r + A) g c)) (λ c. carry (nltb→le (r + A) g c)))
      where
        no : (r g A : ℕ) → A ≡ g → r + A < g → ⊥
        no r g A e h = omega arith

        by : (k' : ℕ) → k ≡ k' → r + A < g → Rounded f z (cut_of w K g (g * o) K.high n)
        by zero e p = absurd (no r g A (ap (λ (y : ℕ). 2 ^ (K.high - y)) e ∙ ap (λ (y : ℕ). 2 ^ y) (sub-zero K.high)) p)
        by (suc k') e p = still k' e p
