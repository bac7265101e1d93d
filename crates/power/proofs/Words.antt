-- Masks and shifts of words, as the code writes them, in plain arithmetic. Assumes nothing.
use Prim.Native.Nat.{ℕ, ◌+◌, ◌-◌, ◌*◌, ◌/◌, ◌%◌, ◌^◌, ◌<◌, ◌≤◌}
use mathlib.Core.Path.{◌≡◌, refl, sym, ap, ◌∙◌, subst}
use mathlib.Core.Bool.{Bool, true, false, true≢false, ◌&&◌}
use lib.Bits.{bit_and, bit_or, and_mask, and_high, or_shifted_r}
use native.Mathlib.Nat.{mul-mod_left, mod-lt, lt_of_lt_of_le, lt_of_le_of_lt, div-mul-le_self, add_comm, one-mul, mod-eq_of_lt}
use native.Mathlib.Omega.{arith}
use lib.Pow.{mod-pow-add, shl-shr, shr_mod, shr_lt, pow_pos, pow_mono, pow-lt, pow-add, ones_split, ones_lt, high}
use Rattle.words.specs.Rounding.{Held}

-- the size of a word: of an f32, and of an f64
pub size32 : (x : ℕ) → bit_and x 0x7fffffff ≡ x % 2 ^ 31
size32 x = and_mask x 31

pub size64 : (x : ℕ) → bit_and x 0x7fffffffffffffff ≡ x % 2 ^ 63
size64 x = and_mask x 63

-- two tests that are one
pub both : (a b : Bool) → (a && b) ≡ true → (a ≡ true) × (b ≡ true)
both true b e = (refl, e)
both false b e = absurd (true≢false (sym e))

-- the mask of the j highest of j + k digits
pub cut : (j k n : ℕ) → n < 2 ^ (j + k) → bit_and n (2 ^ (j + k) - 2 ^ k) ≡ n / 2 ^ k * 2 ^ k
cut j k n h = and_high n j k ∙ ap (λ (q : ℕ). q * 2 ^ k) (shr_mod j k h)

-- the k lowest digits, with a in front of them
pub joined : (a k n : ℕ) → bit_or (bit_and n (2 ^ k - 1)) (a * 2 ^ k) ≡ a * 2 ^ k + n % 2 ^ k
joined a k n = rw (and_mask n k) (or_shifted_r a k (n % 2 ^ k) (mod-lt n (pow_pos k)))

-- the k lowest digits, with a leading one
pub led : (k n : ℕ) → bit_or (bit_and n (2 ^ k - 1)) (2 ^ k) ≡ 2 ^ k + n % 2 ^ k
led k n = ap (bit_or (bit_and n (2 ^ k - 1))) (sym (one-mul (2 ^ k))) ∙ joined 1 k n ∙ ap (λ (m : ℕ). m + n % 2 ^ k) (one-mul (2 ^ k))

-- a number below 2 ^ n by the mask of the j highest of j + k digits, with 2 ^ n in front
pub headed : (j k n m : ℕ) → n ≤ j + k → m < 2 ^ n → bit_or (bit_and m (2 ^ (j + k) - 2 ^ k)) (2 ^ n) ≡ m / 2 ^ k * 2 ^ k + 2 ^ n
headed j k n m l h =
    let b = m / 2 ^ k * 2 ^ k in
    rw (cut j k m (lt_of_lt_of_le h (pow_mono l)))
    (ap (bit_or b) (sym (one-mul (2 ^ n))) ∙ or_shifted_r 1 n b (lt_of_le_of_lt (div-mul-le_self m (2 ^ k)) h) ∙ ap (λ (a : ℕ). a + b) (one-mul (2 ^ n)) ∙ add_comm (2 ^ n) b)

-- the p lowest digits' mask, moved down by k and turned over: the mask of all but p - k digits of a word of w
pub unmask : (p k w n : ℕ) → k ≤ p → p ≤ w → n < 2 ^ w → bit_and n ((2 ^ w - 1) - (2 ^ p - 1) / 2 ^ k) ≡ n / 2 ^ (p - k) * 2 ^ (p - k)
unmask p k w n hk hw hn =
    let d : ℕ = p - k in
    let low : p ≡ d + k = omega arith in
    let all : w ≡ w - d + d = omega arith in
    let ones : (2 ^ p - 1) / 2 ^ k ≡ 2 ^ d - 1 =
    ap (λ (q : ℕ). (2 ^ q - 1) / 2 ^ k) low ∙ ap (λ (x : ℕ). x / 2 ^ k) (ones_split d k) ∙ high (2 ^ d - 1) k (ones_lt k) in
    let mask : (2 ^ w - 1) - (2 ^ p - 1) / 2 ^ k ≡ 2 ^ (w - d + d) - 2 ^ d = omega (arith, ones, pow_pos d, ap (λ (q : ℕ). 2 ^ q) all) in
    ap (bit_and n) mask ∙ cut (w - d) d n (subst (λ (q : ℕ). n < 2 ^ q) all hn)

-- a number of p + 1 digits, of which k + 1 stay, k at most m
pub kept-lt : (p m k d : ℕ) → m ≤ p → k ≤ m → d < 2 ^ (p + 1) → d / 2 ^ (p - k) < 2 ^ (m + 1)
kept-lt p m k d hm hk hd =
    lt_of_lt_of_le (shr_lt (k + 1) (p - k) (subst (λ (n : ℕ). d < 2 ^ n) (omega arith) hd)) (pow_mono {i = k + 1} {j = m + 1} (omega arith))

-- digits that are cut off, and digits that are put behind, of the lowest j + d
pub chopped : (j d n : ℕ) → (n / 2 ^ d * 2 ^ d) % 2 ^ (j + d) ≤ n % 2 ^ (j + d)
chopped j d n =
    let a = mod-pow-add (n / 2 ^ d * 2 ^ d) j d in
    let b = mod-pow-add n j d in
    let c = ap (λ (q : ℕ). (q % 2 ^ j) * 2 ^ d) (shl-shr (n / 2 ^ d) d) in
    let e = mul-mod_left (n / 2 ^ d) (2 ^ d) in
    omega arith

pub shifted : (j d n : ℕ) → (n * 2 ^ d) % 2 ^ (j + d) ≡ n % 2 ^ j * 2 ^ d
shifted j d n =
    let a = mod-pow-add (n * 2 ^ d) j d in
    let c = ap (λ (q : ℕ). (q % 2 ^ j) * 2 ^ d) (shl-shr n d) in
    let e = mul-mod_left n (2 ^ d) in
    omega arith

-- ---- a number of p + 1 digits by its word x, without its s last digits, rounded to nearest, a tie to even: in words of b digits, no sum is too large
module _ (b p x s : ℕ) (S : 1 ≤ s) (B : s < b) (P : p + 2 ≤ b) where
  -- half of what is lost, the digits, and whether what stays of them is odd, as the code finds them and in plain arithmetic
  abbrev half : ℕ
  half = 1 * 2 ^ (s - 1) % 2 ^ b

  abbrev m : ℕ
  m = bit_or (bit_and x (2 ^ p - 1)) (2 ^ p)

  abbrev odd : ℕ
  odd = bit_and (m / 2 ^ s) 1

  half_is : half ≡ 2 ^ (s - 1)
  half_is = ap (λ (n : ℕ). n % 2 ^ b) (one-mul (2 ^ (s - 1))) ∙ mod-eq_of_lt (pow-lt {i = s - 1} {j = b} (omega arith))

  odd_is : odd ≡ (2 ^ p + x % 2 ^ p) / 2 ^ s % 2
  odd_is = and_mask (m / 2 ^ s) 1 ∙ ap (λ (n : ℕ). n / 2 ^ s % 2) (led p x)

  pub half-some : 1 ≤ half
  half-some = subst (λ (n : ℕ). 1 ≤ n) (sym half_is) (pow_pos (s - 1))

  sums : (half - 1 + odd < 2 ^ b) × (m + (half - 1 + odd) < 2 ^ b)
  sums =
      go half odd m (2 ^ (s - 1)) (2 ^ p) (x % 2 ^ p) (2 ^ (b - 2)) (2 ^ b) half_is (led p x) (subst (λ (n : ℕ). n < 2) (sym (and_mask (m / 2 ^ s) 1)) (mod-lt (m / 2 ^ s) (omega arith)))
      (mod-lt x (pow_pos p)) (pow_mono {i = s - 1} {j = b - 2} (omega arith)) (pow_mono {i = p} {j = b - 2} (omega arith)) (pow_pos (s - 1))
      (ap (λ (n : ℕ). 2 ^ n) (parts b p P) ∙ pow-add 2 (b - 2) 2)
    where
      parts : (b p : ℕ) → p + 2 ≤ b → b ≡ b - 2 + 2
      parts b p l = omega arith

      go : (a o n h d t q u : ℕ) → a ≡ h → n ≡ d + t → o < 2 → t < d → h ≤ q → d ≤ q → 0 < h → u ≡ q * 4 → (a - 1 + o < u) × (n + (a - 1 + o) < u)
      go a o n h d t q u e i l k y z c v = (omega arith, omega arith)

  pub bias-small : half - 1 + odd < 2 ^ b
  bias-small = sums.0

  pub sum-small : m + (half - 1 + odd) < 2 ^ b
  sum-small = sums.1

  pub half-even-is : (m + (half - 1 + odd)) / 2 ^ s ≡ (2 ^ p + x % 2 ^ p + (2 ^ (s - 1) - 1 + (2 ^ p + x % 2 ^ p) / 2 ^ s % 2)) / 2 ^ s
  half-even-is = λ i. (led p x i + (half_is i - 1 + odd_is i)) / 2 ^ s

-- ---- a format that 64 bits hold

pub held32 : Held 24 127
held32 = record { least = omega arith; small = omega arith; room = omega arith; high = omega arith }

pub held64 : Held 53 1023
held64 = record { least = omega arith; small = omega arith; room = omega arith; high = omega arith }
