-- n = [z + 0.5] of a z with |z| > 0.5, as the code makes it of z's high word j: a half is added, and the digits below the point are dropped. Over every width. Assumes nothing.
-- m digits stand below the exponent's field, whose value is d for 0.5 and d + 1 for 1; a z is below 2 ^ (r + 1).
use Prim.Native.Nat.{ℕ, zero, suc, ◌+◌, ◌-◌, ◌*◌, ◌/◌, ◌%◌, ◌^◌, ◌<◌, ◌≤◌}
use mathlib.Core.Path.{◌≡◌, refl, sym, ap, subst, ◌∙◌}
use mathlib.Core.Bool.{not}
use native.Mathlib.Nat.{le_trans, le_of_lt, lt_of_le_of_lt, mul-le-mul_right, div-one, mod-lt, add-sub_cancel, le-div_iff_mul-le, div-lt_iff_lt-mul}
use native.Mathlib.Omega.{arith}
use lib.Bits.{bit_and, bit_or}
use lib.Dec.{T}
use lib.Pow.{shr_le, pow_pos, pow-add}
use lib.Ieee.{Float, top, nan_bits, of_bits}
use Rattle.words.specs.Format.{infinity, ours}
use Rattle.words.proofs.Floats.{word_number}
use Rattle.power.specs.Width.{Width}
use Rattle.power.specs.Chain.{nearest_of}
use Rattle.power.proofs.HighWord.{High}
use Rattle.power.proofs.Words.{size32, led, unmask, kept-lt, chopped, shifted}

-- the exponent's field, and j with the half added
abbrev field : ℕ → ℕ → ℕ
field m j = bit_and j 0x7fffffff / 2 ^ m

abbrev sum : ℕ → ℕ → ℕ → ℕ
sum m d j = j + 2 ^ m / 2 ^ (field m j - d)

-- what the code's shifts and differences need of both
pub record Known (m d r j : ℕ) : Type 0 where
  pub low : d ≤ field m j
  pub high : field m j < d + 2 + r
  pub fits : sum m d j < 2 ^ 32
  pub from : d + 1 ≤ field m (sum m d j)
  pub to : field m (sum m d j) < d + 3 + r

-- a half added takes a z of at least a half to 1
carry : (m d i k : ℕ) → k ≡ i / 2 ^ m - d → d * 2 ^ m ≤ i → (d + 1) * 2 ^ m ≤ i + 2 ^ m / 2 ^ k
carry m d i zero e h = rw (div-one (2 ^ m)) (omega arith)
carry m d i (suc k) e h = omega (arith, (le-div_iff_mul-le {x = d + 1} {y = i} (pow_pos m)).0 (omega arith))

pub known : (m d r j : ℕ) → (d + 3 + r) * 2 ^ m ≤ 2 ^ 31 → j < 2 ^ 32 → d * 2 ^ m ≤ j % 2 ^ 31 → j % 2 ^ 31 < (d + 2 + r) * 2 ^ m → Known m d r j
known m d r j room f l h =
    let i = bit_and j 0x7fffffff in
    let k = i / 2 ^ m - d in
    let t = 2 ^ m / 2 ^ k in
    let e = size32 j in
    let s = added j (2 ^ m) t d r (shr_le (2 ^ m) k) f h room in
    let n : bit_and (j + t) 0x7fffffff ≡ i + t = size32 (j + t) ∙ s.1.0 ∙ ap (λ (v : ℕ). v + t) (sym e) in
    record {
      low = (le-div_iff_mul-le {x = d} {y = i} (pow_pos m)).1 (omega arith);
      high = (div-lt_iff_lt-mul {x = i} {y = d + 2 + r} (pow_pos m)).1 (omega arith);
      fits = s.0;
      from = rw n ((le-div_iff_mul-le {x = d + 1} {y = i + t} (pow_pos m)).1 (carry m d i k refl (omega arith)));
      to = rw n ((div-lt_iff_lt-mul {x = i + t} {y = d + 3 + r} (pow_pos m)).1 (omega (arith, s.1.1)));
    }
  where
    added : (j h t d r : ℕ) → t ≤ h → j < 2 ^ 32 → j % 2 ^ 31 < (d + 2 + r) * h → (d + 3 + r) * h ≤ 2 ^ 31 → (j + t < 2 ^ 32) × (((j + t) % 2 ^ 31 ≡ j % 2 ^ 31 + t) × (j % 2 ^ 31 + t < (d + 3 + r) * h))
    added j h t d r s f l room = let u : j % 2 ^ 31 + t < 2 ^ 31 = omega arith in (omega arith, (omega arith, omega arith))

module _ (m d r j : ℕ) (a : Known m d r j) (h : r + 1 ≤ m) where
  -- how many digits of n stand below its leading one, and n
  abbrev past : ℕ
  past = field m (sum m d j) - (d + 1)

  abbrev size : ℕ
  size = bit_or (bit_and (sum m d j) (2 ^ m - 1)) (2 ^ m) / 2 ^ (m - past)

  -- n is small, and it and the float x of j with the half added and cut are what the definition has
  pub size_small : size < 2 ^ (r + 1 + 1)
  size_small =
      let n = sum m d j in
      rw (led m n) (kept-lt m (r + 1) past (2 ^ m + n % 2 ^ m) h (omega (arith, a)) (omega (arith, mod-lt n (pow_pos m), pow-add 2 m 1)))

  pub nearest-is : {w : Width} → High w m d → (x : Float) → x ≡ of_bits w.format (bit_and (sum m d j) ((2 ^ 32 - 1) - (2 ^ m - 1) / 2 ^ past) * 2 ^ w.below) → record { size = size; float = x } ≡ nearest_of w j
  unfolding nearest_of
  nearest-is g x e =
      let u = unmask m past 32 (sum m d j) (omega (arith, a)) g.small a.fits in
      rw (e, u, led m (sum m d j), g.sign, g.unit, g.digits, g.one, add-sub_cancel d 1) (simp size32)

  -- that float's word is no NaN's: its field is far below the largest
  pub nearest-number : {w : Width} → High w m d → m ≤ 31 → top w.format ≡ 2 ^ (31 + w.below) → (d + 3 + r) * 2 ^ m * 2 ^ w.below ≤ infinity (ours w.format)
      → T (not (nan_bits w.format (bit_and (sum m d j) ((2 ^ 32 - 1) - (2 ^ m - 1) / 2 ^ past) * 2 ^ w.below)))
  nearest-number {w} g l t i =
      let n = sum m d j in
      let k = m - past in
      let u = unmask m past 32 n (omega (arith, a)) g.small a.fits in
      let all : 31 - k + k ≡ 31 = omega arith in
      let low : n / 2 ^ k * 2 ^ k % 2 ^ 31 ≤ n % 2 ^ 31 = subst (λ (b : ℕ). n / 2 ^ k * 2 ^ k % 2 ^ b ≤ n % 2 ^ b) all (chopped (31 - k) k n) in
      let field : n % 2 ^ 31 < (d + 3 + r) * 2 ^ m = subst (λ (x : ℕ). x < (d + 3 + r) * 2 ^ m) (size32 n) ((div-lt_iff_lt-mul {x = bit_and n 0x7fffffff} {y = d + 3 + r} (pow_pos m)).0 a.to) in
      rw u (word_number w.format (n / 2 ^ k * 2 ^ k * 2 ^ w.below)
      (rw (t, shifted 31 w.below (n / 2 ^ k * 2 ^ k)) (le_trans (mul-le-mul_right (2 ^ w.below) (le_of_lt (lt_of_le_of_lt low field))) i)))
