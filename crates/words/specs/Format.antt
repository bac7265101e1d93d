-- IEEE 754's binary interchange formats, over the two numbers that fix one, and what a word of each stands for. Definitions only.
-- A finite number is a whole count of the format's least positive number, its unit: 2 ^ -low.
use Rattle.std.specs.Prelude.{ℕ, zero, suc, ◌+◌, ◌-◌, ◌*◌, ◌/◌, ◌%◌, ◌^◌, Bool, cond, leb, ltb}
use Rattle.std.specs.Float.Ieee as Ieee

-- `digits` is how many binary digits a significand has, the leading one counted; the largest numbers lie below 2 ^ (emax + 1)
pub record Format : Type 0 where
  pub digits : ℕ
  pub emax : ℕ

abbrev pub format : ℕ → ℕ → Format
format p e = record { digits = p; emax = e }

abbrev pub binary16 : Format
binary16 = format 11 15

abbrev pub binary32 : Format
binary32 = format 24 127

abbrev pub binary64 : Format
binary64 = format 53 1023

-- a unit is 2 ^ -low
abbrev pub low : Format → ℕ
low f = f.emax + f.digits - 2

-- the weight of the exponent's field in a word; the largest field, which marks infinities and NaNs; the weight of the sign; infinity's word
abbrev pub hid : Format → ℕ
hid f = 2 ^ (f.digits - 1)

abbrev pub ones : Format → ℕ
ones f = 2 * f.emax + 1

abbrev pub top : Format → ℕ
top f = hid f * suc (ones f)

abbrev pub infinity : Format → ℕ
infinity f = ones f * hid f

-- the one NaN that the port returns
abbrev pub quiet : Format → ℕ
quiet f = infinity f + hid f / 2

-- 1's word
abbrev pub one : Format → ℕ
one f = f.emax * hid f

-- a word without its sign, and whether its sign is set; whether it is a NaN's; the word of a sign and a size's word
abbrev pub magnitude : Format → ℕ → ℕ
magnitude f w = w % top f

abbrev pub negative : Format → ℕ → Bool
negative f w = leb (top f) w

abbrev pub is_nan_word : Format → ℕ → Bool
is_nan_word f w = ltb (infinity f) (magnitude f w)

abbrev pub signed : Format → Bool → ℕ → ℕ
signed f s m = cond s (top f) 0 + m

-- the units of a finite size's word: of a field of 0 the digits below the leading one, of a field x + 1 the digits with it, times 2 ^ x
abbrev pub units_at : ℕ → ℕ → ℕ → ℕ
units_at h zero t = t
units_at h (suc x) t = (h + t) * 2 ^ x

unfoldable pub units : Format → ℕ → ℕ
units f w = units_at (hid f) (w / hid f) (w % hid f)

-- the kit's formats, which its float operations take, are among these
abbrev pub ours : Ieee.Format → Format
ours f = format (Ieee.prec f) (Ieee.emax f)
