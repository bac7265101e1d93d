-- All that the argument reads of a width's table and limits, in one record of facts about numerals. Each is found true by computation (Widths.antt).
use mathlib.Core.Path.{◌≡◌}
use mathlib.Core.Logic.{◌⊎◌}
use mathlib.Core.Bool.{false}
use Prim.Native.Nat.{ℕ, suc, ◌+◌, ◌-◌, ◌*◌, ◌/◌, ◌^◌, ◌≤◌, ◌<◌}
use lib.Dec.{T, leb}
use lib.Ieee.{Float, Format, prec, emax, hid, ones, top, of_bits}
use Rattle.power.specs.Width.{Width}
use Rattle.power.specs.Chain.{con}
use Rattle.power.specs.Places.{BP, DP-H, DP-L, TWO, HUGE, TINY, L1, L2, L3, L4, L5, L6, P1, P2, P3, P4, P5}
use Rattle.power.specs.Places.{LG2, LG2-H, LG2-L, OVT, CP, CP-H, CP-L, IVLN2, IVLN2-H, IVLN2-L, THIRD}
use Rattle.bounds.proofs.Formats.{one, infinity}
use Rattle.bounds.proofs.Signed.{sign, mag, minus, Num}
use Rattle.bounds.proofs.Within.{U, Within}
use Rattle.bounds.proofs.Exp.{Consts}
use Rattle.bounds.proofs.LimitArgument.{LimitConsts}
use Rattle.bounds.proofs.Log.{LogConsts}
use Rattle.bounds.proofs.Close.{CloseConsts}
use Rattle.chain.proofs.NoNan.{proper}

module _ (w : Width) where
  abbrev f : Format
  f = w.format

  abbrev at : ℕ → Float
  at x = of_bits w.format x

  pub record Known : Type 0 where
    -- ---- the high word: `high` digits stand below its exponent's field
    pub high : ℕ
    pub high_is : hid f / 2 ^ w.below ≡ 2 ^ high
    pub high-digits : prec f - 1 - w.below ≡ high
    pub high-most : 2 + high ≤ emax f
    pub hid-high : hid f / 2 ^ w.below * 2 ^ w.below ≡ hid f
    pub top-high : top f / 2 ^ w.below * 2 ^ w.below ≡ top f
    pub top-hid : top f / 2 ^ w.below ≡ hid f / 2 ^ w.below * suc (ones f)
    pub half_high : (one f - hid f) / 2 ^ w.below ≡ (emax f - 1) * 2 ^ high
    pub below-most : 2 ^ w.below * 2 ^ 11 ≤ hid f
    -- ---- the limits of z: emax + 1 is 2 ^ e, the word `large` is its word, and `small` is below 2 * (emax + 1)
    pub e : ℕ
    pub e-is : suc (emax f) ≡ 2 ^ e
    pub e-most : suc e ≤ high
    pub large_is : w.large ≡ (emax f + e) * hid f
    pub small-most : w.small < (emax f + suc e) * hid f
    -- ---- the limits of |y|: `huge` is below 2 ^ 65; |y| past `must` is larger than every odd number, and up to it |y| is below 2 ^ 128
    pub huge-most : suc w.huge * 2 ^ w.below ≤ (emax f + 65) * hid f
    pub must-least : (emax f + prec f) * hid f ≤ suc w.must * 2 ^ w.below
    pub must-most : (infinity f ≤ (emax f + 128) * hid f) ⊎ (suc w.must * 2 ^ w.below ≤ (emax f + 128) * hid f)
    -- ---- the limits of x: `less` and `more` are within 2 ^ -20 of 1, and the two cuts are about 1.2247 and 1.7320
    pub less-least : 2 ^ 20 * one f ≤ 2 ^ 20 * (w.less * 2 ^ w.below) + hid f
    pub more-most : 2 ^ 20 * (suc w.more * 2 ^ w.below) ≤ 2 ^ 20 * one f + hid f
    pub first-least : 2247 * hid f ≤ 10000 * w.first
    pub first-most : 10000 * w.first ≤ 2248 * hid f
    pub second-least : 7320 * hid f ≤ 10000 * w.second
    pub second-most : 10000 * w.second ≤ 7321 * hid f
    -- ---- a leading part keeps `lead` digits below its first one, in the exponential `lead-exp`
    pub lead : ℕ
    pub lead_is : w.short + lead ≡ prec f - 1
    pub lead-least : 11 ≤ lead
    pub lead-product : 16 * suc (emax f) ≤ 2 ^ lead
    pub lead-series : T (leb (3251000000 / 2 ^ lead) 1588000)
    pub lead-log : T (leb (3517000000 / 2 ^ lead) 1718000)
    pub lead-whole : T (leb (4 * suc (emax f) * (2 ^ 30 / 2 ^ lead + 10000)) 1000000000)
    pub lead-one : T (leb (4 * suc (emax f) * (3386122690 / 2 ^ lead + 36000)) 2700000000)
    pub lead_near : T (leb (4 * suc (emax f) * (1549120000 / 2 ^ lead + 8000)) 1500000000)
    pub lead-exp : ℕ
    pub lead-exp-is : w.shorter + lead-exp ≡ prec f - 1
    pub lead-exp-least : 8 ≤ lead-exp
    pub lead-exp-fine : T (leb (600000000 / 2 ^ lead-exp) 2400000)
    -- what is cut off the head of the quotient: 2 ^ short divides hid / 2, and is small against hid
    pub heads : ℕ
    pub heads-is : hid f / 2 ≡ heads * 2 ^ w.short
    pub head-cut : (2 + 2 * 2 ^ w.short) * 2 ^ 9 ≤ hid f
    -- ---- the constants; the records of bounds hold their bounds, which are the same at both widths
    pub bp-one : con w BP ≡ at (one f)
    pub bp-half : con w (BP + 1) ≡ at (one f + hid f / 2)
    pub two : Num f (con w TWO) × (sign (con w TWO) ≡ false) × (mag f (con w TWO) ≡ 2 ^ prec f * U f)
    pub dp-h-zero : Num f (con w DP-H) × (mag f (con w DP-H) ≡ 0)
    pub dp-l-zero : Num f (con w DP-L) × (mag f (con w DP-L) ≡ 0)
    pub dp-h-half : Within f (U f) 628200000 (con w (DP-H + 1)) × (minus f (con w (DP-H + 1)) ≡ 0) × (628000000 * U f ≤ 2 ^ 30 * mag f (con w (DP-H + 1)))
    pub dp-l-half : Within f (U f) 1700 (con w (DP-L + 1))
    pub log : LogConsts f (con w L1) (con w L2) (con w L3) (con w L4) (con w L5) (con w L6) (con w CP) (con w CP-H) (con w CP-L)
        (at (one f + hid f + hid f / 2))
    pub near : CloseConsts f (con w IVLN2-H) (con w IVLN2-L) (con w IVLN2) (con w THIRD) (at (one f - hid f)) (at (one f - 2 * hid f))
    pub exp : Consts f (con w P1) (con w P2) (con w P3) (con w P4) (con w P5) (con w LG2) (con w LG2-H) (con w LG2-L) (at (one f)) (at (one f + hid f))
    pub limit : LimitConsts f (con w LG2) (con w LG2-H)
    pub ovt : Within f (U f) (2 ^ 30) (con w OVT) × (sign (con w OVT) ≡ false)
    pub huge : T (proper (con w HUGE))
    pub tiny : T (proper (con w TINY))
