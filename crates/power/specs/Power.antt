-- The power at both widths: what the chain reads of f32 and of f64, and the result for every pair of words. Definitions only.
use Rattle.std.specs.Prelude.{ℕ}
use Rattle.std.specs.Float.Ieee as Ieee
use Rattle.power.specs.Width.{Width}
use Rattle.power.specs.Table32.{table32}
use Rattle.power.specs.Table64.{table64}
use Rattle.power.specs.Sorting.{sorted}
use Rattle.power.specs.Chain.{open_of}

-- f32: |y| is large above 2 ^ 27; no |y| is above `must`
abbrev pub single : Width
single =
    record {
      format = Ieee.binary32;
      table = table32;
      short = 12;
      shorter = 15;
      below = 0;
      huge = 0x4d000000;
      must = 0x80000000;
      less = 0x3f7ffff8;
      more = 0x3f800007;
      first = 0x1cc472;
      second = 0x5db3d7;
      large = 0x43000000;
      small = 0x43160000;
    }

-- f64: |y| is large above 2 ^ 31, and must over- or underflow above 2 ^ 64
abbrev pub double : Width
double =
    record {
      format = Ieee.binary64;
      table = table64;
      short = 32;
      shorter = 32;
      below = 32;
      huge = 0x41e00000;
      must = 0x43f00000;
      less = 0x3fefffff;
      more = 0x3ff00000;
      first = 0x3988f00000000;
      second = 0xbb67a00000000;
      large = 0x4090000000000000;
      small = 0x4090cc0000000000;
    }

-- x to the y: a settled pair's word, or the open chain's
unfoldable pub pow_of : Width → ℕ → ℕ → ℕ
pow_of w x y = sorted (λ r. r) (open_of w x y) w.format x y

abbrev pub pow32 : ℕ → ℕ → ℕ
pow32 x y = pow_of single x y

abbrev pub pow64 : ℕ → ℕ → ℕ
pow64 x y = pow_of double x y
