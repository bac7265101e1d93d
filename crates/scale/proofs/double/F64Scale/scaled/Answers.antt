-- `scale::double::F64Scale::scaled` meets its contract: above the test the word is a NaN's. Assumes nothing.
use Prim.Native.Nat.{ℕ, ◌*◌, ◌%◌, ◌^◌, ◌<◌}
use native.Mathlib.Omega.{arith}
use Rattle.words.specs.Format as Format
use Rattle.scale.proofs.Scaled.{scaled-nan}
use Rattle.scale.proofs.double.F64Scale.scaled.Goals as goal

-- the shift drops the sign and doubles the rest
above : (x : ℕ) → 0xffe0_0000_0000_0000 < x * 2 % 2 ^ 64 → 0x7ff0_0000_0000_0000 < x % 2 ^ 63
above x h = omega arith

pub returns-else-x-le18437736874454810624 : goal.returns-else-x-le18437736874454810624
returns-else-x-le18437736874454810624 c = scaled-nan Format.binary64 c.args.x c.args.n (above c.args.x c.if-x-le18437736874454810624.false)
