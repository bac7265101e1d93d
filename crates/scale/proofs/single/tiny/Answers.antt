-- `scale::single::tiny` meets its contract: by the sum where it has fewer units than the least normal number, else by the whole float. Assumes nothing.
use mathlib.Core.Path.{◌≡◌, refl, ◌∙◌}
use lib.Dec.{lit<}
use lib.IntN.{pos, negsuc}
use lib.Ieee.{binary32, add, nan_bits, of_bits}
use mir.Syntax.{w32}
use Rattle.scale.proofs.Exponents.{tiny_exponent}
use Rattle.scale.proofs.Machine.{SumWord, WholeWord, held, max-min, tiny-sum, tiny-whole}
use Rattle.scale.proofs.single.tiny.Goals as goal
use Rattle.scale.proofs.single.tiny.Goals.{After-clamp-k, After-scale, Then-y-x1p23}

exponent : (c : After-clamp-k) → c.clamp-k.result ≡ tiny_exponent binary32 (held w32 c.args.n)
exponent c = c.clamp-k.ensures.value ∙ max-min (negsuc 125) (pos 277) (held w32 c.args.n) refl

-- e says that k is the exponent
below : (c : Then-y-x1p23) → c.clamp-k.result ≡ tiny_exponent binary32 (held w32 c.args.n) → SumWord binary32 c.args.m c.args.n (add binary32 c.scale-y.result (of_bits binary32 0x4b00_0000))
unfolding of_bits
below c e = tiny-sum binary32 w32 c.args.m c.requires c.args.n c.clamp-k.result c.ranges.n (record { sfits = c.clamp-k.type_inv }) e c.scale-y.result _ c.scale-y.ensures refl c.if-y-x1p23.true

above : (c : After-scale) → c.clamp-k.result ≡ tiny_exponent binary32 (held w32 c.args.n) → WholeWord binary32 c.args.m c.args.n c.scale.result
above c e = tiny-whole binary32 w32 c.args.m c.requires c.args.n c.clamp-k.result c.ranges.n (record { sfits = c.clamp-k.type_inv }) e (lit< tt) c.scale.result c.scale.ensures

pub float_from_bits-x1p23 : goal.float_from_bits-x1p23
unfolding nan_bits
float_from_bits-x1p23 c = tt

pub float_to_bits-result : goal.float_to_bits-result
float_to_bits-result c = let s = goal.at.float_to_bits-result c in (below s.Then-y-x1p23 (exponent s.After-clamp-k)).number

pub overflow_sub-result : goal.overflow_sub-result
overflow_sub-result c = let s = goal.at.overflow_sub-result c in (below s.Then-y-x1p23 (exponent s.After-clamp-k)).enough

pub returns-then-y-x1p23 : goal.returns-then-y-x1p23
returns-then-y-x1p23 c = let s = goal.at.returns-then-y-x1p23 c in (below s.Then-y-x1p23 (exponent s.After-clamp-k)).word

pub float_to_bits-result-else-y-x1p23 : goal.float_to_bits-result-else-y-x1p23
float_to_bits-result-else-y-x1p23 c = let s = goal.at.float_to_bits-result-else-y-x1p23 c in (above s.After-scale (exponent s.After-clamp-k)).number

pub returns-else-y-x1p23 : goal.returns-else-y-x1p23
returns-else-y-x1p23 c = let s = goal.at.returns-else-y-x1p23 c in (above s.After-scale (exponent s.After-clamp-k)).word
