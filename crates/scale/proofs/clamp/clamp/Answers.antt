-- `scale::clamp::clamp` meets its contract. Assumes nothing.
use mir.Syntax.{w32}
use Rattle.scale.proofs.Machine.{clamp-most, clamp-least, clamp-none}
use Rattle.scale.proofs.clamp.clamp.Goals as goal

pub returns-then-n-most : goal.returns-then-n-most
returns-then-n-most c = clamp-most w32 c.args.least c.args.most c.args.n c.ranges.least c.ranges.most c.ranges.n c.if-n-most.true

pub returns-then-n-least : goal.returns-then-n-least
returns-then-n-least c = clamp-least w32 c.args.least c.args.most c.args.n c.ranges.least c.ranges.most c.ranges.n c.if-n-most.false c.if-n-least.true

pub returns-else-n-least : goal.returns-else-n-least
returns-else-n-least c = clamp-none w32 c.args.least c.args.most c.args.n c.ranges.least c.ranges.most c.ranges.n c.if-n-most.false c.if-n-least.false
