-- `pow::pow::huge` meets its contract: each way is the definition's. Assumes nothing.
use Rattle.std.proofs.Common.{le-ltb, lt-ltb}
use lib.Ieee.{Float}
use Rattle.power.specs.Chain.{huge_of}
use Rattle.pow.proofs.Small.{turned-round}
use Rattle.pow.proofs.pow.huge.Goals as goal

pub returns-then-ix-limits : goal.returns-then-ix-limits
unfolding huge_of
returns-then-ix-limits g c =
    simp (lt-ltb _ _ (rw c.limits.ensures.4 at c.if-ix-limits.true), c.beyond.ensures, turned-round {A = Float} c.args.down, c.ONE.ensures, g.met.F.Chain.one_is)

pub returns-else-ix-limits : goal.returns-else-ix-limits
unfolding huge_of
returns-else-ix-limits g c =
    simp (le-ltb _ _ (rw c.limits.ensures.4 at c.if-ix-limits.false), c.beyond-else-ix-limits.ensures, c.ONE-else-ix-limits.ensures, g.met.F.Chain.one_is)
