-- `pow::logarithm::log_of` meets its contract: each way is the definition's. Assumes nothing.
use Rattle.std.proofs.Common.{le-ltb, lt-ltb}
use Rattle.power.specs.Chain.{log_of}
use Rattle.pow.proofs.logarithm.log_of.Goals as goal

pub near-requires : goal.near-requires
unfolding log_of
near-requires g c = simp (lt-ltb _ _ (rw c.limits.ensures.0 at c.if-iy-limits.true)) at c.requires.1

pub far-requires : goal.far-requires
unfolding log_of
far-requires g c = (c.requires.0, simp (le-ltb _ _ (rw c.limits.ensures.0 at c.if-iy-limits.false)) at c.requires.1)

pub returns-then-iy-limits : goal.returns-then-iy-limits
unfolding log_of
returns-then-iy-limits g c = simp (lt-ltb _ _ (rw c.limits.ensures.0 at c.if-iy-limits.true), c.near.ensures)

pub returns-else-iy-limits : goal.returns-else-iy-limits
unfolding log_of
returns-else-iy-limits g c = simp (le-ltb _ _ (rw c.limits.ensures.0 at c.if-iy-limits.false), c.far.ensures)
