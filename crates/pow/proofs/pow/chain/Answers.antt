-- `pow::pow::chain` meets its contract: each way is the definition's. Assumes nothing.
use Rattle.std.proofs.Common.{◌/◌, ◌^◌, arith, inl, inr, mod-lt, le-ltb, lt-ltb, ◌∙◌}
use lib.Ieee.{Float, of_bits}
use lib.Ieee.Bits.{nan_bits_is}
use Rattle.words.specs.Format.{magnitude, negative, ours}
use Rattle.power.specs.Chain.{log_of, open_of}
use Rattle.power.specs.NoNan.{Walked}
use Rattle.chain.proofs.Numbers.{walked}
use Rattle.pow.specs.Parts.{of}
use Rattle.pow.proofs.Small.{top-some, turned-round}
use Rattle.pow.proofs.pow.chain.Goals as goal
use Rattle.pow.proofs.pow.chain.Goals.{Joined-iy-limits}
use Rattle.pow.proofs.pow.chain.Given.{Over}

-- the numbers on the way to the chain's end
way : (g : Over) (c : Joined-iy-limits g) → let n = g.F.Word.Word.number in let f = ours g.F.Width.format in
    Walked (of g.F.Width.format g.F.Chain.width) (of_bits g.F.Width.format (n c.args.y)) (log_of (of g.F.Width.format g.F.Chain.width) (magnitude f (n c.args.x)) (magnitude f (n c.args.y) / 2 ^ g.F.Chain.width.below)) c.args.negative
way g c =
    let l = c.limits-limits.ensures in
    walked (of g.F.Width.format g.F.Chain.width) g.met.F.Chain.known _ _ c.args.negative c.requires (elim c.if-iy-limits.branch [
      | goal.then-iy-limits+else-iy-limits-2+else-ix-limits+else-ix-limits-2 w ↦ inr (
        le-ltb _ _ (omega (arith, l.1, c.high-iy.ensures, w.if-iy-limits-2.false)),
        le-ltb _ _ (rw (l.2, c.high-ix.ensures) at w.if-ix-limits.false),
        le-ltb _ _ (rw (l.3, c.high-ix.ensures) at w.if-ix-limits-2.false),
      )
      | goal.else-iy-limits w ↦ inl (le-ltb _ _ (omega (arith, l.0, c.high-iy.ensures, w.if-iy-limits.false)))
    ])

pub returns-then-iy-limits-2 : goal.returns-then-iy-limits-2
unfolding open_of
returns-then-iy-limits-2 g c =
    let l = c.limits-limits.ensures in
    simp (
      c.to_word.ensures,
      c.huge.ensures,
      lt-ltb _ _ (rw (l.0, c.high-iy.ensures) at c.if-iy-limits.true),
      lt-ltb _ _ (rw (l.1, c.high-iy.ensures) at c.if-iy-limits-2.true),
      c.high-ix.ensures,
      c.is_negative-down.ensures,
    )

-- x below 1: by the sign of y
pub returns-then-ix-limits : goal.returns-then-ix-limits
unfolding open_of
returns-then-ix-limits g c =
    let l = c.limits-limits.ensures in
    simp (
      c.to_word-then-ix-limits.ensures,
      c.beyond.ensures,
      turned-round {A = Float} (negative (ours g.F.Width.format) (g.F.Word.Word.number c.args.y)),
      c.sign.ensures,
      lt-ltb _ _ (rw (l.0, c.high-iy.ensures) at c.if-iy-limits.true),
      le-ltb _ _ (rw (l.1, c.high-iy.ensures) at c.if-iy-limits-2.false),
      lt-ltb _ _ (rw (l.2, c.high-ix.ensures) at c.if-ix-limits.true),
      c.is_negative-down.ensures,
    )

-- x above 1
pub returns-then-ix-limits-2 : goal.returns-then-ix-limits-2
unfolding open_of
returns-then-ix-limits-2 g c =
    let l = c.limits-limits.ensures in
    simp (
      c.to_word-then-ix-limits-2.ensures,
      c.beyond-then-ix-limits-2.ensures,
      c.sign-then-ix-limits-2.ensures,
      lt-ltb _ _ (rw (l.0, c.high-iy.ensures) at c.if-iy-limits.true),
      le-ltb _ _ (rw (l.1, c.high-iy.ensures) at c.if-iy-limits-2.false),
      le-ltb _ _ (rw (l.2, c.high-ix.ensures) at c.if-ix-limits.false),
      lt-ltb _ _ (rw (l.3, c.high-ix.ensures) at c.if-ix-limits-2.true),
      c.is_negative-down.ensures,
    )

pub from_bits-requires : goal.from_bits-requires
from_bits-requires g c = nan_bits_is _ _ ∙ (way g (goal.at.from_bits-requires g c).Joined-iy-limits).exponent

pub log_of-requires : goal.log_of-requires
log_of-requires g c =
    rw (c.fabs.ensures, c.high-iy.ensures) (mod-lt _ (top-some g.F.Width.format), (way g (goal.at.log_of-requires g c).Joined-iy-limits).logarithm.1)

pub product-requires : goal.product-requires
product-requires g c = rw c.from_bits.ensures (way g (goal.at.product-requires g c).Joined-iy-limits).exponent

pub finish-requires : goal.finish-requires
finish-requires g c =
    simp (c.product.ensures, c.log_of.ensures, c.from_bits.ensures, c.fabs.ensures, c.high-iy.ensures) (way g (goal.at.finish-requires g c).Joined-iy-limits).finish

pub returns : goal.returns
unfolding open_of
returns g c =
    let l = c.limits-limits.ensures in
    elim c.if-iy-limits.branch [
      | goal.then-iy-limits+else-iy-limits-2+else-ix-limits+else-ix-limits-2 w ↦ simp (
        c.finish.ensures,
        c.product.ensures,
        c.log_of.ensures,
        c.from_bits.ensures,
        c.fabs.ensures,
        lt-ltb _ _ (rw (l.0, c.high-iy.ensures) at w.if-iy-limits.true),
        le-ltb _ _ (rw (l.1, c.high-iy.ensures) at w.if-iy-limits-2.false),
        le-ltb _ _ (rw (l.2, c.high-ix.ensures) at w.if-ix-limits.false),
        le-ltb _ _ (rw (l.3, c.high-ix.ensures) at w.if-ix-limits-2.false),
        c.high-iy.ensures,
      )
      | goal.else-iy-limits w ↦ simp (
        c.finish.ensures,
        c.product.ensures,
        c.log_of.ensures,
        c.from_bits.ensures,
        c.fabs.ensures,
        le-ltb _ _ (rw (l.0, c.high-iy.ensures) at w.if-iy-limits.false),
        c.high-iy.ensures,
      )
    ]
