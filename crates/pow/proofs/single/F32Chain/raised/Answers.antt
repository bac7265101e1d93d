-- `pow::single::Chain::raised` meets its contract: each return is one way of the raised exponent, by power/proofs/HighWord.antt. Assumes nothing.
use Rattle.std.proofs.Common.{ℕ, ◌+◌, ◌/◌, ◌^◌, ◌<◌, T, sym, ap, ◌∙◌, subst, arith}
use lib.Ieee.{binary32, fits, to_bits}
use lib.Ieee.Bits.{to_bits-lt}
use Rattle.power.proofs.Exponent.{unbiased-back}
use Rattle.power.proofs.HighWord.{high32, lost-some, coded-normal, coded-scaled, coded-lowered}
use Rattle.power.proofs.Nan.{is_number}
use Rattle.pow.proofs.single.F32Chain.raised.Goals as goal
use Rattle.pow.proofs.single.F32Chain.raised.Goals.{Start}

z-fits : (c : Start) → T (fits binary32 c.args.z)
z-fits c = subst T (sym c.well_formed.0.1) tt

pub float_to_bits-w : goal.float_to_bits-w
float_to_bits-w c = is_number c.args.z c.requires.1

pub returns-then-wrapping_add_u32-lt2139095040 : goal.returns-then-wrapping_add_u32-lt2139095040
returns-then-wrapping_add_u32-lt2139095040 c =
    coded-normal high32 c.args.z (z-fits (goal.at.returns-then-wrapping_add_u32-lt2139095040 c).Start) c.args.e c.wrapping_add_u32-j.ensures.value c.wrapping_add_u32.ensures.value c.if-wrapping_add_u32-lt2139095040.true c.requires.2

pub overflow_add-w : goal.overflow_add-w
overflow_add-w c =
    record { fits = small (to_bits binary32 c.args.z) c.args.e (to_bits-lt binary32 c.args.z (z-fits (goal.at.overflow_add-w c).Start)) c.requires.0 }
  where
    small : (x e : ℕ) → x < 2 ^ 32 → e < 1024 → x / 2 ^ 23 + e < 2 ^ 32
    small x e l h = omega arith

pub lowered-requires : goal.lowered-requires
lowered-requires c = lost-some binary32 (to_bits binary32 c.args.z) _ _ c.if-w-s.true

pub returns-then-w-s : goal.returns-then-w-s
returns-then-w-s c =
    c.lowered.ensures
    ∙ coded-lowered high32 c.args.z (z-fits (goal.at.returns-then-w-s c).Start) c.args.e c.wrapping_add_u32-j.ensures.value c.wrapping_add_u32.ensures.value c.if-wrapping_add_u32-lt2139095040.false c.requires.0
    c.wrapping_sub_u32-s.result 32 (omega arith) c.wrapping_sub_u32-s.ensures.value c.if-w-s.true

pub returns : goal.returns
returns c =
    c.to_word.ensures
    ∙ ap (to_bits binary32) (c.scale.ensures
    ∙ coded-scaled high32 c.args.z (z-fits (goal.at.returns c).Start) c.args.e c.wrapping_add_u32-j.ensures.value c.wrapping_add_u32.ensures.value c.if-wrapping_add_u32-lt2139095040.false
    (rw c.unbiased.ensures (unbiased-back 512 c.args.e (omega arith) (omega (arith, c.requires.0)))))
