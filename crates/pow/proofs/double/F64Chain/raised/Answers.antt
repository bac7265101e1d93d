-- `pow::double::Chain::raised` meets its contract: each return is one way of the raised exponent, by power/proofs/HighWord.antt. Assumes nothing.
use Rattle.std.proofs.Common.{ℕ, ◌+◌, ◌/◌, ◌^◌, ◌<◌, T, sym, ap, ◌∙◌, subst, arith}
use lib.Ieee.{binary64, fits, to_bits}
use lib.Ieee.Bits.{to_bits-lt}
use Rattle.power.proofs.Exponent.{unbiased-back}
use Rattle.power.proofs.HighWord.{high64, lost-some, coded-normal, coded-scaled, coded-lowered}
use Rattle.power.proofs.Nan.{is_number}
use Rattle.pow.proofs.double.F64Chain.raised.Goals as goal
use Rattle.pow.proofs.double.F64Chain.raised.Goals.{Start}

z-fits : (c : Start) → T (fits binary64 c.args.z)
z-fits c = subst T (sym c.well_formed.0.1) tt

pub float_to_bits-w : goal.float_to_bits-w
float_to_bits-w c = is_number c.args.z c.requires.1

pub returns-then-wrapping_add_u64-lt9218868437227405312 : goal.returns-then-wrapping_add_u64-lt9218868437227405312
returns-then-wrapping_add_u64-lt9218868437227405312 c =
    coded-normal high64 c.args.z (z-fits (goal.at.returns-then-wrapping_add_u64-lt9218868437227405312 c).Start) c.args.e c.wrapping_add_u64-j.ensures.value c.wrapping_add_u64.ensures.value c.if-wrapping_add_u64-lt9218868437227405312.true c.requires.2

pub overflow_add-w : goal.overflow_add-w
overflow_add-w c =
    record { fits = small (to_bits binary64 c.args.z) c.args.e (to_bits-lt binary64 c.args.z (z-fits (goal.at.overflow_add-w c).Start)) c.requires.0 }
  where
    small : (x e : ℕ) → x < 2 ^ 64 → e < 8192 → x / 2 ^ 52 + e < 2 ^ 64
    small x e l h = omega arith

pub lowered-requires : goal.lowered-requires
lowered-requires c = lost-some binary64 (to_bits binary64 c.args.z) _ _ c.if-w-s.true

pub returns-then-w-s : goal.returns-then-w-s
returns-then-w-s c =
    c.lowered.ensures
    ∙ coded-lowered high64 c.args.z (z-fits (goal.at.returns-then-w-s c).Start) c.args.e c.wrapping_add_u64-j.ensures.value c.wrapping_add_u64.ensures.value c.if-wrapping_add_u64-lt9218868437227405312.false c.requires.0
    c.wrapping_sub_u64-s.result 64 (omega arith) c.wrapping_sub_u64-s.ensures.value c.if-w-s.true

pub returns : goal.returns
returns c =
    c.to_word.ensures
    ∙ ap (to_bits binary64) (c.scale.ensures
    ∙ coded-scaled high64 c.args.z (z-fits (goal.at.returns c).Start) c.args.e c.wrapping_add_u64-j.ensures.value c.wrapping_add_u64.ensures.value c.if-wrapping_add_u64-lt9218868437227405312.false
    (rw c.unbiased.ensures (unbiased-back 4096 c.args.e (omega arith) (omega (arith, c.requires.0)))))
