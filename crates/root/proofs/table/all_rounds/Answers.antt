-- `root::table::all_rounds` meets its contract: W and E are those of the definition. Assumes nothing.
use Prim.Native.Nat.{ℕ, ◌*◌, ◌/◌, ◌%◌, ◌^◌}
use mathlib.Core.Path.{ap, sym, subst, ◌∙◌}
use lib.Bits.{and_mask}
use Rattle.words.specs.Format.{binary64, units}
use Rattle.root.specs.Root.{lifted}
use Rattle.root.specs.Engine.{Rounds, Split}
use Rattle.root.proofs.Operands.{split, halves-is, whole_is}
use Rattle.root.proofs.table.all_rounds.Goals as goal

pub returns : goal.returns
returns c =
    let e = c.of-m.ensures.normalised in
    let m = c.of-m.result.m in
    let n = c.of-m.result.n in
    let v = lifted binary64 (units binary64 c.args.x) in
    let d = c.table_rounds-digits.result in
    let s : Split 53 v (m * 2 ^ (n % 2)) (n / 2) = subst (λ (k : ℕ). Split 53 k (m * 2 ^ (n % 2)) (n / 2)) e.value (split 53 m n e.above e.below) in
    let w = ap (λ (k : ℕ). m * 2 ^ k) (and_mask n 1) ∙ sym (whole_is 53 v (m * 2 ^ (n % 2)) (n / 2) s) in
    record {
      rounds = subst (λ (k : ℕ). Rounds 53 k 54 d.digits d.left) w c.table_rounds-digits.ensures;
      half_value = sym (halves-is 53 v (m * 2 ^ (n % 2)) (n / 2) s);
    }
