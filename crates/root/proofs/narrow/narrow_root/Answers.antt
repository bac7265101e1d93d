-- `root::narrow::narrow_root` meets its contract: the law is `narrow-root`. Assumes nothing.
use Prim.Native.Nat.{ℕ, ◌+◌, ◌-◌, ◌*◌, ◌/◌, ◌%◌, ◌^◌, ◌<◌}
use mathlib.Core.Path.{◌≡◌, ap, ◌∙◌}
use native.Mathlib.Nat.{mod-eq_of_lt}
use native.Mathlib.Omega.{arith}
use mir.Syntax.{w64}
use mir.Val.{Fits}
use Rattle.words.specs.Format.{Format, infinity, binary64, units}
use Rattle.words.proofs.Digits.{one_shl, placed}
use Rattle.root.specs.Root.{lifted, root_at}
use Rattle.root.specs.Engine.{Narrow}
use Rattle.root.proofs.TwiceRounded.{wide-finite, wide_fits, narrow-root}
use Rattle.root.proofs.narrow.narrow_root.Goals as goal
use Rattle.root.proofs.narrow.narrow_root.Goals.{After-table_root}

-- no shift of the code loses anything
module _ (f : Format) (x : ℕ) (h : Narrow f.digits f.emax × (0 < x) × (x < infinity f)) where
  abbrev p : ℕ
  p = f.digits

  abbrev bias : ℕ
  bias = (1023 - f.emax) / 2

  word : x * 2 ^ (53 - p) % 2 ^ 64 ≡ x * 2 ^ (53 - p)
  word = mod-eq_of_lt (omega (arith, (wide-finite p f.emax x h.0 h.1 h.2).1))

  half : (d : ℕ) → d ≡ p → 1 * 2 ^ (52 - d) % 2 ^ 64 ≡ 2 ^ (52 - p)
  half d e = one_shl (52 - d) (omega arith) ∙ ap (λ (n : ℕ). 2 ^ (52 - n)) e

  moved : bias * 2 ^ (p - 1) % 2 ^ 64 ≡ bias * 2 ^ (p - 1)
  moved = placed p bias (omega (arith, h.0.digits)) (omega arith)

  abbrev wide : ℕ
  wide = root_at binary64 (lifted binary64 (units binary64 (x * 2 ^ (53 - p))))

-- once the f64 root is there: what is added to it before the cut is half of the last place that stays
root : (c : After-table_root) → c.table_root.result ≡ wide c.args.f c.args.x c.requires
root c = rw (c.digits-p.ensures.value, word c.args.f c.args.x c.requires) at c.table_root.ensures

fits : (c : After-table_root) {half : ℕ} → half ≡ 2 ^ (52 - c.args.f.digits) → Fits w64 (c.table_root.result + half)
fits c is =
    let h = c.requires in
    record { fits = omega (arith, is, root c, wide_fits c.args.f.digits c.args.f.emax c.args.x h.0 h.1 h.2) }

rounded : (c : After-table_root)
    → (c.table_root.result + 2 ^ (52 - c.args.f.digits)) / 2 ^ (53 - c.args.f.digits)
    ≡ bias c.args.f c.args.x c.requires * 2 ^ (c.args.f.digits - 1) + root_at c.args.f (lifted c.args.f (units c.args.f c.args.x))
rounded c =
    let f = c.args.f in
    let h = c.requires in
    ap (λ (n : ℕ). (n + 2 ^ (52 - f.digits)) / 2 ^ (53 - f.digits)) (root c) ∙ narrow-root f.digits f.emax c.args.x h.0 h.1 h.2

pub table_root-requires : goal.table_root-requires
table_root-requires c =
    let f = c.args.f in
    let h = c.requires in
    rw (c.digits-p.ensures.value, word f c.args.x h) (wide-finite f.digits f.emax c.args.x h.0 h.1 h.2)

pub overflow_add-result : goal.overflow_add-result
overflow_add-result c =
    let f = c.args.f in
    fits (goal.at.overflow_add-result c).After-table_root (omega (arith, half f c.args.x c.requires c.digits-p.result c.digits-p.ensures.value))

pub overflow_sub-result-3 : goal.overflow_sub-result-3
overflow_sub-result-3 c =
    let f = c.args.f in
    let d = c.digits-p.ensures.value in
    rw (half f c.args.x c.requires _ d, d, c.emax.ensures, moved f c.args.x c.requires, rounded (goal.at.overflow_sub-result-3 c).After-table_root) (omega arith)

pub returns : goal.returns
returns c =
    let f = c.args.f in
    let d = c.digits-p.ensures.value in
    rw (half f c.args.x c.requires _ d, d, c.emax.ensures, moved f c.args.x c.requires, rounded (goal.at.returns c).After-table_root) (omega arith)
