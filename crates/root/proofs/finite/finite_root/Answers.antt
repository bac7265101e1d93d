-- `root::finite::finite_root` meets its contract. Assumes nothing.
use Prim.Native.Nat.{ℕ, ◌+◌, ◌-◌, ◌*◌, ◌%◌, ◌^◌, ◌≤◌, ◌<◌}
use mathlib.Core.Path.{◌≡◌, refl, sym, ap, ◌∙◌}
use native.Mathlib.Nat.{mod-eq_of_lt}
use native.Mathlib.Omega.{arith}
use lib.IntN.{sub_ℕ}
use lib.Pow.{pow_mono}
use lib.Bits.{and_mask}
use Rattle.words.specs.Format.{Format, hid, units}
use Rattle.root.specs.Root.{lifted, halves, root_at, significand}
use Rattle.root.specs.Engine.{Rounds}
use Rattle.root.specs.declared.operand.Parts.{Parts}
use Rattle.root.proofs.Roots.{rounds-below, digits-unique}
use Rattle.root.proofs.Signed.{read_back}
use Rattle.root.proofs.Words.{Ready, ready, ready-asked, exponent-fits}
use Rattle.root.proofs.finite.finite_root.Goals as goal
use Rattle.root.proofs.finite.finite_root.Goals.{After-of-o, After-digit_rounds-q, After-biased}

-- the operand's parts
abbrev exponent : Format → ℕ → ℕ
exponent f x = halves f.digits (lifted f (units f x))

abbrev Made : Format → ℕ → Parts → Type 0
Made f x o = Ready f.digits (f.emax - 1) o.w (exponent f x) o.half

parts : (c : After-of-o) → Made c.args.f c.args.x c.of-o.result
parts c = ready c.args.f.digits c.args.f.emax c.args.x c.of-o.result.w c.of-o.result.half c.digits-p.ensures.held c.requires.0 c.requires.1 c.of-o.ensures.w_value c.of-o.ensures.half_value

pub digit_rounds-q-requires : goal.digit_rounds-q-requires
digit_rounds-q-requires c = rw c.digits-p.ensures.value (ready-asked (parts (goal.at.digit_rounds-q-requires c).After-of-o))

-- the digits, and the exponent that `biased` gives back
rounds : (c : After-digit_rounds-q) → Rounds c.args.f.digits c.of-o.result.w (c.args.f.digits + 1) c.digit_rounds-q.result.digits c.digit_rounds-q.result.left
rounds c = rw c.digits-p.ensures.value at c.digit_rounds-q.ensures

small : (c : After-digit_rounds-q) → Made c.args.f c.args.x c.of-o.result → c.digit_rounds-q.result.digits < 2 ^ 54
small c y =
    let p = c.args.f.digits in
    let d = c.digit_rounds-q.result in
    let cap : 2 ^ (p + 1) ≤ 2 ^ 54 = pow_mono {i = p + 1} {j = 54} (omega (arith, y.small)) in
    omega (arith, rounds-below p c.of-o.result.w (p + 1) d.digits d.left (ready-asked y) (rounds c), cap)

placed : (c : After-biased) → Made c.args.f c.args.x c.of-o.result
    → (c.biased.result * 2 ^ (c.digits-p.result - 1) % 2 ^ 64 ≡ exponent c.args.f c.args.x * hid c.args.f) × (exponent c.args.f c.args.x * hid c.args.f < 2 ^ 63)
placed c y =
    let f = c.args.f in
    let h : ℕ = exponent f c.args.x in
    let b : h * hid f < 2 ^ 63 = exponent-fits f.digits h y.small y.high in
    let n : h < 8192 = omega (arith, y.high) in
    let e = read_back c.of-o.result.half h (f.emax - 1) n (omega (arith, y.bias)) y.is ∙ ap (λ (k : ℕ). sub_ℕ h (k - 1)) (sym c.emax.ensures) in
    (rw (c.biased.ensures h n e, c.digits-p.ensures.value) (mod-eq_of_lt (omega (arith, b))), b)

pub biased-requires : goal.biased-requires
biased-requires c =
    let y = parts (goal.at.biased-requires c).After-of-o in
    let h : ℕ = exponent c.args.f c.args.x in
    let n : h < 8192 = omega (arith, y.high) in
    let b : c.args.f.emax - 1 < 8192 = omega (arith, y.bias) in
    rw c.emax.ensures (h, n, b, read_back c.of-o.result.half h (c.args.f.emax - 1) n b y.is)

pub overflow_add-result : goal.overflow_add-result
overflow_add-result c =
    let k = goal.at.overflow_add-result c in
    omega (arith, small k.After-digit_rounds-q (parts k.After-of-o), and_mask c.digit_rounds-q.result.digits 1)

pub overflow_add-result-2 : goal.overflow_add-result-2
overflow_add-result-2 c =
    let k = goal.at.overflow_add-result-2 c in
    let e = placed k.After-biased (parts k.After-of-o) in
    rw e.0 (omega (arith, small k.After-digit_rounds-q (parts k.After-of-o), and_mask c.digit_rounds-q.result.digits 1, e.1))

pub returns : goal.returns
unfolding root_at significand
returns c =
    let k = goal.at.returns c in
    let y = parts k.After-of-o in
    let d = c.digit_rounds-q.result in
    let q = digits-unique c.args.f.digits c.of-o.result.w (c.args.f.digits + 1) (ready-asked y) d.digits d.left (rounds k.After-digit_rounds-q) in
    rw ((placed k.After-biased y).0, and_mask d.digits 1, q, c.of-o.ensures.w_value) refl
