-- Request 8: the table engine's digits and left-over are the digit engine's, and f64's root serves every format with less than half of its digits. Assumes nothing.
use Prim.Native.Nat.{ℕ, ◌+◌, ◌-◌, ◌*◌, ◌/◌, ◌^◌, ◌≤◌}
use mathlib.Core.Path.{refl, sym, ap, ◌∙◌}
use native.Mathlib.Omega.{arith}
use Rattle.words.specs.Format.{Format, format, binary32, binary64, units}
use Rattle.root.specs.Root.{lifted, halves, whole_of}
use Rattle.root.specs.declared.partial.PartialRoot.{PartialRoot}
use Rattle.root.specs.Engine.{Narrow}
use Rattle.root.proofs.Roots.{digits-unique, left_unique}
use Rattle.root.proofs.Words.{Fine, finite-split, split-asked, partial-done, root-positive, root-word}
use Rattle.root.proofs.TwiceRounded.{wide-finite, narrow-root}
use Rattle.claims.specs.Engines.{EnginesAgree, NarrowRoots}

pub engines-agree : (f : Format) → Fine f → f.digits ≤ 60 → EnginesAgree f
engines-agree f g small x digits left some below r =
    let p : ℕ = f.digits in
    let v : ℕ = lifted f (units f x) in
    let s = (finite-split f x g some below).0 in
    let a = split-asked p v (whole_of f x) (halves p v) (p + 1) small (omega arith) s in
    let d = partial-done f x (p + 1) some below (omega arith) in
    record {
      same_digits = digits-unique p (whole_of f x) (p + 1) a digits left r ∙ sym (ap (λ (q : PartialRoot). q.digits) d);
      same_left = left_unique p (whole_of f x) (p + 1) a digits left r ∙ sym (ap (λ (q : PartialRoot). q.left) d);
      same_word = root-word f v (whole_of f x) (halves p v) digits left small s r ∙ sym (root-positive f x some below);
    }

-- "It must give the bits and flags of the digit engine on every operand": digits and left-over, from which both follow
pub request-8-engines-32 : EnginesAgree binary32
request-8-engines-32 = engines-agree binary32 (omega arith) (omega arith)

pub request-8-engines-64 : EnginesAgree binary64
request-8-engines-64 = engines-agree binary64 (omega arith) (omega arith)

pub narrow-roots : (p e : ℕ) → Narrow p e → NarrowRoots p e
narrow-roots p e g x some below =
    let w = wide-finite p e x g some below in
    let bias : ℕ = (1023 - e) / 2 * 2 ^ (p - 1) in
    ap (λ (r : ℕ). (r + 2 ^ (52 - p)) / 2 ^ (53 - p)) (root-positive binary64 (x * 2 ^ (53 - p)) w.0 w.1)
    ∙ (narrow-root p e x g some below ∙ ap (λ (r : ℕ). bias + r) (sym (root-positive (format p e) x some below)))

pub request-8-narrow-16 : NarrowRoots 11 15
request-8-narrow-16 = narrow-roots 11 15 (record { held = omega arith; digits = omega arith; odd = refl })

pub request-8-narrow-32 : NarrowRoots 24 127
request-8-narrow-32 = narrow-roots 24 127 (record { held = omega arith; digits = omega arith; odd = refl })
