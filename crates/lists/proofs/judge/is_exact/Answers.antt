-- `lists::judge::is_exact` meets its contract: an exact root is told by the square of what stands before its zeros. Assumes nothing.
use Rattle.std.proofs.Common.{ℕ, ◌≡◌, ◌+◌, ◌%◌, ◌≤◌, ◌∙◌, ap, arith}
use Rattle.words.specs.Format.{Format, hid}
use Rattle.words.specs.Rounding.{Held}
use Rattle.root.specs.Root.{significand, whole_of}
use Rattle.root.proofs.Words.{Fine}
use Rattle.lists.proofs.Flags.{significand-read, exact-tested, front-small, flags-rounded}
use Rattle.lists.proofs.judge.is_exact.Goals as goal
use Rattle.lists.proofs.judge.is_exact.Goals.{After-digits-zeros}

module _ (c : After-digits-zeros) where
  abbrev f : Format
  f = c.args.f

  abbrev x : ℕ
  x = c.args.x

  held : Held f.digits f.emax
  held = c.digits-zeros.ensures.held

  fine : Fine f
  fine = record { least = held.least; room = held.room }

  small : f.digits ≤ 60
  small = omega (arith, held.small)

  s-is : c.significand_of-s.result ≡ significand f.digits (whole_of f x)
  s-is =
      c.significand_of-s.ensures
      ∙ ap (λ (r : ℕ). hid f + r % hid f) c.requires.root_value
      ∙ significand-read f x fine small c.requires.finite.0 c.requires.finite.1

  w-is : c.of-o.result.w ≡ whole_of f x
  w-is = c.of-o.ensures.w_value

pub overflow_mul-result : goal.overflow_mul-result
overflow_mul-result c =
    let k = (goal.at.overflow_mul-result c).After-digits-zeros in
    record { fits = front-small (f k) (x k) (fine k) (small k) c.requires.finite.0 c.requires.finite.1 (s-is k) c.digits-zeros.ensures.value (held k).small }

pub returns-clause-value : goal.returns-clause-value
returns-clause-value c =
    let k = (goal.at.returns-clause-value c).After-digits-zeros in
    exact-tested (f k) (x k) (fine k) (small k) c.requires.finite.0 c.requires.finite.1 (s-is k) c.digits-zeros.ensures.value (held k).small (w-is k)

pub returns-clause-flags : goal.returns-clause-flags
returns-clause-flags c =
    let k = (goal.at.returns-clause-flags c).After-digits-zeros in
    flags-rounded (f k) (x k) (fine k) (small k) c.requires.finite.0 c.requires.finite.1
    (exact-tested (f k) (x k) (fine k) (small k) c.requires.finite.0 c.requires.finite.1 (s-is k) c.digits-zeros.ensures.value (held k).small (w-is k))
