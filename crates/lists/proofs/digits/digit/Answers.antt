-- `lists::digits::digit` meets its contract: the three runs one after the other. Assumes nothing.
use Prim.Native.Nat.{ℕ}
use mathlib.Core.Path.{◌≡◌, ap, ◌∙◌}
use borrow.Author.Tests.{lt-ltb, le-ltb}
use Rattle.lists.specs.Digits.{among_of, digit_of}
use Rattle.lists.proofs.digits.digit.Goals as goal

runs : (c : ℕ) {d u r : ℕ} → d ≡ among_of c 48 10 0 16 → u ≡ among_of c 65 6 10 d → r ≡ among_of c 97 6 10 u → r ≡ digit_of c
unfolding digit_of
runs c a b e = e ∙ ap (among_of c 97 6 10) (b ∙ ap (among_of c 65 6 10) a)

pub returns-then-d-lt16 : goal.returns-then-d-lt16
returns-then-d-lt16 c = rw (← runs c.args.c c.among-decimal.ensures c.among-upper.ensures c.among-d.ensures, lt-ltb c.among-d.result 16 c.if-d-lt16.true)

pub returns-else-d-lt16 : goal.returns-else-d-lt16
returns-else-d-lt16 c = rw (← runs c.args.c c.among-decimal.ensures c.among-upper.ensures c.among-d.ensures, le-ltb c.among-d.result 16 c.if-d-lt16.false)
