-- What a reciprocal root promises, and the test of a table's entry. Definitions only.
use Rattle.std.specs.Prelude.{ℕ, ◌+◌, ◌-◌, ◌*◌, ◌/◌, ◌%◌, ◌^◌, ◌≤◌, Bool, ◌&&◌, T, leb}

-- 2 ^ 32 less 19
abbrev pub nearly : ℕ
nearly = 4294967277

-- r is 2 ^ 46 over the root of z, for every z from low to high: never too large, and too small by at most 19 parts in 2 ^ 32
pub record Reciprocal (low high r : ℕ) : Type 0 where
  pub most : r * r * high ≤ 2 ^ 92
  pub least : nearly * nearly * 2 ^ 28 ≤ r * r * low

-- ---- a table's entry e, for the numbers y = i * 2 ^ 22 + d with d below 2 ^ 22, and z = l * y

-- Its curve over d is 2 ^ 9 * e - 2 ^ 9 * fall * d + bend * d * d, and 2 ^ 41 * r is that, less at most `cut`.
abbrev pub fall : ℕ → ℕ
fall e = e % 2 ^ 32

abbrev pub bend : ℕ → ℕ
bend e = e % 2 ^ 11

abbrev pub cut : ℕ
cut = 2 ^ 41 + 2 ^ 9

-- The curve's three control points: at d = 0, between, and at d = 2 ^ 22.
abbrev pub start : ℕ → ℕ
start e = 2 ^ 9 * e

abbrev pub middle : ℕ → ℕ
middle e = 2 ^ 9 * e - 2 ^ 30 * fall e

abbrev pub end : ℕ → ℕ
end e = 2 ^ 9 * e + 2 ^ 44 * bend e - 2 ^ 31 * fall e

-- The six control points of (a curve squared) times (a line from y to z), each against m times its binomial number.
abbrev pub crest : (ℕ → ℕ → Bool) → ℕ → ℕ → ℕ → ℕ → ℕ → ℕ → Bool
crest test a b c y z m =
    test (a * a * y) m
    && (test (4 * (a * b) * y + a * a * z) (5 * m)
    && (test ((4 * (b * b) + 2 * (a * c)) * y + 4 * (a * b) * z) (10 * m)
    && (test (4 * (b * c) * y + (4 * (b * b) + 2 * (a * c)) * z) (10 * m)
    && (test (c * c * y + 4 * (b * c) * z) (5 * m)
    && test (c * c * z) m))))

-- The curve is nowhere too high for l * (y + 1), and lowered by `cut` nowhere too low for l * y.
abbrev pub under : ℕ → ℕ → ℕ → Bool
under l i e = crest leb (start e) (middle e) (end e) (l * (i * 2 ^ 22 + 1)) (l * (i * 2 ^ 22 + 1 + 2 ^ 22)) (2 ^ 174)

abbrev pub over : ℕ → ℕ → ℕ → Bool
over l i e = crest (λ x m. leb m x) (start e - cut) (middle e - cut) (end e - cut) (l * (i * 2 ^ 22)) (l * (i * 2 ^ 22 + 2 ^ 22)) (nearly * nearly * 2 ^ 110)

-- The entry fits, its control points do not fall below `cut`, and it is neither too high nor too low.
abbrev pub good : ℕ → ℕ → ℕ → Bool
good l i e =
    leb e (2 ^ 63)
    && (leb (2 ^ 30 * fall e + cut) (2 ^ 9 * e)
    && (leb (2 ^ 31 * fall e + cut) (2 ^ 9 * e + 2 ^ 44 * bend e)
    && (under l i e && over l i e)))

-- The entry at place j of the table: the first half is for z = 2 * y, the second for z = y.
pub record Entry (j e : ℕ) : Type 0 where
  pub test : T (good (2 - j / 256) (256 + j % 256) e)
