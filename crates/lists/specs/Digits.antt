-- Numbers in hexadecimal, in either case. Definitions only.
use Rattle.std.specs.Prelude.{ℕ, ◌+◌, ◌-◌, ◌*◌, Bool, true, ◌&&◌, cond, List, [], ◌∷◌, Option, Some, None, leb, ltb}

-- what a character is among the n from `low` on, of which the first stands for `first`; else what is given
unfoldable pub among_of : ℕ → ℕ → ℕ → ℕ → ℕ → ℕ
among_of c low n first other = cond (leb low c && ltb c (low + n)) (c - low + first) other

-- what a character stands for as a digit: 0 to 9, A to F, a to f; 16 where it is none of them
unfoldable pub digit_of : ℕ → ℕ
digit_of c = among_of c 97 6 10 (among_of c 65 6 10 (among_of c 48 10 0 16))

-- the digit, if it is one
abbrev pub read_digit : ℕ → Option ℕ
read_digit c = cond (ltb (digit_of c) 16) (Some (digit_of c)) None

-- whether all of a text are digits
unfoldable pub hexadecimal : List ℕ → Bool
hexadecimal [] = true
hexadecimal (c ∷ s) = ltb (digit_of c) 16 && hexadecimal s

-- the value of a text's digits, read after a number n, and of a text alone
unfoldable pub number_from : ℕ → List ℕ → ℕ
number_from n [] = n
number_from n (c ∷ s) = number_from (n * 16 + digit_of c) s

abbrev pub number_of : List ℕ → ℕ
number_of s = number_from 0 s

-- the number, if all are digits
abbrev pub read_number : List ℕ → Option ℕ
read_number s = cond (hexadecimal s) (Some (number_of s)) None
