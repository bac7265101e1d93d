-- What a question's operands stand for, as text: words in hexadecimal, numbers in decimal. Definitions only.
use Rattle.std.specs.Prelude.{ℕ, ◌+◌, ◌-◌, ◌*◌, ◌%◌, cond, List, [], ◌∷◌, leb, ltb, eqb, length, drop, get_or, Option, None, Some}

-- what a character stands for as a digit: 0 to 9, A to F, a to f; 16 where it is none of them
abbrev pub digit_of : ℕ → ℕ
digit_of c =
    cond (ltb c 48) 16
    (cond (ltb c 58) (c - 48)
    (cond (ltb c 65) 16
    (cond (ltb c 71) (c - 55)
    (cond (ltb c 97) 16
    (cond (ltb c 103) (c - 87) 16)))))

-- a digit of a base
abbrev pub read_digit : ℕ → ℕ → Option ℕ
read_digit base c = cond (ltb (digit_of c) base) (Some (digit_of c)) None

-- the number of digits in a base that follow those of acc
abbrev pub read_from : ℕ → ℕ → List ℕ → Option ℕ
read_from base acc [] = Some acc
read_from base acc (c ∷ s) = cond (ltb (digit_of c) base) (read_from base (acc * base + digit_of c) s) None

-- a number of 1 to 16 digits
abbrev pub read_number : ℕ → List ℕ → Option ℕ
read_number base s = cond (eqb (length s) 0) None (cond (leb (length s) 16) (read_from base 0 s) None)

-- where the digits of a word begin: after 0x or 0X
abbrev pub digits_start : List ℕ → ℕ
digits_start s =
    cond (ltb (length s) 2) 0
    (cond (eqb (get_or s 0 0) 48)
    (cond (eqb (get_or s 1 0) 120) 2
    (cond (eqb (get_or s 1 0) 88) 2 0)) 0)

-- a word of exactly as many hexadecimal digits
abbrev pub read_word : ℕ → List ℕ → Option ℕ
read_word digits s = cond (eqb (length s - digits_start s) digits) (read_number 16 (drop (digits_start s) s)) None

-- a number that is at most some other
abbrev pub within : ℕ → Option ℕ → Option ℕ
within most None = None
within most (Some n) = cond (leb n most) (Some n) None

-- a u32 in decimal
abbrev pub read_unsigned : List ℕ → Option ℕ
read_unsigned s = within 4294967295 (read_number 10 s)

-- an i32 in decimal, as the word of 32 bits that stands for it
abbrev pub negated : Option ℕ → Option ℕ
negated None = None
negated (Some n) = cond (leb n 2147483648) (Some ((4294967296 - n) % 4294967296)) None

abbrev pub read_signed : List ℕ → Option ℕ
read_signed s =
    cond (eqb (length s) 0) None
    (cond (eqb (get_or s 0 0) 45) (negated (read_number 10 (drop 1 s)))
    (within 2147483647 (read_number 10 s)))
