-- The constants of the Rust's powf, as words: document 01, "Power". Definitions only.
-- How each word is known stands beside its name: "the comment" is the Rust's hexadecimal comment, and where it has none the word is the nearest to the Rust's decimal.
-- Compiled, the Rust's constants have these words, every one: no comment differs from them.
use Rattle.std.specs.Prelude.{ℕ, List, [], ◌∷◌}

unfoldable pub table32 : List ℕ
table32 =
    -- BP[0]: 1.0, exact
    0x3f800000 ∷
    -- BP[1]: 1.5, exact
    0x3fc00000 ∷
    -- DP_H[0]: 0.0, exact
    0x00000000 ∷
    -- DP_H[1]: the comment
    0x3f15c000 ∷
    -- DP_L[0]: 0.0, exact
    0x00000000 ∷
    -- DP_L[1]: the comment
    0x35d1cfdc ∷
    -- TWO24: 16777216.0, the comment and exact
    0x4b800000 ∷
    -- HUGE: 1.0e30, nearest to the decimal
    0x7149f2ca ∷
    -- TINY: 1.0e-30, nearest to the decimal
    0x0da24260 ∷
    -- L1: the comment
    0x3f19999a ∷
    -- L2: the comment
    0x3edb6db7 ∷
    -- L3: the comment
    0x3eaaaaab ∷
    -- L4: the comment
    0x3e8ba305 ∷
    -- L5: the comment
    0x3e6c3255 ∷
    -- L6: the comment
    0x3e53f142 ∷
    -- P1: the comment
    0x3e2aaaab ∷
    -- P2: the comment
    0xbb360b61 ∷
    -- P3: the comment
    0x388ab355 ∷
    -- P4: the comment
    0xb5ddea0e ∷
    -- P5: the comment
    0x3331bb4c ∷
    -- LG2: the comment
    0x3f317218 ∷
    -- LG2_H: the comment
    0x3f317200 ∷
    -- LG2_L: the comment
    0x35bfbe8c ∷
    -- OVT: 4.2995665694e-08, nearest to the decimal
    0x3338aa3c ∷
    -- CP: the comment
    0x3f76384f ∷
    -- CP_H: the comment
    0x3f764000 ∷
    -- CP_L: the comment
    0xb8f623c6 ∷
    -- IVLN2: 1.4426950216e+00, nearest to the decimal
    0x3fb8aa3b ∷
    -- IVLN2_H: 1.4426879883e+00, nearest to the decimal
    0x3fb8aa00 ∷
    -- IVLN2_L: 7.0526075433e-06, nearest to the decimal
    0x36eca570 ∷
    -- THIRD: 0.333333333333, nearest to the decimal
    0x3eaaaaab ∷
    []
