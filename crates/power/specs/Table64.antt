-- The constants of the Rust's powd, as words: document 01, "Power". Definitions only.
-- How each word is known stands beside its name: "the comment" is the Rust's hexadecimal comment, and where it has none the word is the nearest to the Rust's decimal.
-- Compiled, the Rust's constants have these words, every one: no comment differs from them.
use Rattle.std.specs.Prelude.{ℕ, List, [], ◌∷◌}

unfoldable pub table64 : List ℕ
table64 =
    -- BP[0]: 1.0, exact
    0x3ff0000000000000 ∷
    -- BP[1]: 1.5, exact
    0x3ff8000000000000 ∷
    -- DP_H[0]: 0.0, exact
    0x0000000000000000 ∷
    -- DP_H[1]: the comment
    0x3fe2b80340000000 ∷
    -- DP_L[0]: 0.0, exact
    0x0000000000000000 ∷
    -- DP_L[1]: the comment
    0x3e4cfdeb43cfd006 ∷
    -- TWO53: 9007199254740992.0, the comment and exact
    0x4340000000000000 ∷
    -- HUGE: 1.0e300, nearest to the decimal
    0x7e37e43c8800759c ∷
    -- TINY: 1.0e-300, nearest to the decimal
    0x01a56e1fc2f8f359 ∷
    -- L1: the comment
    0x3fe3333333333303 ∷
    -- L2: the comment
    0x3fdb6db6db6fabff ∷
    -- L3: the comment
    0x3fd55555518f264d ∷
    -- L4: the comment
    0x3fd17460a91d4101 ∷
    -- L5: the comment
    0x3fcd864a93c9db65 ∷
    -- L6: the comment
    0x3fca7e284a454eef ∷
    -- P1: the comment
    0x3fc555555555553e ∷
    -- P2: the comment
    0xbf66c16c16bebd93 ∷
    -- P3: the comment
    0x3f11566aaf25de2c ∷
    -- P4: the comment
    0xbebbbd41c5d26bf1 ∷
    -- P5: the comment
    0x3e66376972bea4d0 ∷
    -- LG2: the comment
    0x3fe62e42fefa39ef ∷
    -- LG2_H: the comment
    0x3fe62e4300000000 ∷
    -- LG2_L: the comment
    0xbe205c610ca86c39 ∷
    -- OVT: 8.0085662595372944372e-017, nearest to the decimal
    0x3c971547652b82fe ∷
    -- CP: the comment
    0x3feec709dc3a03fd ∷
    -- CP_H: the comment
    0x3feec709e0000000 ∷
    -- CP_L: the comment
    0xbe3e2fe0145b01f5 ∷
    -- IVLN2: the comment
    0x3ff71547652b82fe ∷
    -- IVLN2_H: the comment
    0x3ff7154760000000 ∷
    -- IVLN2_L: the comment
    0x3e54ae0bf85ddf44 ∷
    -- THIRD: 0.3333333333333333333333, nearest to the decimal
    0x3fd5555555555555 ∷
    []
