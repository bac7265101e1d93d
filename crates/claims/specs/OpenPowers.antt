-- Open powers through every branch of the chain: the operands, and the bits that the original gives for them, compiled and run. Definitions only.
use Rattle.std.specs.Prelude.{List, [], ◌∷◌}
use Rattle.power.specs.Power.{single, double}
use Rattle.claims.specs.Values.{Case, power}

abbrev pub open_powers : List Case
open_powers =
    -- the interval where k is 1
    power single 0x3fc00000 0x40200000 0x40305cff
    ∷
    -- the first interval
    power single 0x3f8ccccd 0x40533333 0x3faf4f46
    ∷
    -- the third interval, y below 0
    power single 0x3ff33333 0xc0966666 0x3d488c43
    ∷
    -- a subnormal x
    power single 0x00000123 0x3e99999a 0x2a5815fc
    ∷
    -- a negative x and an odd y
    power single 0xbfd9999a 0x40400000 0xc09d374d
    ∷
    -- a small result
    power single 0x3f333333 0x43480000 0x0c07cd4d
    ∷
    -- no n is taken off z
    power single 0x3f800001 0x3e800000 0x3f800000
    ∷
    -- a subnormal result, which is scaled
    power single 0x41200000 0xc233999a 0x00000001
    ∷
    -- overflow
    power single 0x41200000 0x421c0000 0x7f800000
    ∷
    -- underflow of a negative result
    power single 0xc1200000 0xc23c0000 0x80000000
    ∷
    -- |y| above 2 ^ 27, x near 1
    power single 0x3f800002 0x4d3ebc20 0x61ddca4e
    ∷
    -- |y| above 2 ^ 27, x below 1
    power single 0x3f000000 0x4d8f0d18 0x00000000
    ∷
    -- |y| above 2 ^ 27, x above 1
    power single 0x40000000 0x4d8f0d18 0x7f800000
    ∷
    -- just within the overflow limit
    power single 0x40000000 0x42ffffff 0x7f7fffa7
    ∷
    -- at the underflow limit
    power single 0x40000000 0xc3160000 0x00000000
    ∷
    -- at the overflow limit
    power single 0x40000000 0x43000000 0x7f800000
    ∷
    -- the interval where k is 1
    power double 0x3ff8000000000000 0x4004000000000000 0x40060b9fd68a4554
    ∷
    -- the first interval
    power double 0x3ff199999999999a 0x400a666666666666 0x3ff5e9e8addf30c8
    ∷
    -- the third interval, y below 0
    power double 0x3ffe666666666666 0xc012cccccccccccd 0x3fa91188095e9fe8
    ∷
    -- a subnormal x
    power double 0x0000000000000123 0x3fd3333333333333 0x2bf319788463af64
    ∷
    -- a negative x and an odd y
    power double 0xbffb333333333333 0x4008000000000000 0xc013a6e978d4fdf3
    ∷
    -- no n is taken off z
    power double 0x3ff000001ad7f29b 0x3fd0000000000000 0x3ff0000006b5fca3
    ∷
    -- a subnormal result, which is scaled
    power double 0x4024000000000000 0xc073b4cccccccccd 0x00000000060bdf91
    ∷
    -- overflow
    power double 0x4024000000000000 0x4073500000000000 0x7ff0000000000000
    ∷
    -- underflow of a negative result
    power double 0xc024000000000000 0xc074b00000000000 0x8000000000000000
    ∷
    -- |y| above 2 ^ 31, x near 1
    power double 0x3ff0000000000100 0x41e65a0bc0000000 0x3ff000b2d44541ed
    ∷
    -- |y| above 2 ^ 31, x below 1
    power double 0x3fe0000000000000 0x41e65a0bc0000000 0x0000000000000000
    ∷
    -- |y| above 2 ^ 31, x above 1
    power double 0x4000000000000000 0x41e65a0bc0000000 0x7ff0000000000000
    ∷
    -- |y| above 2 ^ 64, x just below 1
    power double 0x3fefffffffffffff 0x4415af1d78b58c40 0x0000000000000000
    ∷
    -- |y| above 2 ^ 64, x just above 1
    power double 0x3ff0000000000001 0x4415af1d78b58c40 0x7ff0000000000000
    ∷
    -- at the underflow limit
    power double 0x4000000000000000 0xc090cc0000000000 0x0000000000000000
    ∷
    -- at the overflow limit
    power double 0x4000000000000000 0x4090000000000000 0x7ff0000000000000
    ∷ []
