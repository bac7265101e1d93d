-- Document 01's hand-checked values that are marked [P], as one list. Definitions only.
use Rattle.std.specs.Prelude.{ℕ, Bool, true, ◌&&◌, List, [], ◌∷◌, eqb, ℤ, negsuc}
use Rattle.words.specs.Format.{Format, binary32, binary64}
use Rattle.root.specs.Root.{root_word}
use Rattle.root.specs.Partial.{partial_root}
use Rattle.scale.specs.Scale.{scaled}
use Rattle.power.specs.Width.{Width}
use Rattle.power.specs.Power.{single, double, pow_of}

-- a root's operand and result; a partial root's operand, rounds, digits and left-over; a scaling's operand, exponent and result; a power's operands and result
pub data Case : Type 0 where
  root : Format → ℕ → ℕ → Case
  partly : Format → ℕ → ℕ → ℕ → ℕ → Case
  scale : Format → ℕ → ℤ → ℕ → Case
  power : Width → ℕ → ℕ → ℕ → Case

abbrev pub right : Case → Bool
right (root f x r) = eqb (root_word f x) r
right (partly f x k q left) = let r = partial_root f x k in eqb r.number 0 && eqb r.digits q && eqb r.left left && eqb r.rounds k
right (scale f x n r) = eqb (scaled f x n) r
right (power w x y r) = eqb (pow_of w x y) r

abbrev pub all : List Case → Bool
all [] = true
all (c ∷ cs) = right c && all cs

abbrev pub values : List Case
values =
    root binary32 0x0000_0001 0x1a35_04f3
    ∷ root binary32 0x4000_0000 0x3fb5_04f3
    ∷ root binary32 0x7f7f_ffff 0x5f7f_ffff
    ∷ root binary32 0x8000_0000 0x8000_0000
    ∷ root binary64 0x0000_0000_8000_0000 0x1f56_a09e_667f_3bcd
    ∷ partly binary32 0x4000_0000 3 5 58720256
    ∷ scale binary32 0x3f80_0000 (negsuc 148) 0x0000_0001
    ∷ scale binary32 0x3f80_0000 (negsuc 149) 0x0000_0000
    ∷ scale binary32 0x3fc0_0000 (negsuc 149) 0x0000_0001
    ∷ scale binary32 0x7f7f_ffff (negsuc 277) 0x0000_0000
    ∷ power single 0x8000_0000 0x3f00_0000 0x0000_0000
    ∷ power single 0xbf80_0000 0xff80_0000 0x3f80_0000
    ∷ power single 0x8000_0000 0xc040_0000 0xff80_0000
    ∷ power double 0x8000_0000_0000_0000 0x3fe0_0000_0000_0000 0x0000_0000_0000_0000
    ∷ power double 0xbff0_0000_0000_0000 0xfff0_0000_0000_0000 0x3ff0_0000_0000_0000
    ∷ power double 0x8000_0000_0000_0000 0xc008_0000_0000_0000 0xfff0_0000_0000_0000
    ∷ []
