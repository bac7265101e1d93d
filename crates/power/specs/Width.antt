-- What differs between the open chains of the two widths, and the small records in which the chain hands its numbers on. Definitions only.
use Rattle.std.specs.Prelude.{ℕ, List, Float}
use Rattle.std.specs.Float.{Format}

pub record Width : Type 0 where
  pub format : Format
  -- the constants' words, in the order of the tables
  pub table : List ℕ
  -- how many low digits of a word a leading part lacks, and in the exponential
  pub short : ℕ
  pub shorter : ℕ
  -- how many digits of a word stand below the high word that the chain's tests read: none for f32
  pub below : ℕ
  -- |y| above `huge` is large, and above `must` so large that every x over- or underflows; there x below `less` or above `more` does. High words
  pub huge : ℕ
  pub must : ℕ
  pub less : ℕ
  pub more : ℕ
  -- the digits below the leading one from which k is 1, and from which it is 0 again with n one more
  pub first : ℕ
  pub second : ℕ
  -- the words of the z from which on the power overflows, and of the size of the z from which on it underflows
  pub large : ℕ
  pub small : ℕ

-- a number in two parts: p_h and p_l, t1 and t2, z and w
pub record Two : Type 0 where
  pub hi : Float
  pub lo : Float

-- s, and its two parts s_h and s_l
pub record Three : Type 0 where
  pub s : Float
  pub hi : Float
  pub lo : Float

-- ax = 2 ^ n * z, z the float of `word`: k says which of the constants in pairs go with z, and n is e less digits + emax
pub record Reduction : Type 0 where
  pub word : ℕ
  pub k : ℕ
  pub e : ℕ

-- n = [z + 0.5] as a size, and t, the same as a float with its sign
pub record Nearest : Type 0 where
  pub size : ℕ
  pub float : Float
