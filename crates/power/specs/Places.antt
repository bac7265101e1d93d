-- The places of the constants in the two tables, by the Rust's names with - for _. Definitions only.
-- BP, DP-H and DP-L are pairs, at k = 0 and k = 1. TWO is TWO24 or TWO53; THIRD is the one third that the Rust writes out.
use Rattle.std.specs.Prelude.{ℕ}

abbrev pub BP : ℕ
BP = 0

abbrev pub DP-H : ℕ
DP-H = 2

abbrev pub DP-L : ℕ
DP-L = 4

abbrev pub TWO : ℕ
TWO = 6

abbrev pub HUGE : ℕ
HUGE = 7

abbrev pub TINY : ℕ
TINY = 8

abbrev pub L1 : ℕ
L1 = 9

abbrev pub L2 : ℕ
L2 = 10

abbrev pub L3 : ℕ
L3 = 11

abbrev pub L4 : ℕ
L4 = 12

abbrev pub L5 : ℕ
L5 = 13

abbrev pub L6 : ℕ
L6 = 14

abbrev pub P1 : ℕ
P1 = 15

abbrev pub P2 : ℕ
P2 = 16

abbrev pub P3 : ℕ
P3 = 17

abbrev pub P4 : ℕ
P4 = 18

abbrev pub P5 : ℕ
P5 = 19

abbrev pub LG2 : ℕ
LG2 = 20

abbrev pub LG2-H : ℕ
LG2-H = 21

abbrev pub LG2-L : ℕ
LG2-L = 22

abbrev pub OVT : ℕ
OVT = 23

abbrev pub CP : ℕ
CP = 24

abbrev pub CP-H : ℕ
CP-H = 25

abbrev pub CP-L : ℕ
CP-L = 26

abbrev pub IVLN2 : ℕ
IVLN2 = 27

abbrev pub IVLN2-H : ℕ
IVLN2-H = 28

abbrev pub IVLN2-L : ℕ
IVLN2-L = 29

abbrev pub THIRD : ℕ
THIRD = 30
