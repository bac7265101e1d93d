-- Demand 3: what the root is after any number of digit rounds, and after all of them. Definitions only.
-- For a positive finite word x of a format of p digits, W is the operand's whole significand (document 01, "Root").
use Rattle.std.specs.Prelude.{ℕ, ◌+◌, ◌-◌, ◌*◌, ◌%◌, ◌^◌, ◌≤◌, ◌<◌, ◌≡◌}
use Rattle.std.specs.Float.Ieee.{size}
use Rattle.words.specs.Format.{Format, low, hid, infinity, units}
use Rattle.words.specs.Nearest.{square}
use Rattle.root.specs.Root.{digits_at, left_at, significand, whole_of}

-- x = W * 2 ^ (1 - p) * 4 ^ E, with E + emax - 1 = h: a unit is 2 ^ -(emax + p - 2), so x is W * 4 ^ h / 2 ^ (emax - 1) units
pub record ScaledOperand (f : Format) (x h : ℕ) : Type 0 where
  pub value : whole_of f x * 4 ^ h ≡ units f x * 2 ^ (f.emax - 1)
  pub least : 2 ^ (f.digits - 1) ≤ whole_of f x
  pub below : whole_of f x < 2 ^ (f.digits + 1)

-- After k rounds `digits` is the largest number of k binary digits whose square does not pass the scaled operand, and `left` is exactly what is left.
pub record AfterRounds (f : Format) (x k digits left : ℕ) : Type 0 where
  pub not-past : 2 ^ (f.digits + 1) * square digits ≤ 4 ^ k * whole_of f x
  pub largest : (q : ℕ) → 2 ^ (f.digits + 1) * square q ≤ 4 ^ k * whole_of f x → q ≤ digits
  pub next_past : 4 ^ k * whole_of f x < 2 ^ (f.digits + 1) * square (digits + 1)
  pub left_over : left + 2 ^ (f.digits + 2 - k) * square digits ≡ 2 ^ (k + 1) * whole_of f x
  pub digits-size : size digits ≡ k

-- After all rounds: the result r is a normal number, s in steps of 2 ^ h units, s of p digits, and strictly less than half such a step from the exact root.
-- The root of x in units is that of units * 2 ^ low, so twice the root stands to twice the result as 4 * units * 2 ^ low to its square.
pub record HalfUnit (f : Format) (x r s h : ℕ) : Type 0 where
  pub normal : (hid f ≤ r) × (r < infinity f)
  pub value : units f r ≡ s * 2 ^ h
  pub digits : (2 ^ (f.digits - 1) ≤ s) × (s < 2 ^ f.digits)
  pub after : square (2 * s - 1) < 2 ^ (f.digits + 1) * whole_of f x
  pub before : 2 ^ (f.digits + 1) * whole_of f x < square (2 * s + 1)
  pub after-units : square (2 * units f r - 2 ^ h) < 4 * (units f x * 2 ^ low f)
  pub before-units : 4 * (units f x * 2 ^ low f) < square (2 * units f r + 2 ^ h)

-- Exactness: where nothing is left after all rounds the digits are even and twice S is the root of 2 ^ (p + 1) * W, and only there is that a square.
pub record Exact (f : Format) (x : ℕ) : Type 0 where
  pub even : left_at f.digits (whole_of f x) (f.digits + 1) ≡ 0 → digits_at f.digits (whole_of f x) (f.digits + 1) % 2 ≡ 0
  pub exact : left_at f.digits (whole_of f x) (f.digits + 1) ≡ 0 → square (2 * significand f.digits (whole_of f x)) ≡ 2 ^ (f.digits + 1) * whole_of f x
  pub only : (s : ℕ) → square s ≡ 2 ^ (f.digits + 1) * whole_of f x → left_at f.digits (whole_of f x) (f.digits + 1) ≡ 0
