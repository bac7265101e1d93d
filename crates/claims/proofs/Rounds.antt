-- Demand 3, for every positive finite word, subnormals included, at each width: proved from the laws of `root`, once over the format. Assumes nothing.
use Prim.Native.Nat.{ℕ, zero, suc, ◌+◌, ◌≤◌, ◌<◌}
use mathlib.Core.Path.{◌≡◌, refl, sym, ap, subst}
use native.Mathlib.Omega.{arith}
use lib.Ieee.{size}
use Rattle.words.specs.Format.{Format, binary32, binary64, infinity, units}
use Rattle.words.specs.Refusal.{done}
use Rattle.root.specs.Root.{floor_root, digits_at, left_at, significand, lifted, halves, whole_of, root_word}
use Rattle.root.specs.Partial.{partial_root}
use Rattle.root.specs.declared.partial.PartialRoot.{PartialRoot}
use Rattle.root.proofs.Words.{Fine, partial-done}
use Rattle.root.proofs.Sentences.{operand-is, operand-range, rounds-low, rounds-high, rounds-largest, rounds-left, rounds-size, root-exact, root-exact-only, root-near, root-digits, root-units, root-normal, root-square-low, root-square-high}
use Rattle.claims.specs.Rounds.{ScaledOperand, AfterRounds, HalfUnit, Exact}

-- E + emax - 1 of an operand
abbrev pub power-of-four : Format → ℕ → ℕ
power-of-four f x = halves f.digits (lifted f (units f x))

module _ (f : Format) (g : Fine f) (small : f.digits ≤ 60) (x : ℕ) (some : 0 < x) (below : x < infinity f) where
  scaled-operand : ScaledOperand f x (power-of-four f x)
  scaled-operand = record { value = operand-is f x g small some below; least = (operand-range f x g small some below).0; below = (operand-range f x g small some below).1 }

  size_is : (k : ℕ) → k ≤ f.digits + 1 → size (digits_at f.digits (whole_of f x) k) ≡ k
  unfolding digits_at floor_root size
  size_is zero h = nothing
    where
      nothing : size (digits_at f.digits (whole_of f x) 0) ≡ 0
      nothing = refl
  size_is (suc k) h = rounds-size f x g small some below k h

  after-rounds : (k : ℕ) → k ≤ f.digits + 1 → AfterRounds f x k (digits_at f.digits (whole_of f x) k) (left_at f.digits (whole_of f x) k)
  after-rounds k h = record {
    not-past = rounds-low f x g small some below k h;
    largest = λ q l. rounds-largest f x g small some below k q h l;
    next_past = rounds-high f x g small some below k h;
    left_over = rounds-left f x g small some below k h;
    digits-size = size_is k h;
  }

  -- what a partial root answers
  answered : (k : ℕ) → k ≤ f.digits + 1
      → ((partial_root f x k).number ≡ done) × ((partial_root f x k).rounds ≡ k) × AfterRounds f x k (partial_root f x k).digits (partial_root f x k).left
  answered k h =
      let e = partial-done f x k some below h in
      (ap (λ (a : PartialRoot). a.number) e, ap (λ (a : PartialRoot). a.rounds) e, subst (λ (a : PartialRoot). AfterRounds f x k a.digits a.left) (sym e) (after-rounds k h))

  half-unit : HalfUnit f x (root_word f x) (significand f.digits (whole_of f x)) (power-of-four f x)
  half-unit =
      let n = root-near f x g small some below in
      record {
        normal = root-normal f x g small some below;
        value = root-units f x g small some below;
        digits = root-digits f x g small some below;
        after = n.after;
        before = n.before;
        after-units = root-square-low f x g small some below;
        before-units = root-square-high f x g small some below;
      }

  exact-root : Exact f x
  exact-root = record {
    even = λ z. (root-exact f x g small some below z).0;
    exact = λ z. (root-exact f x g small some below z).1;
    only = λ s e. root-exact-only f x g small some below s e;
  }

-- ---- at each width

single : Fine binary32
single = omega arith

double : Fine binary64
double = omega arith

-- "For every positive finite operand, subnormals included, the root after any number of digit rounds is the largest number of that many binary digits whose square does not pass the scaled operand, with the exact left-over beside it."
pub demand-3-rounds-32 : (x k : ℕ) → 0 < x → x < infinity binary32 → k ≤ 25
    → ((partial_root binary32 x k).number ≡ done) × ((partial_root binary32 x k).rounds ≡ k) × AfterRounds binary32 x k (partial_root binary32 x k).digits (partial_root binary32 x k).left
demand-3-rounds-32 x k some below h = answered binary32 single (omega arith) x some below k h

pub demand-3-rounds-64 : (x k : ℕ) → 0 < x → x < infinity binary64 → k ≤ 54
    → ((partial_root binary64 x k).number ≡ done) × ((partial_root binary64 x k).rounds ≡ k) × AfterRounds binary64 x k (partial_root binary64 x k).digits (partial_root binary64 x k).left
demand-3-rounds-64 x k some below h = answered binary64 double (omega arith) x some below k h

-- "After all rounds the result is a normal number strictly less than half a unit from the exact root, as an inequality of whole squares."
pub demand-3-half-unit-32 : (x : ℕ) → 0 < x → x < infinity binary32 → HalfUnit binary32 x (root_word binary32 x) (significand 24 (whole_of binary32 x)) (power-of-four binary32 x)
demand-3-half-unit-32 x some below = half-unit binary32 single (omega arith) x some below

pub demand-3-half-unit-64 : (x : ℕ) → 0 < x → x < infinity binary64 → HalfUnit binary64 x (root_word binary64 x) (significand 53 (whole_of binary64 x)) (power-of-four binary64 x)
demand-3-half-unit-64 x some below = half-unit binary64 double (omega arith) x some below

-- "The root is exact when the last left-over is 0; Q is then even."
pub demand-3-exact-32 : (x : ℕ) → 0 < x → x < infinity binary32 → Exact binary32 x
demand-3-exact-32 x some below = exact-root binary32 single (omega arith) x some below

pub demand-3-exact-64 : (x : ℕ) → 0 < x → x < infinity binary64 → Exact binary64 x
demand-3-exact-64 x some below = exact-root binary64 double (omega arith) x some below

-- the operand that the digits are held against is x itself, scaled by a power of 4
pub demand-3-operand-32 : (x : ℕ) → 0 < x → x < infinity binary32 → ScaledOperand binary32 x (power-of-four binary32 x)
demand-3-operand-32 x some below = scaled-operand binary32 single (omega arith) x some below

pub demand-3-operand-64 : (x : ℕ) → 0 < x → x < infinity binary64 → ScaledOperand binary64 x (power-of-four binary64 x)
demand-3-operand-64 x some below = scaled-operand binary64 double (omega arith) x some below
