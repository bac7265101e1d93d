-- The one rounding of root and scaling is IEEE 754's, for every format and at each of the three, and it fixes the word. Assumes nothing.
use Prim.Native.Nat.{ℕ, ◌+◌, ◌-◌, ◌*◌, ◌^◌, ◌≤◌, ◌<◌}
use mathlib.Core.Path.{◌≡◌}
use native.Mathlib.Omega.{arith}
use lib.Dec.{ltb}
use Rattle.words.specs.Format.{Format, binary16, binary32, binary64, infinity, units}
use Rattle.words.specs.Rounding.{even, rounded_at, rounded}
use Rattle.words.specs.Nearest.{Nearest, NearestRoot, overflow_from}
use Rattle.words.proofs.Nearest.{rounded-is-nearest, infinite-only, nearest-unique, overflow-half}
use Rattle.words.proofs.NearestRoot.{nearest-root-unique}
use Rattle.root.specs.Root.{digits_at, left_at, lifted, halves, whole_of, root_word}
use Rattle.root.proofs.Words.{Fine}
use Rattle.root.proofs.Sentences.{root-once}

-- no finite word is nearer, of two equally near the even one, infinity from half a unit above the largest finite number on
pub rounding-16 : (num den : ℕ) → 0 < den → Nearest binary16 num den (rounded binary16 num den)
rounding-16 num den D = rounded-is-nearest binary16 num den (omega arith) (omega arith) D

pub rounding-32 : (num den : ℕ) → 0 < den → Nearest binary32 num den (rounded binary32 num den)
rounding-32 num den D = rounded-is-nearest binary32 num den (omega arith) (omega arith) D

pub rounding-64 : (num den : ℕ) → 0 < den → Nearest binary64 num den (rounded binary64 num den)
rounding-64 num den D = rounded-is-nearest binary64 num den (omega arith) (omega arith) D

-- infinity only from there on, and where that is: half a spacing above the largest finite number
pub infinity-only-from : (f : Format) (num den r : ℕ) → Nearest f num den r → r ≡ infinity f → overflow_from f * den ≤ 2 * num
infinity-only-from = infinite-only

pub overflow-is : (f : Format) → 0 < f.digits → 1 ≤ f.emax → overflow_from f ≡ 2 * units f (infinity f - 1) + 2 ^ (2 * f.emax - 1)
overflow-is = overflow-half

-- only one word is nearest, to a fraction and to a root
pub nearest-fixes : (f : Format) (num den r s : ℕ) → 0 < f.digits → 0 < den → Nearest f num den r → Nearest f num den s → r ≡ s
nearest-fixes = nearest-unique

pub nearest-root-fixes : (f : Format) (v r s : ℕ) → 0 < f.digits → NearestRoot f v r → NearestRoot f v s → r ≡ s
nearest-root-fixes = nearest-root-unique

-- the root's word is the same rounding, `rounded_at` with the rule `even`, of the digits after all rounds and of whether anything is left
pub root-rounded-once : (f : Format) (x : ℕ) → Fine f → f.digits ≤ 60 → 0 < x → x < infinity f
    → root_word f x ≡ rounded_at even f (halves f.digits (lifted f (units f x))) (digits_at f.digits (whole_of f x) (f.digits + 1)) (ltb 0 (left_at f.digits (whole_of f x) (f.digits + 1)))
root-rounded-once = root-once
