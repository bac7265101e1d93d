-- Request 8: two engines, one root. Definitions only.
-- Both engines promise `Rounds` (root/specs/Engine.antt) of the operand's W; the digit engine answers the partial roots.
use Rattle.std.specs.Prelude.{ℕ, ◌+◌, ◌-◌, ◌*◌, ◌/◌, ◌%◌, ◌^◌, ◌<◌, ◌≡◌}
use Rattle.words.specs.Format.{Format, format, binary64, hid, infinity, units}
use Rattle.root.specs.Root.{lifted, halves, whole_of, root_word}
use Rattle.root.specs.Partial.{partial_root}
use Rattle.root.specs.Engine.{Rounds}

-- digits and left-over are those of the digit engine after all rounds, and the word that they make is the root's: the odd digit raised, and halved
pub record SameAsDigits (f : Format) (x digits left : ℕ) : Type 0 where
  pub same_digits : digits ≡ (partial_root f x (f.digits + 1)).digits
  pub same_left : left ≡ (partial_root f x (f.digits + 1)).left
  pub same_word : halves f.digits (lifted f (units f x)) * hid f + (digits + digits % 2) / 2 ≡ root_word f x

-- so it is with every engine that meets the digit engine's promise after all p + 1 rounds
abbrev pub EnginesAgree : Format → Type 0
EnginesAgree f = (x digits left : ℕ) → 0 < x → x < infinity f → Rounds f.digits (whole_of f x) (f.digits + 1) digits left → SameAsDigits f x digits left

-- The root of a narrower format from that of f64: x's fields moved to f64's places, the f64 root rounded once more to p digits, the exponent moved back.
abbrev pub NarrowRoots : ℕ → ℕ → Type 0
NarrowRoots p e =
    (x : ℕ) → 0 < x → x < infinity (format p e)
    → (root_word binary64 (x * 2 ^ (53 - p)) + 2 ^ (52 - p)) / 2 ^ (53 - p) ≡ (1023 - e) / 2 * 2 ^ (p - 1) + root_word (format p e) x
