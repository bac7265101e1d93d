-- The bytes of a line in their array: no more than there are, others after them as far as there is room, and zeros after those that count. Assumes nothing.
use Prim.Native.Nat.{ℕ, ◌+◌, ◌-◌, min}
use mathlib.Core.Path.{◌≡◌, refl, sym, ap, ◌∙◌}
use mathlib.Core.List.{List, ◌++◌}
use native.Mathlib.Omega.{arith}
use lib.ListN.{length, take, replicate}
use lib.Seq.{take-append-add, length-take-le, take_at}
use Rattle.std.proofs.lemmas.List.{take_min}
use Rattle.lists.specs.Reader.{text_of, line_of}

-- bytes that follow those that count, as far as there is room
pub joined-kept : (bytes s : List ℕ) (n held more : ℕ) → length bytes ≡ 37 → held ≡ min n 37 → more ≡ min (length s) (37 - held)
    → take held bytes ++ take more s ≡ take 37 (take n bytes ++ s)
joined-kept bytes s n held more e h m =
    ap (λ (z : List ℕ). take held bytes ++ z) (ap (λ (n : ℕ). take n s) (m ∙ omega arith) ∙ take_min (37 - held) s)
    ∙ sym (take-append-add (take held bytes) s (37 - held))
    ∙ ap (λ (z : ℕ). take z (take held bytes ++ s)) room
    ∙ ap (λ (z : List ℕ). take 37 (z ++ s)) (ap (λ (k : ℕ). take k bytes) (h ∙ ap (min n) (sym e)) ∙ take_min n bytes)
  where
    room : length (take held bytes) + (37 - held) ≡ 37
    room = omega (arith, length-take-le held bytes (omega arith))

-- ---- a line that is handed out has the bytes that were kept, and no others count

pub text-of-line : (l : List ℕ) → text_of (line_of l) ≡ l
text-of-line l = take_at l (replicate (37 - length l) 0) (length l) refl
