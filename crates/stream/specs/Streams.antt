-- What is written for what is read: the answer to each whole record, one after the other; a cut-off last record has none. Definitions only.
use Rattle.std.specs.Prelude.{ℕ, zero, suc, ◌*◌, ◌/◌, ◌≤◌, min, ◌≡◌, List, [], ◌∷◌, ◌++◌, length, take, drop}
use Rattle.stream.specs.Bytes.{bytes_of}

-- the answers f, of t bytes each, to the first n records of s bytes
abbrev pub answers : ℕ → ℕ → (List ℕ → ℕ) → ℕ → List ℕ → List ℕ
answers s t f zero input = []
answers s t f (suc n) input = bytes_of t (f (take s input)) ++ answers s t f n (drop s input)

-- ---- a whole stream

-- all that is written
abbrev pub streamed : ℕ → ℕ → (List ℕ → ℕ) → List ℕ → List ℕ
streamed s t f input = answers s t f (length input / s) input

-- the cut-off last record
abbrev pub cut_off : ℕ → List ℕ → List ℕ
cut_off s input = drop (s * (length input / s)) input

-- the same of a stream that comes in pieces: what one piece cuts off is carried over and stands before the next
abbrev pub in_pieces : ℕ → ℕ → (List ℕ → ℕ) → List ℕ → List (List ℕ) → List ℕ
in_pieces s t f carried [] = []
in_pieces s t f carried (p ∷ ps) = streamed s t f (carried ++ p) ++ in_pieces s t f (cut_off s (carried ++ p)) ps

abbrev pub joined : List (List ℕ) → List ℕ
joined [] = []
joined (p ∷ ps) = p ++ joined ps

-- ---- one piece, in slices

-- how many records are whole and have room for their answers
abbrev pub whole : ℕ → ℕ → List ℕ → List ℕ → ℕ
whole s t input before = min (length input / s) (length before / t)

-- how many bytes are answers, and all that the slice of answers holds afterwards
pub record Answered (s t : ℕ) (f : List ℕ → ℕ) (input before after : List ℕ) (count : ℕ) : Type 0 where
  pub count-is : count ≡ t * whole s t input before
  pub after_is : after ≡ answers s t f (whole s t input before) input ++ drop (t * whole s t input before) before
  -- these two follow, and are stated so that a caller's `&out[..count]` needs no proof
  pub room : count ≤ length after
  pub part : count ≡ length (take count after)
