-- A program's stream may be cut anywhere: in any number of pieces, of any sizes, the same is written. Assumes nothing.
-- What one piece cuts off of a record is carried over to the next; a cut-off last record is left out.
use Prim.Native.Nat.{ℕ, ◌/◌, ◌≤◌}
use mathlib.Core.Path.{◌≡◌}
use mathlib.Core.List.{List, []}
use lib.ListN.{length, take}
use native.Mathlib.Omega.{arith}
use Rattle.words.specs.Format.{binary32, binary64}
use Rattle.power.specs.Power.{pow32, pow64}
use Rattle.stream.specs.Streams.{Answered, streamed, in_pieces, joined}
use Rattle.stream.specs.Records.{root_of, scaled_of, power_of}
use Rattle.stream.proofs.Answers.{answered-whole}
use Rattle.stream.proofs.Cutting.{pieces}

-- where the slice of answers has room for all of them, the bytes that a call counts are all that is written for its input
pub piece-answered : {s t : ℕ} {f : List ℕ → ℕ} {input before after : List ℕ} {count : ℕ} → Answered s t f input before after count → length input / s ≤ length before / t → take count after ≡ streamed s t f input
piece-answered = answered-whole

pub sqrtf-cut-anywhere : (ps : List (List ℕ)) → in_pieces 4 4 (root_of binary32) [] ps ≡ streamed 4 4 (root_of binary32) (joined ps)
sqrtf-cut-anywhere ps = pieces 4 4 (root_of binary32) [] ps (omega arith) (omega arith)

pub sqrtd-cut-anywhere : (ps : List (List ℕ)) → in_pieces 8 8 (root_of binary64) [] ps ≡ streamed 8 8 (root_of binary64) (joined ps)
sqrtd-cut-anywhere ps = pieces 8 8 (root_of binary64) [] ps (omega arith) (omega arith)

pub scalbnf-cut-anywhere : (ps : List (List ℕ)) → in_pieces 8 4 (scaled_of binary32 4) [] ps ≡ streamed 8 4 (scaled_of binary32 4) (joined ps)
scalbnf-cut-anywhere ps = pieces 8 4 (scaled_of binary32 4) [] ps (omega arith) (omega arith)

pub scalbnd-cut-anywhere : (ps : List (List ℕ)) → in_pieces 12 8 (scaled_of binary64 8) [] ps ≡ streamed 12 8 (scaled_of binary64 8) (joined ps)
scalbnd-cut-anywhere ps = pieces 12 8 (scaled_of binary64 8) [] ps (omega arith) (omega arith)

pub powf-cut-anywhere : (ps : List (List ℕ)) → in_pieces 8 4 (power_of pow32 4) [] ps ≡ streamed 8 4 (power_of pow32 4) (joined ps)
powf-cut-anywhere ps = pieces 8 4 (power_of pow32 4) [] ps (omega arith) (omega arith)

pub powd-cut-anywhere : (ps : List (List ℕ)) → in_pieces 16 8 (power_of pow64 8) [] ps ≡ streamed 16 8 (power_of pow64 8) (joined ps)
powd-cut-anywhere ps = pieces 16 8 (power_of pow64 8) [] ps (omega arith) (omega arith)
