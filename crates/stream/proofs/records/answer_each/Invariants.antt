-- `stream::records::answer_each` puts the answers in place, one record after the other. Assumes nothing.
use Rattle.std.proofs.Common.{◌≡◌, ℕ, List, length}
use Rattle.std.specs.Iterator.Adapters.{take_source, take_count}
use Rattle.std.specs.Slice.Iter.{chunks_exact_rest, chunks_exact_size}
use Rattle.stream.proofs.Answers.{Turn, Filled}
use Rattle.stream.proofs.records.answer_each.Given as goal

abbrev pub invariant-loop-record : goal.invariant-loop-record
invariant-loop-record g l =
    (goal.iterator-loop-record g).can_next l.record-iterator
    × (goal.iterator-loop-record g).is_finite l.record-iterator
    × (chunks_exact_size (take_source l.record-iterator) ≡ l.size)
    × ((i : ℕ)
    × Turn l.size g.W.LittleEndian.SIZE l.input l.initial.out i (chunks_exact_rest (take_source l.record-iterator)) (take_count l.record-iterator) l.count l.out
    × ((f : List ℕ → ℕ)
    → ((r : _) (w : _) → length r.now ≡ l.size → goal.A-post g l.answer r w → g.W.Word.number w ≡ f r.now)
    → Filled l.size g.W.LittleEndian.SIZE f l.input l.initial.out i l.out))
