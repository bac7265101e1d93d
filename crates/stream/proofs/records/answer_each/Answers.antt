-- `stream::records::answer_each` meets its contract, by the laws of answers. Assumes nothing.
use Rattle.std.proofs.Common.{rules, ◌+◌, ◌∙◌, ap}
use Rattle.stream.specs.Bytes.{bytes_of}
use Rattle.stream.proofs.Answers.{record_is, there_is, room_is, turned, put_there, one_more, all_turned, finish}
use Rattle.stream.proofs.records.answer_each.Goals as goal

pub loop-record-preserved : goal.loop-record-preserved
loop-record-preserved g c =
    let size = c.loop-record.invariant.2 in
    let (i, turn, so_far) = c.loop-record.invariant.3 in
    let (chunk, one) = c.in-Some.ensures.steps in
    let parts = chunk.1.0 in
    let long = chunk.1.1 ∙ size in
    let w = g.W.Word.number c.answer.result in (
      search rules,
      tt,
      chunk.0 ∙ size,
      (
        i + 1,
        rw c.SIZE-count.ensures (turned _ _ turn parts long one (search rules)),
        λ f says.
            one_more {w = w}
            (so_far f says)
            (there_is _ _ turn parts long c.requires.some)
            (says c.in-Some.record c.answer.result long c.answer.ensures ∙ ap f (record_is _ _ turn parts long))
            (put_there _ _ c.loop-record.count c.loop-record.out c.put.new.out (bytes_of _ w) turn.count-is (room_is _ turn one) c.put.ensures),
      ),
    )

pub returns : goal.returns
returns g c = λ f says.
    let (i, turn, so_far) = c.loop-record.invariant.3 in
    let none = c.in-None.ensures.steps in
    finish turn (so_far f says) (all_turned turn c.requires.some (λ some. rw c.loop-record.invariant.2 at (none some).1.0))
