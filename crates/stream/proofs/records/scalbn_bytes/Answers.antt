-- `stream::records::scalbn_bytes` meets its contract. Assumes nothing.
use Rattle.words.specs.Format.{ours}
use Rattle.stream.specs.Records.{scaled_of}
use Rattle.stream.proofs.records.scalbn_bytes.Goals as goal

pub returns : goal.returns
returns g c = rw c.SIZE.ensures at c.answer_each.ensures (scaled_of (ours g.F.Width.format) g.F.Word.LittleEndian.SIZE) (λ r w long says. says)
