-- `stream::records::sqrt_bytes` meets its contract. Assumes nothing.
use Rattle.words.specs.Format.{ours}
use Rattle.stream.specs.Records.{root_of}
use Rattle.stream.proofs.records.sqrt_bytes.Goals as goal

pub returns : goal.returns
returns g c = rw c.SIZE.ensures at c.answer_each.ensures (root_of (ours g.F.Width.format)) (λ r w long says. says)
