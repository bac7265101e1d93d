-- `stream::records::pow_bytes` meets its contract. Assumes nothing.
use Rattle.power.specs.Power.{pow_of}
use Rattle.stream.specs.Records.{power_of}
use Rattle.stream.proofs.records.pow_bytes.Goals as goal

pub returns : goal.returns
returns g c = rw c.SIZE.ensures at c.answer_each.ensures (power_of (pow_of g.F.Chain.width) g.F.Word.LittleEndian.SIZE) (λ r w long says. says)
