-- `writer::whole::write` meets its contract. Assumes nothing.
use Rattle.writer.proofs.Replied.{told_result}
use Rattle.writer.proofs.whole.write.Goals as goal

pub returns : goal.returns
returns c = told_result _ c.written.result _ c.written.ensures c.from.ensures
