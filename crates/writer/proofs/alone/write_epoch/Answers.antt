-- `writer::alone::write_epoch` meets its contract. Assumes nothing.
use Rattle.writer.proofs.Replied.{told_result}
use Rattle.writer.proofs.alone.write_epoch.Goals as goal

pub returns : goal.returns
returns c = told_result _ c.epoch_written.result _ c.epoch_written.ensures c.from.ensures
