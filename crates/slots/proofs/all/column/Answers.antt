-- `slots::all::column` meets its contract. Assumes nothing.
use Rattle.slot_answers.specs.Handed.{column_meant}
use Rattle.slots.proofs.all.column.Goals as goal

pub returns : goal.returns
returns c = record { reply = column_meant c.answered.result; told_so = c.from.ensures; kept = c.answered.ensures }
