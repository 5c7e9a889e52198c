-- `write_field::others` meets its contract. Assumes nothing.
use Rattle.write_field.proofs.others.Goals as goal

pub returns-then-minus : goal.returns-then-minus
returns-then-minus c = rw c.if-minus.true

pub returns-else-minus : goal.returns-else-minus
returns-else-minus c = rw c.if-minus.false
