-- `columns::mark_column` meets its contract. Assumes nothing.
use Rattle.columns.proofs.States.{mark_blank, mark_digit}
use Rattle.columns.proofs.mark_column.Goals as goal

pub returns-then-m-eq255 : goal.returns-then-m-eq255
returns-then-m-eq255 c = mark_blank c.args.m c.if-m-eq255.true

pub returns : goal.returns
returns c = mark_digit c.args.m c.if-m-eq255.false
