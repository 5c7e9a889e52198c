-- `line::within::column` meets its contract. Assumes nothing.
use borrow.Author.Rules.{rules}
use Rattle.line.specs.Text.{col}
use Rattle.line.proofs.within.column.Goals as goal

pub returns : goal.returns
unfolding col
returns c = search rules
