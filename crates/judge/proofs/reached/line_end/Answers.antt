-- `judge::reached::line_end` meets its contract: a line that refusals 1 and 2 spare has no fault by itself. Assumes nothing.
use Rattle.judge.proofs.Raws.{ends_at}
use Rattle.judge.proofs.reached.line_end.Goals as goal

pub returns : goal.returns
returns c = rw c.unwrap_or.ensures (ends_at c.args.text.now c.args.at c.args.at c.reach.result c.reach.ensures)
