-- `judge::whole::judge` meets its contract. Assumes nothing.
use Rattle.judge.proofs.Verdicts.{judges_yes}
use Rattle.judge.proofs.whole.judge.Goals as goal

pub returns : goal.returns
returns c = judges_yes c.args.room c.args.text.now _ c.requires.1.1 c.requires.0 _ c.in_ok-from.ensures _ c.in_ok-used.ensures
