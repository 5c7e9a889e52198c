-- `value::has_number` meets its contract. Assumes nothing.
use Rattle.value.proofs.Points.{number_there}
use Rattle.value.proofs.has_number.Goals as goal

pub returns : goal.returns
returns c = number_there c.args.s.now c.requires.0 c.requires.1
