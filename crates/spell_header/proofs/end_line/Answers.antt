-- `spell_header::end_line` meets its contract. Assumes nothing.
use Rattle.label.specs.Labels.{padded}
use Rattle.spell_header.proofs.end_line.Goals as goal

pub returns : goal.returns
unfolding padded
returns c = c.put_label.ensures
