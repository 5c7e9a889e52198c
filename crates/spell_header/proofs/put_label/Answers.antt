-- `spell_header::put_label` meets its contract. Assumes nothing.
use Rattle.spell_header.proofs.LabelColumns.{label_put}
use Rattle.spell_header.proofs.put_label.Goals as goal

pub returns : goal.returns
returns c = label_put c.args.out.now _ _ c.args.label.now c.requires.1 c.requires.0 c.put_blanks.ensures c.put_bytes.ensures
