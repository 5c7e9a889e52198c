-- `spell_data::epoch::put_counts` meets its contract. Assumes nothing.
use Rattle.spell_data.proofs.EpochColumns.{counts_put}
use Rattle.spell_data.proofs.epoch.put_counts.Goals as goal

pub returns : goal.returns
returns c = let a = c.args in counts_put a.out.now c.put_blanks.new.out c.put_byte.new.out c.put_whole.new.out _ a.flag a.count c.requires.1 c.put_blanks.ensures c.put_byte.ensures c.put_whole.ensures c.put_blanks-2.ensures
