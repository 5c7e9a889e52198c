-- `spell_data::row::slot_columns` meets its contract. Assumes nothing.
use mir.Syntax.{w64}
use mir.ValLaws.{to_z-of_z}
use Rattle.spell_data.proofs.Spelled.{slot_put}
use Rattle.spell_data.proofs.row.slot_columns.Goals as goal

pub returns : goal.returns
returns c = let a = c.args in slot_put a.out.now c.put_given.new.out c.put_byte.new.out _ a.number _ a.state a.loss a.strength c.mark_column.result c.mark_column-2.result (to_z-of_z w64 a.number c.ranges.number) c.requires.0 c.requires.1 c.put_given.ensures c.put_byte.ensures c.put_byte-2.ensures c.mark_column.ensures c.mark_column-2.ensures
