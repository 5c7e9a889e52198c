-- `row_store::put_entry` meets its contract. Assumes nothing.
use mir.Syntax.{w64}
use mir.ValLaws.{to_z-of_z}
use mathlib.Core.Path.{◌∙◌}
use Rattle.row_store.proofs.put_entry.Goals as goal

pub returns : goal.returns
returns c =
    record {
      numbers_are = c.put.ensures ∙ rw (to_z-of_z w64 c.args.number c.ranges.number);
      states_are = c.put-2.ensures;
      losses_are = c.put-3.ensures;
      strengths_are = c.put-4.ensures;
    }
