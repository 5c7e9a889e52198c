-- `spell_header::version_line` meets its contract. Assumes nothing.
use mathlib.Core.Path.{refl, ◌∙◌}
use mathlib.Core.List.{[], ◌∷◌, ◌++◌}
use native.Mathlib.Omega.{arith}
use Rattle.lists.specs.Lists.{bytes}
use Rattle.lists.proofs.Stores.{then}
use Rattle.label.specs.Labels.{padded}
use Rattle.spell_header.proofs.LabelColumns.{line_put_lem}
use Rattle.spell_header.proofs.version_line.Goals as goal

pub returns : goal.returns
unfolding padded
returns c = line_put_lem c.put_label.new.out c.put_byte.new.out (bytes "     3.03           OBSERVATION DATA    " ++ (c.args.letter ∷ [])) (padded "RINEX VERSION / TYPE") c.put_label.ensures (c.put_byte.ensures ∙ then c.put_label.new.out c.put_bytes.new.out 0 40 (bytes "     3.03           OBSERVATION DATA    ") (c.args.letter ∷ []) c.put_bytes.ensures refl) (omega arith)
