-- `spell_header::next_line` meets its contract. Assumes nothing.
use mathlib.Core.Path.{refl, ◌∙◌}
use mathlib.Core.List.{◌++◌}
use native.Mathlib.Omega.{arith}
use Rattle.lists.specs.Blank.{blanks}
use Rattle.lists.proofs.Stores.{then}
use Rattle.label.specs.Labels.{padded}
use Rattle.spell_header.specs.Codes.{codes_text}
use Rattle.spell_header.proofs.LabelColumns.{line_put_lem}
use Rattle.spell_header.proofs.Listed.{codes_long}
use Rattle.spell_header.proofs.next_line.Goals as goal

pub returns : goal.returns
unfolding padded
returns c =
    let a = c.args in let t = codes_text a.codes.now in
    line_put_lem c.put_label.new.out c.put_codes.new.out (blanks 6 ++ t) (padded "SYS / # / OBS TYPES") c.put_label.ensures
    (c.put_codes.ensures ∙ then c.put_label.new.out c.put_blanks.new.out 0 6 (blanks 6) t c.put_blanks.ensures refl)
    (omega (arith, c.requires.1.0, codes_long a.codes.now))
