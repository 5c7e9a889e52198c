-- `spell_header::list_line` meets its contract. Assumes nothing.
use mathlib.Core.List.{◌∷◌, ◌++◌}
use lib.ListN.{length}
use Rattle.lists.specs.Blank.{blanks}
use Rattle.write_field.specs.Normal.{whole}
use Rattle.label.specs.Labels.{padded}
use Rattle.rinex.specs.Codes.{letter_of}
use Rattle.spell_header.specs.Codes.{codes_text}
use Rattle.spell_header.proofs.LabelColumns.{line_put_lem}
use Rattle.spell_header.proofs.Listed.{codes_long, list_put, list_short}
use Rattle.spell_header.proofs.list_line.Goals as goal

pub returns : goal.returns
unfolding padded
returns c =
    let a = c.args in let t = codes_text a.codes.now in
    line_put_lem c.put_label.new.out c.put_codes.new.out (letter_of a.system ∷ (blanks 2 ++ (whole 3 a.count ++ t))) (padded "SYS / # / OBS TYPES") c.put_label.ensures
    (list_put c.put_label.new.out c.put_byte.new.out c.put_blanks.new.out c.put_whole.new.out c.put_codes.new.out t c.letter_of.result (letter_of a.system) a.count
    c.letter_of.ensures c.requires.1.0 c.put_byte.ensures c.put_blanks.ensures c.put_whole.ensures c.put_codes.ensures)
    (list_short (letter_of a.system) a.count (length a.codes.now) t c.requires.1.0 c.requires.1.1.0 (codes_long a.codes.now))
