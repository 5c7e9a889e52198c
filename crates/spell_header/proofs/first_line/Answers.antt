-- `spell_header::first_line` meets its contract. Assumes nothing.
use mathlib.Core.Path.{sym, ap, ◌∙◌}
use Rattle.moment.specs.declared.Date.{Date}
use Rattle.label.specs.Labels.{padded}
use Rattle.rinex.specs.Normal.{first_body}
use Rattle.spell_header.specs.Wide.{wide}
use Rattle.spell_header.proofs.LabelColumns.{line_put_lem}
use Rattle.columns.proofs.Dates.{time_date, time_there}
use Rattle.spell_header.proofs.Listed.{first_short}
use Rattle.spell_header.proofs.first_line.Goals as goal

pub returns-in-Some : goal.returns-in-Some
unfolding padded
returns-in-Some c =
    let a = c.args in let d = c.in-Some.d in let told = c.in-Some.ensures in
    line_put_lem c.put_label.new.out c.put_first.new.out (first_body d a.time_system) (padded "TIME OF FIRST OBS") c.put_label.ensures c.put_first.ensures
    (first_short d a.time_system told.0 c.requires.1.1)
    ∙ ap (λ (x : Date). wide (first_body x a.time_system) "TIME OF FIRST OBS") (sym (time_date a.t d told))

pub returns-in_default : goal.returns-in_default
returns-in_default c = absurd (time_there c.args.t c.requires.1.0 c.in_default.ensures)
