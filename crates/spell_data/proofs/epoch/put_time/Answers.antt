-- `spell_data::epoch::put_time` meets its contract. Assumes nothing.
use Rattle.columns.proofs.Dates.{time_there}
use Rattle.spell_data.proofs.EpochColumns.{time_blank, time_put}
use Rattle.spell_data.proofs.epoch.put_time.Goals as goal

pub returns-in_default : goal.returns-in_default
returns-in_default c = let a = c.args in time_blank a.out.now _ a.at a.time c.in_default.is c.put_blanks.ensures

pub returns-in-Some-date_of : goal.returns-in-Some-date_of
returns-in-Some-date_of c = let a = c.args in time_put a.out.now _ a.at a.time c.in-Some.t c.in-Some-date_of.d c.in-Some.is c.in-Some-date_of.ensures c.put_date.ensures

pub returns-in_default-date_of : goal.returns-in_default-date_of
returns-in_default-date_of c = absurd (time_there c.in-Some.t (c.requires.1 c.in-Some.t c.in-Some.is) c.in_default-date_of.ensures)
