-- `judge::Cursor::data_line` meets its contract. Assumes nothing.
use mathlib.Core.Path.{refl, sym, ap, ◌∙◌}
use Rattle.std.proofs.lemmas.Result.{err_from_is_err_and}
use Rattle.find_line.specs.Promises.{between}
use Rattle.state.specs.Judge.{raw_fault}
use Rattle.judge.proofs.Raws.{first_is, line_fault_is, table_stays, faulty_step, fine_step}
use Rattle.judge.proofs.Stages.{fault_row, row_fine, roomy}
use Rattle.judge.proofs.Cursor.data_line.Goals as goal

pub returns-in_err-data_fault : goal.returns-in_err-data_fault
returns-in_err-data_fault c =
    let s = c.args in
    let p = err_from_is_err_and c.from_residual.result c.from_residual.ensures.1 in
    rw (p.1, p.2)
    (λ table w ws h.
    faulty_step s.room s.text.now s.self table table _ _ w ws _
    (c.in_err-data_fault.ensures table ∙ sym (ap (raw_fault s.room s.self.state table s.seen.now) (first_is s.text.now s.self.at s.end c.requires.0.0 w ws h) ∙ line_fault_is s.room s.self.state table s.seen.now _ c.requires.0.1)))

pub stamp-requires : goal.stamp-requires
stamp-requires c =
    let s = c.args in
    let l = between s.self.at s.end s.text.now in
    let fine = c.in_ok-data_fault.ensures s.seen.now in
    ((λ e. (row_fine s.room s.self.state s.seen.now l (sym (fault_row s.room s.self.state s.seen.now s.seen.now l e) ∙ sym fine)).satellite), c.requires.1.0.1)

pub data_next-requires : goal.data_next-requires
data_next-requires c =
    let s = c.args in
    (c.requires.1.0.0, roomy s.room s.self.state s.seen.now s.seen.now _ c.requires.1.1.1 c.requires.1.0.0 (sym (c.in_ok-data_fault.ensures s.seen.now)))

pub returns : goal.returns
returns c =
    let s = c.args in
    λ table w ws h.
    fine_step s.room s.text.now s.self s.end table table _ _ w ws _
    c.requires.0.0 c.requires.0.1 h (sym (c.in_ok-data_fault.ensures table)) refl refl c.data_next.ensures
    (sym (table_stays s.self.state _ table c.requires.1.0.0.stage)) c.stamp.ensures
