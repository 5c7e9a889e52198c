-- `judge::Cursor::heading_line` meets its contract. Assumes nothing.
use mathlib.Core.Path.{refl, sym, ap, ◌∙◌}
use native.Mathlib.Omega.{arith}
use Rattle.std.proofs.lemmas.Result.{err_from_is_err_and}
use Rattle.find_line.specs.Promises.{between}
use Rattle.line.proofs.Columns.{length_cut}
use Rattle.find_line.proofs.Finding.{length_between}
use Rattle.state.specs.Judge.{raw_fault}
use Rattle.judge.proofs.Raws.{first_is, line_fault_is, faulty_step, fine_step}
use Rattle.judge.proofs.Opening.{head_fine, seen_head}
use Rattle.judge.proofs.Cursor.heading_line.Goals as goal

pub returns-in_err-heading_fault : goal.returns-in_err-heading_fault
returns-in_err-heading_fault c =
    let s = c.args in
    let p = err_from_is_err_and c.from_residual.result c.from_residual.ensures.1 in
    rw (p.1, p.2)
    (λ seen w ws h.
    faulty_step s.room s.text.now s.self s.table.now _ seen seen w ws _
    (c.in_err-heading_fault.ensures.0 seen ∙ sym (ap (raw_fault s.room s.self.state s.table.now seen) (first_is s.text.now s.self.at s.end c.requires.0.0 w ws h) ∙ line_fault_is s.room s.self.state s.table.now seen _ c.requires.0.1)))

pub heading_next-requires : goal.heading_next-requires
heading_next-requires c =
    let s = c.args in
    let p = c.requires.1.0 in
    let l = between s.self.at s.end s.text.now in (
      (p.stage, (p.seven, p.few)),
      head_fine s.room s.self.state s.table.now s.table.now l p (sym (c.in_ok-heading_fault.ensures.0 s.table.now))
          (omega (arith, c.requires.1.1.1, length_cut l, length_between s.text.now s.self.at s.end c.requires.0.0.from (omega (arith, c.requires.0.0.within)), c.requires.0.0.from, c.requires.0.0.within, c.well_formed)),
    )

pub returns : goal.returns
returns c =
    let s = c.args in
    λ seen w ws h.
    fine_step s.room s.text.now s.self s.end s.table.now _ seen seen w ws _
    c.requires.0.0 c.requires.0.1 h (sym (c.in_ok-heading_fault.ensures.0 seen)) refl refl c.heading_next.ensures
    c.in_ok-heading_fault.ensures.1 (seen_head s.self.state _ seen c.requires.1.0.stage)
