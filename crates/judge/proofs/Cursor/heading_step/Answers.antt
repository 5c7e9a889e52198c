-- `judge::Cursor::heading_step` meets its contract. Assumes nothing.
use Rattle.std.proofs.lemmas.Result.{err_from_is_err_and}
use Rattle.judge.proofs.Raws.{unreached_step}
use Rattle.judge.proofs.Cursor.heading_step.Goals as goal

pub returns-in_err-end : goal.returns-in_err-end
returns-in_err-end c =
    let p = err_from_is_err_and c.from_residual.result c.from_residual.ensures.1 in
    rw (p.1, p.2) (λ seen w ws h. unreached_step c.args.room c.args.text.now c.args.self c.args.table.now _ seen seen w ws _ c.in_err-end.ensures h)
