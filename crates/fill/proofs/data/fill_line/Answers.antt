-- `fill::data::fill_line` meets its contract, by the line's stage. Assumes nothing.
use Rattle.judge.proofs.Stages.{event_due}
use Rattle.fill.specs.Fill.{line_put}
use Rattle.fill.proofs.DataTurns.{put_epoch_lem, put_row, put_carried}
use Rattle.fill.proofs.data.fill_line.Goals as goal

pub returns-in-Epoch : goal.returns-in-Epoch
returns-in-Epoch c = λ codes. put_epoch_lem c.args.c c.args.line.now _ _ _ _ _ _ _ c.in-Epoch.is c.put_epoch.ensures

pub returns-in-Row : goal.returns-in-Row
returns-in-Row c = λ codes. put_row c.args.c c.args.line.now _ _ _ _ _ _ c.in-Row.is c.put_row.ensures

pub returns-in_default : goal.returns-in_default
unfolding line_put
returns-in_default c =
    λ codes.
    put_carried c.args.c c.args.line.now _ _ (event_due c.args.c.stage c.requires.stage c.in_default.not-Epoch c.in_default.not-Row) c.put_line.ensures.out_after
