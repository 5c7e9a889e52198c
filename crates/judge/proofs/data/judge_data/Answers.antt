-- `judge::data::judge_data` meets its contract. The invariant: what is left of the text is judged as the whole. Assumes nothing.
use mathlib.Core.Path.{◌∙◌}
use mathlib.Core.List.{[]}
use Rattle.judge.proofs.Judging.{step_less, loop_on, loop_fault, loop_end}
use Rattle.judge.proofs.data.judge_data.Goals as goal

pub returns-in-Err : goal.returns-in-Err
returns-in-Err c = rw c.refusal.ensures (loop_fault c.args.text.now c.args.room c.args.from _ _ c.loop-c.c c.in-Err.fault c.loop-c.invariant c.loop-c-test.true (c.in-Err.ensures))

pub loop-c-smaller : goal.loop-c-smaller
loop-c-smaller c = step_less c.args.room c.args.text.now c.loop-c.c [] [] _ _ c.in-Ok.next c.loop-c-test.true (c.in-Ok.ensures [])

pub loop-c-preserved : goal.loop-c-preserved
loop-c-preserved c = loop_on c.args.text.now c.args.room c.args.from _ _ c.loop-c.c c.in-Ok.next c.loop-c.invariant c.loop-c-test.true (c.in-Ok.ensures)

pub returns : goal.returns
returns c = λ table. loop_end c.args.text.now c.args.room c.args.from _ c.loop-c.c c.loop-c.invariant c.loop-c-test.false table ∙ c.data_end.ensures
