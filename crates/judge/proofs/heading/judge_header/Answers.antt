-- `judge::heading::judge_header` meets its contract. The invariant: what is left of the text is judged as the whole. Assumes nothing.
use mathlib.Core.Path.{sym, ◌∙◌}
use mathlib.Core.List.{[]}
use native.Mathlib.Omega.{arith}
use Rattle.state.specs.Judge.{none_seen}
use Rattle.judge.proofs.Judging.{step_less}
use Rattle.judge.proofs.Opening.{opens, opens_short, opens_fault, opens_on, opens_end, head_sane}
use Rattle.judge.proofs.heading.judge_header.Goals as goal

pub loop-room-init : goal.loop-room-init
loop-room-init c = opens c.args.text.now c.args.room c.args.table.now c.beginning-c.result c.requires c.beginning-c.ensures

pub returns-then-text-c : goal.returns-then-text-c
returns-then-text-c c =
    let l = c.loop-room in
    rw c.refusal.ensures (opens_short c.args.text.now c.args.room l.table l.c c.heading_end.result l.invariant c.if-text-c.true c.heading_end.ensures)

pub heading_step-requires : goal.heading_step-requires
heading_step-requires c =
    let l = c.loop-room in
    (head_sane l.c.state l.table none_seen l.invariant.kept (sym c.in_heading.ensures ∙ c.loop-room-test.true), (l.invariant.line, l.invariant.carried))

pub returns-in-Err : goal.returns-in-Err
returns-in-Err c =
    let l = c.loop-room in
    rw c.refusal-in-Err.ensures (opens_fault c.args.text.now c.args.room l.table _ l.c l.invariant (sym c.in_heading.ensures ∙ c.loop-room-test.true) (omega (arith, c.if-text-c.false)) c.in-Err.fault (c.in-Err.ensures) (c.heading_step.auto.table ∙ l.invariant.kept.settled.places))

pub loop-room-smaller : goal.loop-room-smaller
loop-room-smaller c =
    let l = c.loop-room in
    step_less c.args.room c.args.text.now l.c l.table _ [] [] c.in-Ok.next (omega (arith, c.if-text-c.false)) (c.in-Ok.ensures [])

pub loop-room-preserved : goal.loop-room-preserved
loop-room-preserved c =
    let l = c.loop-room in
    opens_on c.args.text.now c.args.room l.table _ l.c l.invariant (sym c.in_heading.ensures ∙ c.loop-room-test.true) (omega (arith, c.if-text-c.false)) c.in-Ok.next (c.in-Ok.ensures)

pub returns : goal.returns
returns c =
    let l = c.loop-room in
    opens_end c.args.text.now c.args.room l.table l.c l.invariant (sym c.in_heading.ensures ∙ c.loop-room-test.false)
