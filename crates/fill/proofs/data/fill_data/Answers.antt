-- `fill::data::fill_data` meets its contract: what is stored, with the lines that are left, ends alike. Assumes nothing.
use mathlib.Core.Path.{refl, sym, ◌∙◌}
use native.Mathlib.Omega.{arith}
use Rattle.rinex.specs.Lent.{buffers}
use Rattle.fill.proofs.DataTurns.{runs_ends, runs_puttable, runs_roomy, runs_next, filled_more, filled_over}
use Rattle.fill.proofs.data.fill_data.Goals as goal

pub loop-at-init : goal.loop-at-init
loop-at-init c = record { same = λ codes. refl; runs = c.requires }

pub slice_bounds-line-count : goal.slice_bounds-line-count
slice_bounds-line-count c =
    let ends = runs_ends c.args.text.now c.loop-at.c c.loop-at.at c.loop-at.invariant.runs c.line_end-end.result c.loop-at-test.true c.line_end-end.ensures in
    omega (arith, ends.0.from)

pub slice_bounds-line-start : goal.slice_bounds-line-start
slice_bounds-line-start c =
    let ends = runs_ends c.args.text.now c.loop-at.c c.loop-at.at c.loop-at.invariant.runs c.line_end-end.result c.loop-at-test.true c.line_end-end.ensures in
    omega (arith, ends.0.from)

pub slice_bounds-line-end : goal.slice_bounds-line-end
slice_bounds-line-end c =
    let ends = runs_ends c.args.text.now c.loop-at.c c.loop-at.at c.loop-at.invariant.runs c.line_end-end.result c.loop-at-test.true c.line_end-end.ensures in
    omega (arith, ends.0.within)

pub fill_line-requires : goal.fill_line-requires
fill_line-requires c =
    let ends = runs_ends c.args.text.now c.loop-at.c c.loop-at.at c.loop-at.invariant.runs c.line_end-end.result c.loop-at-test.true c.line_end-end.ensures in
    let l = c.loop-at in runs_puttable c.args.text.now l.c l.at l.invariant.runs c.line_end-end.result ends.0

pub data_next-c-requires : goal.data_next-c-requires
data_next-c-requires c =
    let ends = runs_ends c.args.text.now c.loop-at.c c.loop-at.at c.loop-at.invariant.runs c.line_end-end.result c.loop-at-test.true c.line_end-end.ensures in
    let l = c.loop-at in
    (l.invariant.runs.sane, runs_roomy c.args.text.now l.c l.at l.invariant.runs c.line_end-end.result ends.0)

pub overflow_add-at : goal.overflow_add-at
overflow_add-at c =
    let ends = runs_ends c.args.text.now c.loop-at.c c.loop-at.at c.loop-at.invariant.runs c.line_end-end.result c.loop-at-test.true c.line_end-end.ensures in
    let l = c.loop-at in omega (arith, ends.0.within, l.invariant.runs.short)

pub loop-at-smaller : goal.loop-at-smaller
loop-at-smaller c =
    let ends = runs_ends c.args.text.now c.loop-at.c c.loop-at.at c.loop-at.invariant.runs c.line_end-end.result c.loop-at-test.true c.line_end-end.ensures in
    let l = c.loop-at in omega (arith, ends.0.within, ends.0.from)

pub loop-at-preserved : goal.loop-at-preserved
loop-at-preserved c =
    let ends = runs_ends c.args.text.now c.loop-at.c c.loop-at.at c.loop-at.invariant.runs c.line_end-end.result c.loop-at-test.true c.line_end-end.ensures in
    let l = c.loop-at in
    let t = c.args.text.now in
    let x = c.line_end-end.result in
    let f = ends.0 in
    record {
      same = λ codes. filled_more t l.at x l.c _ (buffers codes l.times l.time_states l.flags l.tallies l.clocks l.clock_states l.satellites l.numbers l.states l.losses l.strengths l.carried) _ f c.data_next-c.ensures (c.fill_line.ensures codes) ∙ l.invariant.same codes;
      runs = runs_next t l.c l.at l.invariant.runs x f _ c.data_next-c.ensures;
    }

pub returns : goal.returns
returns c =
    λ codes.
    let l = c.loop-at in
    sym (filled_over c.args.text.now l.at l.c (buffers codes l.times l.time_states l.flags l.tallies l.clocks l.clock_states l.satellites l.numbers l.states l.losses l.strengths l.carried) c.loop-at-test.false) ∙ l.invariant.same codes
