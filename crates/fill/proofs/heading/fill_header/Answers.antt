-- `fill::heading::fill_header` meets its contract: what is read and stored, with the lines that are left, ends alike. Assumes nothing.
use Prim.Native.Nat.{suc, ◌+◌, ◌-◌}
use mathlib.Core.Path.{◌≡◌, refl, sym, ◌∙◌}
use native.Mathlib.Nat.{sub-zero}
use native.Mathlib.Omega.{arith}
use borrow.Author.Rules.{rules}
use Rattle.line.specs.Text.{raw}
use Rattle.find_line.specs.Promises.{between}
use Rattle.find_line.proofs.Finding.{length_between, over_line}
use Rattle.fill.specs.Fill.{nothing_read}
use Rattle.fill.specs.Filling.{rest_of}
use Rattle.fill.proofs.HeadTurns.{head_more, carried_more, head_over_lem, carried_over_lem, lined_ends, lined_next, head_done, carried_done, grown}
use Rattle.fill.proofs.heading.fill_header.Goals as goal

pub loop-init : goal.loop-init
unfolding nothing_read
loop-init c =
    record {
      same_head = rw sub-zero;
      same_carried = rw sub-zero;
      lined = c.requires.0;
      inside = omega arith;
      few_lines = omega arith;
      few_bytes = omega arith;
      size = refl;
    }

pub returns-then-text-at-clause-result_value : goal.returns-then-text-at-clause-result_value
returns-then-text-at-clause-result_value c =
    let l = c.loop in
    sym (head_over_lem _ (rest_of l.h) _ (over_line c.args.text.now l.at c.if-text-at.true)) ∙ l.invariant.same_head

pub returns-then-text-at-clause-carried_after : goal.returns-then-text-at-clause-carried_after
returns-then-text-at-clause-carried_after c =
    let l = c.loop in
    sym (carried_over_lem _ (rest_of l.h) l.carried _ (over_line c.args.text.now l.at c.if-text-at.true)) ∙ l.invariant.same_carried

pub slice_bounds-head_line-count : goal.slice_bounds-head_line-count
slice_bounds-head_line-count c = (lined_ends c.args.text.now c.loop.at _ c.if-text-at.false c.loop.invariant.lined c.line_end-end.ensures).0.from

pub slice_bounds-head_line-start : goal.slice_bounds-head_line-start
slice_bounds-head_line-start c = (lined_ends c.args.text.now c.loop.at _ c.if-text-at.false c.loop.invariant.lined c.line_end-end.ensures).0.from

pub slice_bounds-head_line-end : goal.slice_bounds-head_line-end
slice_bounds-head_line-end c = let ends = lined_ends c.args.text.now c.loop.at _ c.if-text-at.false c.loop.invariant.lined c.line_end-end.ensures in omega (arith, ends.0.within)

pub head_line-h-requires : goal.head_line-h-requires
head_line-h-requires c = let ends = lined_ends c.args.text.now c.loop.at _ c.if-text-at.false c.loop.invariant.lined c.line_end-end.ensures in omega (arith, ends.1.width)

pub overflow_add-at : goal.overflow_add-at
overflow_add-at c = let ends = lined_ends c.args.text.now c.loop.at _ c.if-text-at.false c.loop.invariant.lined c.line_end-end.ensures in omega (arith, ends.0.within)

pub loop-preserved : goal.loop-preserved
loop-preserved c =
    let t = c.args.text.now in
    let l = c.loop in
    let e = c.line_end-end.result in
    let f = (lined_ends t l.at e c.if-text-at.false l.invariant.lined c.line_end-end.ensures).0 in
    let p = c.head_line-h.ensures in
    let n : c.args.lines - l.counter ≡ suc (c.args.lines - (l.counter + 1)) = omega (arith, c.loop-test.true) in
    let g = grown l.h c.head_line-h.result _ _ _ _ p in
    let b = length_between t l.at e f.from (omega (arith, f.within)) in
    record {
      same_head = head_more _ _ _ _ _ _ (raw (between l.at e t)) n f.lines p.head ∙ l.invariant.same_head;
      same_carried = carried_more _ _ _ _ _ _ _ _ (raw (between l.at e t)) n f.lines p.head p.carried ∙ l.invariant.same_carried;
      lined = lined_next t l.at e l.invariant.lined f;
      inside = omega (arith, f.within);
      few_lines = omega (arith, g.lines, l.invariant.few_lines, f.from);
      few_bytes = omega (arith, g.carried, l.invariant.few_bytes, f.from, b);
      size = search rules;
    }

pub returns-clause-result_value : goal.returns-clause-result_value
returns-clause-result_value c =
    let l = c.loop in
    let z : c.args.lines - l.counter ≡ 0 = omega (arith, c.loop-test.false) in
    sym (head_done _ (rest_of l.h) _ z) ∙ l.invariant.same_head

pub returns-clause-carried_after : goal.returns-clause-carried_after
returns-clause-carried_after c =
    let l = c.loop in
    let z : c.args.lines - l.counter ≡ 0 = omega (arith, c.loop-test.false) in
    sym (carried_done _ (rest_of l.h) l.carried _ z) ∙ l.invariant.same_carried
