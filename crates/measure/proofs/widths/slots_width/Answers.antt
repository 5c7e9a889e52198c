-- `measure::widths::slots_width` meets its contract. The invariant: the slots behind are blank. Assumes nothing.
use Prim.Native.Nat.{ℕ, ◌+◌, ◌-◌, ◌*◌, ◌≤◌, ◌<◌}
use mathlib.Core.Path.{◌≡◌, sym, ap, ◌∙◌}
use native.Mathlib.Omega.{arith}
use Rattle.measure.specs.Size.{slot_end, slots_width}
use Rattle.measure.proofs.Steps.{end_at, slots_skip, slots_stop, slots_none, end_few}
use Rattle.measure.proofs.widths.slots_width.Goals as goal

pub overflow_add-result : goal.overflow_add-result
overflow_add-result c =
    let few : ◌≤◌ c.slot_end-end.result 16 =
    omega (arith, c.slot_end-end.ensures, end_few c.entry.result c.entry-in-loop-left.result c.entry-in-loop-left-2.result) in
    omega (arith, few)

pub loop-left-preserved : goal.loop-left-preserved
loop-left-preserved c =
    let ended : ◌≡◌ {A = ℕ} c.slot_end-end.result (end_at c.args.slots.now.states.now c.args.slots.now.losses.now c.args.slots.now.strengths.now c.args.i (c.args.i + (c.loop-left.left - 1))) =
    let x = c.entry.ensures in let y = c.entry-in-loop-left.ensures in let z = c.entry-in-loop-left-2.ensures in c.slot_end-end.ensures ∙ (λ k. slot_end (x k) (y k) (z k)) in
    let l = c.loop-left in
    let z : 0 < l.left = omega arith in
    l.invariant ∙ slots_skip c.args.slots.now.states.now c.args.slots.now.losses.now c.args.slots.now.strengths.now c.args.i l.left z (sym ended ∙ c.if-end-ne0.false)

pub returns-then-end-ne0 : goal.returns-then-end-ne0
returns-then-end-ne0 c =
    let e : ◌≡◌ {A = ℕ} c.slot_end-end.result (end_at c.args.slots.now.states.now c.args.slots.now.losses.now c.args.slots.now.strengths.now c.args.i (c.args.i + (c.loop-left.left - 1))) =
    let x = c.entry.ensures in let y = c.entry-in-loop-left.ensures in let z = c.entry-in-loop-left-2.ensures in c.slot_end-end.ensures ∙ (λ k. slot_end (x k) (y k) (z k)) in
    let few : ◌≤◌ c.slot_end-end.result 16 =
    omega (arith, c.slot_end-end.ensures, end_few c.entry.result c.entry-in-loop-left.result c.entry-in-loop-left-2.result) in
    let l = c.loop-left in
    let z : 0 < l.left = omega arith in
    record {
      value = sym (l.invariant ∙ (slots_stop c.args.slots.now.states.now c.args.slots.now.losses.now c.args.slots.now.strengths.now c.args.i l.left z (λ q. c.if-end-ne0.true (e ∙ q)) ∙ ap (λ (x : ℕ). 16 * (l.left - 1) + x) (sym e)));
      upper_bound = omega (arith, few);
    }

pub returns : goal.returns
returns c =
    let l = c.loop-left in
    let z : l.left ≡ 0 = omega arith in
    record {
      value = sym (l.invariant ∙ (ap (λ (x : ℕ). slots_width c.args.slots.now.states.now c.args.slots.now.losses.now c.args.slots.now.strengths.now x c.args.i) z ∙ slots_none c.args.slots.now.states.now c.args.slots.now.losses.now c.args.slots.now.strengths.now c.args.i));
      upper_bound = omega arith;
    }
