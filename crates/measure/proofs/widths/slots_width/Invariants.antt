-- `measure::widths::slots_width` meets its contract. The invariant: the slots behind are blank. Assumes nothing.
use mathlib.Core.Path.{◌≡◌}
use Rattle.measure.specs.Size.{slots_width}
use Rattle.measure.proofs.widths.slots_width.Given as goal

abbrev pub invariant-loop-left : goal.invariant-loop-left
invariant-loop-left l = slots_width l.slots.states.now l.slots.losses.now l.slots.strengths.now l.k l.i ≡ slots_width l.slots.states.now l.slots.losses.now l.slots.strengths.now l.left l.i
