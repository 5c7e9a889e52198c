-- `measure::sums::rows_size` meets its contract. The invariant: what is summed and what is left are the whole. Assumes nothing.
use Prim.Native.Nat.{◌+◌, ◌-◌, ◌*◌, ◌≤◌}
use mathlib.Core.Path.{◌≡◌}
use Rattle.line.specs.Text.{longest}
use Rattle.measure.specs.Size.{rows_size}
use Rattle.measure.proofs.sums.rows_size.Given as goal

abbrev pub invariant-loop-j : goal.invariant-loop-j
invariant-loop-j l = (l.total + rows_size l.lengths l.rows.satellites.now l.rows.slots.states.now l.rows.slots.losses.now l.rows.slots.strengths.now (l.n - l.j) l.j l.i ≡ l.before + rows_size l.lengths l.rows.satellites.now l.rows.slots.states.now l.rows.slots.losses.now l.rows.slots.strengths.now l.n 0 0) × ((l.total ≤ longest + 2048) × (l.i ≤ 16 * l.total))
