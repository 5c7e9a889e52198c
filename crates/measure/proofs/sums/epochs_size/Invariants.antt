-- `measure::sums::epochs_size` meets its contract. The invariant: what is summed and what is left are the whole. Assumes nothing.
use Prim.Native.Nat.{◌+◌, ◌-◌, ◌≤◌}
use mathlib.Core.Path.{◌≡◌}
use Rattle.line.specs.Text.{longest}
use Rattle.measure.specs.Size.{epochs_size}
use Rattle.measure.proofs.sums.epochs_size.Given as goal

abbrev pub invariant-loop-e : goal.invariant-loop-e
invariant-loop-e l = (l.total + epochs_size l.clock_states (l.n - l.e) l.e ≡ l.before + epochs_size l.clock_states l.n 0) × (l.total ≤ longest + 2048)
