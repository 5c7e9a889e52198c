-- `measure::sums::list_lines` meets its contract. Assumes nothing.
use Prim.Native.Nat.{◌+◌, ◌*◌, ◌≤◌}
use mathlib.Core.Path.{◌≡◌}
use lib.ListN.{drop}
use Rattle.measure.specs.Size.{list_line_count}
use Rattle.measure.proofs.sums.list_lines.Given as goal

abbrev pub invariant-loop-n : goal.invariant-loop-n
invariant-loop-n l = (l.total + list_line_count (drop l.n-index l.fn.lengths) ≡ list_line_count l.fn.lengths) × (l.total ≤ 5 * l.n-index)
