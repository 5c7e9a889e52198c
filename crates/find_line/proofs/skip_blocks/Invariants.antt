-- `find_line::skip_blocks` meets its contract. The invariant: the bytes up to place i are plain. Assumes nothing.
use Prim.Native.Nat.{◌-◌, ◌≤◌}
use mathlib.Core.Path.{◌≡◌}
use mathlib.Core.Bool.{true}
use lib.ListN.{length}
use Rattle.line.specs.Text.{are_plain}
use Rattle.find_line.specs.Promises.{between}
use Rattle.find_line.proofs.skip_blocks.Given as goal

abbrev pub invariant-loop-i : goal.invariant-loop-i
invariant-loop-i l = (l.at ≤ l.i) × (l.i ≤ length l.text) × (are_plain (between l.at l.i l.text) ≡ true)

abbrev pub decreases-loop-i : goal.decreases-loop-i
decreases-loop-i l = length l.text - l.i
