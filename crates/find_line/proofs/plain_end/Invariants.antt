-- `find_line::plain_end` meets its contract. The invariant: the bytes up to place i are plain. Assumes nothing.
use Prim.Native.Nat.{◌≤◌}
use mathlib.Core.Path.{◌≡◌}
use mathlib.Core.Bool.{true}
use Rattle.line.specs.Text.{are_plain}
use Rattle.find_line.specs.Promises.{between}
use Rattle.find_line.proofs.plain_end.Given as goal

abbrev pub invariant-loop-i : goal.invariant-loop-i
invariant-loop-i l = (l.at ≤ l.i) × (are_plain (between l.at l.i l.text) ≡ true)
