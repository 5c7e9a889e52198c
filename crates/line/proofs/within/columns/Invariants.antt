-- `line::within::columns` meets its contract. The invariant: what stands before place i is columns of the line. Assumes nothing.
use Prim.Native.Nat.{◌-◌}
use mathlib.Core.Path.{◌≡◌}
use lib.ListN.{length, take}
use Rattle.line.proofs.Columns.{window}
use Rattle.line.proofs.within.columns.Given as goal

abbrev pub invariant-loop-i : goal.invariant-loop-i
invariant-loop-i l = (length l.out ≡ length l.initial.out) × (take l.i l.out ≡ window l.i (l.a - 1) l.line)
