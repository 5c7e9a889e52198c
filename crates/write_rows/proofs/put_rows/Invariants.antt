-- `write_rows::put_rows` meets its contract: what is put, with the rows that are left, ends alike. Assumes nothing.
use Prim.Native.Nat.{◌+◌, ◌-◌}
use mathlib.Core.Path.{◌≡◌}
use lib.ListN.{length}
use Rattle.lent.specs.Parts.{rows_in}
use Rattle.write_rows.proofs.RowSteps.{Putting}
use Rattle.write_rows.proofs.put_rows.Given as goal

abbrev pub invariant-loop-row : goal.invariant-loop-row
invariant-loop-row l =
    (length l.out ≡ length l.initial.out) × (length l.line ≡ 1027) × Putting l.lengths (rows_in l.rows) l.k l.j l.i l.initial.out l.at l.out l.to (l.j + l.k - l.row) l.row l.slot
