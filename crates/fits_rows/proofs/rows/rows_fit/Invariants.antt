-- `fits_rows::rows::rows_fit` meets its contract. The invariant: the rows that are left give what all give. Assumes nothing.
use Prim.Native.Nat.{◌-◌, ◌≤◌}
use mathlib.Core.Path.{◌≡◌}
use Rattle.rinex.specs.Fit.{rows_fit}
use Rattle.rinex.specs.Lent.{counts_of}
use Rattle.lent.specs.Parts.{rows_in}
use Rattle.fits_rows.proofs.rows.rows_fit.Given as goal

abbrev pub invariant-loop-row : goal.invariant-loop-row
invariant-loop-row l = (l.slot ≤ l.counts.slots) × (rows_fit l.lengths (counts_of l.counts) (rows_in l.rows) (l.row-end - l.row) l.row l.slot ≡ rows_fit l.lengths (counts_of l.counts) (rows_in l.rows) l.k l.j l.i)
