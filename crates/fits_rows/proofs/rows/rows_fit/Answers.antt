-- `fits_rows::rows::rows_fit` meets its contract. Assumes nothing.
use Prim.Native.Nat.{◌+◌}
use mathlib.Core.Path.{sym, ◌∙◌}
use Rattle.rinex.specs.Lent.{counts_of}
use Rattle.lent.specs.Parts.{rows_in}
use Rattle.fits_rows.proofs.Slotted.{row_within, rows_more}
use Rattle.fits_rows.proofs.rows.rows_fit.Goals as goal

pub loop-row-preserved : goal.loop-row-preserved
loop-row-preserved c =
    let a = c.args in
    let l = c.loop-row in (
      row_within a.lengths (counts_of a.counts) (rows_in a.rows.now) l.row l.slot _ c.in_ok-slot.ensures,
      sym (rows_more a.lengths (counts_of a.counts) (rows_in a.rows.now) l.row (a.j + a.k) l.slot c.loop-row-test.true _ c.in_ok-slot.ensures) ∙ l.invariant.1,
    )
