-- `fits_rows::rows::row_fits` meets its contract. Assumes nothing.
use native.Mathlib.Omega.{arith}
use Rattle.rinex.specs.Lent.{counts_of}
use Rattle.lent.specs.Parts.{rows_in}
use Rattle.fits_rows.proofs.Slotted.{no_codes, no_slots, slots_unfit, row_is}
use Rattle.fits_rows.proofs.rows.row_fits.Goals as goal
use Rattle.fits_rows.proofs.rows.row_fits.Goals.{then-k-eq0-via-then-k-eq0, then-k-eq0-via-else-k-eq0+then-counts-i, then-k-eq0-via-else-k-eq0+else-counts-i+then-not-slots_fit}

pub returns-then-k-eq0 : goal.returns-then-k-eq0
returns-then-k-eq0 c =
    let n = counts_of c.args.counts in
    let lent = rows_in c.args.rows.now in
    elim c.then-k-eq0.branch [
      | then-k-eq0-via-then-k-eq0 w ↦
          no_codes c.args.lengths n lent c.args.j c.args.i c.if-satellite-ge7.false (λ e. omega arith) c.codes_of-k.result c.codes_of-k.ensures w.if-k-eq0.true
      | then-k-eq0-via-else-k-eq0+then-counts-i w ↦
          no_slots c.args.lengths n lent c.args.j c.args.i c.if-satellite-ge7.false (λ e. omega arith) c.codes_of-k.result c.codes_of-k.ensures
          w.if-k-eq0.false (omega (arith, w.if-counts-i.true, c.requires))
      | then-k-eq0-via-else-k-eq0+else-counts-i+then-not-slots_fit w ↦
          slots_unfit c.args.lengths n lent c.args.j c.args.i c.if-satellite-ge7.false (λ e. omega arith) c.codes_of-k.result c.codes_of-k.ensures
          w.if-k-eq0.false (omega (arith, w.if-counts-i.false, c.requires)) w.slots_fit.result w.slots_fit.ensures w.if-not-slots_fit.true
    ]

pub returns : goal.returns
returns c =
    row_is c.args.lengths (counts_of c.args.counts) (rows_in c.args.rows.now) c.args.j c.args.i c.if-satellite-ge7.false (λ e. omega arith) c.codes_of-k.result c.codes_of-k.ensures
    c.if-k-eq0.false (omega (arith, c.if-counts-i.false, c.requires)) c.slots_fit.result c.slots_fit.ensures c.if-not-slots_fit.false
