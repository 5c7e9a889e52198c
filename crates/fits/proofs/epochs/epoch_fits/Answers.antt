-- `fits::epochs::epoch_fits` meets its contract. Assumes nothing.
use mathlib.Core.Path.{◌∙◌}
use Rattle.rinex.specs.Lent.{counts_of, entry_of}
use Rattle.lent.specs.Parts.{rows_in}
use Rattle.fits.specs.Stepping.{untaken_of}
use Rattle.fits.proofs.Walked.{epoch_observed, epoch_event}
use Rattle.fits.proofs.epochs.epoch_fits.Goals as goal

pub returns-then-e-le1 : goal.returns-then-e-le1
returns-then-e-le1 c =
    let a = c.args in
    c.observed_fits.ensures a.carried.now ∙ epoch_observed a.lengths (counts_of a.counts) (rows_in a.rows.now) (entry_of a.e) (untaken_of a.carried.now a.c) c.if-e-le1.true

pub returns-else-e-le1 : goal.returns-else-e-le1
returns-else-e-le1 c =
    let a = c.args in
    c.event_fits.ensures ∙ epoch_event a.lengths (counts_of a.counts) (rows_in a.rows.now) (entry_of a.e) (untaken_of a.carried.now a.c) c.if-e-le1.false
