-- `fits::tables::data_fits` meets its contract. Assumes nothing.
use mathlib.Core.Path.{ap, ◌∙◌}
use mathlib.Core.Bool.{Bool, ◌&&◌}
use lib.Dec.{eqb}
use Rattle.line.specs.Text.{split}
use Rattle.rinex.specs.Lent.{counts_of}
use Rattle.lent.specs.Parts.{data_in}
use Rattle.rinex.specs.Fit.{epochs_fit}
use Rattle.fits.specs.declared.Untaken.{Untaken}
use Rattle.fits.specs.Stepping.{untaken_of}
use Rattle.fits.proofs.Whole.{none_left, no_header, no_epochs, data_taken}
use Rattle.fits.proofs.tables.data_fits.Goals as goal

pub returns-in_default : goal.returns-in_default
returns-in_default c =
    let a = c.args in
    no_header a.lengths (counts_of a.counts) (data_in a.epochs.now a.rows.now) a.lines (split a.carried.now) c.in_default.ensures

pub returns-in_default-epochs_fit : goal.returns-in_default-epochs_fit
returns-in_default-epochs_fit c =
    let a = c.args in
    let lent = data_in a.epochs.now a.rows.now in
    let run = c.in-Some.run' in
    no_epochs a.lengths (counts_of a.counts) lent a.lines (split a.carried.now) a.carried.now run.to run.marker c.in-Some.ensures
    (c.in_default-epochs_fit.ensures
    ∙ ap (λ (x : Untaken). epochs_fit a.lengths (counts_of a.counts) lent a.counts.epochs 0 (untaken_of a.carried.now x)) c.begin-start.ensures)

pub returns : goal.returns
returns c =
    let a = c.args in
    let lent = data_in a.epochs.now a.rows.now in
    let run = c.in-Some.run' in
    let d = c.in-Some-epochs_fit.c in
    data_taken a.lengths (counts_of a.counts) lent a.lines (split a.carried.now) a.carried.now run.to run.marker c.in-Some.ensures
    (untaken_of a.carried.now d)
    (c.in-Some-epochs_fit.ensures
    ∙ ap (λ (x : Untaken). epochs_fit a.lengths (counts_of a.counts) lent a.counts.epochs 0 (untaken_of a.carried.now x)) c.begin-start.ensures)
    c.all_taken.result
    (c.all_taken.ensures ∙ ap (λ (b : Bool). eqb d.row a.counts.rows && (eqb d.slot a.counts.slots && b)) (none_left a.carried.now d.at))
