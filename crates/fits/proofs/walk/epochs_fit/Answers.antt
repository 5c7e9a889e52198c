-- `fits::walk::epochs_fit` meets its contract. Assumes nothing.
use mathlib.Core.Path.{sym, ◌∙◌}
use native.Mathlib.Omega.{arith}
use Rattle.rinex.specs.Lent.{counts_of, entry_of}
use Rattle.lent.specs.Parts.{data_in}
use Rattle.fits.specs.Stepping.{untaken_of}
use Rattle.fits.proofs.Walked.{epoch_at, epoch_within, epochs_over, epochs_stop, epochs_more}
use Rattle.fits.proofs.walk.epochs_fit.Goals as goal

pub epoch_fits-requires : goal.epoch_fits-requires
epoch_fits-requires c = c.loop-i.invariant.0

pub returns-in_err-c : goal.returns-in_err-c
returns-in_err-c c =
    let a = c.args in
    let l = c.loop-i in
    let n = counts_of a.counts in
    let lent = data_in a.epochs.now a.rows.now in
    let stepped = epoch_at a.lengths n lent (entry_of c.entry-e.result) (untaken_of a.carried.now l.c) l.i c.entry-e.ensures in
    rw c.from_residual.ensures (sym (epochs_stop a.lengths n lent l.i a.counts.epochs (untaken_of a.carried.now l.c) c.loop-i-test.true (c.in_err-c.ensures ∙ stepped)) ∙ l.invariant.1)

pub loop-i-preserved : goal.loop-i-preserved
loop-i-preserved c =
    let a = c.args in
    let l = c.loop-i in
    let n = counts_of a.counts in
    let lent = data_in a.epochs.now a.rows.now in
    let from = untaken_of a.carried.now l.c in
    let fit = c.in_ok-c.ensures ∙ epoch_at a.lengths n lent (entry_of c.entry-e.result) from l.i c.entry-e.ensures in
    let r = l.invariant.0 in
    let w = epoch_within a.lengths n lent _ from r.row r.slot _ (sym fit) in (
      record { rows_hold = r.rows_hold; slots_hold = r.slots_hold; row = w.0; slot = w.1 },
      sym (epochs_more a.lengths n lent l.i a.counts.epochs from c.loop-i-test.true _ fit) ∙ l.invariant.1,
    )

pub returns : goal.returns
returns c =
    let a = c.args in
    let l = c.loop-i in
    sym (epochs_over a.lengths (counts_of a.counts) (data_in a.epochs.now a.rows.now) l.i a.counts.epochs (untaken_of a.carried.now l.c) (omega (arith, c.loop-i-test.false))) ∙ l.invariant.1
