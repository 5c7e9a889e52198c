-- `fits::epochs::event_fits` meets its contract. Assumes nothing.
use mathlib.Core.Path.{sym, ◌∙◌}
use borrow.Author.Tests.{not-true, not-false}
use Rattle.rinex.specs.Lent.{entry_of}
use Rattle.fits.specs.Stepping.{untaken_of}
use Rattle.fits.proofs.Stepped.{no_event, no_lines, no_marker, marked, unasked}
use Rattle.fits.proofs.epochs.event_fits.Goals as goal
use Rattle.fits.proofs.epochs.event_fits.Goals.{else-asked-via-then-asked+else-not-run, else-asked-via-else-asked}

pub returns-then-not-event_entry : goal.returns-then-not-event_entry
returns-then-not-event_entry c =
    let a = c.args in
    no_event (entry_of a.e) (untaken_of a.carried.now a.c) (sym c.event_entry.ensures ∙ c.if-not-event_entry.true)

pub returns-in_err-run : goal.returns-in_err-run
returns-in_err-run c =
    let a = c.args in
    rw c.from_residual.ensures (no_lines (entry_of a.e) (untaken_of a.carried.now a.c) (sym c.event_entry.ensures ∙ c.if-not-event_entry.false) c.in_err-run.ensures)

pub returns-then-not-run : goal.returns-then-not-run
returns-then-not-run c =
    let a = c.args in
    let run = c.in_ok-run.run' in
    no_marker (entry_of a.e) (untaken_of a.carried.now a.c) (sym c.event_entry.ensures ∙ c.if-not-event_entry.false) a.carried.now run.to run.marker
    c.in_ok-run.ensures c.if-asked.true (not-true run.marker c.if-not-run.true)

pub returns : goal.returns
returns c =
    let a = c.args in
    let run = c.in_ok-run.run' in
    elim c.else-asked.branch [
      | else-asked-via-then-asked+else-not-run w ↦
          marked (entry_of a.e) (untaken_of a.carried.now a.c) (sym c.event_entry.ensures ∙ c.if-not-event_entry.false) a.carried.now run.to run.marker
          c.in_ok-run.ensures (not-false run.marker w.if-not-run.false)
      | else-asked-via-else-asked w ↦
          unasked (entry_of a.e) (untaken_of a.carried.now a.c) (sym c.event_entry.ensures ∙ c.if-not-event_entry.false) a.carried.now run.to run.marker
          c.in_ok-run.ensures w.if-asked.false
    ]
