-- `fits::epochs::observed_fits` meets its contract. Assumes nothing.
use Prim.Native.Nat.{◌+◌, ◌≤◌}
use mathlib.Core.Path.{sym, ◌∙◌}
use native.Mathlib.Omega.{arith}
use Rattle.rinex.specs.Lent.{counts_of, entry_of}
use Rattle.lent.specs.Parts.{rows_in}
use Rattle.fits.specs.Stepping.{untaken_of}
use Rattle.fits.proofs.Stepped.{no_entry, no_rows, rows_unfit, not_apart, observed_is}
use Rattle.fits.proofs.epochs.observed_fits.Goals as goal
use Rattle.fits.proofs.epochs.observed_fits.Goals.{then-not-observed_entry-via-then-not-observed_entry, then-not-observed_entry-via-else-not-observed_entry+then-counts-row}

pub returns-then-not-observed_entry : goal.returns-then-not-observed_entry
returns-then-not-observed_entry c =
    let a = c.args in
    elim c.then-not-observed_entry.branch [
      | then-not-observed_entry-via-then-not-observed_entry w ↦
          λ t. no_entry a.lengths (counts_of a.counts) (rows_in a.rows.now) (entry_of a.e) (untaken_of t a.c) (sym c.observed_entry.ensures ∙ w.if-not-observed_entry.true)
      | then-not-observed_entry-via-else-not-observed_entry+then-counts-row w ↦
          λ t. no_rows a.lengths (counts_of a.counts) (rows_in a.rows.now) (entry_of a.e) (untaken_of t a.c) (sym c.observed_entry.ensures ∙ w.if-not-observed_entry.false)
          (omega (arith, w.if-counts-row.true, c.requires.row))
    ]

pub returns-in_err-slot : goal.returns-in_err-slot
returns-in_err-slot c =
    let a = c.args in
    let rows : a.c.row + a.e.count ≤ a.counts.rows = omega (arith, c.if-counts-row.false, c.requires.row) in
    rw c.from_residual.ensures (λ t. rows_unfit a.lengths (counts_of a.counts) (rows_in a.rows.now) (entry_of a.e) (untaken_of t a.c) (sym c.observed_entry.ensures ∙ c.if-not-observed_entry.false)
    rows c.in_err-slot.ensures)

pub returns-then-not-are_apart : goal.returns-then-not-are_apart
returns-then-not-are_apart c =
    let a = c.args in
    let rows : a.c.row + a.e.count ≤ a.counts.rows = omega (arith, c.if-counts-row.false, c.requires.row) in
    λ t. not_apart a.lengths (counts_of a.counts) (rows_in a.rows.now) (entry_of a.e) (untaken_of t a.c) (sym c.observed_entry.ensures ∙ c.if-not-observed_entry.false)
    rows c.in_ok-slot.slot c.in_ok-slot.ensures c.requires.rows_hold (sym c.are_apart.ensures ∙ c.if-not-are_apart.true)

pub returns : goal.returns
returns c =
    let a = c.args in
    let rows : a.c.row + a.e.count ≤ a.counts.rows = omega (arith, c.if-counts-row.false, c.requires.row) in
    λ t. observed_is a.lengths (counts_of a.counts) (rows_in a.rows.now) (entry_of a.e) (untaken_of t a.c) (sym c.observed_entry.ensures ∙ c.if-not-observed_entry.false)
    rows c.in_ok-slot.slot c.in_ok-slot.ensures c.requires.rows_hold (sym c.are_apart.ensures ∙ c.if-not-are_apart.false)
