-- `fits::tables::tables_fit` meets its contract. Assumes nothing.
use mathlib.Core.Path.{sym, ◌∙◌}
use native.Mathlib.Omega.{arith}
use lib.ListN.{length-take}
use Rattle.rinex.specs.Lent.{head_of, counts_of}
use Rattle.lent.specs.Parts.{tables_in}
use Rattle.fits.proofs.Whole.{room_holds, no_head, no_lists, no_room, tables_are}
use Rattle.fits.proofs.tables.tables_fit.Goals as goal
use Rattle.fits.proofs.tables.tables_fit.Goals.{then-not-head_fits-via-then-not-head_fits, then-not-head_fits-via-else-not-head_fits+then-not-all_lists_fit, then-not-head_fits-via-else-not-head_fits+else-not-all_lists_fit+then-not-room_fits}

pub returns-then-not-head_fits : goal.returns-then-not-head_fits
returns-then-not-head_fits c =
    let h = head_of c.args.head in
    let n = counts_of c.args.counts in
    let lent = tables_in c.args.tables.now in
    elim c.then-not-head_fits.branch [
      | then-not-head_fits-via-then-not-head_fits w ↦ no_head h n lent (sym c.head_fits.ensures ∙ w.if-not-head_fits.true)
      | then-not-head_fits-via-else-not-head_fits+then-not-all_lists_fit w ↦
          no_lists h n lent (sym c.head_fits.ensures ∙ w.if-not-head_fits.false) (sym w.all_lists_fit.ensures ∙ w.if-not-all_lists_fit.true)
      | then-not-head_fits-via-else-not-head_fits+else-not-all_lists_fit+then-not-room_fits w ↦
          no_room h n lent (sym c.head_fits.ensures ∙ w.if-not-head_fits.false) (sym w.all_lists_fit.ensures ∙ w.if-not-all_lists_fit.false)
          (sym w.room_fits.ensures ∙ w.if-not-room_fits.true)
    ]

pub slice_bounds-carried-end : goal.slice_bounds-carried-end
slice_bounds-carried-end c =
    let r = room_holds (counts_of c.args.counts) c.args.tables.now (sym c.room_fits.ensures ∙ c.if-not-room_fits.false) in
    omega (arith, r.carried, length-take c.args.counts.carried c.args.tables.now.carried.now)

pub data_fits-requires : goal.data_fits-requires
data_fits-requires c =
    let r = room_holds (counts_of c.args.counts) c.args.tables.now (sym c.room_fits.ensures ∙ c.if-not-room_fits.false) in
    (r.entries, (r.rows, r.slots))

pub returns : goal.returns
returns c =
    c.data_fits.ensures
    ∙ tables_are (head_of c.args.head) (counts_of c.args.counts) (tables_in c.args.tables.now) (sym c.head_fits.ensures ∙ c.if-not-head_fits.false) (sym c.all_lists_fit.ensures ∙ c.if-not-all_lists_fit.false)
    (sym c.room_fits.ensures ∙ c.if-not-room_fits.false)
