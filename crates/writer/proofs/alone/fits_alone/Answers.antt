-- `writer::alone::fits_alone` meets its contract. Assumes nothing.
use Prim.Native.Nat.{ℕ}
use mathlib.Core.Path.{◌≡◌, ap, ◌∙◌}
use mathlib.Core.List.{[]}
use native.Mathlib.Omega.{arith}
use lib.ListN.{length}
use Rattle.rinex.specs.Tables.{Counts, room}
use Rattle.rinex.specs.Fit as rule
use Rattle.rinex.specs.Fit.{epoch_fits}
use Rattle.rinex.specs.Lent.{entry_of}
use Rattle.writer.specs.Alone.{alone_in}
use Rattle.fits.specs.declared.Untaken.{Untaken}
use Rattle.fits.proofs.Alone.{rows_alone}
use Rattle.fits.specs.Stepping.{untaken_of}
use Rattle.writer.proofs.alone.fits_alone.Goals as goal

pub epoch_fits-requires : goal.epoch_fits-requires
epoch_fits-requires c =
    let n = c.room.ensures in
    let e = c.begin.ensures in
    let j : c.begin.result.row ≡ 0 = ap (λ (x : Untaken). x.row) e in
    let i : c.begin.result.slot ≡ 0 = ap (λ (x : Untaken). x.slot) e in
    record {
      rows_hold = omega arith;
      slots_hold = record { numbers_hold = omega (arith, n); states_hold = omega (arith, n); losses_hold = omega (arith, n); strengths_hold = omega (arith, n) };
      row = omega (arith, j);
      slot = omega (arith, i);
    }

-- so the epoch is judged as the rule does
pub returns : goal.returns
unfolding room rule.lent
returns c =
    let lent = alone_in [] c.args.rows.now c.args.carried.now in
    let used_is : record { epochs = 0; rows = length c.args.rows.now.satellites.now; slots = c.room.result; carried = length c.args.carried.now } ≡ rule.lent lent =
    ap (λ (n : ℕ). record { epochs = 0; rows = length c.args.rows.now.satellites.now; slots = n; carried = length c.args.carried.now }) c.room.ensures in
    let a = c.args in
    let d = c.begin in
    c.epoch_fits.ensures
    ∙ (ap (λ (n : Counts). epoch_fits a.lengths n (rows_alone lent) (entry_of a.e) (untaken_of a.carried.now d.result)) used_is
    ∙ ap (λ (x : Untaken). epoch_fits a.lengths (rule.lent lent) (rows_alone lent) (entry_of a.e) (untaken_of a.carried.now x)) d.ensures)
