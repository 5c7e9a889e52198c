-- `write_data::epochs::put_epochs` meets its contract. The invariant: what is put, with the entries that are left, ends as all do. Assumes nothing.
use mathlib.Core.Path.{◌≡◌}
use lib.ListN.{length}
use Rattle.lent.specs.Parts.{data_in}
use Rattle.fits.specs.Stepping.{untaken_of}
use Rattle.write_data.proofs.EpochTurns.{Left}
use Rattle.write_data.proofs.epochs.put_epochs.Given as goal

abbrev pub invariant-loop-i : goal.invariant-loop-i
invariant-loop-i l =
    (length l.out ≡ length l.initial.out) × Left l.lengths (data_in l.epochs l.rows) l.n (untaken_of l.carried l.initial.c) l.initial.out l.at l.out l.i l.to (untaken_of l.carried l.c)
