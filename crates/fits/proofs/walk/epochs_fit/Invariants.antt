-- `fits::walk::epochs_fit` meets its contract. The invariant: the entries that are left give what all give, and what is untaken stays within the tables. Assumes nothing.
use Prim.Native.Nat.{◌-◌}
use mathlib.Core.Path.{◌≡◌}
use Rattle.rinex.specs.Fit.{epochs_fit}
use Rattle.rinex.specs.Lent.{counts_of}
use Rattle.lent.specs.Parts.{data_in}
use Rattle.fits.specs.Stepping.{untaken_of, Ready}
use Rattle.fits.proofs.walk.epochs_fit.Given as goal

abbrev pub invariant-loop-i : goal.invariant-loop-i
invariant-loop-i l =
    Ready l.counts l.c l.rows
    × (epochs_fit l.lengths (counts_of l.counts) (data_in l.epochs l.rows) (l.counts.epochs - l.i) l.i (untaken_of l.carried l.c)
    ≡ epochs_fit l.lengths (counts_of l.counts) (data_in l.epochs l.rows) l.counts.epochs 0 (untaken_of l.carried l.fn.from))
