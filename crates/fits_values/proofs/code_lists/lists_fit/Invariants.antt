-- `fits_values::code_lists::lists_fit` meets its contract. The invariant: the lists that are left are fit if all are. Assumes nothing.
use mathlib.Core.Path.{◌≡◌}
use lib.ListN.{drop}
use Rattle.rinex.specs.Fit.{lists_fit}
use Rattle.fits_values.proofs.code_lists.lists_fit.Given as goal

abbrev pub invariant-loop-s : goal.invariant-loop-s
invariant-loop-s l = lists_fit l.letter l.codes l.s (drop l.s l.fn.lengths) ≡ lists_fit l.letter l.codes 0 l.fn.lengths
