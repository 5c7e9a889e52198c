-- `fits_values::code_lists::are_taken` meets its contract. The invariant: the codes that are left are taken if all are. Assumes nothing.
use mathlib.Core.Path.{◌≡◌}
use lib.ListN.{drop}
use Rattle.rinex.specs.Fit.{are_taken}
use Rattle.fits_values.proofs.code_lists.are_taken.Given as goal

abbrev pub invariant-loop-code : goal.invariant-loop-code
invariant-loop-code l = are_taken l.system (drop l.code-index l.codes) ≡ are_taken l.system l.codes
