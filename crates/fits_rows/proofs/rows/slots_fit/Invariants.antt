-- `fits_rows::rows::slots_fit` meets its contract. The invariant: the slots that are left are fit if all are. Assumes nothing.
use Prim.Native.Nat.{◌-◌}
use mathlib.Core.Path.{◌≡◌}
use Rattle.rinex.specs.Fit.{slots_fit}
use Rattle.lent.specs.Parts.{slots_in}
use Rattle.fits_rows.proofs.rows.slots_fit.Given as goal

abbrev pub invariant-loop-at : goal.invariant-loop-at
invariant-loop-at l = slots_fit (slots_in l.slots) (l.at-end - l.at) l.at ≡ slots_fit (slots_in l.slots) l.k l.i
