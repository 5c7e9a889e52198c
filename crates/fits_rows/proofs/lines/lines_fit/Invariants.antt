-- `fits_rows::lines::lines_fit` meets its contract. The invariant: the lines that are left are fit if all are, and end alike. Assumes nothing.
use Prim.Native.Nat.{◌-◌}
use mathlib.Core.Path.{◌≡◌}
use mathlib.Core.Bool.{◌||◌}
use lib.ListN.{take, drop}
use Rattle.line.specs.Text.{split}
use Rattle.rinex.specs.Fit.{some_marker}
use Rattle.fits_rows.specs.Carried.{lines_fit}
use Rattle.fits_rows.proofs.lines.lines_fit.Given as goal

abbrev pub invariant-loop : goal.invariant-loop
invariant-loop l = (lines_fit l.event (l.n - l.counter) (split (drop l.run.to l.text)) ≡ lines_fit l.event l.n (split (drop l.at l.text))) × (drop (l.n - l.counter) (split (drop l.run.to l.text)) ≡ drop l.n (split (drop l.at l.text))) × ((l.run.marker || some_marker (take (l.n - l.counter) (split (drop l.run.to l.text)))) ≡ some_marker (take l.n (split (drop l.at l.text))))
