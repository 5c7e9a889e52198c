-- `fits_values::apart::are_apart` meets its contract. The invariant: those that are left are apart behind the marked ones if all are. Assumes nothing.
use mathlib.Core.Path.{◌≡◌}
use mathlib.Core.List.{[]}
use lib.ListN.{take, drop}
use Rattle.fits_values.specs.Apart.{apart}
use Rattle.fits_values.proofs.Parted.{Marked}
use Rattle.fits_values.proofs.apart.are_apart.Given as goal

abbrev pub invariant-loop-satellite : goal.invariant-loop-satellite
invariant-loop-satellite l = Marked l.seen (take l.satellite-index l.satellites) × (apart (take l.satellite-index l.satellites) (drop l.satellite-index l.satellites) ≡ apart [] l.satellites)
