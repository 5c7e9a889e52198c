-- `write_lines::put_lines` meets its contract. The invariant: the lines that are left end alike. Assumes nothing.
use Prim.Native.Nat.{◌-◌}
use mathlib.Core.Path.{◌≡◌}
use lib.ListN.{length}
use Rattle.write_lines.proofs.LineSteps.{Left}
use Rattle.write_lines.proofs.put_lines.Given as goal

abbrev pub invariant-loop : goal.invariant-loop
invariant-loop l = (length l.out ≡ length l.initial.out) × Left l.text l.from l.n l.initial.out l.at l.out l.i l.to (l.n - l.counter)
