-- `line::within::skip_blanks` meets its contract. The invariant: from place n on all is blank. Assumes nothing.
use Prim.Native.Nat.{◌≤◌}
use lib.ListN.{length, drop}
use Rattle.lists.specs.Blank.{Blank}
use Rattle.line.proofs.within.skip_blanks.Given as goal

abbrev pub invariant-loop-n : goal.invariant-loop-n
invariant-loop-n l = (l.n ≤ length l.line) × Blank (drop l.n l.line)

abbrev pub decreases-loop-n : goal.decreases-loop-n
decreases-loop-n l = l.n
