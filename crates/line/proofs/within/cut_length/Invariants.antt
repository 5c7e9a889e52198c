-- `line::within::cut_length` meets its contract. The invariant: from place i on all is blank. Assumes nothing.
use lib.ListN.{drop}
use Rattle.lists.specs.Blank.{Blank}
use Rattle.line.proofs.within.cut_length.Given as goal

abbrev pub invariant-loop-i : goal.invariant-loop-i
invariant-loop-i l = Blank (drop l.i l.line)
