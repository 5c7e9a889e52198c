-- `write_field::count` meets its contract. The invariant: as many digits are counted as n has before what is left. Assumes nothing.
use Rattle.write_field.proofs.Counting.{Counted}
use Rattle.write_field.proofs.count.Given as goal

abbrev pub invariant-loop-rest : goal.invariant-loop-rest
invariant-loop-rest l = Counted l.n l.k l.rest

abbrev pub decreases-loop-rest : goal.decreases-loop-rest
decreases-loop-rest l = l.rest
