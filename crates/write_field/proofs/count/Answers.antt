-- `write_field::count` meets its contract. The invariant: as many digits are counted as n has before what is left. Assumes nothing.
use native.Mathlib.Omega.{arith}
use Rattle.write_field.proofs.Counting.{begun, more, few, counted}
use Rattle.write_field.proofs.count.Goals as goal

pub loop-rest-init : goal.loop-rest-init
loop-rest-init c = begun _

pub overflow_add-k : goal.overflow_add-k
overflow_add-k c = omega (arith, few c.args.n c.loop-rest.k c.loop-rest.rest c.loop-rest.invariant c.loop-rest-test.true c.ranges.n.fits)

pub loop-rest-smaller : goal.loop-rest-smaller
loop-rest-smaller c = omega arith

pub loop-rest-preserved : goal.loop-rest-preserved
loop-rest-preserved c = more c.args.n c.loop-rest.k c.loop-rest.rest c.loop-rest.invariant c.loop-rest-test.true

pub returns : goal.returns
returns c = counted c.args.n c.loop-rest.k c.loop-rest.rest c.loop-rest.invariant c.loop-rest-test.false
