-- `moment::before_month` meets its contract. The loop's invariant: the sum is that of the months passed. Assumes nothing.
use mathlib.Core.Path.{◌≡◌}
use Rattle.moment.specs.Moment.{sum_to, month_days}
use Rattle.moment.proofs.before_month.Given as goal

abbrev pub invariant-loop-k : goal.invariant-loop-k
invariant-loop-k l = l.s ≡ sum_to (month_days l.l) l.k
