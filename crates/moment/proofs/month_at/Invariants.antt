-- `moment::month_at` meets its contract. The loop's invariant: the months passed and what is left make the day. Assumes nothing.
use mathlib.Core.Path.{◌≡◌}
use Prim.Native.Nat.{◌+◌, ◌-◌, ◌<◌}
use Rattle.moment.specs.Moment.{sum_to, month_days}
use Rattle.moment.proofs.month_at.Given as goal

abbrev pub invariant-loop-n : goal.invariant-loop-n
invariant-loop-n l = (sum_to (month_days l.l) l.m + l.r ≡ l.day) × (l.n ≡ month_days l.l l.m) × (l.m < 12)

abbrev pub decreases-loop-n : goal.decreases-loop-n
decreases-loop-n l = 12 - l.m
