-- `moment::month_at` meets its contract. The loop's invariant: the months passed and what is left make the day. Assumes nothing.
use mathlib.Core.Path.{refl}
use Prim.Native.Nat.{◌+◌, ◌<◌}
use native.Mathlib.Omega.{arith}
use Rattle.moment.specs.Moment.{sum_to, month_days}
use Rattle.moment.proofs.Days.{sum_next, sum_lt}
use Rattle.moment.proofs.month_at.Goals as goal

pub loop-n-init : goal.loop-n-init
unfolding month_days sum_to
loop-n-init c = (omega arith, refl, omega arith)

pub overflow_add-m : goal.overflow_add-m
overflow_add-m c = omega arith

pub month_days-n-requires : goal.month_days-n-requires
month_days-n-requires c =
    let next : c.loop-n.m + 1 < 12 =
    let f = month_days c.args.l in
    sum_lt f (c.loop-n.m + 1) 12 (omega (arith, sum_next f c.loop-n.m)) in
    next

pub loop-n-smaller : goal.loop-n-smaller
loop-n-smaller c = omega arith

pub loop-n-preserved : goal.loop-n-preserved
loop-n-preserved c =
    let next : c.loop-n.m + 1 < 12 =
    let f = month_days c.args.l in
    sum_lt f (c.loop-n.m + 1) 12 (omega (arith, sum_next f c.loop-n.m)) in
    (omega (arith, sum_next (month_days c.args.l) c.loop-n.m), c.month_days-n.ensures.0, next)

pub returns : goal.returns
returns c = omega arith
