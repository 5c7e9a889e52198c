-- `moment::before_month` meets its contract. The loop's invariant: the sum is that of the months passed. Assumes nothing.
use mathlib.Core.Path.{◌≡◌, refl, ◌∙◌, ap}
use Prim.Native.Nat.{◌<◌}
use native.Mathlib.Omega.{arith}
use lib.Dec.{lit≤}
use Rattle.moment.specs.Moment.{sum_to, month_days}
use Rattle.moment.proofs.Days.{sum_next, sum_past, month_sum}
use Rattle.moment.proofs.before_month.Goals as goal

pub loop-k-init : goal.loop-k-init
unfolding sum_to
loop-k-init c = refl

pub overflow_add-s : goal.overflow_add-s
overflow_add-s c =
    let h : c.loop-k.k < 12 = omega arith in
    omega (arith, sum_past (month_days c.args.l) c.loop-k.k 12 h, month_sum c.args.l 12 (lit≤ tt))

pub loop-k-preserved : goal.loop-k-preserved
loop-k-preserved c = omega (arith, sum_next (month_days c.args.l) c.loop-k.k)

pub returns : goal.returns
returns c =
    let a = c.args in
    let e : c.loop-k.k ≡ a.m = omega arith in
    (c.loop-k.invariant ∙ ap (sum_to (month_days a.l)) e, omega (arith, month_sum a.l c.loop-k.k (omega arith)))
