-- `moment::day_of` meets its contract. Assumes nothing.
use Prim.Native.Nat.{◌≤◌, ◌-◌}
use native.Mathlib.Omega.{arith}
use Rattle.std.proofs.lemmas.Grind.{common_steps}
use Rattle.std.proofs.iter.runs.Sources.{ranges}
use Rattle.moment.specs.Moment.{days}
use Rattle.moment.proofs.Days.{years}
use Rattle.moment.proofs.day_of.Goals as goal

pub returns : goal.returns
unfolding days
returns c =
    let a = c.args in
    let l = c.is_leap-l.ensures in
    let from : 1980 ≤ a.year = grind (arith, common_steps, ranges) in
    let to : a.year ≤ 2099 = grind (arith, common_steps, ranges) in
    let m : 1 ≤ a.month = grind (arith, common_steps, ranges) in
    let n : a.month ≤ 12 = grind (arith, common_steps, ranges) in
    let k : a.year - 1980 ≤ 120 = omega arith in (
      omega (arith, rw l at c.month_days.ensures.0),
      omega (arith, years (a.year - 1980) k, rw l at c.before_month-b.ensures.0),
    )
