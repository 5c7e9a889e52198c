-- `moment::year_at` meets its contract. Assumes nothing.
use mathlib.Core.Path.{◌≡◌}
use mathlib.Core.Logic.{◌≢◌}
use Prim.Native.Nat.{◌+◌, ◌-◌, ◌*◌, ◌/◌, ◌%◌, ◌<◌}
use native.Mathlib.Omega.{arith}
use Rattle.moment.proofs.Days.{years, year_leap, year_other}
use Rattle.moment.proofs.year_at.Goals as goal

pub returns-then-r-lt366 : goal.returns-then-r-lt366
returns-then-r-lt366 c =
    let k = 4 * (c.args.day / 1461) in
    let b : k < 120 = omega arith in
    let h : k % 4 ≡ 0 = omega arith in
    omega (arith, years k (omega arith), year_leap k b h)

pub returns : goal.returns
returns c =
    let r = c.args.day % 1461 in
    let k = 4 * (c.args.day / 1461) + 1 + (r - 366) / 365 in
    let b : k < 120 = omega arith in
    let h : k % 4 ≢ 0 = omega arith in
    omega (arith, years k (omega arith), year_other k b h)
