-- `moment::date_of` meets its contract. Assumes nothing.
use Prim.Native.Nat.{◌/◌}
use native.Mathlib.Omega.{arith}
use Rattle.moment.proofs.Days.{year_is}
use Rattle.moment.proofs.DateAt.{date_is}
use Rattle.moment.proofs.date_of.Goals as goal

pub month_at-m-requires : goal.month_at-m-requires
month_at-m-requires c = rw c.is_leap.ensures (omega (arith, year_is c.year_at-y.result.block))

pub returns : goal.returns
returns c =
    let t = c.args.t in
    let y = c.year_at-y.result in
    let m = c.month_at-m.result in
    let l = rw c.is_leap.ensures at c.month_at-m.ensures in
    date_is _ t (t / 600000000 / 60 / 24) y.block y.rest m.block m.rest c.year_at-y.ensures l
    (omega arith) (omega arith) (omega arith) (omega arith) (omega arith) (omega arith) (omega arith)
