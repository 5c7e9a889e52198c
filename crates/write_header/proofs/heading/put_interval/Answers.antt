-- `write_header::heading::put_interval` meets its contract. Assumes nothing.
use Prim.Native.Nat.{◌^◌}
use mathlib.Core.List.{[]}
use Rattle.write_header.proofs.Ahead.{begun, seen, one_put, one_room, all_put}
use Rattle.write_header.proofs.HeadLines.{no_interval, interval_ahead}
use Rattle.write_header.proofs.heading.put_interval.Goals as goal

pub returns-in_default : goal.returns-in_default
returns-in_default c =
    let a = c.args in
    let r = all_put a.out.now a.out.now a.at a.at _ (seen [] (no_interval a.interval c.in_default.is) (begun a.out.now a.at _)) in
    record { out_after = r.0; value = r.1 }

pub put_line-requires : goal.put_line-requires
put_line-requires c =
    let a = c.args in
    one_room a.out.now a.out.now a.at a.at _ _ [] (2 ^ 64) c.requires.1 (interval_ahead a.interval c.in-Some.n _ a.out.now a.at c.in-Some.is c.interval_line.ensures)

pub returns : goal.returns
returns c =
    let a = c.args in
    let p = c.put_line.ensures in
    let r = all_put _ a.out.now _ a.at _ (one_put a.out.now a.out.now a.at a.at _ _ [] _ _ p.out_after p.value (interval_ahead a.interval c.in-Some.n _ a.out.now a.at c.in-Some.is c.interval_line.ensures)) in
    record { out_after = r.0; value = r.1 }
