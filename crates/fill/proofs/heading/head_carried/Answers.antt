-- `fill::heading::head_carried` meets its contract. Assumes nothing.
use native.Mathlib.Omega.{arith}
use Rattle.fill.specs.Fill.{carried_put}
use Rattle.line.proofs.Columns.{length_cut}
use Rattle.fill.proofs.HeadTurns.{put_carried}
use Rattle.fill.proofs.heading.head_carried.Goals as goal

pub returns : goal.returns
unfolding carried_put
returns c =
    let a = c.args in
    let p = c.put_line in
    put_carried a.h a.line.now a.carried.now _ p.result p.ensures.value p.ensures.out_after

pub put_line-requires : goal.put_line-requires
put_line-requires c = omega (arith, length_cut c.args.line.now)
