-- `write_rows::put_rows` meets its contract: what is put, with the rows that are left, ends alike. Assumes nothing.
use Prim.Native.Nat.{ℕ, ◌+◌, ◌*◌, ◌-◌, ◌<◌}
use mathlib.Core.Path.{◌≡◌, ◌∙◌}
use native.Mathlib.Omega.{arith}
use lib.ListN.{length, take, drop, length-take, length-append, length-drop}
use lib.Seq.{length-take-le}
use Rattle.write_rows.proofs.RowSteps.{row_here, row_few, row_room, put_all, put_more}
use borrow.Author.Rules.{rules}
use Rattle.write_rows.proofs.put_rows.Goals as goal

pub put_row-next-requires : goal.put_row-next-requires
put_row-next-requires c =
    let p = c.loop-row.invariant.2 in
    let h : 0 < c.args.j + c.args.k - c.loop-row.row = omega (arith, c.loop-row-test.true) in
    let e = c.codes_of-n.ensures in (
      rw length-take (omega (arith, row_few _ _ _ _ _ _ _ _ _ _ _ _ p h _ e, c.loop-row.invariant.1)),
      (row_here _ _ _ _ _ _ _ _ _ _ _ _ p h _ e, omega (arith, row_room _ _ _ _ _ _ _ _ _ _ _ _ p h _ e, c.requires.1)),
    )

pub loop-row-preserved : goal.loop-row-preserved
loop-row-preserved c =
    let p = c.loop-row.invariant.2 in
    let h : 0 < c.args.j + c.args.k - c.loop-row.row = omega (arith, c.loop-row-test.true) in
    let e = c.codes_of-n.ensures in
    let few = row_few _ _ _ _ _ _ _ _ _ _ _ _ p h _ e in
    let r = c.put_row-next in
    let w : ℕ = 3 + 16 * c.codes_of-n.result in
    let m : length (take w c.loop-row.line) ≡ w = length-take-le w c.loop-row.line (omega (arith, few, c.loop-row.invariant.1)) in (
      search rules,
      length-append r.new.line (drop w c.loop-row.line) ∙ omega (arith, few, c.loop-row.invariant.1, m, length-drop w c.loop-row.line, r.auto.line),
      put_more _ _ _ _ _ _ _ _ _ _ _ _ p h _ e _ _ _ _ r.ensures.out_after r.ensures.at_value (omega arith),
    )

pub returns : goal.returns
returns c =
    let r = put_all _ _ _ _ _ _ _ _ _ _ _ _ c.loop-row.invariant.2 (omega (arith, c.loop-row-test.false)) in
    record { out_after = r.0; at_value = (r.1, r.2) }
