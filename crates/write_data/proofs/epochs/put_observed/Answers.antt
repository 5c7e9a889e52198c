-- `write_data::epochs::put_observed` meets its contract. Assumes nothing.
use Prim.Native.Nat.{ℕ}
use mathlib.Core.List.{List}
use native.Mathlib.Omega.{arith}
use Rattle.rinex.specs.Lent.{entry_of}
use Rattle.lent.specs.Parts.{rows_in}
use Rattle.write_rows.specs.Rows.{rows_text}
use Rattle.write_data.specs.Records.{record_line}
use Rattle.write_data.proofs.Followed.{follow_length, followed}
use Rattle.write_data.proofs.epochs.put_observed.Goals as goal

pub put_record-to-requires : goal.put_record-to-requires
put_record-to-requires c =
    let lent = rows_in c.args.rows.now in
    let rows_of : List ℕ =
    rows_text c.args.lengths lent c.args.e.count c.args.c.row c.args.c.slot in
    let l = record_line (entry_of c.args.e) in
    (c.requires.0, omega (arith, c.requires.1.1, follow_length l rows_of))

pub overflow_add-result : goal.overflow_add-result
overflow_add-result c = omega (arith, c.requires.1.0.rows, c.requires.1.0.lent.rows_hold)

pub returns-clause-out_after : goal.returns-clause-out_after
returns-clause-out_after c =
    let lent = rows_in c.args.rows.now in
    let l = record_line (entry_of c.args.e) in
    let r = c.put_record-to in
    let p = c.put_rows-end in
    followed l (rows_text c.args.lengths lent c.args.e.count c.args.c.row c.args.c.slot) c.args.out.now r.new.out p.new.out c.args.at r.result r.ensures.out_after r.ensures.value p.ensures.out_after
