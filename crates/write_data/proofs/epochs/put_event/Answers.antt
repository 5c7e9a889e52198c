-- `write_data::epochs::put_event` meets its contract. Assumes nothing.
use Prim.Native.Nat.{ℕ}
use mathlib.Core.List.{List}
use native.Mathlib.Omega.{arith}
use lib.ListN.{drop}
use Rattle.line.specs.Text.{split}
use Rattle.rinex.specs.Lent.{entry_of}
use Rattle.write_lines.specs.Lines.{lines_text}
use Rattle.write_data.specs.Records.{record_line}
use Rattle.write_data.proofs.Followed.{follow_length, followed}
use Rattle.write_data.proofs.epochs.put_event.Goals as goal

pub put_record-to-requires : goal.put_record-to-requires
put_record-to-requires c =
    let lines_of : List ℕ =
    lines_text c.args.e.count (split (drop c.args.c.at c.args.carried.now)) in
    let l = record_line (entry_of c.args.e) in
    let t = lines_of in
    (c.requires.0, omega (arith, c.requires.1.1, follow_length l t))

pub returns-clause-out_after : goal.returns-clause-out_after
returns-clause-out_after c =
    let l = record_line (entry_of c.args.e) in
    let r = c.put_record-to in
    let p = c.put_lines-lines in
    followed l (lines_text c.args.e.count (split (drop c.args.c.at c.args.carried.now))) c.args.out.now r.new.out p.new.out c.args.at r.result r.ensures.out_after r.ensures.value p.ensures.out_after
