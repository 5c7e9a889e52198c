-- `write_header::heading::put_header` meets its contract: after each part, the lines behind it are ahead. Assumes nothing.
use Prim.Native.Nat.{◌^◌}
use Rattle.line.specs.Text.{split}
use Rattle.rinex.specs.Lent.{head_of}
use Rattle.write_header.proofs.HeadLines.{all_fit}
use Rattle.write_header.proofs.HeaderSteps.{top_room, held_room, end_room, header_put}
use Rattle.write_header.proofs.heading.put_header.Goals as goal

pub put_top-top-requires : goal.put_top-top-requires
put_top-top-requires c =
    let a = c.args in
    (c.requires.0.head, (all_fit a.head.letter a.head.lengths a.codes.now c.requires.0.lists, top_room (head_of a.head) a.codes.now (split a.carried.now) a.out.now a.at (2 ^ 64) c.requires.1))

pub put_lines-lines-requires : goal.put_lines-lines-requires
put_lines-lines-requires c =
    let a = c.args in
    let p = c.put_top-top.ensures in
    (c.requires.0.lines, held_room (head_of a.head) a.codes.now (split a.carried.now) a.out.now a.at (2 ^ 64) c.requires.1 _ _ p.out_after p.value)

pub put_line-end-requires : goal.put_line-end-requires
put_line-end-requires c =
    let a = c.args in
    let p = c.put_top-top.ensures in
    let l = c.put_lines-lines.ensures in
    end_room (head_of a.head) a.codes.now (split a.carried.now) a.out.now a.at (2 ^ 64) c.requires.1 _ _ p.out_after p.value _ _ l.out_after l.at_value.0 _ c.end_line.ensures

pub returns : goal.returns
returns c =
    let a = c.args in
    let p = c.put_top-top.ensures in
    let l = c.put_lines-lines.ensures in
    let e = c.put_line-end.ensures in
    let r =
    header_put (head_of a.head) a.codes.now (split a.carried.now) a.out.now a.at (2 ^ 64) c.requires.1 _ _ p.out_after p.value _ _ l.out_after l.at_value.0 _ c.end_line.ensures _ _ e.out_after e.value in
    record { out_after = r.0; at_value = (r.1, l.at_value.1) }
