-- `write_header::code_lists::put_lists` meets its contract: what is put, with the lists that are ahead, ends alike. Assumes nothing.
use Prim.Native.Nat.{◌+◌, ◌^◌, ◌<◌}
use mathlib.Core.Path.{◌≡◌, refl}
use mathlib.Core.List.{[]}
use native.Mathlib.Omega.{arith}
use lib.ListN.{length}
use borrow.Author.Rules.{rules}
use Rattle.write_header.proofs.Ahead.{begun, seen, some_put, some_room, all_put}
use Rattle.write_header.proofs.CodeLines.{list_of, lists_from, lists_split, lists_done, lists_fit_lem}
use Rattle.write_header.proofs.code_lists.put_lists.Goals as goal

pub loop-s-init : goal.loop-s-init
loop-s-init c = (c.requires.0, refl, begun c.args.out.now c.args.at _)

pub put_list-to-requires : goal.put_list-to-requires
put_list-to-requires c =
    let seven : length c.args.lengths ≡ 7 =
    search rules in
    let next_here : c.loop-s.s < length c.args.lengths =
    omega (arith, seven) in
    let l = c.loop-s in
    let a = c.args in
    (omega (arith, seven, next_here), ((lists_fit_lem a.lengths a.codes.now l.s a.letter next_here l.invariant.0).0, some_room l.out a.out.now l.to a.at _ (list_of l.s a.lengths a.codes.now) (lists_from (l.s + 1) a.lengths a.codes.now) (2 ^ 64) c.requires.1 (seen _ (lists_split a.lengths a.codes.now l.s next_here) l.invariant.2)))

pub loop-s-preserved : goal.loop-s-preserved
loop-s-preserved c =
    let seven : length c.args.lengths ≡ 7 =
    search rules in
    let next_here : c.loop-s.s < length c.args.lengths =
    omega (arith, seven) in
    let l = c.loop-s in
    let a = c.args in (
      (lists_fit_lem a.lengths a.codes.now l.s a.letter next_here l.invariant.0).1,
      search rules,
      some_put l.out a.out.now l.to a.at _ (list_of l.s a.lengths a.codes.now) (lists_from (l.s + 1) a.lengths a.codes.now) _ _ c.put_list-to.ensures.out_after c.put_list-to.ensures.value (seen _ (lists_split a.lengths a.codes.now l.s next_here) l.invariant.2),
    )

pub returns : goal.returns
returns c =
    let seven : length c.args.lengths ≡ 7 =
    search rules in
    let l = c.loop-s in
    let a = c.args in
    let r = all_put l.out a.out.now l.to a.at _ (seen [] (lists_done a.lengths a.codes.now l.s (omega (arith, seven))) l.invariant.2) in
    record { out_after = r.0; value = r.1 }
