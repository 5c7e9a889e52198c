-- `write_header::heading::put_top` meets its contract: after each line, and after the lists, those behind are ahead. Assumes nothing.
use Prim.Native.Nat.{ℕ, ◌+◌, ◌^◌}
use mathlib.Core.Path.{◌≡◌, ap, ◌∙◌}
use lib.ListN.{length}
use lib.Seq.{sets}
use Rattle.std.specs.Prelude.{Option}
use Rattle.rinex.specs.Held.{optional}
use Rattle.rinex.specs.Lent.{head_of}
use Rattle.columns.proofs.States.{held}
use borrow.Author.Rules.{rules}
use Rattle.write_header.specs.Heading.{interval_text}
use Rattle.write_header.proofs.HeadLines.{given, interval_fits}
use Rattle.write_header.proofs.TopSteps.{version_room, lists_room, first_room, interval_room, top_put}
use Rattle.write_header.proofs.heading.put_top.Goals as goal

pub first_line-requires : goal.first_line-requires
first_line-requires c =
    let g = given (head_of c.args.head) c.requires.0 in
    (search rules, (g.first, g.system))

pub put_line-second-requires : goal.put_line-second-requires
put_line-second-requires c =
    version_room (head_of c.args.head) c.args.codes.now c.args.out.now c.args.at (2 ^ 64) c.requires.1.1 _ c.version_line.ensures

pub put_lists-behind-requires : goal.put_lists-behind-requires
put_lists-behind-requires c =
    let p = c.put_line-second.ensures in
    (c.requires.1.0, lists_room (head_of c.args.head) c.args.codes.now c.args.out.now c.args.at (2 ^ 64) c.requires.1.1 _ c.version_line.ensures _ _ p.out_after p.value)

pub put_line-to-requires : goal.put_line-to-requires
put_line-to-requires c =
    let p = c.put_line-second.ensures in
    let l = c.put_lists-behind.ensures in
    first_room (head_of c.args.head) c.args.codes.now c.args.out.now c.args.at (2 ^ 64) c.requires.1.1 _ c.version_line.ensures _ _ p.out_after p.value _ _ l.out_after l.value _ c.first_line.ensures

pub put_interval-requires : goal.put_interval-requires
put_interval-requires c =
    let p = c.put_line-second.ensures in
    let l = c.put_lists-behind.ensures in
    let f = c.put_line-to.ensures in
    let h = head_of c.args.head in
    let e : c.then_some-interval.result ≡ optional c.args.head.interval_state c.args.head.interval = c.then_some-interval.ensures ∙ held c.args.head.interval_state c.args.head.interval in
    rw e (
      interval_fits h c.requires.0,
      interval_room h c.args.codes.now c.args.out.now c.args.at (2 ^ 64) c.requires.1.1 _ c.version_line.ensures _ _ p.out_after p.value _ _ l.out_after l.value _ c.first_line.ensures _ _ f.out_after f.value,
    )

pub returns : goal.returns
returns c =
    let p = c.put_line-second.ensures in
    let l = c.put_lists-behind.ensures in
    let f = c.put_line-to in
    let i = c.put_interval.ensures in
    let e : c.then_some-interval.result ≡ optional c.args.head.interval_state c.args.head.interval = c.then_some-interval.ensures ∙ held c.args.head.interval_state c.args.head.interval in
    let r =
    top_put (head_of c.args.head) c.args.codes.now c.args.out.now c.args.at (2 ^ 64) c.requires.1.1 _ c.version_line.ensures _ _ p.out_after p.value _ _ l.out_after l.value _ c.first_line.ensures
    _ _ f.ensures.out_after f.ensures.value _ _ (i.out_after ∙ ap (λ (o : Option ℕ). sets f.new.out f.result (interval_text o)) e) (i.value ∙ ap (λ (o : Option ℕ). f.result + length (interval_text o)) e) in
    record { out_after = r.0; value = r.1 }
