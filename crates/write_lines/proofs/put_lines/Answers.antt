-- `write_lines::put_lines` meets its contract. The invariant: the lines that are left end alike. Assumes nothing.
use Prim.Native.Nat.{◌-◌}
use mathlib.Core.Path.{refl}
use native.Mathlib.Nat.{sub-zero}
use native.Mathlib.Omega.{arith}
use borrow.Author.Rules.{rules}
use Rattle.write_lines.proofs.LineSteps.{found_ends, lines_begun, line_room, lines_more}
use Rattle.write_lines.proofs.put_lines.Goals as goal

pub loop-init : goal.loop-init
loop-init c = (refl, rw sub-zero (lines_begun c.args.text.now c.args.from c.args.n c.args.out.now c.args.at c.requires.0))

pub put_line-to-requires : goal.put_line-to-requires
put_line-to-requires c =
    let l = c.loop in
    let a = c.args in
    omega (arith, line_room a.text.now a.from a.n a.out.now a.at l.out l.i l.to (a.n - l.counter) l.invariant.1 (omega (arith, c.loop-test.true)) c.in-Ends.end c.in-Ends.ensures.0, c.requires.1)

pub returns-in_default : goal.returns-in_default
returns-in_default c =
    let a = c.args in
    let l = c.loop in
    absurd (found_ends a.text.now l.i (a.n - l.counter) (omega (arith, c.loop-test.true)) l.invariant.1.held c.find.result c.in_default.not-Ends c.find.ensures)

pub loop-preserved : goal.loop-preserved
loop-preserved c =
    let a = c.args in
    let l = c.loop in
    let p = c.put_line-to in (
      search rules,
      lines_more a.text.now a.from a.n a.out.now a.at l.out l.i l.to (a.n - l.counter) l.invariant.1 (omega (arith, c.loop-test.true)) c.in-Ends.end c.in-Ends.ensures.0 _ _ _ p.ensures.out_after p.ensures.value (omega arith),
    )
