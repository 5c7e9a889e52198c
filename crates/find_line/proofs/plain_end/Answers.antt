-- `find_line::plain_end` meets its contract. The invariant: the bytes up to place i are plain. Assumes nothing.
use mathlib.Core.Path.{refl}
use native.Mathlib.Omega.{arith}
use lib.ListN.{get_or}
use mathlib.Core.Path.{◌≡◌}
use mathlib.Core.Bool.{true}
use Rattle.line.specs.Text.{is_plain}
use borrow.Author.Rules.{rules}
use Rattle.find_line.proofs.Finding.{plain_more, plain_all}
use Rattle.find_line.proofs.plain_end.Goals as goal

pub loop-i-init : goal.loop-i-init
loop-i-init c = let s = c.skip_blocks-i.ensures in (s.from, s.plain)

pub loop-i-preserved : goal.loop-i-preserved
loop-i-preserved c =
    let t = c.args.text.now in
    let i = c.loop-i.i in
    let b : is_plain (get_or t i 0) ≡ true = search rules in
    (omega arith, plain_more t c.args.at i (omega arith) (omega arith) b c.loop-i.invariant.1)

pub returns : goal.returns
returns c =
    let a = c.args in
    record {
      from = λ h. h;
      over = λ h. refl;
      within = omega arith;
      plain = plain_all a.text.now a.at c.loop-i.i (omega arith) c.loop-i.invariant.1;
      stop = λ h. absurd (omega arith);
    }
