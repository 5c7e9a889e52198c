-- `line::within::columns` meets its contract. Assumes nothing.
use Prim.Native.Nat.{◌-◌}
use mathlib.Core.Path.{◌≡◌, refl, ◌∙◌}
use borrow.Author.Rules.{rules}
use lib.ListN.{length, get_or, take, drop}
use Rattle.line.proofs.Turns.{rest_byte, column_stored, columns_stored}
use Rattle.line.proofs.within.columns.Goals as goal

pub loop-i-preserved : goal.loop-i-preserved
loop-i-preserved c =
    let a = c.args in
    let e : c.unwrap_or.result ≡ get_or (take (length a.line.now - c.min-start.result) (drop c.min-start.result a.line.now)) c.loop-i.i 32 = search rules in (
      search rules,
      column_stored c.loop-i.out a.line.now c.loop-i.i (a.a - 1) c.unwrap_or.result (search rules) (e ∙ rest_byte a.line.now a.a c.min-start.result c.loop-i.i (search rules)) c.loop-i.invariant.1,
    )

pub returns : goal.returns
returns c b e =
    let a = c.args in
    columns_stored c.loop-i.out a.line.now c.loop-i.i (a.a - 1) a.a b (search rules) refl (search rules) (search rules) (search rules) c.loop-i.invariant.1
