-- `code::code_at` meets its contract. Assumes nothing.
use Prim.Native.Nat.{◌+◌}
use mathlib.Core.Path.{◌≡◌, sym, ◌∙◌}
use Rattle.line.specs.Text.{col}
use Rattle.code.proofs.Packed.{three, unpack}
use borrow.Author.Rules.{rules}
use Rattle.code.proofs.code_at.Goals as goal

pub returns : goal.returns
returns c =
    let a = c.args in
    let l = a.line.now in
    let p : c.column-first.result ≡ col a.a l = c.column-first.ensures in
    let q : c.column-second.result ≡ col (a.a + 1) l = c.column-second.ensures in
    let r : c.column-third.result ≡ col (a.a + 2) l = c.column-third.ensures in
    unpack c.column-first.result c.column-second.result c.column-third.result (search rules) (search rules)
    ∙ (rw (p, q, r) (sym (three a.a l c.requires.0)))
