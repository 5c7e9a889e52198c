-- `line::within::blank_columns` meets its contract. Assumes nothing.
use mathlib.Core.Path.{sym, ◌∙◌}
use borrow.Author.Rules.{rules}
use borrow.Author.Tests.{le-leb}
use Rattle.line.proofs.Turns.{blank_up_to, blank_none}
use Rattle.line.proofs.within.blank_columns.Goals as goal

pub returns-then-end-from : goal.returns-then-end-from
returns-then-end-from c =
    let a = c.args in
    le-leb c.min-end.result _ c.if-end-from.true ∙ blank_none a.line.now a.a a.b c.min-end.result c.requires (search rules) c.if-end-from.true

pub returns-else-end-from : goal.returns-else-end-from
returns-else-end-from c =
    let a = c.args in
    c.is_blank.ensures ∙ sym (blank_up_to a.line.now a.a a.b c.min-end.result c.requires (search rules))
