-- `fits_values::code_lists::are_fresh` meets its contract. Assumes nothing.
use mathlib.Core.Path.{sym, ◌∙◌}
use lib.ListN.{get_or, take}
use Rattle.code.proofs.Packed.{in_any}
use Rattle.fits_values.proofs.Listed.{fresh_stop, fresh_more}
use Rattle.fits_values.proofs.code_lists.are_fresh.Goals as goal

pub returns-then-contains : goal.returns-then-contains
returns-then-contains c =
    let t = c.args.codes.now in
    let l = c.loop-i in
    sym (fresh_stop t l.i c.loop-i-test.true (sym (in_any (get_or t l.i 0) (take l.i t)) ∙ (sym c.contains.ensures.value ∙ c.if-contains.true))) ∙ l.invariant

pub loop-i-preserved : goal.loop-i-preserved
loop-i-preserved c =
    let t = c.args.codes.now in
    let l = c.loop-i in
    sym (fresh_more t l.i c.loop-i-test.true (sym (in_any (get_or t l.i 0) (take l.i t)) ∙ (sym c.contains.ensures.value ∙ c.if-contains.false))) ∙ l.invariant
