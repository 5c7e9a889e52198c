-- `label::named::found` meets its contract. The invariant: the answer is among what is left. Assumes nothing.
use mathlib.Core.Path.{sym, ◌∙◌}
use native.Mathlib.Omega.{arith}
use Rattle.label.proofs.Groups.{begun, turn, none_left}
use Rattle.label.proofs.named.found.Goals as goal

pub loop-p-init : goal.loop-p-init
loop-p-init c = begun c.args.name.now c.args.group.now c.args.places.now c.requires

pub stands_at-requires : goal.stands_at-requires
stands_at-requires c =
    let a = c.args in
    let l = c.loop-p in
    (c.requires.label.some_letter, (turn a.name.now a.group.now a.places.now l.at l.p-index l.invariant c.requires.label.some_letter (omega arith)).room)

pub returns-then-stands_at : goal.returns-then-stands_at
returns-then-stands_at c =
    let a = c.args in
    let l = c.loop-p in
    (turn a.name.now a.group.now a.places.now l.at l.p-index l.invariant c.requires.label.some_letter (omega arith)).here (sym c.stands_at.ensures ∙ c.if-stands_at.true)

pub overflow_add-at : goal.overflow_add-at
overflow_add-at c =
    let a = c.args in
    let l = c.loop-p in
    omega (arith, (turn a.name.now a.group.now a.places.now l.at l.p-index l.invariant c.requires.label.some_letter (omega arith)).room)

pub loop-p-preserved : goal.loop-p-preserved
loop-p-preserved c =
    let a = c.args in
    let l = c.loop-p in
    (turn a.name.now a.group.now a.places.now l.at l.p-index l.invariant c.requires.label.some_letter (omega arith)).on (sym c.stands_at.ensures ∙ c.if-stands_at.false)

pub returns : goal.returns
returns c =
    let a = c.args in
    none_left a.name.now a.group.now a.places.now c.loop-p.at c.loop-p.p-index c.loop-p.invariant (omega arith)
