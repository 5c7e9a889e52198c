-- `slot_answers::values::answer_at` meets its contract. Assumes nothing.
use Prim.Native.Nat.{◌+◌, ◌<◌}
use native.Mathlib.Omega.{arith}
use Rattle.slot_answers.proofs.Valued.{undeclared, declared_at}
use Rattle.slot_answers.proofs.values.answer_at.Goals as goal

pub returns-then-n-place : goal.returns-then-n-place
returns-then-n-place c = let a = c.args in undeclared a.numbers.now a.states.now a.at a.n a.place a.code c.if-n-place.true

pub value_at-requires : goal.value_at-requires
value_at-requires c =
    let h : c.args.at + c.args.place < c.args.at + c.args.n = omega (arith, c.if-n-place.false) in
    (omega (arith, c.requires.numbers_hold, h), (omega (arith, c.requires.states_hold, h), c.requires.small (c.args.at + c.args.place) h))

pub returns : goal.returns
returns c =
    let a = c.args in
    declared_at a.numbers.now a.states.now a.at a.n a.place a.code c.if-n-place.false _ c.value_at.ensures
