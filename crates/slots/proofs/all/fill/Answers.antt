-- `slots::all::fill` meets its contract. The invariant: what is stored, with the answers that are left, ends alike. Assumes nothing.
use mathlib.Core.Path.{refl, sym, ◌∙◌}
use native.Mathlib.Omega.{arith}
use lib.ListN.{length-set}
use Rattle.rinex.specs.Answers.{kind, float}
use Rattle.slot_answers.specs.Handed.{meant}
use Rattle.slots.proofs.SlotPlaces.{end_all, end_turn}
use Rattle.slots.proofs.FitRows.{fewer_lie}
use Rattle.slots.proofs.ColumnTurns.{stored_all, stored_more, stored_over}
use Rattle.slots.proofs.all.fill.Goals as goal

pub loop-j-init : goal.loop-j-init
loop-j-init c =
    let a = c.args in (
      (refl, refl),
      (
        end_all a.lengths a.rows.now.satellites.now a.count,
        (
          stored_all a.lengths a.rows.now.satellites.now a.rows.now.slots.numbers.now a.rows.now.slots.states.now a.system a.place a.code kind a.kinds.now a.count,
          stored_all a.lengths a.rows.now.satellites.now a.rows.now.slots.numbers.now a.rows.now.slots.states.now a.system a.place a.code float a.floats.now a.count,
        ),
      ),
    )

pub answer_in-a-requires : goal.answer_in-a-requires
answer_in-a-requires c =
    let a = c.args in
    let l = c.loop-j in
    let n = c.codes_of-n in
    let t = end_turn a.lengths a.rows.now.satellites.now a.count l.j l.at n.result c.loop-j-test.true n.ensures l.invariant.1.0 in
    fewer_lie t.1 c.requires.0.1

pub overflow_add-at : goal.overflow_add-at
overflow_add-at c =
    let a = c.args in
    let l = c.loop-j in
    let n = c.codes_of-n in
    let t = end_turn a.lengths a.rows.now.satellites.now a.count l.j l.at n.result c.loop-j-test.true n.ensures l.invariant.1.0 in
    omega (arith, t.1, c.requires.0.1.numbers_hold)

pub loop-j-preserved : goal.loop-j-preserved
loop-j-preserved c =
    let a = c.args in
    let l = c.loop-j in
    let n = c.codes_of-n in
    let t = end_turn a.lengths a.rows.now.satellites.now a.count l.j l.at n.result c.loop-j-test.true n.ensures l.invariant.1.0 in
    let m = c.loop-j-test.true in
    let x = c.answer_in-a in
    let k = c.kind_of in
    let f = c.float_of in (
      (length-set l.kinds l.j k.result ∙ l.invariant.0.0, length-set l.floats l.j f.result ∙ l.invariant.0.1),
      (
        t.0,
        (
          stored_more a.lengths a.rows.now.satellites.now a.rows.now.slots.numbers.now a.rows.now.slots.states.now a.system a.place a.code kind l.kinds a.count l.j l.at n.result m n.ensures (meant x.result) x.ensures k.result k.ensures ∙ l.invariant.1.1.0,
          stored_more a.lengths a.rows.now.satellites.now a.rows.now.slots.numbers.now a.rows.now.slots.states.now a.system a.place a.code float l.floats a.count l.j l.at n.result m n.ensures (meant x.result) x.ensures f.result f.ensures ∙ l.invariant.1.1.1,
        ),
      ),
    )

pub returns-clause-kinds_after : goal.returns-clause-kinds_after
returns-clause-kinds_after c =
    let l = c.loop-j in
    let a = c.args in
    sym (stored_over a.lengths a.rows.now.satellites.now a.rows.now.slots.numbers.now a.rows.now.slots.states.now a.system a.place a.code kind l.kinds a.count l.j l.at c.loop-j-test.false) ∙ l.invariant.1.1.0

pub returns-clause-floats_after : goal.returns-clause-floats_after
returns-clause-floats_after c =
    let l = c.loop-j in
    let a = c.args in
    sym (stored_over a.lengths a.rows.now.satellites.now a.rows.now.slots.numbers.now a.rows.now.slots.states.now a.system a.place a.code float l.floats a.count l.j l.at c.loop-j-test.false) ∙ l.invariant.1.1.1
