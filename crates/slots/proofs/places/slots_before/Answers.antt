-- `slots::places::slots_before` meets its contract. Assumes nothing.
use Prim.Native.Nat.{ℕ, ◌/◌, ◌<◌}
use mathlib.Core.Path.{◌≡◌, sym, ap, ◌∙◌}
use native.Mathlib.Omega.{arith}
use lib.ListN.{get_or, length-take}
use Rattle.std.proofs.lemmas.List.{get_or-take}
use Rattle.rinex.specs.Fit.{row_codes}
use Rattle.slots.proofs.SlotPlaces.{end_over, end_turn}
use Rattle.slots.proofs.places.slots_before.Goals as goal

pub returns : goal.returns
returns c =
    let a = c.args in
    let l = c.loop-satellite in
    sym (end_over a.lengths a.satellites.now a.rows l.satellite-index l.at (omega (arith, c.loop-satellite-test.false, c.requires.0, length-take a.rows a.satellites.now))) ∙ l.invariant

pub overflow_add-at : goal.overflow_add-at
overflow_add-at c =
    let a = c.args in
    let l = c.loop-satellite in
    let inside : l.satellite-index < a.rows = omega (arith, c.loop-satellite-test.true, c.requires.0, length-take a.rows a.satellites.now) in
    let codes : c.codes_of-at.result ≡ row_codes a.lengths a.satellites.now l.satellite-index =
    c.codes_of-at.ensures ∙ ap (λ (s : ℕ). get_or a.lengths (s / 100) 0) (get_or-take a.rows a.satellites.now l.satellite-index 0 inside) in
    let t = end_turn a.lengths a.satellites.now a.rows l.satellite-index l.at c.codes_of-at.result inside codes l.invariant in
    omega (arith, c.requires.1, t.1)

pub loop-satellite-preserved : goal.loop-satellite-preserved
loop-satellite-preserved c =
    let a = c.args in
    let l = c.loop-satellite in
    let inside : l.satellite-index < a.rows = omega (arith, c.loop-satellite-test.true, c.requires.0, length-take a.rows a.satellites.now) in
    let codes : c.codes_of-at.result ≡ row_codes a.lengths a.satellites.now l.satellite-index =
    c.codes_of-at.ensures ∙ ap (λ (s : ℕ). get_or a.lengths (s / 100) 0) (get_or-take a.rows a.satellites.now l.satellite-index 0 inside) in
    (end_turn a.lengths a.satellites.now a.rows l.satellite-index l.at c.codes_of-at.result inside codes l.invariant).0
