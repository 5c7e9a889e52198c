-- `write_field::put_lead` meets its contract. The invariant: what is left to write gives the whole. Assumes nothing.
use mathlib.Core.Path.{◌≡◌, ◌∙◌}
use native.Mathlib.Omega.{arith}
use lib.ListN.{length}
use Rattle.lists.proofs.Stores.{sets_all}
use Rattle.write_field.specs.Steps.{lead}
use Rattle.write_field.proofs.Lead.{lead_length}
use Rattle.write_field.proofs.Stored.{lead_turn, fill_turn}
use Rattle.write_field.proofs.put_lead.Goals as goal

pub loop-i-init : goal.loop-i-init
loop-i-init c = sets_all _ _ (lead_length c.args.minus (length c.args.out.now) c.args.q)

pub loop-i-preserved-then-rest-eq0 : goal.loop-i-preserved-then-rest-eq0
loop-i-preserved-then-rest-eq0 c =
    let l = c.loop-i in
    let z : l.rest ≡ 0 = c.if-rest-eq0.true in
    rw (c.filler.ensures, z) (fill_turn l.out l.due l.i c.loop-i-test.true ∙ (rw z at l.invariant))

pub loop-i-preserved : goal.loop-i-preserved
loop-i-preserved c =
    let l = c.loop-i in
    rw c.digit.ensures (lead_turn l.out l.due l.i l.rest c.loop-i-test.true c.if-rest-eq0.false ∙ l.invariant)

pub returns : goal.returns
unfolding lead
returns c =
    let l = c.loop-i in
    let e : l.i ≡ 0 = omega arith in
    rw e at l.invariant
