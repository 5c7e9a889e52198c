-- `write_field::put_digits` meets its contract. The invariant: what is left to write gives the whole. Assumes nothing.
use mathlib.Core.Path.{◌≡◌, refl, sym, ◌∙◌}
use native.Mathlib.Nat.{div-one}
use native.Mathlib.Omega.{arith}
use lib.ListN.{length}
use Rattle.write_field.specs.Normal.{fixed}
use Rattle.lists.proofs.Stores.{sets_all}
use Rattle.write_field.proofs.Written.{fixed_length}
use Rattle.write_field.proofs.Stored.{fixed_turn, div_turn}
use Rattle.write_field.proofs.put_digits.Goals as goal

pub loop-i-init : goal.loop-i-init
loop-i-init c = (sets_all _ _ (fixed_length (length c.args.out.now) c.args.n), refl)

pub loop-i-preserved : goal.loop-i-preserved
loop-i-preserved c =
    let l = c.loop-i in
    let t = c.loop-i-test.true in
    (rw c.digit.ensures (fixed_turn l.out l.i l.rest t ∙ l.invariant.0), div_turn l.i l.rest t ∙ l.invariant.1)

pub returns : goal.returns
unfolding fixed
returns c =
    let l = c.loop-i in
    let e : l.i ≡ 0 = omega arith in
    (sym (div-one l.rest) ∙ (rw e at l.invariant.1), rw e at l.invariant.0)
