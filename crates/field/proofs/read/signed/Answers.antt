-- `field::read::signed` meets its contract. Assumes nothing.
use native.Mathlib.Omega.{arith}
use lib.IntN.{+ℤ_idl}
use mir.Syntax.{w64}
use mir.ValLaws.{to_z_pos, to_z-of_z}
use Rattle.field.proofs.Signs.{neg_fits}
use Rattle.field.proofs.read.signed.Goals as goal

pub overflow_sub-result : goal.overflow_sub-result
overflow_sub-result c = rw (to_z_pos w64 c.args.n (omega (arith, c.requires)), +ℤ_idl) (neg_fits c.args.n (omega (arith, c.requires)))

pub returns-then-minus : goal.returns-then-minus
returns-then-minus c = rw (c.if-minus.true, to_z_pos w64 c.args.n (omega (arith, c.requires)), +ℤ_idl) (to_z-of_z w64 _ (neg_fits c.args.n (omega (arith, c.requires))))

pub returns-else-minus : goal.returns-else-minus
returns-else-minus c = rw c.if-minus.false (to_z_pos w64 c.args.n (omega (arith, c.requires)))
