-- `float::thousandths` meets its contract: 1000.0 is 125 * 2 ^ 3, and n is held exactly. Assumes nothing.
use native.Mathlib.Omega.{arith}
use lib.Ieee.{of_bits, of_fields}
use mir.Syntax.{w64}
use mir.ValLaws.{to_z-of_z}
use Rattle.float.proofs.Quotient.{quotient, in_float_lem}
use Rattle.float.proofs.thousandths.Goals as goal

pub int_to_float-result : goal.int_to_float-result
int_to_float-result c = rw (to_z-of_z w64 c.args.n c.ranges.n) (in_float_lem c.args.n (omega (arith, c.requires)))

pub returns : goal.returns
unfolding of_bits of_fields
returns c = rw (to_z-of_z w64 c.args.n c.ranges.n) (quotient 124 3 c.args.n (omega (arith, c.requires)))
