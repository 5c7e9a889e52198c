-- `columns::put_decimal` meets its contract. Assumes nothing.
use mir.Syntax.{w64}
use mir.ValLaws.{to_z-of_z}
use Rattle.columns.proofs.Put.{decimal_back}
use native.Mathlib.Omega.{arith}
use Rattle.columns.proofs.put_decimal.Goals as goal

pub returns : goal.returns
returns c = let a = c.args in decimal_back a.out.now c.decimal.new.out a.at a.w a.d _ a.z (to_z-of_z w64 a.z c.ranges.z) (omega arith) c.requires.1 c.decimal.ensures.columns
