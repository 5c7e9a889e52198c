-- `write_field::is_minus` meets its contract. Assumes nothing.
use mir.Syntax.{w64}
use mir.ValLaws.{to_z-of_z}
use Rattle.write_field.proofs.Turned.{minus_test}
use Rattle.write_field.proofs.is_minus.Goals as goal

pub returns : goal.returns
returns c = rw (to_z-of_z w64 c.args.z c.ranges.z) (minus_test c.args.z)
