-- `spell_data::epoch::put_date` meets its contract. Assumes nothing.
use Prim.Native.Nat.{◌+◌}
use mathlib.Core.Path.{ap, ◌∙◌}
use lib.IntN.{ℤ}
use lib.Seq.{sets}
use mir.Syntax.{w64}
use mir.ValLaws.{to_z_pos}
use Rattle.write_field.specs.Normal.{decimal}
use Rattle.write_field.proofs.Written.{second_fits}
use Rattle.spell_data.proofs.EpochColumns.{date_put}
use native.Mathlib.Omega.{arith}
use Rattle.moment.proofs.Days.{day_31}
use Rattle.spell_data.proofs.epoch.put_date.Goals as goal

pub put_two-requires-2 : goal.put_two-requires-2
put_two-requires-2 c = (omega arith, omega (arith, day_31 c.args.d c.requires.1))

pub put_decimal-requires : goal.put_decimal-requires
put_decimal-requires c = (omega (arith, c.requires.0), rw (to_z_pos w64 c.args.d.ticks (omega (arith, c.requires.1.seconds))) (second_fits 11 c.args.d.ticks (omega arith) c.requires.1.seconds))

pub returns : goal.returns
returns c =
    let a = c.args in let d = a.d in
    date_put d c.requires.1 a.out.now c.put_whole.new.out c.put_two.new.out c.put_two-2.new.out c.put_two-3.new.out c.put_two-4.new.out c.put_decimal.new.out a.at
    c.put_whole.ensures c.put_two.ensures c.put_two-2.ensures c.put_two-3.ensures c.put_two-4.ensures
    (c.put_decimal.ensures ∙ ap (λ (z : ℤ). sets c.put_two-4.new.out (a.at + 16) (decimal 11 7 z)) (to_z_pos w64 d.ticks (omega (arith, c.requires.1.seconds))))
