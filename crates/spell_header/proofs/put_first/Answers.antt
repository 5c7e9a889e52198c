-- `spell_header::put_first` meets its contract. Assumes nothing.
use mathlib.Core.Path.{ap, ◌∙◌}
use mathlib.Core.List.{[]}
use native.Mathlib.Omega.{arith}
use lib.IntN.{ℤ}
use lib.ListN.{get_or}
use lib.Seq.{sets}
use mir.Syntax.{w64}
use mir.ValLaws.{to_z_pos}
use Rattle.write_field.specs.Normal.{decimal}
use Rattle.write_field.proofs.Written.{second_fits}
use Rattle.rinex.specs.Codes.{time_systems}
use Rattle.rinex.specs.Normal.{first_body}
use Rattle.spell_header.proofs.Listed.{first_put}
use Rattle.spell_header.proofs.put_first.Goals as goal

pub put_decimal-requires : goal.put_decimal-requires
put_decimal-requires c = (omega (arith, c.requires.0), rw (to_z_pos w64 c.args.d.ticks (omega (arith, c.requires.1.0.seconds))) (second_fits 13 c.args.d.ticks (omega arith) c.requires.1.0.seconds))

pub returns : goal.returns
unfolding first_body
returns c =
    let a = c.args in let d = a.d in
    first_put d c.requires.1.0 a.out.now c.put_day.new.out c.put_decimal.new.out c.put_blanks.new.out _ (get_or time_systems a.y [])
    c.put_day.ensures (c.put_decimal.ensures ∙ ap (λ (z : ℤ). sets c.put_day.new.out 30 (decimal 13 7 z)) (to_z_pos w64 d.ticks (omega (arith, c.requires.1.0.seconds))))
    c.put_blanks.ensures c.put_time_system.ensures
