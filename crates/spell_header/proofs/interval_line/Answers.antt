-- `spell_header::interval_line` meets its contract. Assumes nothing.
use mathlib.Core.Path.{ap, ◌∙◌, ◌≡◌}
use native.Mathlib.Omega.{arith}
use lib.IntN.{ℤ, pos}
use lib.Seq.{sets}
use mir.Syntax.{w64}
use mir.ValLaws.{to_z_pos}
use Rattle.write_field.specs.Normal.{decimal, decimal_fits}
use Rattle.write_field.proofs.Written.{decimal_length}
use Rattle.label.specs.Labels.{padded}
use Rattle.spell_header.proofs.LabelColumns.{line_put_lem}
use Prim.Native.Nat.{ℕ, ◌<◌}
use mathlib.Core.Bool.{true}
use borrow.Author.Tests.{ltb-true}
use Rattle.spell_header.proofs.interval_line.Goals as goal

interval_below : (n : ℕ) → decimal_fits 10 3 (pos n) ≡ true → n < 1000000000
unfolding decimal_fits
interval_below n h = ltb-true n 1000000000 h

pub overflow_cast-n : goal.overflow_cast-n
overflow_cast-n c = record { sfits = omega (arith, interval_below c.args.n c.requires.1) }

pub put_decimal-requires : goal.put_decimal-requires
put_decimal-requires c = (omega (arith, c.requires.0), rw (to_z_pos w64 c.args.n (omega (arith, interval_below c.args.n c.requires.1))) c.requires.1)

pub returns : goal.returns
unfolding padded
returns c =
    let n = c.args.n in
    line_put_lem c.put_label.new.out c.put_decimal.new.out (decimal 10 3 (pos n)) (padded "INTERVAL") c.put_label.ensures
    (c.put_decimal.ensures ∙ ap (λ (z : ℤ). sets c.put_label.new.out 0 (decimal 10 3 z)) (to_z_pos w64 n (omega (arith, interval_below n c.requires.1))))
    (omega (arith, decimal_length 10 3 (pos n) c.requires.1))
