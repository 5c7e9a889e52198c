-- `spell_data::epoch::epoch_columns` meets its contract. Assumes nothing.
use mathlib.Core.Path.{ap, ◌∙◌}
use Prim.Native.Nat.{ℕ}
use native.Mathlib.Omega.{arith}
use mir.Syntax.{w64}
use mir.ValLaws.{to_z-of_z}
use lib.Seq.{sets}
use Rattle.std.specs.Prelude.{Option}
use Rattle.rinex.specs.Normal.{epoch_time_text}
use Rattle.columns.proofs.States.{held}
use Rattle.spell_data.proofs.EpochColumns.{epoch_put_lem}
use Rattle.spell_data.proofs.epoch.epoch_columns.Goals as goal

pub returns : goal.returns
returns c =
    let e = c.args.e in
    epoch_put_lem c.args.out.now c.put_bytes.new.out c.put_time.new.out c.put_counts.new.out c.put_given.new.out e.time_state e.time e.flag e.count e.clock_state e.clock _
    (to_z-of_z w64 e.clock (record { sfits = omega arith })) c.requires.0 c.requires.1.0 c.requires.1.1.0 c.requires.1.1.1 c.put_bytes.ensures
    (c.put_time.ensures ∙ ap (λ (o : Option ℕ). sets c.put_bytes.new.out 2 (epoch_time_text o)) (c.then_some-time.ensures ∙ held e.time_state e.time))
    c.put_counts.ensures c.put_given.ensures
