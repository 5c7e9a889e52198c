-- `write_data::epochs::put_epoch` meets its contract, by the entry's flag. Assumes nothing.
use Prim.Native.Nat.{ℕ, ◌+◌, ◌≤◌, ◌<◌}
use mathlib.Core.Path.{◌≡◌, sym, ap, ◌∙◌}
use mathlib.Core.List.{List}
use native.Mathlib.Omega.{arith}
use lib.ListN.{length}
use lib.Seq.{sets}
use Rattle.rinex.specs.Tables.{FlatEpoch}
use Rattle.rinex.specs.Fit.{Untaken}
use Rattle.rinex.specs.Normal.{normal_epoch}
use Rattle.rinex.specs.Lent.{entry_of}
use Rattle.lent.specs.Parts.{rows_in}
use Rattle.fits.specs.Stepping.{untaken_of}
use Rattle.write_data.specs.EpochTexts.{epoch_from}
use Rattle.write_data.specs.Records.{observed_text, event_text}
use Rattle.write_data.proofs.EpochSteps.{record_fits, rows_ready, lines_held, observed_text_lem, event_text_lem, observed_next_lem, event_next}
use Rattle.write_data.proofs.epochs.put_epoch.Goals as goal

pub put_observed-requires : goal.put_observed-requires
put_observed-requires c =
    let lent = rows_in c.args.rows.now in
    let entry : FlatEpoch =
    entry_of c.args.e in
    let here : Untaken =
    untaken_of c.args.carried.now c.args.c in
    let observed_is : c.args.e.flag ≤ 1 → normal_epoch (epoch_from c.args.lengths lent entry here) ≡ observed_text c.args.lengths lent entry c.args.c.row c.args.c.slot =
    λ h. observed_text_lem c.args.lengths lent entry here c.requires.0.used c.requires.0.fit h in
    let h = c.if-e-le1.true in
    let r = c.requires.0 in
    (record_fits c.args.lengths r.used lent entry here r.fit, (rows_ready c.args.lengths lent entry here r h, omega (arith, c.requires.1, ap length (observed_is h))))

pub put_event-requires : goal.put_event-requires
put_event-requires c =
    let lent = rows_in c.args.rows.now in
    let entry : FlatEpoch =
    entry_of c.args.e in
    let here : Untaken =
    untaken_of c.args.carried.now c.args.c in
    let event_is : 1 < c.args.e.flag → normal_epoch (epoch_from c.args.lengths lent entry here) ≡ event_text entry here.lines =
    λ h. event_text_lem c.args.lengths lent entry here c.requires.0.used c.requires.0.fit h in
    let h = c.if-e-le1.false in
    let r = c.requires.0 in
    (record_fits c.args.lengths r.used lent entry here r.fit, (lines_held c.args.lengths lent entry here r h, omega (arith, c.requires.1, ap length (event_is h))))

pub returns-then-e-le1 : goal.returns-then-e-le1
returns-then-e-le1 c =
    let lent = rows_in c.args.rows.now in
    let entry : FlatEpoch =
    entry_of c.args.e in
    let here : Untaken =
    untaken_of c.args.carried.now c.args.c in
    let observed_is : c.args.e.flag ≤ 1 → normal_epoch (epoch_from c.args.lengths lent entry here) ≡ observed_text c.args.lengths lent entry c.args.c.row c.args.c.slot =
    λ h. observed_text_lem c.args.lengths lent entry here c.requires.0.used c.requires.0.fit h in
    let h = c.if-e-le1.true in
    let p = c.put_observed in
    let e = sym (observed_is h) in record {
      out_after = p.ensures.out_after ∙ ap (sets c.args.out.now c.args.at) e;
      at_value = (
        p.ensures.at_value.0 ∙ ap (λ (x : List ℕ). c.args.at + length x) e,
        ap (untaken_of c.args.carried.now) p.ensures.at_value.1 ∙ observed_next_lem c.args.lengths lent entry here c.requires.0 h,
      );
    }

pub returns-else-e-le1 : goal.returns-else-e-le1
returns-else-e-le1 c =
    let lent = rows_in c.args.rows.now in
    let entry : FlatEpoch =
    entry_of c.args.e in
    let here : Untaken =
    untaken_of c.args.carried.now c.args.c in
    let event_is : 1 < c.args.e.flag → normal_epoch (epoch_from c.args.lengths lent entry here) ≡ event_text entry here.lines =
    λ h. event_text_lem c.args.lengths lent entry here c.requires.0.used c.requires.0.fit h in
    let h = c.if-e-le1.false in
    let p = c.put_event in
    let e = sym (event_is h) in record {
      out_after = p.ensures.out_after ∙ ap (sets c.args.out.now c.args.at) e;
      at_value = (
        p.ensures.at_value.0 ∙ ap (λ (x : List ℕ). c.args.at + length x) e,
        p.ensures.at_value.1 ∙ event_next c.args.lengths lent entry here c.requires.0 h,
      );
    }
