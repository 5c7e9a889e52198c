-- `writer::alone::epoch_written` meets its contract. Assumes nothing.
use Prim.Native.Nat.{ℕ, ◌+◌, ◌-◌, ◌≤◌, ◌<◌, ◌^◌, min}
use mathlib.Core.Path.{◌≡◌, refl, sym, ap, ◌∙◌, subst}
use mathlib.Core.Bool.{true}
use Rattle.std.specs.Prelude.{None, Some}
use native.Mathlib.Omega.{arith}
use lib.ListN.{length, take, drop}
use lib.Seq.{sets}
use Rattle.lists.specs.Lists.{byte}
use Rattle.rinex.specs.Tables.{FlatEpoch, room}
use Rattle.rinex.specs.Fit as rule
use Rattle.rinex.specs.Fit.{all_lists_fit, epoch_fits}
use Rattle.rinex.specs.Lent.{entry_of}
use Rattle.writer.specs.Alone.{alone_in}
use Rattle.rinex.specs.Normal.{normal_epoch}
use Rattle.rinex.specs.Promises.{written, no_text, no_place}
use Rattle.fits.specs.declared.Untaken.{Untaken}
use Rattle.fits.specs.Stepping.{untaken_of}
use Rattle.fits.proofs.Alone.{rows_alone}
use Rattle.measure.specs.Size.{lone_size, Told}
use Rattle.write_data.specs.EpochTexts.{epoch_from, EpochReady}
use Rattle.writer.proofs.FitParts.{all_few}
use Rattle.writer.proofs.EpochReplies.{start, no_lists, no_epoch, ready, no_place_for, ends_within, wrote}
use Rattle.writer.proofs.alone.epoch_written.Goals as goal

pub returns-then-not-all_lists_fit : goal.returns-then-not-all_lists_fit
returns-then-not-all_lists_fit c =
    let a = c.args in
    let b = alone_in a.codes.now a.rows.now a.carried.now in
    let p : FlatEpoch = entry_of a.e in
    record { reply = no_text; told_so = refl; kept = no_lists a.lengths p b a.out.now a.at (sym c.all_lists_fit.ensures ∙ c.if-not-all_lists_fit.true) }

pub returns-in_default : goal.returns-in_default
unfolding room rule.lent
returns-in_default c =
    let a = c.args in
    let b = alone_in a.codes.now a.rows.now a.carried.now in
    let p : FlatEpoch = entry_of a.e in
    let lists : all_lists_fit (byte "M") a.lengths a.codes.now ≡ true = sym c.all_lists_fit.ensures ∙ c.if-not-all_lists_fit.false in
    let none_fits : None ≡ epoch_fits a.lengths (rule.lent b) (rows_alone b) p (start b) = c.in_default.ensures in
    record { reply = no_text; told_so = refl; kept = no_epoch a.lengths p b a.out.now a.at lists none_fits }

pub lone_size-size-requires : goal.lone_size-size-requires
lone_size-size-requires c =
    let a = c.args in
    let lists : all_lists_fit (byte "M") a.lengths a.codes.now ≡ true = sym c.all_lists_fit.ensures ∙ c.if-not-all_lists_fit.false in
    let s = all_few (byte "M") a.lengths a.codes.now lists in
    (s.0, (s.1, (omega (arith, c.shorter-lines.ensures, c.well_formed), omega (arith, c.room_behind-most.ensures))))

pub returns-then-most-size : goal.returns-then-most-size
unfolding room rule.lent
returns-then-most-size c =
    let a = c.args in
    let b = alone_in a.codes.now a.rows.now a.carried.now in
    let p : FlatEpoch = entry_of a.e in
    let lists : all_lists_fit (byte "M") a.lengths a.codes.now ≡ true = sym c.all_lists_fit.ensures ∙ c.if-not-all_lists_fit.false in
    let fits : Some (untaken_of a.carried.now c.in-Some.end) ≡ epoch_fits a.lengths (rule.lent b) (rows_alone b) p (start b) = c.in-Some.ensures in
    let m = c.room_behind-most in
    let r = c.lone_size-size.result in
    let size_told : Told m.result (lone_size a.lengths p b (min c.in-Some.end.at (length a.carried.now))) r =
    subst (λ (n : ℕ). Told m.result (lone_size a.lengths p b n) r) c.shorter-lines.ensures c.lone_size-size.ensures in
    record {
      reply = no_place;
      told_so = refl;
      kept = no_place_for a.lengths p b a.out.now a.at lists _ fits c.in-Some.end.at refl m.result r m.ensures size_told c.if-most-size.true;
    }

pub put_epoch-requires : goal.put_epoch-requires
unfolding room rule.lent
put_epoch-requires c =
    let a = c.args in
    let b = alone_in a.codes.now a.rows.now a.carried.now in
    let p : FlatEpoch = entry_of a.e in
    let lists : all_lists_fit (byte "M") a.lengths a.codes.now ≡ true = sym c.all_lists_fit.ensures ∙ c.if-not-all_lists_fit.false in
    let fits : Some (untaken_of a.carried.now c.in-Some.end) ≡ epoch_fits a.lengths (rule.lent b) (rows_alone b) p (start b) = c.in-Some.ensures in
    let m = c.room_behind-most in
    let r = c.lone_size-size.result in
    let size_told : Told m.result (lone_size a.lengths p b (min c.in-Some.end.at (length a.carried.now))) r =
    subst (λ (n : ℕ). Told m.result (lone_size a.lengths p b n) r) c.shorter-lines.ensures c.lone_size-size.ensures in
    let within : a.at + length (normal_epoch (epoch_from a.lengths (rows_alone b) p (start b))) ≤ length a.out.now =
    ends_within a.lengths p b a.out.now a.at lists _ fits c.in-Some.end.at refl m.result r m.ensures size_told c.if-most-size.false in
    subst (λ (x : Untaken). EpochReady a.lengths (rows_alone b) p (untaken_of a.carried.now x) × (0 + length (normal_epoch (epoch_from a.lengths (rows_alone b) p (untaken_of a.carried.now x))) < 2 ^ 64)) (sym c.begin.ensures)
    (ready a.lengths p b a.out.now a.at lists _ fits, omega (arith, within, c.well_formed))

pub returns : goal.returns
unfolding room rule.lent
returns c =
    let a = c.args in
    let b = alone_in a.codes.now a.rows.now a.carried.now in
    let p : FlatEpoch = entry_of a.e in
    let lists : all_lists_fit (byte "M") a.lengths a.codes.now ≡ true = sym c.all_lists_fit.ensures ∙ c.if-not-all_lists_fit.false in
    let fits : Some (untaken_of a.carried.now c.in-Some.end) ≡ epoch_fits a.lengths (rule.lent b) (rows_alone b) p (start b) = c.in-Some.ensures in
    let m = c.room_behind-most in
    let r = c.lone_size-size.result in
    let size_told : Told m.result (lone_size a.lengths p b (min c.in-Some.end.at (length a.carried.now))) r =
    subst (λ (n : ℕ). Told m.result (lone_size a.lengths p b n) r) c.shorter-lines.ensures c.lone_size-size.ensures in
    record {
      reply = written r;
      told_so = refl;
      kept =
          wrote a.lengths p b a.out.now a.at lists _ fits c.in-Some.end.at refl m.result r m.ensures size_told c.if-most-size.false _
          (c.put_epoch.ensures.out_after ∙ ap (λ (x : Untaken). sets (take (length a.out.now - a.at) (drop a.at a.out.now)) 0 (normal_epoch (epoch_from a.lengths (rows_alone b) p (untaken_of a.carried.now x)))) c.begin.ensures);
    }
