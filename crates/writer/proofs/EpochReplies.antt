-- The replies of writing one epoch keep its promise. Assumes nothing.
use Prim.Native.Nat.{ℕ, ◌+◌, ◌-◌, ◌≤◌, ◌<◌, min}
use mathlib.Core.Path.{◌≡◌, refl, sym, ap, ◌∙◌, subst}
use mathlib.Core.Bool.{Bool, true, false, cond, ◌&&◌}
use mathlib.Core.List.{List, ◌++◌}
use Rattle.std.specs.Prelude.{Option, None, Some}
use native.Mathlib.Omega.{arith}
use borrow.Author.Tests.{leb-false}
use lib.Dec.{eqb, leb}
use lib.ListN.{length, take, drop}
use lib.Seq.{sets}
use Rattle.lists.specs.Lists.{byte}
use Rattle.lists.specs.Maybe.{is_given}
use Rattle.lists.proofs.Bools.{never, all_of}
use Rattle.lists.proofs.Stores.{lent_back}
use Rattle.line.specs.Text.{longest, text, split}
use Rattle.rinex.specs.File.{Epoch}
use Rattle.rinex.specs.Tables.{lines_of, FlatEpoch, Buffers, room}
use Rattle.rinex.specs.Fit.{all_lists_fit, Untaken, epoch_fits, lent, lone_epoch_fits, all_untaken}
use Rattle.rinex.specs.Held.{bytes_of}
use Rattle.rinex.specs.Normal.{normal_epoch}
use Rattle.rinex.specs.Promises.{EpochSpelled, written, no_text, no_place, WriteEpoch}
use Rattle.rinex.proofs.FitEpoch.{fit_epoch}
use Rattle.rinex.proofs.HeldFile.{held_epoch}
use Rattle.fits.proofs.Alone.{rows_alone}
use Rattle.fits.proofs.Walked as fit
use Rattle.measure.specs.Size.{lone_size, Told}
use Rattle.measure.proofs.LoneSize.{lone_size_lem}
use Rattle.write_data.specs.EpochTexts.{epoch_from, EpochReady}
use Rattle.write_data.proofs.HeldAlone.{epoch_same}
use Rattle.write_data.proofs.EpochSteps.{event_found, held_event, lines_held}
use Rattle.writer.proofs.FitParts.{all_few}
use Rattle.writer.proofs.LineBytes.{held_bytes}
use Rattle.writer.proofs.Replied as replied

-- where one epoch begins
abbrev pub start : Buffers → Untaken
start b = all_untaken (split b.carried)

-- an epoch record is not empty
lone_some : (t : Bool) → 0 < cond t 36 57
lone_some true = omega arith
lone_some false = omega arith

module _ (lengths : List ℕ) (p : FlatEpoch) (b : Buffers) (o : List ℕ) (at : ℕ) where
  refuse : lone_epoch_fits lengths p b ≡ false → WriteEpoch lengths p b o o at no_text
  refuse e = replied.unspelled (EpochSpelled lengths p b) normal_epoch o at (λ x s. never (sym e ∙ fit_epoch.complete lengths p b x s))

  pub no_lists : all_lists_fit (byte "M") lengths b.codes ≡ false → WriteEpoch lengths p b o o at no_text
  unfolding lone_epoch_fits
  no_lists e = refuse (ap (λ (t : Bool). t && is_given (epoch_fits lengths (lent b) b p (start b))) e)

  module _ (lists : all_lists_fit (byte "M") lengths b.codes ≡ true) where
    -- as the code asks it
    asked : (q : Option Untaken) → q ≡ epoch_fits lengths (lent b) (rows_alone b) p (start b) → epoch_fits lengths (lent b) b p (start b) ≡ q
    asked q e = sym (fit.epoch_same lengths (lent b) b p (start b)) ∙ sym e

    pub no_epoch : None ≡ epoch_fits lengths (lent b) (rows_alone b) p (start b) → WriteEpoch lengths p b o o at no_text
    unfolding lone_epoch_fits
    no_epoch e = refuse (ap (λ (t : Bool). t && is_given (epoch_fits lengths (lent b) b p (start b))) lists ∙ ap is_given (asked None e))

    module _ (d : Untaken) (fits : Some d ≡ epoch_fits lengths (lent b) (rows_alone b) p (start b)) where
      pub ready : EpochReady lengths (rows_alone b) p (start b)
      unfolding lent room
      ready =
          record {
            used = lent b;
            lent =
                record {
                  few = (all_few (byte "M") lengths b.codes lists).1;
                  rows_hold = omega arith;
                  slots_hold = record { numbers_hold = omega arith; states_hold = omega arith; losses_hold = omega arith; strengths_hold = omega arith };
                };
            row = omega arith;
            slot = omega arith;
            fit = ap is_given (sym fits);
          }

      fit_lone : lone_epoch_fits lengths p b ≡ true
      unfolding lone_epoch_fits
      fit_lone = all_of (all_lists_fit (byte "M") lengths b.codes) _ lists (ap is_given (asked (Some d) fits))

      abbrev epoch : Epoch
      epoch = (fit_epoch.sound lengths p b fit_lone).0

      spelled : EpochSpelled lengths p b epoch
      spelled = (fit_epoch.sound lengths p b fit_lone).1

      -- the epoch that is put is the one that is spelled
      epoch_is : epoch_from lengths (rows_alone b) p (start b) ≡ epoch
      epoch_is = epoch_same lengths b p 0 0 (split b.carried) ∙ held_epoch lengths p b epoch spelled

      -- where the lines that are left begin at place q
      module _ (q : ℕ) (left : split (drop q b.carried) ≡ d.lines) where
        lines_are : 1 < p.flag → length (text (lines_of epoch)) ≡ min q (length b.carried)
        lines_are h =
            let n : d.lines ≡ drop p.count (split b.carried) = sym (ap (λ (c : Untaken). c.lines) (event_found lengths (lent b) (rows_alone b) p (start b) d (sym fits) h).next) in
            let x : lines_of epoch ≡ bytes_of (take p.count (split b.carried)) = ap lines_of (sym epoch_is ∙ held_event lengths (rows_alone b) p (start b) h) in
            ap (λ (ls : List (List ℕ)). length (text ls)) x ∙ held_bytes b.carried p.count q (lines_held lengths (rows_alone b) p (start b) ready h) (left ∙ n)

        size_is : length (normal_epoch epoch) ≡ lone_size lengths p b (min q (length b.carried))
        size_is = lone_size_lem lengths p b epoch spelled ∙ go (leb p.flag 1) refl
          where
            go : (t : Bool) → leb p.flag 1 ≡ t → lone_size lengths p b (length (text (lines_of epoch))) ≡ lone_size lengths p b (min q (length b.carried))
            go true e = rw e
            go false e = ap (lone_size lengths p b) (lines_are (leb-false p.flag 1 e))

        not_empty : 0 < length (normal_epoch epoch)
        not_empty = omega (arith, size_is, lone_some (eqb p.clock_state 0))

        module _ (m r : ℕ) (behind : m ≡ min (length o - at) longest) (told : Told m (lone_size lengths p b (min q (length b.carried))) r) where
          told_epoch : Told m (length (normal_epoch epoch)) r
          told_epoch = subst (λ (s : ℕ). Told m s r) (sym size_is) told

          pub no_place_for : m < r → WriteEpoch lengths p b o o at no_place
          no_place_for e = replied.unplaced (EpochSpelled lengths p b) normal_epoch o at epoch spelled m r behind told_epoch e

          module _ (place : r ≤ m) where
            pub ends_within : at + length (normal_epoch (epoch_from lengths (rows_alone b) p (start b))) ≤ length o
            ends_within =
                let l : length (normal_epoch (epoch_from lengths (rows_alone b) p (start b))) ≡ length (normal_epoch epoch) = ap (λ (x : Epoch). length (normal_epoch x)) epoch_is in
                omega (arith, l, (replied.fits_in (normal_epoch epoch) o at m r behind told_epoch not_empty place).1.buffer)

            -- what was put into the part from the place on, it stands in the buffer
            pub wrote : (ys : List ℕ) → ys ≡ sets (take (length o - at) (drop at o)) 0 (normal_epoch (epoch_from lengths (rows_alone b) p (start b)))
                → WriteEpoch lengths p b o (take at o ++ (ys ++ drop (length o - at) (drop at o))) at (written r)
            wrote ys e =
                let f : ys ≡ sets (take (length o - at) (drop at o)) 0 (normal_epoch epoch) = e ∙ ap (λ (x : Epoch). sets (take (length o - at) (drop at o)) 0 (normal_epoch x)) epoch_is in
                replied.done (EpochSpelled lengths p b) normal_epoch o at epoch spelled m r behind told_epoch _ not_empty place (lent_back o ys at (normal_epoch epoch) f)
