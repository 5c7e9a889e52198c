-- The carried lines and the epochs as a whole. Assumes nothing.
use Prim.Native.Nat.{ℕ, zero, suc, ◌+◌, ◌≤◌, ◌<◌, min}
use mathlib.Core.Path.{◌≡◌, refl, sym, ap, ◌∙◌}
use mathlib.Core.Bool.{Bool, true, false, cond, ◌&&◌, and_assoc}
use mathlib.Core.List.{List, [], ◌∷◌}
use Rattle.std.specs.Prelude.{Option, None, Some}
use native.Mathlib.Omega.{arith}
use borrow.Author.Tests.{ne_eqb, leb-true, leb-false}
use lib.Dec.{eqb, leb}
use lib.ListN.{length, take, drop, length-drop}
use Rattle.lists.specs.Maybe.{◌>>=◌}
use Rattle.lists.proofs.Bools.{both}
use Rattle.line.specs.Text.{Raw, onto, split}
use Rattle.find_line.proofs.Finding.{over_line}
use Rattle.rinex.specs.Tables.{FlatHead, Counts, Buffers, room}
use Rattle.rinex.specs.Fit.{Untaken, head_fits, all_lists_fit, room_fits, tables_fit, header_lines_fit, entry_at, epoch_fits, epochs_fit, all_taken, all_untaken}
use Rattle.lent.specs.Parts.{tables_in, EpochsHold, SlotsHold}
use Rattle.lent.specs.declared.Tables.{Tables}
use Rattle.fits.proofs.Alone.{data_alone}
use Rattle.fits_rows.specs.Carried.{lines_fit, Ran}
use Rattle.fits.specs.Stepping.{data_fits}
use Rattle.lists.proofs.Chain.{stop, after}
use Rattle.fits_rows.proofs.Running.{header_lines}
use Rattle.fits.proofs.Walked.{epoch_same}

-- no line is left exactly where no byte is
some_line : (s : List ℕ) → 0 < length s → 0 < length (split s)
unfolding split
some_line [] h = h
some_line (b ∷ s) h = go (eqb b 10) (split s)
  where
    go : (t : Bool) (ws : List Raw) → 0 < length (cond t (record { bytes = []; ended = true } ∷ split s) (onto b ws))
    go true ws = omega arith
    go false [] = omega arith
    go false (w ∷ ws) = omega arith

pub none_left : (t : List ℕ) (at : ℕ) → leb (length t) at ≡ eqb (length (split (drop at t))) 0
none_left t at = go (leb (length t) at) refl
  where
    go : (b : Bool) → leb (length t) at ≡ b → b ≡ eqb (length (split (drop at t))) 0
    go true e = sym (ap (λ (ws : List Raw). eqb (length ws) 0) (over_line t at (leb-true (length t) at e)))
    go false e =
        let h : at < length t = leb-false (length t) at e in
        let k : 0 < length (split (drop at t)) = some_line (drop at t) (omega (arith, length-drop at t)) in
        sym (ne_eqb (length (split (drop at t))) 0 (λ d. omega arith))

-- the header's lines, then the epochs
module _ (lengths : List ℕ) (n : Counts) (b : Buffers) (k : ℕ) (ws : List Raw) where
  abbrev start : Untaken
  start = all_untaken (drop k ws)

  data_parts : data_fits lengths n b k ws ≡ (lines_fit false k ws && all_taken n (epochs_fit lengths n b n.epochs 0 start))
  unfolding data_fits
  data_parts = sym (and_assoc (leb k (length ws)) (header_lines_fit (take k ws)) (all_taken n (epochs_fit lengths n b n.epochs 0 start))) ∙ ap (λ (t : Bool). t && all_taken n (epochs_fit lengths n b n.epochs 0 start)) (sym (header_lines k ws))

  pub no_header : lines_fit false k ws ≡ false → false ≡ data_fits lengths n b k ws
  no_header h = stop _ h ∙ sym data_parts

  module _ (t : List ℕ) (p : ℕ) (m : Bool) (r : Ran false t k ws p m) where
    -- as the code has what is untaken
    abbrev reached : Untaken
    reached = all_untaken (split (drop p t))

    reached_is : reached ≡ start
    reached_is = ap all_untaken (sym r.rest)

    data_is : (o : Option Untaken) → o ≡ epochs_fit lengths n b n.epochs 0 reached → all_taken n o ≡ data_fits lengths n b k ws
    data_is o h = ap (all_taken n) (h ∙ ap (epochs_fit lengths n b n.epochs 0) reached_is) ∙ (after r.fit refl ∙ sym data_parts)

    pub no_epochs : None ≡ epochs_fit lengths n b n.epochs 0 reached → false ≡ data_fits lengths n b k ws
    no_epochs h = data_is None h

    pub data_taken : (c : Untaken) → Some c ≡ epochs_fit lengths n b n.epochs 0 reached → (v : Bool)
        → v ≡ (eqb c.row n.rows && (eqb c.slot n.slots && eqb (length c.lines) 0)) → v ≡ data_fits lengths n b k ws
    data_taken c h v e = e ∙ data_is (Some c) h

-- what the room says of each table
pub record Holds (n : Counts) (t : Tables) : Type 0 where
  pub entries : EpochsHold n.epochs t.epochs
  pub rows : n.rows ≤ length t.rows.satellites.now
  pub slots : SlotsHold n.slots t.rows.slots
  pub carried : n.carried ≤ length t.carried.now

pub room_holds : (n : Counts) (t : Tables) → room_fits n (room (tables_in t)) ≡ true → Holds n t
unfolding room_fits room
room_holds n t h =
    let b = tables_in t in
    let r = room b in
    let x = both (leb n.epochs r.epochs) (leb n.rows r.rows && (leb n.slots r.slots && leb n.carried r.carried)) h in
    let y = both (leb n.rows r.rows) (leb n.slots r.slots && leb n.carried r.carried) x.1 in
    let z = both (leb n.slots r.slots) (leb n.carried r.carried) y.1 in
    let e : n.epochs ≤ min (length b.times) (min (length b.time_states) (min (length b.flags) (min (length b.counts) (min (length b.clocks) (length b.clock_states))))) = leb-true n.epochs r.epochs x.0 in
    let s : n.slots ≤ min (length b.numbers) (min (length b.states) (min (length b.losses) (length b.strengths))) = leb-true n.slots r.slots z.0 in
    record {
      entries =
          record {
            times_hold = omega arith;
            time_states_hold = omega arith;
            flags_hold = omega arith;
            counts_hold = omega arith;
            clocks_hold = omega arith;
            clock_states_hold = omega arith;
          };
      rows = leb-true n.rows r.rows y.0;
      slots = record { numbers_hold = omega arith; states_hold = omega arith; losses_hold = omega arith; strengths_hold = omega arith };
      carried = leb-true n.carried r.carried z.1;
    }

-- the data sees neither the codes nor the carried bytes but by their lines
module _ (lengths : List ℕ) (n : Counts) (b : Buffers) where
  pub epochs_same : (k e : ℕ) (c : Untaken) → epochs_fit lengths n (data_alone b) k e c ≡ epochs_fit lengths n b k e c
  unfolding epochs_fit
  epochs_same zero e c = refl
  epochs_same (suc k) e c =
      ap (λ (o : Option Untaken). o >>= epochs_fit lengths n (data_alone b) k (e + 1)) (sym (epoch_same lengths n (data_alone b) (entry_at b e) c) ∙ epoch_same lengths n b (entry_at b e) c)
      ∙ on (epoch_fits lengths n b (entry_at b e) c) (λ d. epochs_same k (e + 1) d)
    where
      on : (o : Option Untaken) → ((d : Untaken) → epochs_fit lengths n (data_alone b) k (e + 1) d ≡ epochs_fit lengths n b k (e + 1) d)
          → (o >>= epochs_fit lengths n (data_alone b) k (e + 1)) ≡ (o >>= epochs_fit lengths n b k (e + 1))
      on None f = refl
      on (Some d) f = f d

  data_same : (k : ℕ) (ws : List Raw) → data_fits lengths n (data_alone b) k ws ≡ data_fits lengths n b k ws
  unfolding data_fits
  data_same k ws = ap (λ (o : Option Untaken). leb k (length ws) && (header_lines_fit (take k ws) && all_taken n o)) (epochs_same n.epochs 0 (all_untaken (drop k ws)))

-- the tables, test by test
module _ (h : FlatHead) (n : Counts) (b : Buffers) where
  pub no_head : head_fits h ≡ false → false ≡ tables_fit h n b
  unfolding tables_fit
  no_head e = stop _ e

  module _ (a : head_fits h ≡ true) where
    pub no_lists : all_lists_fit h.letter h.lengths b.codes ≡ false → false ≡ tables_fit h n b
    unfolding tables_fit
    no_lists e = after a (stop _ e)

    module _ (l : all_lists_fit h.letter h.lengths b.codes ≡ true) where
      pub no_room : room_fits n (room b) ≡ false → false ≡ tables_fit h n b
      unfolding tables_fit
      no_room e = after a (after l (stop _ e))

      pub tables_are : room_fits n (room b) ≡ true → data_fits h.lengths n (data_alone b) h.header_lines (split (take n.carried b.carried)) ≡ tables_fit h n b
      unfolding tables_fit data_fits
      tables_are e = after a (after l (after e (data_same h.lengths n b h.header_lines (split (take n.carried b.carried)))))
