-- What a fit epoch has, what its text is made of, and what it leaves. Assumes nothing.
use Prim.Native.Nat.{ℕ, zero, suc, ◌+◌, ◌≤◌, ◌<◌}
use mathlib.Core.Path.{◌≡◌, refl, sym, ap, ◌∙◌}
use mathlib.Core.Bool.{Bool, true, false, cond, ◌&&◌}
use mathlib.Core.List.{List, ◌∷◌, ◌++◌}
use Rattle.std.specs.Prelude.{None, Some}
use native.Mathlib.Omega.{arith}
use borrow.Author.Tests.{eqb-true, le-leb, leb-true, leb-false, lt-leb}
use lib.Dec.{eqb, leb}
use lib.ListN.{length, take, drop, length-append, length-map}
use lib.Seq.{length-take-le}
use Rattle.lists.specs.Maybe.{is_given, when, ◌>>=◌}
use Rattle.lists.proofs.Bools.{both}
use Rattle.lists.proofs.Maybe.{given_some, when_some, bind_some, some_one}
use Rattle.write_field.specs.Normal.{decimal_fits}
use Rattle.line.specs.Text.{Raw}
use Rattle.rinex.specs.Data.{is_nought, later}
use Rattle.rinex.specs.Tables.{rows_of, lines_of, FlatEpoch, all_slots, Counts, Buffers}
use Rattle.rinex.specs.Fit.{is_time, state_fits, number_fits, event_lines_fit, codes_of_row, row_fits, rows_fit, Untaken, observed_fits, event_fits, epoch_fits, behind_rows, behind_lines}
use Rattle.rinex.specs.File.{Observed, Event, Epoch, observed, event}
use Rattle.rinex.proofs.HeldFile.{slots_length}
use Rattle.rinex.specs.Held.{optional, slots_at, rows_at, bytes_of, epoch_at}
use Rattle.rinex.specs.Normal.{epoch_line, epoch_lines, normal_epoch}
use Rattle.fits.specs.Stepping.{observed_step, event_step}
use Rattle.fits.proofs.Walked.{epoch_observed, epoch_event}
use Rattle.columns.proofs.States.{state_fits_lem}
use Rattle.write_lines.specs.Lines.{are_held, lines_text}
use Rattle.write_rows.specs.Rows.{rows_text, RowsReady}
use Rattle.write_data.specs.EpochTexts.{epoch_from, epoch_next, EpochReady}
use Rattle.write_data.proofs.HeldLines.{event_held}
use Rattle.write_data.specs.Records.{RecordFits, observed_text, event_text}

-- AN EPOCH THAT FITS
module _ (lengths : List ℕ) (used : Counts) (b : Buffers) (e : FlatEpoch) (c : Untaken) where
  -- flag 0 or 1: its entry and its rows, and what it leaves
  pub record ObservedFound (d : Untaken) : Type 0 where
    pub timed : e.time_state ≡ 1
    pub time : is_time e.time ≡ true
    pub clock : number_fits 15 12 e.clock_state e.clock ≡ true
    pub few : e.count ≤ 999
    pub rows : c.row + e.count ≤ used.rows
    pub slot : ℕ
    pub fit : rows_fit lengths used b e.count c.row c.slot ≡ Some slot
    pub next : record { row = c.row + e.count; slot = slot; lines = c.lines; last = Some e.time } ≡ d

  -- another flag: its entry and its lines, and what it leaves
  pub record EventFound (d : Untaken) : Type 0 where
    pub time : state_fits e.time_state (eqb e.time 0 && leb e.flag 4) (is_time e.time) ≡ true
    pub no_clock : e.clock_state ≡ 0
    pub few : e.count ≤ 999
    pub long : e.count ≤ length c.lines
    pub fit : event_lines_fit (take e.count c.lines) ≡ true
    pub next : record { row = c.row; slot = c.slot; lines = drop e.count c.lines; last = c.last } ≡ d

  module _ (d : Untaken) (f : epoch_fits lengths used b e c ≡ Some d) where
    observed_found : e.flag ≤ 1 → ObservedFound d
    unfolding observed_step observed_fits
    observed_found h =
        let p = bind_some (when (observed_fits used b e c) c.row) (λ j. rows_fit lengths used b e.count j c.slot >>= λ i. Some (behind_rows e c i)) d (epoch_observed lengths used b e c h ∙ f) in
        let q = when_some (observed_fits used b e c) c.row p.0 p.1 in
        let r = bind_some (rows_fit lengths used b e.count p.0 c.slot) (λ i. Some (behind_rows e c i)) d p.2 in
        let p1 = both (eqb e.time_state 1) _ q.0 in
        let p2 = both (is_time e.time) _ p1.1 in
        let p3 = both (later c.last e.time) _ p2.1 in
        let p4 = both (number_fits 15 12 e.clock_state e.clock) _ p3.1 in
        let p5 = both (leb e.count 999) _ p4.1 in
        let p6 = both (leb (c.row + e.count) used.rows) _ p5.1 in
        record {
          timed = eqb-true e.time_state 1 p1.0;
          time = p2.0;
          clock = p4.0;
          few = leb-true e.count 999 p5.0;
          rows = leb-true (c.row + e.count) used.rows p6.0;
          slot = r.0;
          fit = ap (λ (j : ℕ). rows_fit lengths used b e.count j c.slot) q.1 ∙ r.1;
          next = some_one (behind_rows e c r.0) d r.2;
        }

    pub event_found : 1 < e.flag → EventFound d
    unfolding event_step event_fits
    event_found h =
        let q = when_some (event_fits e c) (record { row = c.row; slot = c.slot; lines = drop e.count c.lines; last = c.last }) d (epoch_event lengths used b e c h ∙ f) in
        let p1 = both (leb e.flag 5) _ q.0 in
        let p2 = both (state_fits e.time_state (eqb e.time 0 && leb e.flag 4) (is_time e.time)) _ p1.1 in
        let p3 = both (eqb e.clock_state 0) _ p2.1 in
        let p4 = both (is_nought e.clock) _ p3.1 in
        let p5 = both (leb e.count 999) _ p4.1 in
        let p6 = both (leb e.count (length c.lines)) _ p5.1 in
        let p7 = both (event_lines_fit (take e.count c.lines)) _ p6.1 in
        record {
          time = p2.0;
          no_clock = eqb-true e.clock_state 0 p3.0;
          few = leb-true e.count 999 p5.0;
          long = leb-true e.count (length c.lines) p6.0;
          fit = p7.0;
          next = q.1;
        }

    -- its record fits its columns
    observed_record : ObservedFound d → RecordFits e
    observed_record o =
        record {
          count = omega (arith, o.few);
          time = λ n. o.time;
          clock = state_fits_lem e.clock_state (is_nought e.clock) (decimal_fits 15 12 e.clock) o.clock;
        }

    event_record : EventFound d → RecordFits e
    event_record v =
        record {
          count = omega (arith, v.few);
          time = state_fits_lem e.time_state (eqb e.time 0 && leb e.flag 4) (is_time e.time) v.time;
          clock = λ n. absurd (n v.no_clock);
        }

    found_record : RecordFits e
    found_record = at (leb e.flag 1) refl
      where
        at : (t : Bool) → leb e.flag 1 ≡ t → RecordFits e
        at true h = observed_record (observed_found (leb-true e.flag 1 h))
        at false h = event_record (event_found (leb-false e.flag 1 h))

  pub record_fits : is_given (epoch_fits lengths used b e c) ≡ true → RecordFits e
  record_fits f = let g = given_some (epoch_fits lengths used b e c) f in found_record g.0 g.1

-- so its rows, or its lines, can be put
module _ (lengths : List ℕ) (b : Buffers) (e : FlatEpoch) (c : Untaken) (r : EpochReady lengths b e c) where
  pub rows_ready : e.flag ≤ 1 → RowsReady lengths b e.count c.row c.slot
  rows_ready h =
      let g = given_some (epoch_fits lengths r.used b e c) r.fit in
      let o = observed_found lengths r.used b e c g.0 g.1 h in
      record { used = r.used; lent = r.lent; rows = o.rows; slots = r.slot; fit = ap is_given o.fit }

  pub lines_held : 1 < e.flag → are_held e.count c.lines ≡ true
  lines_held h =
      let g = given_some (epoch_fits lengths r.used b e c) r.fit in
      let v = event_found lengths r.used b e c g.0 g.1 h in
      event_held e.count c.lines v.long v.fit

-- THE TEXT OF AN EPOCH
-- what is held has so many rows, and so many lines
rows_long : (lengths : List ℕ) (b : Buffers) (k j i : ℕ) → length (rows_at lengths b k j i) ≡ k
unfolding rows_at
rows_long lengths b zero j i = refl
rows_long lengths b (suc k) j i = ap suc (rows_long lengths b k (j + 1) (i + codes_of_row lengths b j))

lines_long : (n : ℕ) (ws : List Raw) → n ≤ length ws → length (bytes_of (take n ws)) ≡ n
lines_long n ws h = length-map (take n ws) (λ (w : Raw). w.bytes) ∙ length-take-le n ws h

module _ (lengths : List ℕ) (b : Buffers) (e : FlatEpoch) (c : Untaken) where
  -- the epoch that is held, by its flag
  abbrev observed_here : Observed
  observed_here = record { time = e.time; flag = e.flag; clock = optional e.clock_state e.clock; rows = rows_at lengths b e.count c.row c.slot }

  abbrev event_here : Event
  event_here = record { time = optional e.time_state e.time; flag = e.flag; lines = bytes_of (take e.count c.lines) }

  held_observed : e.flag ≤ 1 → epoch_from lengths b e c ≡ observed observed_here
  unfolding epoch_at
  held_observed h = rw (le-leb e.flag 1 h) refl

  pub held_event : 1 < e.flag → epoch_from lengths b e c ≡ event event_here
  unfolding epoch_at
  held_event h = rw (lt-leb e.flag 1 h) refl

  module _ (used : Counts) (f : is_given (epoch_fits lengths used b e c) ≡ true) where
    pub observed_text_lem : e.flag ≤ 1 → normal_epoch (epoch_from lengths b e c) ≡ observed_text lengths b e c.row c.slot
    unfolding normal_epoch epoch_lines
    observed_text_lem h =
        let g = given_some (epoch_fits lengths used b e c) f in
        let o = observed_found lengths used b e c g.0 g.1 h in
        let t : Some e.time ≡ optional e.time_state e.time = sym (ap (λ (s : ℕ). optional s e.time) o.timed) in
        let n : length (rows_at lengths b e.count c.row c.slot) ≡ e.count = rows_long lengths b e.count c.row c.slot in
        ap normal_epoch (held_observed h) ∙ λ k. epoch_line (t k) e.flag (n k) (optional e.clock_state e.clock) ++ (10 ∷ rows_text lengths b e.count c.row c.slot)

    pub event_text_lem : 1 < e.flag → normal_epoch (epoch_from lengths b e c) ≡ event_text e c.lines
    unfolding normal_epoch epoch_lines
    event_text_lem h =
        let g = given_some (epoch_fits lengths used b e c) f in
        let v = event_found lengths used b e c g.0 g.1 h in
        let t : None ≡ optional e.clock_state e.clock = sym (ap (λ (s : ℕ). optional s e.clock) v.no_clock) in
        let n : length (bytes_of (take e.count c.lines)) ≡ e.count = lines_long e.count c.lines v.long in
        ap normal_epoch (held_event h) ∙ λ k. epoch_line (optional e.time_state e.time) e.flag (n k) (t k) ++ (10 ∷ lines_text e.count c.lines)

-- WHAT AN EPOCH LEAVES
-- fit rows end where their slots do
rows_end : (lengths : List ℕ) (used : Counts) (b : Buffers) (k j i i' : ℕ) → rows_fit lengths used b k j i ≡ Some i' → i' ≡ i + length (all_slots (rows_at lengths b k j i))
unfolding rows_fit rows_at all_slots
rows_end lengths used b zero j i i' h = let p : i ≡ i' = some_one i i' h in omega arith
rows_end lengths used b (suc k) j i i' h =
    let m : ℕ = codes_of_row lengths b j in
    let p = bind_some (when (row_fits lengths used b j i) (i + m)) (rows_fit lengths used b k (j + 1)) i' h in
    let q : i + m ≡ p.0 = (when_some (row_fits lengths used b j i) (i + m) p.0 p.1).1 in
    let r : i' ≡ i + m + length (all_slots (rows_at lengths b k (j + 1) (i + m))) = rows_end lengths used b k (j + 1) (i + m) i' (ap (rows_fit lengths used b k (j + 1)) q ∙ p.2) in
    omega (arith, r, slots_length b m i, length-append (slots_at b m i) (all_slots (rows_at lengths b k (j + 1) (i + m))))

pub rows_taken : (lengths : List ℕ) (used : Counts) (b : Buffers) (k j i i' : ℕ) → rows_fit lengths used b k j i ≡ Some i'
    → (i' ≡ i + length (all_slots (rows_at lengths b k j i))) × (length (rows_at lengths b k j i) ≡ k)
rows_taken lengths used b k j i i' h = (rows_end lengths used b k j i i' h, rows_long lengths b k j i)

module _ (lengths : List ℕ) (used : Counts) (b : Buffers) (e : FlatEpoch) (c d : Untaken) (f : epoch_fits lengths used b e c ≡ Some d) where
  abbrev behind : Epoch → Bool → Untaken
  behind x t = record { row = c.row + length (rows_of x); slot = c.slot + length (all_slots (rows_of x)); lines = drop (length (lines_of x)) c.lines; last = cond t (Some e.time) c.last }

  observed_leaves : e.flag ≤ 1 → d ≡ epoch_next lengths b e c
  unfolding epoch_next
  observed_leaves h =
      let o = observed_found lengths used b e c d f h in
      let r = rows_taken lengths used b e.count c.row c.slot o.slot o.fit in
      let n : e.count ≡ length (rows_at lengths b e.count c.row c.slot) = sym r.1 in
      let s : o.slot ≡ c.slot + length (all_slots (rows_at lengths b e.count c.row c.slot)) = r.0 in
      let t : true ≡ leb e.flag 1 = sym (le-leb e.flag 1 h) in
      sym o.next ∙ ((λ k. record { row = c.row + n k; slot = s k; lines = c.lines; last = Some e.time })
      ∙ (ap (λ (y : Bool). behind (observed (observed_here lengths b e c)) y) t ∙ ap (λ (x : Epoch). behind x (leb e.flag 1)) (sym (held_observed lengths b e c h))))

  event_leaves : 1 < e.flag → d ≡ epoch_next lengths b e c
  unfolding epoch_next all_slots
  event_leaves h =
      let v = event_found lengths used b e c d f h in
      let n : e.count ≡ length (bytes_of (take e.count c.lines)) = sym (lines_long e.count c.lines v.long) in
      let r : c.row ≡ c.row + 0 = omega arith in
      let s : c.slot ≡ c.slot + 0 = omega arith in
      let t : false ≡ leb e.flag 1 = sym (lt-leb e.flag 1 h) in
      sym v.next ∙ ((λ k. record { row = r k; slot = s k; lines = drop (n k) c.lines; last = c.last })
      ∙ (ap (λ (y : Bool). behind (event (event_here lengths b e c)) y) t ∙ ap (λ (x : Epoch). behind x (leb e.flag 1)) (sym (held_event lengths b e c h))))

pub epoch_leaves : (lengths : List ℕ) (used : Counts) (b : Buffers) (e : FlatEpoch) (c c' : Untaken) → epoch_fits lengths used b e c ≡ Some c' → c' ≡ epoch_next lengths b e c
epoch_leaves lengths used b e c c' f = at (leb e.flag 1) refl
  where
    at : (t : Bool) → leb e.flag 1 ≡ t → c' ≡ epoch_next lengths b e c
    at true h = observed_leaves lengths used b e c c' f (leb-true e.flag 1 h)
    at false h = event_leaves lengths used b e c c' f (leb-false e.flag 1 h)

-- told without the test
module _ (lengths : List ℕ) (b : Buffers) (e : FlatEpoch) (c : Untaken) (r : EpochReady lengths b e c) where
  pub observed_next_lem : e.flag ≤ 1
      → record { row = c.row + e.count; slot = c.slot + length (all_slots (rows_at lengths b e.count c.row c.slot)); lines = c.lines; last = Some e.time } ≡ epoch_next lengths b e c
  observed_next_lem h =
      let g = given_some (epoch_fits lengths r.used b e c) r.fit in
      let o = observed_found lengths r.used b e c g.0 g.1 h in
      let t = rows_taken lengths r.used b e.count c.row c.slot o.slot o.fit in
      ap (λ (i : ℕ). record { row = c.row + e.count; slot = i; lines = c.lines; last = Some e.time }) (sym t.0) ∙ (o.next ∙ epoch_leaves lengths r.used b e c g.0 g.1)

  pub event_next : 1 < e.flag → behind_lines e c ≡ epoch_next lengths b e c
  event_next h =
      let g = given_some (epoch_fits lengths r.used b e c) r.fit in
      (event_found lengths r.used b e c g.0 g.1 h).next ∙ epoch_leaves lengths r.used b e c g.0 g.1
