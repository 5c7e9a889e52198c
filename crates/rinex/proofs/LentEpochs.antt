-- Epochs in lent tables: what the walk of `specs/Fit` takes is what the form of a file asks, both ways. Assumes nothing.
use Prim.Native.Nat.{ℕ, zero, suc, ◌+◌, ◌≤◌, ◌<◌}
use mathlib.Core.Path.{◌≡◌, refl, sym, ap, ◌∙◌, subst}
use mathlib.Core.Bool.{Bool, true, false, cond, not, ◌&&◌, ◌||◌}
use mathlib.Core.List.{List, [], ◌∷◌, ◌++◌, map, append_assoc}
use Rattle.std.specs.Prelude.{Option, None, Some}
use native.Mathlib.Omega.{arith}
use lib.Dec.{eqb, leb}
use lib.ListN.{length, get_or, take, drop, length-append, length-map, take-append-drop}
use lib.Seq.{take_at, drop_at, length-take-le}
use borrow.Author.Tests.{eqb-true, eqb-false, le-leb, leb-true, leb-false, lt-leb, not-true}
use Rattle.lists.specs.Lists.{All, fresh}
use Rattle.lists.specs.Maybe.{when, ◌>>=◌}
use Rattle.lists.proofs.Bools.{both, all_of, Either, left, right, or_either}
use Rattle.lists.proofs.Maybe.{when_some, bind_some, some_one}
use Rattle.lists.proofs.Lists.{map_append}
use Rattle.line.specs.Text.{Raw, raw}
use Rattle.rinex.specs.File.{Slot, Row, Epoch, observed, event, satellite, times}
use Rattle.rinex.specs.Data.{is_nought, TimeAsked, any_marker_name, later, ascend}
use Rattle.rinex.specs.Tables.{state_of, number_of, signed_of, time_of, flag_of, count_of, clock_of, rows_of, lines_of, FlatEpoch, flat_epoch, all_rows, all_slots, all_lines, Counts, Buffers}
use Rattle.rinex.specs.Fit.{is_time, state_fits, number_fits, part, rows_fit, event_lines_fit, some_marker, Untaken, entry_at, observed_fits, event_fits, epoch_fits, epochs_fit}
use Rattle.rinex.proofs.Forms.{Timed, EpochForm}
use Rattle.rinex.proofs.Counting.{slots_append}
use Rattle.rinex.proofs.Lent.{Lies, lies_on, on_lies, lies_part, nought, state_found, number_found, number_back, SlotsLie, slots_on, on_slots, rows_found, rows_back}
use Rattle.rinex.proofs.LentLines.{time_found, time_back, event_lines_found, event_lines_back, marker_raw}

-- the epochs' entries stand in the table from entry e on
abbrev pub EntriesLie : Buffers → ℕ → List Epoch → Type 0
EntriesLie b e [] = Unit
EntriesLie b e (x ∷ xs) = (entry_at b e ≡ flat_epoch x) × EntriesLie b (e + 1) xs

-- an entry is the epoch's, field by field
module _ (p : FlatEpoch) (x : Epoch) where
  pub entry_is : p.time_state ≡ state_of (time_of x) → p.time ≡ number_of (time_of x) → p.flag ≡ flag_of x → p.count ≡ count_of x → p.clock_state ≡ state_of (clock_of x) → p.clock ≡ signed_of (clock_of x)
      → p ≡ flat_epoch x
  unfolding flat_epoch
  entry_is t u f c k l = λ i. record { time_state = t i; time = u i; flag = f i; count = c i; clock_state = k i; clock = l i }

-- the time of an event
event_time : (state t flag : ℕ) → state_fits state (eqb t 0 && leb flag 4) (is_time t) ≡ true → (o : Option ℕ) × (state ≡ state_of o) × (t ≡ number_of o) × Timed o × TimeAsked flag o
event_time state t flag h = at (state_found state (eqb t 0 && leb flag 4) (is_time t) h)
  where
    at : Either ((state ≡ 0) × ((eqb t 0 && leb flag 4) ≡ true)) ((state ≡ 1) × (is_time t ≡ true)) → (o : Option ℕ) × (state ≡ state_of o) × (t ≡ number_of o) × Timed o × TimeAsked flag o
    at (left e) = let p = both (eqb t 0) _ e.1 in (None, e.0, eqb-true t 0 p.0, tt, leb-true flag 4 p.1)
    at (right e) = (Some t, e.0, refl, time_found t e.1, tt)

event_time_back : (o : Option ℕ) (flag : ℕ) → Timed o → TimeAsked flag o → state_fits (state_of o) (eqb (number_of o) 0 && leb flag 4) (is_time (number_of o)) ≡ true
event_time_back None flag h k = rw (le-leb flag 4 k)
event_time_back (Some t) flag h k = time_back t h

if_three : (flag : ℕ) (m : Bool) → (not (eqb flag 3) || m) ≡ true → flag ≡ 3 → m ≡ true
if_three flag m h e = at (or_either (not (eqb flag 3)) m h)
  where
    at : Either (not (eqb flag 3) ≡ true) (m ≡ true) → m ≡ true
    at (left k) = absurd (eqb-false flag 3 (not-true (eqb flag 3) k) e)
    at (right k) = k

three_if : (flag : ℕ) (m : Bool) → (flag ≡ 3 → m ≡ true) → (not (eqb flag 3) || m) ≡ true
three_if flag m h = at (eqb flag 3) refl
  where
    at : (b : Bool) → eqb flag 3 ≡ b → (not b || m) ≡ true
    at true e = h (eqb-true flag 3 e)
    at false e = refl

module _ (b : Buffers) (lists : List (List (List ℕ))) (lengths : List ℕ) (same-lengths : (y : ℕ) → get_or lengths y 0 ≡ length (get_or lists y [])) (n : Counts) (room : n.rows ≤ length b.satellites) where
  -- an epoch that the walk takes
  pub record EpochTaken (x : FlatEpoch) (c c' : Untaken) : Type 0 where
    pub epoch : Epoch
    pub entry : x ≡ flat_epoch epoch
    pub form : EpochForm lists epoch
    pub names : Lies 0 b.satellites c.row (map satellite (rows_of epoch))
    pub slots : SlotsLie b c.slot (all_slots (rows_of epoch))
    pub row : c'.row ≡ c.row + length (rows_of epoch)
    pub slot : c'.slot ≡ c.slot + length (all_slots (rows_of epoch))
    pub row_room : c.row ≤ n.rows → c'.row ≤ n.rows
    pub slot_room : c.slot ≤ n.slots → c'.slot ≤ n.slots
    pub lines : c.lines ≡ map raw (lines_of epoch) ++ c'.lines
    pub order : (xs : List Epoch) → ascend c'.last (times xs) ≡ true → ascend c.last (times (epoch ∷ xs)) ≡ true

  abbrev after : Untaken → FlatEpoch → ℕ → Untaken
  after c x i = record { row = c.row + x.count; slot = i; lines = c.lines; last = Some x.time }

  observed_taken : (x : FlatEpoch) (c : Untaken) (i : ℕ) → leb x.flag 1 ≡ true → observed_fits n b x c ≡ true → rows_fit lengths n b x.count c.row c.slot ≡ Some i
      → EpochTaken x c (after c x i)
  unfolding observed_fits
  observed_taken x c i g h k =
      let p1 = both (eqb x.time_state 1) _ h in
      let p2 = both (is_time x.time) _ p1.1 in
      let p3 = both (later c.last x.time) _ p2.1 in
      let p4 = both (number_fits 15 12 x.clock_state x.clock) _ p3.1 in
      let p5 = both (leb x.count 999) _ p4.1 in
      let p6 = both (leb (c.row + x.count) n.rows) _ p5.1 in
      let r = rows_found b lists lengths same-lengths n x.count c.row c.slot i k in
      let v = number_found 15 12 x.clock_state x.clock p4.0 in
      let few : x.count ≤ 999 = leb-true x.count 999 p5.0 in
      let fits : c.row + x.count ≤ n.rows = leb-true (c.row + x.count) n.rows p6.0 in
      let long : length r.rows ≡ x.count = r.long in
      let m : length (map satellite r.rows) ≡ x.count = length-map r.rows satellite ∙ long in
      let names : part b.satellites c.row x.count ≡ map satellite r.rows =
      ap (λ (y : ℕ). take y (drop c.row b.satellites)) (sym m) ∙ lies_part 0 b.satellites (map satellite r.rows) c.row (omega arith) r.names in
      let epoch : Epoch = observed (record { time = x.time; flag = x.flag; clock = v.0; rows = r.rows }) in
      record {
        epoch = epoch;
        entry = entry_is x epoch (eqb-true x.time_state 1 p1.0) refl refl (sym long) v.1 v.2;
        form = record {
          flag = leb-true x.flag 1 g;
          time = time_found x.time p2.0;
          clock = v.3;
          few = omega arith;
          rows = r.forms;
          apart = subst (λ (y : List ℕ). fresh eqb [] y ≡ true) names p6.1;
        };
        names = r.names;
        slots = r.slots;
        row = ap (λ (y : ℕ). c.row + y) (sym long);
        slot = r.end;
        row_room = λ m. fits;
        slot_room = r.room;
        lines = refl;
        order = λ xs o. all_of (later c.last x.time) _ p3.0 o;
      }

  abbrev past_event : Untaken → FlatEpoch → Untaken
  past_event c x = record { row = c.row; slot = c.slot; lines = drop x.count c.lines; last = c.last }

  event_taken : (x : FlatEpoch) (c : Untaken) → leb x.flag 1 ≡ false → event_fits x c ≡ true → EpochTaken x c (past_event c x)
  unfolding event_fits all_slots
  event_taken x c g h =
      let p1 = both (leb x.flag 5) _ h in
      let p2 = both (state_fits x.time_state (eqb x.time 0 && leb x.flag 4) (is_time x.time)) _ p1.1 in
      let p3 = both (eqb x.clock_state 0) _ p2.1 in
      let p4 = both (is_nought x.clock) _ p3.1 in
      let p5 = both (leb x.count 999) _ p4.1 in
      let p6 = both (leb x.count (length c.lines)) _ p5.1 in
      let p7 = both (event_lines_fit (take x.count c.lines)) _ p6.1 in
      let t = event_time x.time_state x.time x.flag p2.0 in
      let l = event_lines_found (take x.count c.lines) p7.0 in
      let few : x.count ≤ 999 = leb-true x.count 999 p5.0 in
      let some-lines : x.count ≤ length c.lines = leb-true x.count (length c.lines) p6.0 in
      let long : length l.lines ≡ x.count = sym (length-map l.lines raw) ∙ (ap length (sym l.raws) ∙ length-take-le x.count c.lines some-lines) in
      let two : 1 < x.flag = leb-false x.flag 1 g in
      let mark : some_marker (take x.count c.lines) ≡ any_marker_name l.lines = ap some_marker l.raws ∙ marker_raw l.lines in
      let epoch : Epoch = event (record { time = t.0; flag = x.flag; lines = l.lines }) in
      record {
        epoch = epoch;
        entry = entry_is x epoch t.1 t.2 refl (sym long) (eqb-true x.clock_state 0 p3.0) (nought x.clock p4.0);
        form = record {
          flag_from = omega arith;
          flag_to = leb-true x.flag 5 p1.0;
          time = t.3;
          asked = t.4;
          few = omega arith;
          lines = l.line;
          kept = l.kept;
          marker = λ q. sym mark ∙ if_three x.flag (some_marker (take x.count c.lines)) p7.1 q;
        };
        names = tt;
        slots = tt;
        row = omega arith;
        slot = omega arith;
        row_room = λ m. m;
        slot_room = λ m. m;
        lines = sym (take-append-drop x.count c.lines) ∙ ap (λ (y : List Raw). y ++ drop x.count c.lines) l.raws;
        order = λ xs o. o;
      }

  pub epoch_taken : (x : FlatEpoch) (c c' : Untaken) → epoch_fits lengths n b x c ≡ Some c' → EpochTaken x c c'
  unfolding epoch_fits
  epoch_taken x c c' h = at (leb x.flag 1) refl h
    where
      at : (g : Bool) → leb x.flag 1 ≡ g
          → cond g (when (observed_fits n b x c) c.row >>= λ j. rows_fit lengths n b x.count j c.slot >>= λ i. Some (after c x i))
          (when (event_fits x c) (past_event c x)) ≡ Some c' → EpochTaken x c c'
      at true g k =
          let p = bind_some (when (observed_fits n b x c) c.row) (λ j. rows_fit lengths n b x.count j c.slot >>= λ i. Some (after c x i)) c' k in
          let q = when_some (observed_fits n b x c) c.row p.0 p.1 in
          let r = bind_some (rows_fit lengths n b x.count p.0 c.slot) (λ i. Some (after c x i)) c' p.2 in
          let f : rows_fit lengths n b x.count c.row c.slot ≡ Some r.0 = subst (λ (y : ℕ). rows_fit lengths n b x.count y c.slot ≡ Some r.0) (sym q.1) r.1 in
          subst (λ (y : Untaken). EpochTaken x c y) (some_one (after c x r.0) c' r.2) (observed_taken x c r.0 g q.0 f)
      at false g k =
          let q = when_some (event_fits x c) (past_event c x) c' k in
          subst (λ (y : Untaken). EpochTaken x c y) q.1 (event_taken x c g q.0)

  -- all that it takes
  pub record EpochsTaken (k e : ℕ) (c c' : Untaken) : Type 0 where
    pub epochs : List Epoch
    pub long : length epochs ≡ k
    pub entries : EntriesLie b e epochs
    pub forms : All (EpochForm lists) epochs
    pub names : Lies 0 b.satellites c.row (map satellite (all_rows epochs))
    pub slots : SlotsLie b c.slot (all_slots (all_rows epochs))
    pub row : c'.row ≡ c.row + length (all_rows epochs)
    pub slot : c'.slot ≡ c.slot + length (all_slots (all_rows epochs))
    pub lines : c.lines ≡ map raw (all_lines epochs) ++ c'.lines
    pub order : ascend c.last (times epochs) ≡ true

  no_slots : (i : ℕ) → SlotsLie b i (all_slots [])
  unfolding all_slots
  no_slots i = tt

  none_more : length (all_slots []) ≡ 0
  unfolding all_slots
  none_more = refl

  pub epochs_taken : (k e : ℕ) (c c' : Untaken) → epochs_fit lengths n b k e c ≡ Some c' → EpochsTaken k e c c'
  unfolding epochs_fit all_rows all_lines
  epochs_taken zero e c c' h =
      let q : c ≡ c' = some_one c c' h in
      subst (λ (y : Untaken). EpochsTaken zero e c y) q (record { epochs = []; long = refl; entries = tt; forms = tt; names = tt; slots = no_slots c.slot; row = omega arith; slot = omega (arith, none_more); lines = refl; order = refl })
  epochs_taken (suc k) e c c' h =
      let p = bind_some (epoch_fits lengths n b (entry_at b e) c) (epochs_fit lengths n b k (e + 1)) c' h in
      let t = epoch_taken (entry_at b e) c p.0 p.1 in
      let r = epochs_taken k (e + 1) p.0 c' p.2 in
      let rs : List Row = rows_of t.epoch in
      let qs : List Row = all_rows r.epochs in
      let s : all_slots (rs ++ qs) ≡ all_slots rs ++ all_slots qs = slots_append rs qs in
      let ms : length (map satellite rs) ≡ length rs = length-map rs satellite in
      let z : p.0.row ≡ c.row + length (map satellite rs) = omega (arith, t.row) in
      record {
        epochs = t.epoch ∷ r.epochs;
        long = ap suc r.long;
        entries = (t.entry, r.entries);
        forms = (t.form, r.forms);
        names = subst (λ (y : List ℕ). Lies 0 b.satellites c.row y) (sym (map_append satellite rs qs))
            (on_lies 0 b.satellites (map satellite rs) (map satellite qs) c.row t.names (subst (λ (y : ℕ). Lies 0 b.satellites y (map satellite qs)) z r.names));
        slots = subst (λ (y : List Slot). SlotsLie b c.slot y) (sym s)
            (on_slots b (all_slots rs) (all_slots qs) c.slot t.slots (subst (λ (y : ℕ). SlotsLie b y (all_slots qs)) t.slot r.slots));
        row = omega (arith, t.row, r.row, length-append rs qs);
        slot = omega (arith, t.slot, r.slot, ap length s, length-append (all_slots rs) (all_slots qs));
        lines = t.lines ∙ (ap (λ (y : List Raw). map raw (lines_of t.epoch) ++ y) r.lines
            ∙ (sym (append_assoc (map raw (lines_of t.epoch)) (map raw (all_lines r.epochs)) c'.lines)
            ∙ ap (λ (y : List Raw). y ++ c'.lines) (sym (map_append raw (lines_of t.epoch) (all_lines r.epochs)))));
        order = t.order r.epochs r.order;
      }

  -- the way back: what the walk makes of an epoch's entry
  pub record Goes (x : FlatEpoch) (c : Untaken) (rows slots : ℕ) (ws : List Raw) (xs : List Epoch) : Type 0 where
    pub to : Untaken
    pub goes : epoch_fits lengths n b x c ≡ Some to
    pub row : to.row ≡ c.row + rows
    pub slot : to.slot ≡ c.slot + slots
    pub lines : to.lines ≡ ws
    pub order : ascend to.last (times xs) ≡ true

  pub goes_on : (x : Epoch) (xs : List Epoch) (c : Untaken) (ws : List Raw) → EpochForm lists x → Lies 0 b.satellites c.row (map satellite (rows_of x)) → SlotsLie b c.slot (all_slots (rows_of x))
      → c.lines ≡ map raw (lines_of x) ++ ws → ascend c.last (times (x ∷ xs)) ≡ true → c.row + length (rows_of x) ≤ n.rows → c.slot + length (all_slots (rows_of x)) ≤ n.slots
      → Goes (flat_epoch x) c (length (rows_of x)) (length (all_slots (rows_of x))) ws xs
  unfolding flat_epoch epoch_fits observed_fits event_fits
  goes_on (observed o) xs c ws f names slots lines order row slot =
      let p = both (later c.last o.time) _ order in
      let few : length o.rows ≤ 999 = omega (arith, f.few) in
      let m : length (map satellite o.rows) ≡ length o.rows = length-map o.rows satellite in
      let part-is : part b.satellites c.row (length o.rows) ≡ map satellite o.rows =
      ap (λ (y : ℕ). take y (drop c.row b.satellites)) (sym m) ∙ lies_part 0 b.satellites (map satellite o.rows) c.row (omega arith) names in
      let fit : observed_fits n b (flat_epoch (observed o)) c ≡ true =
      all_of (is_time o.time) _ (time_back o.time f.time) (all_of (later c.last o.time) _ p.0
      (all_of (number_fits 15 12 (state_of o.clock) (signed_of o.clock)) _ (number_back 15 12 o.clock f.clock)
      (all_of (leb (length o.rows) 999) _ (le-leb (length o.rows) 999 few) (all_of (leb (c.row + length o.rows) n.rows) _ (le-leb (c.row + length o.rows) n.rows row)
      (subst (λ (y : List ℕ). fresh eqb [] y ≡ true) (sym part-is) f.apart))))) in
      let r = rows_back b lists lengths same-lengths n o.rows c.row c.slot names slots f.rows slot in
      record {
        to = record { row = c.row + length o.rows; slot = c.slot + length (all_slots o.rows); lines = c.lines; last = Some o.time };
        goes = rw (le-leb o.flag 1 f.flag, fit, r);
        row = refl;
        slot = refl;
        lines = lines;
        order = p.1;
      }
  goes_on (event v) xs c ws f names slots lines order row slot =
      let m : length (map raw v.lines) ≡ length v.lines = length-map v.lines raw in
      let t : take (length v.lines) c.lines ≡ map raw v.lines = ap (take (length v.lines)) lines ∙ take_at (map raw v.lines) ws (length v.lines) m in
      let d : drop (length v.lines) c.lines ≡ ws = ap (drop (length v.lines)) lines ∙ drop_at (map raw v.lines) ws (length v.lines) m in
      let few : length v.lines ≤ 999 = omega (arith, f.few) in
      let some-lines : length v.lines ≤ length c.lines = omega (arith, ap length lines, length-append (map raw v.lines) ws) in
      let high : leb v.flag 1 ≡ false = lt-leb v.flag 1 (omega (arith, f.flag_from)) in
      let lines_fit : event_lines_fit (take (length v.lines) c.lines) ≡ true = subst (λ (y : List Raw). event_lines_fit y ≡ true) (sym t) (event_lines_back v.lines f.lines f.kept) in
      let mark : some_marker (take (length v.lines) c.lines) ≡ any_marker_name v.lines = ap some_marker t ∙ marker_raw v.lines in
      let fit : event_fits (flat_epoch (event v)) c ≡ true =
      all_of (leb v.flag 5) _ (le-leb v.flag 5 f.flag_to) (all_of (state_fits (state_of v.time) (eqb (number_of v.time) 0 && leb v.flag 4) (is_time (number_of v.time))) _ (event_time_back v.time v.flag f.time f.asked)
      (all_of (leb (length v.lines) 999) _ (le-leb (length v.lines) 999 few) (all_of (leb (length v.lines) (length c.lines)) _ (le-leb (length v.lines) (length c.lines) some-lines)
      (all_of (event_lines_fit (take (length v.lines) c.lines)) _ lines_fit (three_if v.flag (some_marker (take (length v.lines) c.lines)) (λ q. mark ∙ f.marker q)))))) in
      record {
        to = record { row = c.row; slot = c.slot; lines = drop (length v.lines) c.lines; last = c.last };
        goes = rw (high, fit);
        row = omega arith;
        slot = omega (arith, none_more);
        lines = d;
        order = order;
      }

  pub record Walked (e : ℕ) (xs : List Epoch) (c : Untaken) : Type 0 where
    pub to : Untaken
    pub walks : epochs_fit lengths n b (length xs) e c ≡ Some to
    pub row : to.row ≡ c.row + length (all_rows xs)
    pub slot : to.slot ≡ c.slot + length (all_slots (all_rows xs))
    pub lines : to.lines ≡ []

  pub walked : (xs : List Epoch) (e : ℕ) (c : Untaken) → EntriesLie b e xs → All (EpochForm lists) xs → Lies 0 b.satellites c.row (map satellite (all_rows xs)) → SlotsLie b c.slot (all_slots (all_rows xs))
      → c.lines ≡ map raw (all_lines xs) → ascend c.last (times xs) ≡ true → c.row + length (all_rows xs) ≤ n.rows → c.slot + length (all_slots (all_rows xs)) ≤ n.slots → Walked e xs c
  unfolding epochs_fit all_rows all_lines
  walked [] e c en f names slots lines order row slot = record { to = c; walks = refl; row = omega arith; slot = omega (arith, none_more); lines = lines }
  walked (x ∷ xs) e c en f names slots lines order row slot =
      let rs : List Row = rows_of x in
      let qs : List Row = all_rows xs in
      let s : all_slots (rs ++ qs) ≡ all_slots rs ++ all_slots qs = slots_append rs qs in
      let sl : length (all_slots (rs ++ qs)) ≡ length (all_slots rs) + length (all_slots qs) = ap length s ∙ length-append (all_slots rs) (all_slots qs) in
      let rl : length (rs ++ qs) ≡ length rs + length qs = length-append rs qs in
      let ms : length (map satellite rs) ≡ length rs = length-map rs satellite in
      let nm = lies_on 0 b.satellites (map satellite rs) (map satellite qs) c.row (subst (λ (y : List ℕ). Lies 0 b.satellites c.row y) (map_append satellite rs qs) names) in
      let sm = slots_on b (all_slots rs) (all_slots qs) c.slot (subst (λ (y : List Slot). SlotsLie b c.slot y) s slots) in
      let g = goes_on x xs c (map raw (all_lines xs)) f.0 nm.0 sm.0 (lines ∙ map_append raw (lines_of x) (all_lines xs)) order (omega arith) (omega arith) in
      let z : c.row + length (map satellite rs) ≡ g.to.row = omega (arith, g.row) in
      let y : c.slot + length (all_slots rs) ≡ g.to.slot = sym g.slot in
      let w = walked xs (e + 1) g.to en.1 f.1 (subst (λ (k : ℕ). Lies 0 b.satellites k (map satellite qs)) z nm.1) (subst (λ (k : ℕ). SlotsLie b k (all_slots qs)) y sm.1) g.lines g.order
      (omega (arith, g.row)) (omega (arith, g.slot)) in
      let go : epoch_fits lengths n b (entry_at b e) c ≡ Some g.to = subst (λ (k : FlatEpoch). epoch_fits lengths n b k c ≡ Some g.to) (sym en.0) g.goes in
      record {
        to = w.to;
        walks = ap (λ (k : Option Untaken). k >>= epochs_fit lengths n b (length xs) (e + 1)) go ∙ w.walks;
        row = omega (arith, w.row, g.row);
        slot = omega (arith, w.slot, g.slot);
        lines = w.lines;
      }
