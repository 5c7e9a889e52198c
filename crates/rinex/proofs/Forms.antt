-- The form of a file that some text spells, said of the file alone; and that the parts of a spelled file are of it. Assumes nothing.
use Prim.Native.Nat.{ℕ, ◌+◌, ◌/◌, ◌≤◌, ◌<◌}
use mathlib.Core.Path.{◌≡◌, refl, sym, ap, ◌∙◌, subst}
use mathlib.Core.Bool.{Bool, true, false, cond}
use mathlib.Core.List.{List, [], ◌∷◌, ◌++◌, map}
use Rattle.std.specs.Prelude.{Option, None, Some}
use native.Mathlib.Omega.{arith}
use lib.Dec.{eqb}
use lib.IntN.{ℤ, pos}
use lib.ListN.{length, get_or, take, drop, take-append-drop}
use borrow.Author.Tests.{eqb-true}
use Rattle.lists.specs.Lists.{bytes, All, Each, joined, as_list, same, is_in, fresh}
use Rattle.lists.proofs.Bools.{never, both}
use Rattle.lists.proofs.Lists.{all_on, on_all}
use Rattle.field.specs.Field.{value_of, Mark}
use Rattle.write_field.specs.Normal.{decimal_fits, whole_fits}
use Rattle.field.proofs.Digits.{digits_below}
use Rattle.write_field.proofs.Written.{whole_holds, decimal_holds, whole_room}
use Rattle.moment.specs.declared.Date.{Date}
use Rattle.moment.specs.Moment.{Fit, instant}
use Rattle.line.specs.Text.{Line, col, cols, cut}
use Rattle.label.specs.Labels.{label_of}
use Rattle.line.proofs.Columns.{cut_line, length_cols, plain_byte, plain_at, in_plain, cut_cut, past_cut}
use Rattle.label.proofs.Labels.{label_cut}
use Rattle.rinex.specs.Codes.{is_code, is_taken, is_file_letter, allows}
use Rattle.rinex.specs.File.{Slot, Row, Observed, Event, Epoch, observed, event, Head, File, satellite, times}
use Rattle.rinex.specs.Header.{Codes, NextLines, CodeList, FirstLine, IntervalLine, CarriedLine, Entry, a_list, a_first, an_interval, a_carried, Entered, lists_for, First, firsts, intervals, carrieds, declared, HeaderLines}
use Rattle.rinex.specs.Data.{is_nought, EpochTimeOrBlank, EpochLine, held_as, Value, Slots, RowLine, EventLine, TimeAsked, any_marker_name, EpochLines, ascend}
use Rattle.rinex.specs.Spells.{Spells}
use Rattle.rinex.specs.Tables.{all_rows, all_slots, all_lines}
use Rattle.rinex.specs.Fit.{unpacked}
use Rattle.rinex.proofs.Laws.{below_seven}
use Rattle.rinex.proofs.CodeTable.{taken_code}
use Rattle.rinex.proofs.WrittenFields.{Put, FitsOrBlank, given_holds}

-- lines that are held
pub event_lines : (ls cs : List (List ℕ)) → Each EventLine ls cs → All Line ls → All Line cs
event_lines [] [] h a = tt
event_lines [] (c ∷ cs) h a = absurd h
event_lines (l ∷ ls) [] h a = absurd h
event_lines (l ∷ ls) (c ∷ cs) h a = (cut_line l c h.0.kept a.0, event_lines ls cs h.1 a.1)

event_line : (l c : List ℕ) → EventLine l c → EventLine c c
event_line l c h =
    let e : c ≡ cut l = h.kept in
    rw e (record { kept = sym (cut_cut l); known = rw (label_cut l) h.known; not_barred = rw (label_cut l) h.not_barred; rest = past_cut l 80 h.rest })

events_again : (ls cs : List (List ℕ)) → Each EventLine ls cs → Each EventLine cs cs
events_again [] [] h = tt
events_again [] (c ∷ cs) h = absurd h
events_again (l ∷ ls) [] h = absurd h
events_again (l ∷ ls) (c ∷ cs) h = (event_line l c h.0, events_again ls cs h.1)

marker_again : (ls cs : List (List ℕ)) → Each EventLine ls cs → any_marker_name cs ≡ any_marker_name ls
marker_again [] [] h = refl
marker_again [] (c ∷ cs) h = absurd h
marker_again (l ∷ ls) [] h = absurd h
marker_again (l ∷ ls) (c ∷ cs) h =
    let e : label_of c ≡ label_of l = ap label_of h.0.kept ∙ label_cut l in
    rw (e, marker_again ls cs h.1)

-- marks and slots
abbrev pub MarkForm : ℕ → Option ℕ → Type 0
MarkForm top None = Unit
MarkForm top (Some m) = m ≤ top

-- a value that is held: what is held of it is itself
pub record ValueForm (v : Option ℤ) : Type 0 where
  pub fits : FitsOrBlank 14 3 v
  pub held : held_as v ≡ v

pub record SlotForm (s : Slot) : Type 0 where
  pub value : ValueForm s.value
  pub loss : MarkForm 7 s.loss
  pub strength : MarkForm 9 s.strength

mark_form : (top b : ℕ) (o : Option ℕ) → Mark top b o → MarkForm top o
mark_form top b None h = tt
mark_form top b (Some m) h = h.1

held_held : (w d : ℕ) (o : Option ℤ) → FitsOrBlank w d o → FitsOrBlank w d (held_as o) × (held_as (held_as o) ≡ held_as o)
held_held w d None h = (tt, refl)
held_held w d (Some z) h = go (is_nought z) refl
  where
    go : (b : Bool) → is_nought z ≡ b → FitsOrBlank w d (cond b None (Some z)) × (held_as (cond b None (Some z)) ≡ cond b None (Some z))
    go true e = (tt, refl)
    go false e = (h, rw e)

value_form : (s : List ℕ) (v : Option ℤ) → length s ≡ 14 → Value s v → ValueForm v
value_form s v n h =
    let p = held_held 14 3 h.printed (given_holds 14 3 s h.printed (omega arith) n h.columns) in
    subst ValueForm (sym h.held) (record { fits = p.0; held = p.1 })

slots_form : (a : ℕ) (l : List ℕ) (ss : List Slot) → Slots a l ss → All SlotForm ss
slots_form a l [] h = tt
slots_form a l (s ∷ ss) h = (
  record {
    value = value_form (cols a (a + 13) l) s.value (length_cols a (a + 13) l ∙ omega arith) h.0.value;
    loss = mark_form 7 (col (a + 14) l) s.loss h.0.loss;
    strength = mark_form 9 (col (a + 15) l) s.strength h.0.strength;
  },
  slots_form (a + 16) l ss h.1,
)

-- rows
pub record RowForm (lists : List (List (List ℕ))) (q : Row) : Type 0 where
  pub system : q.system < 7
  pub number : q.number < 100
  pub not_zero : 1 ≤ q.number
  pub declared : 1 ≤ length (get_or lists q.system [])
  pub many : length q.slots ≡ length (get_or lists q.system [])
  pub slots : All SlotForm q.slots

row_form : (lists : List (List (List ℕ))) (l : List ℕ) (q : Row) → RowLine lists l q → RowForm lists q
row_form lists l q h =
    let n : value_of 0 (cols 2 3 l) < 100 = rw (length_cols 2 3 l) at (digits_below (cols 2 3 l) h.digits) in
    record {
      system = h.system;
      number = omega (arith, h.number);
      not_zero = h.not_zero;
      declared = h.declared;
      many = h.one_each;
      slots = slots_form 4 l q.slots h.slots;
    }

rows_form : (lists : List (List (List ℕ))) (ls : List (List ℕ)) (qs : List Row) → Each (RowLine lists) ls qs → All (RowForm lists) qs
rows_form lists [] [] h = tt
rows_form lists [] (q ∷ qs) h = absurd h
rows_form lists (l ∷ ls) [] h = absurd h
rows_form lists (l ∷ ls) (q ∷ qs) h = (row_form lists l q h.0, rows_form lists ls qs h.1)

-- epochs
-- a time of some fit date, or none
abbrev pub Timed : Option ℕ → Type 0
Timed None = Unit {0}
Timed (Some t) = (d : Date) × Fit d × (t ≡ instant d)

pub timed : (l : List ℕ) (o : Option ℕ) → EpochTimeOrBlank l o → Timed o
timed l None h = tt
timed l (Some t) h = (h.time.date, h.time.fit, h.time.time)

pub record ObservedForm (lists : List (List (List ℕ))) (o : Observed) : Type 0 where
  pub flag : o.flag ≤ 1
  pub time : Timed (Some o.time)
  pub clock : FitsOrBlank 15 12 o.clock
  pub few : length o.rows < 1000
  pub rows : All (RowForm lists) o.rows
  pub apart : fresh eqb [] (map satellite o.rows) ≡ true

pub record EventForm (v : Event) : Type 0 where
  pub flag_from : 2 ≤ v.flag
  pub flag_to : v.flag ≤ 5
  pub time : Timed v.time
  pub asked : TimeAsked v.flag v.time
  pub few : length v.lines < 1000
  pub lines : All Line v.lines
  pub kept : Each EventLine v.lines v.lines
  pub marker : v.flag ≡ 3 → any_marker_name v.lines ≡ true

abbrev pub EpochForm : List (List (List ℕ)) → Epoch → Type 0
EpochForm lists (observed o) = ObservedForm lists o
EpochForm lists (event v) = EventForm v

pub few_counted : (l : List ℕ) (time : Option ℕ) (flag count : ℕ) (clock : Option ℤ) → EpochLine l time flag count clock → count < 1000
few_counted l time flag count clock h =
    let f : whole_fits 3 count ≡ true = rw (length_cols 33 35 l) at (whole_holds (cols 33 35 l) count h.count_at) in
    (whole_room 3 count f).below

pub epoch_form : (lists : List (List (List ℕ))) (ls : List (List ℕ)) (e : Epoch) → EpochLines lists ls e → All Line ls → EpochForm lists e
epoch_form lists [] e h a = absurd h
epoch_form lists (l ∷ ls) (observed o) h a =
    record {
      flag = h.flag;
      time = timed l (Some o.time) h.line.time_at;
      clock = given_holds 15 12 (cols 42 56 l) o.clock (omega arith) (length_cols 42 56 l) h.line.clock_at;
      few = few_counted l _ _ _ _ h.line;
      rows = rows_form lists ls o.rows h.rows;
      apart = h.apart;
    }
epoch_form lists (l ∷ ls) (event v) h a =
    record {
      flag_from = h.flag_from;
      flag_to = h.flag_to;
      time = timed l v.time h.line.time_at;
      asked = h.time;
      few = few_counted l _ _ _ _ h.line;
      lines = event_lines ls v.lines h.lines a.1;
      kept = events_again ls v.lines h.lines;
      marker = λ p. marker_again ls v.lines h.lines ∙ h.marker p;
    }

pub epochs_form : (lists : List (List (List ℕ))) (gs : List (List (List ℕ))) (es : List Epoch) → Each (EpochLines lists) gs es → All Line (joined gs) → All (EpochForm lists) es
epochs_form lists [] [] h a = tt
epochs_form lists [] (e ∷ es) h a = absurd h
epochs_form lists (g ∷ gs) [] h a = absurd h
epochs_form lists (g ∷ gs) (e ∷ es) h a =
    let p = all_on Line g (joined gs) a in
    (epoch_form lists g e h.0 p.0, epochs_form lists gs es h.1 p.1)

module _ (lists : List (List (List ℕ))) where
  pub all_rows_form : (es : List Epoch) → All (EpochForm lists) es → All (RowForm lists) (all_rows es)
  unfolding all_rows
  all_rows_form [] a = tt
  all_rows_form (observed o ∷ es) a = on_all (RowForm lists) o.rows (all_rows es) a.0.rows (all_rows_form es a.1)
  all_rows_form (event v ∷ es) a = all_rows_form es a.1

  pub all_slots_form : (qs : List Row) → All (RowForm lists) qs → All SlotForm (all_slots qs)
  unfolding all_slots
  all_slots_form [] a = tt
  all_slots_form (q ∷ qs) a = on_all SlotForm q.slots (all_slots qs) a.0.slots (all_slots_form qs a.1)

  pub all_lines_form : (es : List Epoch) → All (EpochForm lists) es → All Line (all_lines es)
  unfolding all_lines
  all_lines_form [] a = tt
  all_lines_form (observed o ∷ es) a = all_lines_form es a.1
  all_lines_form (event v ∷ es) a = on_all Line v.lines (all_lines es) a.0.lines (all_lines_form es a.1)

-- lists of codes
abbrev pub IsCode : List ℕ → Type 0
IsCode c = is_code c ≡ true

abbrev pub IsTaken : ℕ → List ℕ → Type 0
IsTaken s c = is_taken s c ≡ true

-- three plain bytes
pub code_form : (c : List ℕ) → is_code c ≡ true → Put 3 c
unfolding is_code
code_form [] h = absurd (never h)
code_form (x ∷ []) h = absurd (never h)
code_form (x ∷ y ∷ []) h = absurd (never h)
code_form (x ∷ y ∷ z ∷ []) h =
    let b = both (is_in eqb x (bytes "CLDS")) _ h in
    let c = both (is_in eqb y (bytes "123456789")) _ b.1 in
    let p = in_plain x (bytes "CLDS") b.0 refl in
    let q = in_plain y (bytes "123456789") c.0 refl in
    let r = in_plain z (bytes "ABCDEFGHIJKLMNOPQRSTUVWXYZ ") c.1 refl in
    record { long = refl; bytes = plain_byte x (y ∷ z ∷ []) p.0 p.1 (plain_byte y (z ∷ []) q.0 q.1 (plain_byte z [] r.0 r.1 refl)) }
code_form (x ∷ y ∷ z ∷ w ∷ c) h =
    let b = both (eqb (length (x ∷ y ∷ z ∷ w ∷ c)) 3) _ h in
    let e : length (x ∷ y ∷ z ∷ w ∷ c) ≡ 3 = eqb-true (length (x ∷ y ∷ z ∷ w ∷ c)) 3 b.0 in
    absurd (omega arith)

pub taken_form : (s : ℕ) (c : List ℕ) → IsTaken s c → Put 3 c
taken_form s c h = code_form c (taken_code s c h)

pub taken_below : (s k : ℕ) → IsTaken s (unpacked k) → k < 16777216
taken_below s k h = let p : k / 65536 ≤ 126 = plain_at (unpacked k) 0 (taken_form s (unpacked k) h).bytes in omega (arith, p)

pub taken_codes : (s : ℕ) (cs : List (List ℕ)) → All (IsTaken s) cs → All IsCode cs
taken_codes s [] h = tt
taken_codes s (c ∷ cs) h = (taken_code s c h.0, taken_codes s cs h.1)

pub record ListForm (letter y : ℕ) (cs : List (List ℕ)) : Type 0 where
  pub few : length cs ≤ 64
  pub codes : All (IsTaken y) cs
  pub different : fresh same [] cs ≡ true
  pub allowed : 1 ≤ length cs → allows letter y ≡ true

codes_form : (y a : ℕ) (l : List ℕ) (cs : List (List ℕ)) → Codes y a l cs → All (IsTaken y) cs
codes_form y a l [] h = tt
codes_form y a l (c ∷ cs) h = (h.2, codes_form y (a + 4) l cs h.3)

-- the lists of a header
abbrev pub AreLists : ℕ → List (List (List ℕ)) → Type 0
AreLists letter lists = (s : ℕ) → s < 7 → ListForm letter s (get_or lists s [])

pub codes_formed : (y a : ℕ) (l : List ℕ) (cs : List (List ℕ)) → Codes y a l cs → All IsCode cs
codes_formed y a l cs h = taken_codes y cs (codes_form y a l cs h)

next_form : (y : ℕ) (ls cs : List (List ℕ)) → NextLines ls y cs → All (IsTaken y) cs
next_form y [] cs h = rw h tt
next_form y (l ∷ ls) cs h =
    subst (λ (x : List (List ℕ)). All (IsTaken y) x) (take-append-drop 13 cs)
    (on_all (IsTaken y) (take 13 cs) (drop 13 cs) (codes_form y 7 l (take 13 cs) h.1.codes_at) (next_form y ls (drop 13 cs) h.2))

list_form : (letter y : ℕ) (ls cs : List (List ℕ)) → CodeList ls letter y cs → ListForm letter y cs
list_form letter y ls cs h =
    record {
      few = h.few_codes;
      codes =
          subst (λ (x : List (List ℕ)). All (IsTaken y) x) (take-append-drop 13 cs)
          (on_all (IsTaken y) (take 13 cs) (drop 13 cs) (codes_form y 7 h.line (take 13 cs) h.first_line.codes_at) (next_form y h.next (drop 13 cs) h.next_lines));
      different = h.different;
      allowed = λ p. h.allowed;
    }

module _ (letter : ℕ) where
  lists_form : (y : ℕ) (gs : List (List (List ℕ))) (es : List Entry) → Each (Entered letter) gs es → All (ListForm letter y) (lists_for y es)
  lists_form y [] [] h = tt
  lists_form y [] (e ∷ es) h = absurd h
  lists_form y (g ∷ gs) [] h = absurd h
  lists_form y (g ∷ gs) (a_list z codes ∷ es) h = at (eqb y z) refl (lists_form y gs es h.1)
    where
      at : (b : Bool) → eqb y z ≡ b → All (ListForm letter y) (lists_for y es) → All (ListForm letter y) (cond b (codes ∷ lists_for y es) (lists_for y es))
      at true e a = let p : y ≡ z = eqb-true y z e in (rw p (list_form letter z g codes h.0), a)
      at false e a = a
  lists_form y (g ∷ gs) (a_first t z ∷ es) h = lists_form y gs es h.1
  lists_form y (g ∷ gs) (an_interval n ∷ es) h = lists_form y gs es h.1
  lists_form y (g ∷ gs) (a_carried c ∷ es) h = lists_form y gs es h.1

  carried_form : (gs : List (List (List ℕ))) (es : List Entry) → Each (Entered letter) gs es → All Line (joined gs) → All Line (carrieds es)
  carried_form [] [] h a = tt
  carried_form [] (e ∷ es) h a = absurd h
  carried_form (g ∷ gs) [] h a = absurd h
  carried_form (g ∷ gs) (a_list z codes ∷ es) h a = carried_form gs es h.1 (all_on Line g (joined gs) a).1
  carried_form (g ∷ gs) (a_first t z ∷ es) h a = carried_form gs es h.1 (all_on Line g (joined gs) a).1
  carried_form (g ∷ gs) (an_interval n ∷ es) h a = carried_form gs es h.1 (all_on Line g (joined gs) a).1
  carried_form (g ∷ gs) (a_carried c ∷ es) h a =
      let p = all_on Line g (joined gs) a in
      let q : All Line (h.0.0 ∷ []) = subst (λ (x : List (List ℕ)). All Line x) h.0.1 p.0 in
      (cut_line h.0.0 c h.0.2.kept q.0, carried_form gs es h.1 p.1)

declared_form : (letter y : ℕ) (cs : List (List ℕ)) → All (ListForm letter y) (declared cs) → ListForm letter y cs
declared_form letter y [] a = record { few = omega arith; codes = tt; different = refl; allowed = λ p. absurd (omega arith) }
declared_form letter y (c ∷ cs) a = a.0

-- Carried lines
carried_line : (l c : List ℕ) → CarriedLine l c → CarriedLine c c
carried_line l c h =
    let e : c ≡ cut l = h.kept in
    rw e (record { kept = sym (cut_cut l); label = rw (label_cut l) h.label; rest = past_cut l 80 h.rest })

-- a carried line that stands as it is held
abbrev pub Kept : List ℕ → Type 0
Kept c = CarriedLine c c

found_first : (letter : ℕ) (f : First) (rest : List First) (groups : List (List (List ℕ))) (entries : List Entry)
    → Each (Entered letter) groups entries → firsts entries ≡ f ∷ rest → (l : List ℕ) × FirstLine l f.time f.time_system
found_first letter f rest [] [] e h = absurd (let z : ◌≡◌ {A = ℕ} 0 1 = cc in omega arith)
found_first letter f rest [] (y ∷ ys) e h = absurd e
found_first letter f rest (g ∷ gs) [] e h = absurd e
found_first letter f rest (g ∷ gs) (a_list r cs ∷ es) e h = found_first letter f rest gs es e.1 h
found_first letter f rest (g ∷ gs) (a_first t y ∷ es) e h =
    let p : record { time = t; time_system = y } ≡ f = cc in
    (e.0.0, subst (λ (x : First). FirstLine e.0.0 x.time x.time_system) p e.0.2)
found_first letter f rest (g ∷ gs) (an_interval n ∷ es) e h = found_first letter f rest gs es e.1 h
found_first letter f rest (g ∷ gs) (a_carried c ∷ es) e h = found_first letter f rest gs es e.1 h

found_interval : (letter n : ℕ) (rest : List ℕ) (groups : List (List (List ℕ))) (entries : List Entry)
    → Each (Entered letter) groups entries → intervals entries ≡ n ∷ rest → (l : List ℕ) × IntervalLine l n
found_interval letter n rest [] [] e h = absurd (let z : ◌≡◌ {A = ℕ} 0 1 = cc in omega arith)
found_interval letter n rest [] (y ∷ ys) e h = absurd e
found_interval letter n rest (g ∷ gs) [] e h = absurd e
found_interval letter n rest (g ∷ gs) (a_list r cs ∷ es) e h = found_interval letter n rest gs es e.1 h
found_interval letter n rest (g ∷ gs) (a_first t y ∷ es) e h = found_interval letter n rest gs es e.1 h
found_interval letter n rest (g ∷ gs) (an_interval m ∷ es) e h =
    let p : m ≡ n = cc in
    (e.0.0, subst (λ (x : ℕ). IntervalLine e.0.0 x) p e.0.2)
found_interval letter n rest (g ∷ gs) (a_carried c ∷ es) e h = found_interval letter n rest gs es e.1 h

found_carried : (letter : ℕ) (groups : List (List (List ℕ))) (entries : List Entry) → Each (Entered letter) groups entries → All Kept (carrieds entries)
found_carried letter [] [] e = tt
found_carried letter [] (y ∷ ys) e = absurd e
found_carried letter (g ∷ gs) [] e = absurd e
found_carried letter (g ∷ gs) (a_list r cs ∷ es) e = found_carried letter gs es e.1
found_carried letter (g ∷ gs) (a_first t y ∷ es) e = found_carried letter gs es e.1
found_carried letter (g ∷ gs) (an_interval n ∷ es) e = found_carried letter gs es e.1
found_carried letter (g ∷ gs) (a_carried c ∷ es) e = (carried_line e.0.0 c e.0.2, found_carried letter gs es e.1)

-- the header
abbrev pub IntervalForm : Option ℕ → Type 0
IntervalForm None = Unit
IntervalForm (Some n) = (0 < n) × (decimal_fits 10 3 (pos n) ≡ true)

pub record HeadForm (h : Head) : Type 0 where
  pub letter : is_file_letter h.letter ≡ true
  pub systems : length h.lists ≡ 7
  pub lists : AreLists h.letter h.lists
  pub some_list : 1 ≤ length (joined h.lists)
  pub first : Timed (Some h.first)
  pub time_system : h.time_system < 6
  pub interval : IntervalForm h.interval
  pub carried : All Line h.carried
  pub kept : All Kept h.carried

module _ (ls : List (List ℕ)) (h : Head) (v : HeaderLines ls h) where
  pub head_lists : AreLists h.letter h.lists
  head_lists y m =
      let e : lists_for y v.entries ≡ declared (get_or h.lists y []) = below_seven (λ s. lists_for s v.entries ≡ declared (get_or h.lists s [])) v.lists y m in
      declared_form h.letter y (get_or h.lists y []) (subst (λ (x : List (List (List ℕ))). All (ListForm h.letter y) x) e (lists_form h.letter y v.groups v.entries v.entered))

  pub head_carried : All Line ls → All Line h.carried
  head_carried a =
      let p : All Line (v.version ∷ (joined v.groups ++ (v.end ∷ []))) = subst (λ (x : List (List ℕ)). All Line x) v.lines a in
      subst (λ (x : List (List ℕ)). All Line x) v.carried (carried_form h.letter v.groups v.entries v.entered (all_on Line (joined v.groups) (v.end ∷ []) p.1).0)

  head_form : All Line ls → HeadForm h
  head_form a =
      let f = found_first h.letter (record { time = h.first; time_system = h.time_system }) [] v.groups v.entries v.entered v.first in
      record {
        letter = v.version_line.letter_is;
        systems = v.systems;
        lists = head_lists;
        some_list = v.some_list;
        first = (f.1.time_at.date, f.1.time_at.fit, f.1.time_at.time);
        time_system = f.1.time_system_is;
        interval = at h.interval v.interval;
        carried = head_carried a;
        kept = subst (λ (x : List (List ℕ)). All Kept x) v.carried (found_carried h.letter v.groups v.entries v.entered);
      }
    where
      at : (o : Option ℕ) → intervals v.entries ≡ as_list o → IntervalForm o
      at None e = tt
      at (Some n) e =
          let f = found_interval h.letter n [] v.groups v.entries v.entered e in
          (f.1.above, rw (length_cols 1 10 f.0) at (decimal_holds 3 (cols 1 10 f.0) (pos n) (omega (arith, length_cols 1 10 f.0)) f.1.interval))

-- the file
pub record FileForm (f : File) : Type 0 where
  pub head : HeadForm f.head
  pub epochs : All (EpochForm f.head.lists) f.epochs
  pub order : ascend None (times f.epochs) ≡ true

pub file_form : (t : List ℕ) (f : File) → Spells t f → FileForm f
file_form t f s =
    let a = all_on Line s.header_lines s.data_lines s.lines in
    record {
      head = head_form s.header_lines f.head s.header a.0;
      epochs = epochs_form f.head.lists s.epochs.groups f.epochs s.epochs.epochs (subst (λ (x : List (List ℕ)). All Line x) s.epochs.lines a.1);
      order = s.epochs.order;
    }
