-- The judge as the code keeps it: counts of codes instead of lists, a table of packed codes, and a table of stamps that tells which satellites
-- stand in this epoch. That it gives the verdict of the rule is proved in proofs/Simulated.
use Rattle.std.specs.Prelude.{ℕ, zero, suc, ◌+◌, ◌-◌, ◌*◌, Bool, true, false, cond, not, ◌&&◌, ◌||◌, List, [], ◌∷◌, map, eqb, leb, ltb, length, get_or, set, take, drop, replicate}
use Rattle.std.specs.Prelude.{None, Some}
use Rattle.std.proofs.lemmas.List.Edits.{sets}
use Rattle.lists.specs.Blank.{is_blank}
use Rattle.lists.specs.Maybe.{given}
use Rattle.line.specs.Text.{col, cols, past, cut, Raw}
use Rattle.label.specs.declared.Label.{Label}
use Rattle.label.specs.declared.Label.TheVariants.{Version, ObsTypes, FirstObs, Interval, EndOfHeader, ScaleFactor, MarkerName, Other, Unknown}
use Rattle.label.specs.Labels.{is, label_of, barred_from_events}
use Rattle.rinex.specs.Data.{later}
use Rattle.rinex.specs.Tables.{packed}
use Rattle.rinex.specs.Fit.{unpacked}
use Rattle.rinex.specs.Tests.{system_at, version_fits, codes_at, in_line, list_count, list_fits, next_fits, first_fits, interval_fits, flag_at, count_at, epoch_time, is_event, epoch_fits, satellite_fits, slots_fit}
use Rattle.rinex.specs.Refusals.{Verdict, accepted, refused, refusal1, refusal2, name_at}
use Rattle.lists.specs.Lists.{sum}
use Rattle.rinex.specs.Tables as tables
use Rattle.rinex.specs.Lent.{counts_of}
use Rattle.rinex.specs.declared.Counts.{Counts}
use Rattle.state.specs.declared.Room.{Room}
use Rattle.state.specs.declared.State.{State}
use Rattle.state.specs.declared.Stage.{Stage}
use Rattle.state.specs.declared.Stage.TheVariants as stages

-- the codes of a system that stand in the table
abbrev pub codes_in : State → List ℕ → ℕ → List (List ℕ)
codes_in c table y = map unpacked (take (get_or c.lengths y 0) (drop (64 * y) table))

-- how many codes the row's system has
abbrev pub slots_of_row : State → List ℕ → ℕ
slots_of_row c l = get_or c.lengths (system_at l) 0

-- the carried bytes after a line, with its LF
abbrev pub carried_with : State → List ℕ → ℕ
carried_with c l = c.used.carried + (length (cut l) + 1)

-- the stages of the header
abbrev pub in_heading : Stage → Bool
in_heading stages.Version = true
in_heading stages.Record = true
in_heading stages.Continuation = true
in_heading stages.Epoch = false
in_heading stages.Row = false
in_heading stages.Event = false

-- FAULTS, by the stage; 0 where there is none. A version line
unfoldable pub version_fault : List ℕ → ℕ
version_fault l = cond (version_fits l) 0 3

-- 4, of a line with a label
unfoldable pub label_fault : Label → List ℕ → Bool
label_fault k l = is Unknown k || (not (is_blank (past 80 l)) || is ScaleFactor k)

-- 5, 6 and 16 of a header record, by its label
unfoldable pub comes_again : State → List ℕ → Label → Bool
comes_again c l Version = true
comes_again c l ObsTypes = leb 1 (slots_of_row c l)
comes_again c l FirstObs = c.first
comes_again c l Interval = c.interval
comes_again c l EndOfHeader = not (leb 1 (sum c.lengths) && c.first)
comes_again c l ScaleFactor = false
comes_again c l MarkerName = false
comes_again c l Other = false
comes_again c l Unknown = false

unfoldable pub is_unfit : State → List ℕ → Label → Bool
is_unfit c l Version = false
is_unfit c l ObsTypes = not (list_fits c.letter l)
is_unfit c l FirstObs = not (first_fits l)
is_unfit c l Interval = not (interval_fits l)
is_unfit c l EndOfHeader = not (is_blank (cols 1 60 l))
is_unfit c l ScaleFactor = false
is_unfit c l MarkerName = false
is_unfit c l Other = false
is_unfit c l Unknown = false

unfoldable pub lacks_room : Room → State → List ℕ → Label → Bool
lacks_room r c l Version = false
lacks_room r c l ObsTypes = ltb r.codes (64 * system_at l + in_line (list_count l))
lacks_room r c l FirstObs = false
lacks_room r c l Interval = false
lacks_room r c l EndOfHeader = false
lacks_room r c l ScaleFactor = false
lacks_room r c l MarkerName = ltb r.carried (carried_with c l)
lacks_room r c l Other = ltb r.carried (carried_with c l)
lacks_room r c l Unknown = false

-- a header record
unfoldable pub record_fault : Room → State → Label → List ℕ → ℕ
record_fault r c k l =
    cond (label_fault k l) 4 (cond (comes_again c l k) 5 (cond (is_unfit c l k) 6 (cond (lacks_room r c l k) 16 0)))

-- a continuation of a list
unfoldable pub next_fault : Room → State → List ℕ → Label → List ℕ → ℕ
next_fault r c table k l =
    cond (label_fault k l) 4
    (cond (not (is ObsTypes k) || not (is_blank (cols 1 6 l))) 5
    (cond (not (next_fits c.system (codes_in c table c.system) c.left l)) 6
    (cond (ltb r.codes (64 * c.system + get_or c.lengths c.system 0 + in_line c.left)) 16 0)))

-- not later than the last epoch of flag 0 or 1
unfoldable pub is_late : State → ℕ → Bool
is_late c t = not (later c.last t)

-- an epoch record
unfoldable pub epoch_fault : Room → State → List ℕ → ℕ
epoch_fault r c l =
    cond (not (epoch_fits l)) 7
    (cond (leb 6 (flag_at l)) 8
    (cond (leb (flag_at l) 1 && is_late c (given 0 (epoch_time l))) 9
    (cond (eqb (flag_at l) 3 && eqb (count_at l) 0) 15
    (cond (ltb r.epochs (c.used.epochs + 1)) 16 0))))

-- a row; a satellite stands in this epoch where its stamp is the number of epochs
unfoldable pub row_fault : Room → State → List ℕ → List ℕ → ℕ
row_fault r c seen l =
    cond (not (satellite_fits l)) 10
    (cond (eqb (slots_of_row c l) 0) 11
    (cond (eqb (get_or seen (name_at l) 0) c.used.epochs) 12
    (cond (not (slots_fit (slots_of_row c l) 4 l)) 13
    (cond (ltb r.rows (c.used.rows + 1) || ltb r.slots (c.used.slots + slots_of_row c l)) 16 0))))

-- a line of an event
unfoldable pub line_fault : Room → State → Label → List ℕ → ℕ
line_fault r c k l =
    cond (label_fault k l || barred_from_events k) 4
    (cond (eqb c.flag 3 && (eqb c.left 1 && not (c.marked || is MarkerName k))) 15
    (cond (ltb r.carried (carried_with c l)) 16 0))

-- the fault of a line of plain bytes that is not too long
unfoldable pub fault_at : Stage → Room → State → List ℕ → List ℕ → List ℕ → ℕ
fault_at stages.Version r c table seen l = version_fault l
fault_at stages.Record r c table seen l = record_fault r c (label_of l) l
fault_at stages.Continuation r c table seen l = next_fault r c table (label_of l) l
fault_at stages.Epoch r c table seen l = epoch_fault r c l
fault_at stages.Row r c table seen l = row_fault r c seen l
fault_at stages.Event r c table seen l = line_fault r c (label_of l) l

-- THE NEXT STATE, by the stage, after a line without a fault
abbrev pub counted : ℕ → ℕ → ℕ → ℕ → Counts
counted e r s b = record { epochs = e; rows = r; slots = s; carried = b }

-- what is due after a list's line, a row or a line of an event, with so many left
abbrev pub list_stage : ℕ → Stage
list_stage zero = stages.Record
list_stage (suc n) = stages.Continuation

abbrev pub row_stage : ℕ → Stage
row_stage zero = stages.Epoch
row_stage (suc n) = stages.Row

abbrev pub line_stage : ℕ → Stage
line_stage zero = stages.Epoch
line_stage (suc n) = stages.Event

-- the state with these of its fields anew
abbrev pub due : State → Stage → (system left flag : ℕ) → Bool → Counts → State
due c stage system left flag marked used =
    record {
      stage = stage;
      system = system;
      left = left;
      flag = flag;
      marked = marked;
      letter = c.letter;
      lengths = c.lengths;
      first = c.first;
      interval = c.interval;
      last = c.last;
      used = used;
    }

-- the same with what the header has settled anew
abbrev pub headed : State → Stage → (system left : ℕ) → ℕ → List ℕ → Bool → Bool → State
headed c stage system left letter lengths first interval =
    record {
      stage = stage;
      system = system;
      left = left;
      flag = c.flag;
      marked = c.marked;
      letter = letter;
      lengths = lengths;
      first = first;
      interval = interval;
      last = c.last;
      used = c.used;
    }

-- after n more codes of a system, with some left
abbrev pub listed : State → (system n left : ℕ) → State
listed c y n left = headed c (list_stage left) y left c.letter (set c.lengths y (get_or c.lengths y 0 + n)) c.first c.interval

-- after a line is carried
abbrev pub kept : State → Stage → (left : ℕ) → Bool → List ℕ → State
kept c stage left marked l = due c stage c.system left c.flag marked (counted c.used.epochs c.used.rows c.used.slots (carried_with c l))

unfoldable pub after_record : State → List ℕ → Label → State
after_record c l Version = c
after_record c l ObsTypes = listed c (system_at l) (in_line (list_count l)) (list_count l - in_line (list_count l))
after_record c l FirstObs = headed c stages.Record c.system c.left c.letter c.lengths true c.interval
after_record c l Interval = headed c stages.Record c.system c.left c.letter c.lengths c.first true
after_record c l EndOfHeader = headed c stages.Epoch c.system c.left c.letter c.lengths c.first c.interval
after_record c l ScaleFactor = c
after_record c l MarkerName = kept c stages.Record c.left c.marked l
after_record c l Other = kept c stages.Record c.left c.marked l
after_record c l Unknown = c

unfoldable pub after_event : State → List ℕ → State
after_event c l =
    due c (line_stage (count_at l)) c.system (count_at l) (flag_at l) false
    (counted (c.used.epochs + 1) c.used.rows c.used.slots c.used.carried)

unfoldable pub after_observed : State → List ℕ → State
after_observed c l =
    record {
      stage = row_stage (count_at l);
      system = c.system;
      left = count_at l;
      flag = flag_at l;
      marked = c.marked;
      letter = c.letter;
      lengths = c.lengths;
      first = c.first;
      interval = c.interval;
      last = Some (given 0 (epoch_time l));
      used = counted (c.used.epochs + 1) c.used.rows c.used.slots c.used.carried;
    }

unfoldable pub after_row : State → List ℕ → State
after_row c l =
    due c (row_stage (c.left - 1)) c.system (c.left - 1) c.flag c.marked
    (counted c.used.epochs (c.used.rows + 1) (c.used.slots + slots_of_row c l) c.used.carried)

unfoldable pub after_line : State → List ℕ → State
after_line c l = kept c (line_stage (c.left - 1)) (c.left - 1) (c.marked || is MarkerName (label_of l)) l

unfoldable pub next_at : Stage → State → List ℕ → State
next_at stages.Version c l = headed c stages.Record c.system c.left (col 41 l) c.lengths false false
next_at stages.Record c l = after_record c l (label_of l)
next_at stages.Continuation c l = listed c c.system (in_line c.left) (c.left - in_line c.left)
next_at stages.Epoch c l = cond (is_event (flag_at l)) (after_event c l) (after_observed c l)
next_at stages.Row c l = after_row c l
next_at stages.Event c l = after_line c l

-- the table of codes after a line, and the stamps
unfoldable pub table_at : Stage → State → List ℕ → List ℕ → List ℕ
table_at stages.Version c l table = table
table_at stages.Record c l table = cond (is ObsTypes (label_of l)) (sets table (64 * system_at l) (map packed (codes_at (in_line (list_count l)) 7 l))) table
table_at stages.Continuation c l table = sets table (64 * c.system + get_or c.lengths c.system 0) (map packed (codes_at (in_line c.left) 7 l))
table_at stages.Epoch c l table = table
table_at stages.Row c l table = table
table_at stages.Event c l table = table

unfoldable pub seen_at : Stage → State → List ℕ → List ℕ → List ℕ
seen_at stages.Version c l seen = seen
seen_at stages.Record c l seen = seen
seen_at stages.Continuation c l seen = seen
seen_at stages.Epoch c l seen = seen
seen_at stages.Row c l seen = set seen (name_at l) c.used.epochs
seen_at stages.Event c l seen = seen

-- THE JUDGE
unfoldable pub raw_fault : Room → State → List ℕ → List ℕ → Raw → ℕ
raw_fault r c table seen w = cond (refusal1 w) 1 (cond (refusal2 w.bytes) 2 (fault_at c.stage r c table seen w.bytes))

-- where the text ends before line k
unfoldable pub ending_at : Stage → State → ℕ → Verdict
ending_at stages.Version c k = refused 3 k
ending_at stages.Record c k = refused 14 k
ending_at stages.Continuation c k = refused 14 k
ending_at stages.Epoch c k = accepted (counts_of c.used)
ending_at stages.Row c k = refused 14 k
ending_at stages.Event c k = refused 14 k

unfoldable pub judged : Room → State → List ℕ → List ℕ → ℕ → List Raw → Verdict
judged r c table seen k [] = ending_at c.stage c k
judged r c table seen k (w ∷ ws) =
    let l = w.bytes in
    let rest = judged r (next_at c.stage c l) (table_at c.stage c l table) (seen_at c.stage c l seen) (k + 1) ws in
    let n = raw_fault r c table seen w in
    cond (eqb n 0) rest (refused n k)

unfoldable pub begin : State
begin =
    record {
      stage = stages.Version;
      system = 0;
      left = 0;
      flag = 0;
      marked = false;
      letter = 0;
      lengths = replicate 7 0;
      first = false;
      interval = false;
      last = None;
      used = counted 0 0 0 0;
    }

-- the two tables before the first line
abbrev pub no_codes : List ℕ
no_codes = replicate 448 0

abbrev pub none_seen : List ℕ
none_seen = replicate 700 0

-- the room as the rule has it
abbrev pub room_of : Room → tables.Room
room_of r = record { codes = r.codes; epochs = r.epochs; rows = r.rows; slots = r.slots; carried = r.carried }
