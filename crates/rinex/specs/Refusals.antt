-- THE REFUSALS: the numbered tests on a state and a line, and the judge.
use Rattle.std.specs.Prelude.{ℕ, zero, suc, ◌+◌, ◌-◌, ◌*◌, Bool, true, false, cond, not, ◌&&◌, ◌||◌, List, [], ◌∷◌, ◌++◌, eqb, leb, ltb, length, get_or, set, replicate}
use Rattle.std.specs.Prelude.{Option, None}
use Rattle.lists.specs.Lists.{is_in, joined}
use Rattle.lists.specs.Blank.{is_blank}
use Rattle.lists.specs.Maybe.{given}
use Rattle.line.specs.Text.{longest, widest, col, cols, past, are_plain, cut, split, Raw}
use Rattle.label.specs.declared.Label.{Label}
use Rattle.label.specs.declared.Label.TheVariants.{Version, ObsTypes, FirstObs, Interval, EndOfHeader, ScaleFactor, MarkerName, Other, Unknown}
use Rattle.label.specs.Labels.{is, label_of, barred_from_events}
use Rattle.rinex.specs.Data.{later}
use Rattle.rinex.specs.Tables.{Counts, Room}
use Rattle.rinex.specs.Tests.{system_at, version_fits, codes_at, in_line, list_count, list_fits, next_fits, first_fits, interval_fits, flag_at, count_at, epoch_time, is_event, epoch_fits, number_at, satellite_fits, slots_fit}

-- what a line is judged as
pub data Place : Type 0 where
  version_due : Place
  in_header : Place
  -- a continuation of this system's list, with the codes that are left
  next_due : (system left : ℕ) → Place
  epoch_due : Place
  -- a row, with the rows that are left
  row_due : (left : ℕ) → Place
  -- a line of an event, with its flag, the lines that are left, and whether one was MARKER NAME
  line_due : (flag left : ℕ) (marked : Bool) → Place

-- which of them it is
abbrev pub stage : Place → ℕ
stage version_due = 0
stage in_header = 1
stage (next_due y n) = 2
stage epoch_due = 3
stage (row_due n) = 4
stage (line_due f n m) = 5

-- line 1; a later header line; where an epoch record must stand; a row; a line of an event
abbrev pub version_here : Place → Bool
version_here p = eqb (stage p) 0

abbrev pub header_here : Place → Bool
header_here p = eqb (stage p) 1 || eqb (stage p) 2

abbrev pub epoch_here : Place → Bool
epoch_here p = eqb (stage p) 3

abbrev pub row_here : Place → Bool
row_here p = eqb (stage p) 4

abbrev pub line_here : Place → Bool
line_here p = eqb (stage p) 5

-- what the header's lines have settled so far
pub record SoFar : Type 0 where
  pub letter : ℕ
  pub lists : List (List (List ℕ))
  pub has_first : Bool
  pub has_interval : Bool

-- what the lines before have settled: the header, the time of the last epoch of flag 0 or 1, the satellites of this epoch, the entries used
pub record State : Type 0 where
  pub place : Place
  pub head : SoFar
  pub last : Option ℕ
  pub seen : List ℕ
  pub used : Counts

unfoldable pub start : State
start =
    record {
      place = version_due;
      head = record { letter = 0; lists = replicate 7 []; has_first = false; has_interval = false };
      last = None;
      seen = [];
      used = record { epochs = 0; rows = 0; slots = 0; carried = 0 };
    }

-- the list of a system
abbrev pub list_of : State → ℕ → List (List ℕ)
list_of s system = get_or s.head.lists system []

-- the list of a row's system
abbrev pub row_list : State → List ℕ → List (List ℕ)
row_list s l = list_of s (system_at l)

-- the name of a row's satellite
abbrev pub name_at : List ℕ → ℕ
name_at l = 100 * system_at l + number_at l

-- 1: "it has another byte, or is the last and has no LF"
unfoldable pub refusal1 : Raw → Bool
refusal1 r = not (are_plain r.bytes) || not r.ended

-- 2: "it is longer than 1,027 columns"
unfoldable pub refusal2 : List ℕ → Bool
refusal2 l = ltb widest (length l)

-- 3: "it is line 1 and not a fit RINEX VERSION / TYPE record, columns past 80 included"
unfoldable pub refusal3 : Place → List ℕ → Bool
refusal3 p l = version_here p && not (version_fits l)

-- 4: "header or event line: columns 61-80 hold no known label, a column past 80 isn't blank, or the record is SYS / SCALE FACTOR or one barred from events"
unfoldable pub refusal4 : Place → List ℕ → Bool
refusal4 p l =
    (header_here p || line_here p)
    && (is Unknown (label_of l) || (not (is_blank (past 80 l)) || (is ScaleFactor (label_of l) || line_here p && barred_from_events (label_of l))))

-- a list and a TIME OF FIRST OBS have come
abbrev pub header_full : State → Bool
header_full s = leb 1 (length (joined s.head.lists)) && s.head.has_first

-- by the label: it comes again, or END OF HEADER comes too early
unfoldable pub again : State → List ℕ → Label → Bool
again s l Version = true
again s l ObsTypes = leb 1 (length (list_of s (system_at l)))
again s l FirstObs = s.head.has_first
again s l Interval = s.head.has_interval
again s l EndOfHeader = not (header_full s)
again s l ScaleFactor = false
again s l MarkerName = false
again s l Other = false
again s l Unknown = false

-- 5: "the version line, TIME OF FIRST OBS, INTERVAL or a system's list comes again in the header, END OF HEADER comes too early,
-- or where a continuation is due the label is another or columns 1-6 aren't blank"
unfoldable pub refusal5 : State → Place → List ℕ → Bool
refusal5 s version_due l = false
refusal5 s in_header l = again s l (label_of l)
refusal5 s (next_due y n) l = not (is ObsTypes (label_of l)) || not (is_blank (cols 1 6 l))
refusal5 s epoch_due l = false
refusal5 s (row_due n) l = false
refusal5 s (line_due f n m) l = false

-- by the label: a field is unfit
unfoldable pub unfit : State → List ℕ → Label → Bool
unfit s l Version = false
unfit s l ObsTypes = not (list_fits s.head.letter l)
unfit s l FirstObs = not (first_fits l)
unfit s l Interval = not (interval_fits l)
unfit s l EndOfHeader = not (is_blank (cols 1 60 l))
unfit s l ScaleFactor = false
unfit s l MarkerName = false
unfit s l Other = false
unfit s l Unknown = false

-- 6: "a header record that is read has an unfit field"
unfoldable pub refusal6 : State → Place → List ℕ → Bool
refusal6 s version_due l = false
refusal6 s in_header l = unfit s l (label_of l)
refusal6 s (next_due y n) l = not (next_fits y (list_of s y) n l)
refusal6 s epoch_due l = false
refusal6 s (row_due n) l = false
refusal6 s (line_due f n m) l = false

-- 7: "it stands where an epoch record must and isn't a fit one"
unfoldable pub refusal7 : Place → List ℕ → Bool
refusal7 p l = epoch_here p && not (epoch_fits l)

-- 8: "event flag 6, 7, 8 or 9 (rule 7 judges these as flag 0)"
unfoldable pub refusal8 : Place → List ℕ → Bool
refusal8 p l = epoch_here p && leb 6 (flag_at l)

-- 9: "an epoch of flag 0 or 1 is not later than the one of flag 0 or 1 before it"
unfoldable pub refusal9 : State → Place → List ℕ → Bool
refusal9 s p l = epoch_here p && (leb (flag_at l) 1 && not (later s.last (given 0 (epoch_time l))))

-- 10: "a row's columns 1-3 aren't a letter of the seven and two digits 01 to 99"
unfoldable pub refusal10 : Place → List ℕ → Bool
refusal10 p l = row_here p && not (satellite_fits l)

-- 11: "the row's system has no list in the header"
unfoldable pub refusal11 : State → Place → List ℕ → Bool
refusal11 s p l = row_here p && eqb (length (row_list s l)) 0

-- 12: "the satellite already stands in this epoch"
unfoldable pub refusal12 : State → Place → List ℕ → Bool
refusal12 s p l = row_here p && is_in eqb (name_at l) s.seen

-- 13: "a slot is unfit, or a column past the last declared slot isn't blank"
unfoldable pub refusal13 : State → Place → List ℕ → Bool
refusal13 s p l = row_here p && not (slots_fit (length (row_list s l)) 4 l)

-- 15: "it is the last line of a flag 3 event (the epoch line itself if 0 lines follow) and none was MARKER NAME"
unfoldable pub refusal15 : Place → List ℕ → Bool
refusal15 version_due l = false
refusal15 in_header l = false
refusal15 (next_due y n) l = false
refusal15 epoch_due l = eqb (flag_at l) 3 && eqb (count_at l) 0
refusal15 (row_due n) l = false
refusal15 (line_due f n m) l = eqb f 3 && (eqb n 1 && not (m || is MarkerName (label_of l)))

-- the carried bytes after the line c, with its LF
abbrev pub carried_after : State → List ℕ → ℕ
carried_after s c = s.used.carried + (length c + 1)

-- by the label: what a header line needs is not left
unfoldable pub lacks : Room → State → List ℕ → Label → Bool
lacks r s l Version = false
lacks r s l ObsTypes = ltb r.codes (64 * system_at l + in_line (list_count l))
lacks r s l FirstObs = false
lacks r s l Interval = false
lacks r s l EndOfHeader = false
lacks r s l ScaleFactor = false
lacks r s l MarkerName = ltb r.carried (carried_after s (cut l))
lacks r s l Other = ltb r.carried (carried_after s (cut l))
lacks r s l Unknown = false

-- 16: "its entries need more room than is left"
unfoldable pub refusal16 : Room → State → Place → List ℕ → Bool
refusal16 r s version_due l = false
refusal16 r s in_header l = lacks r s l (label_of l)
refusal16 r s (next_due y n) l = ltb r.codes (64 * y + length (list_of s y) + in_line n)
refusal16 r s epoch_due l = ltb r.epochs (s.used.epochs + 1)
refusal16 r s (row_due n) l = ltb r.rows (s.used.rows + 1) || ltb r.slots (s.used.slots + length (row_list s l))
refusal16 r s (line_due f n m) l = ltb r.carried (carried_after s (cut l))

-- the lowest number that the line earns, and 0 where it has no fault
unfoldable pub fault : Room → State → Raw → ℕ
fault r s w =
    let l = w.bytes in
    let p = s.place in
    cond (refusal1 w) 1
    (cond (refusal2 l) 2
    (cond (refusal3 p l) 3
    (cond (refusal4 p l) 4
    (cond (refusal5 s p l) 5
    (cond (refusal6 s p l) 6
    (cond (refusal7 p l) 7
    (cond (refusal8 p l) 8
    (cond (refusal9 s p l) 9
    (cond (refusal10 p l) 10
    (cond (refusal11 s p l) 11
    (cond (refusal12 s p l) 12
    (cond (refusal13 s p l) 13
    (cond (refusal15 p l) 15
    (cond (refusal16 r s p l) 16
    0))))))))))))))

-- where the lines of a list, of rows or of an event go on
abbrev pub after_list : ℕ → ℕ → Place
after_list system zero = in_header
after_list system (suc n) = next_due system (suc n)

abbrev pub after_row : ℕ → Place
after_row zero = epoch_due
after_row (suc n) = row_due (suc n)

abbrev pub after_line : ℕ → Bool → ℕ → Place
after_line flag marked zero = epoch_due
after_line flag marked (suc n) = line_due flag (suc n) marked

-- the header with more codes in a system's list
unfoldable pub listed : SoFar → ℕ → List (List ℕ) → SoFar
listed h system codes =
    record {
      letter = h.letter;
      lists = set h.lists system (get_or h.lists system [] ++ codes);
      has_first = h.has_first;
      has_interval = h.has_interval;
    }

-- the state after a header line that is read
unfoldable pub headed : State → Place → SoFar → State
headed s p h = record { place = p; head = h; last = s.last; seen = s.seen; used = s.used }

-- the state after a line is carried as c
unfoldable pub kept : State → List ℕ → Place → State
kept s c p =
    record {
      place = p;
      head = s.head;
      last = s.last;
      seen = s.seen;
      used = record { epochs = s.used.epochs; rows = s.used.rows; slots = s.used.slots; carried = carried_after s c };
    }

-- the state after an epoch record, with the time of the last epoch of flag 0 or 1
unfoldable pub begun : State → Place → Option ℕ → State
begun s p last =
    record {
      place = p;
      head = s.head;
      last = last;
      seen = [];
      used = record { epochs = s.used.epochs + 1; rows = s.used.rows; slots = s.used.slots; carried = s.used.carried };
    }

-- the state after a row of n slots
unfoldable pub rowed : State → Place → (satellite n : ℕ) → State
rowed s p satellite n =
    record {
      place = p;
      head = s.head;
      last = s.last;
      seen = s.seen ++ (satellite ∷ []);
      used = record { epochs = s.used.epochs; rows = s.used.rows + 1; slots = s.used.slots + n; carried = s.used.carried };
    }

-- after a header line, by its label
unfoldable pub next_header : State → List ℕ → Label → State
next_header s l Version = s
next_header s l ObsTypes =
    let n = list_count l in
    headed s (after_list (system_at l) (n - in_line n)) (listed s.head (system_at l) (codes_at (in_line n) 7 l))
next_header s l FirstObs =
    headed s in_header (record { letter = s.head.letter; lists = s.head.lists; has_first = true; has_interval = s.head.has_interval })
next_header s l Interval =
    headed s in_header (record { letter = s.head.letter; lists = s.head.lists; has_first = s.head.has_first; has_interval = true })
next_header s l EndOfHeader = headed s epoch_due s.head
next_header s l ScaleFactor = s
next_header s l MarkerName = kept s (cut l) in_header
next_header s l Other = kept s (cut l) in_header
next_header s l Unknown = s

-- the state after a line that has no fault
unfoldable pub next : State → Place → List ℕ → State
next s version_due l = headed s in_header (record { letter = col 41 l; lists = s.head.lists; has_first = false; has_interval = false })
next s in_header l = next_header s l (label_of l)
next s (next_due y n) l = headed s (after_list y (n - in_line n)) (listed s.head y (codes_at (in_line n) 7 l))
next s epoch_due l =
    cond (is_event (flag_at l))
    (begun s (after_line (flag_at l) false (count_at l)) s.last)
    (begun s (after_row (count_at l)) (epoch_time l))
next s (row_due n) l = rowed s (after_row (n - 1)) (name_at l) (length (row_list s l))
next s (line_due f n m) l = kept s (cut l) (after_line f (m || is MarkerName (label_of l)) (n - 1))

pub data Verdict : Type 0 where
  accepted : Counts → Verdict
  refused : (number line : ℕ) → Verdict

-- where the text ends before line k: "the text is empty (line 1)", or
-- 14: "the text ends before the header or an epoch's lines are complete; the line is the number of lines plus 1"
unfoldable pub ending : State → Place → ℕ → Verdict
ending s version_due k = refused 3 k
ending s in_header k = refused 14 k
ending s (next_due y n) k = refused 14 k
ending s epoch_due k = accepted s.used
ending s (row_due n) k = refused 14 k
ending s (line_due f n m) k = refused 14 k

-- "Lines are judged from the first on. The earliest faulty line is reported and, in it, the lowest number." The first line here is line k
unfoldable pub judge : Room → State → ℕ → List Raw → Verdict
judge r s k [] = ending s s.place k
judge r s k (w ∷ ws) =
    let rest = judge r (next s s.place w.bytes) (k + 1) ws in
    let n = fault r s w in
    cond (eqb n 0) rest (refused n k)

-- 17: "the text is too long; the line is 0"
unfoldable pub verdict : Room → List ℕ → Verdict
verdict r t = cond (ltb longest (length t)) (refused 17 0) (judge r start 1 (split t))
