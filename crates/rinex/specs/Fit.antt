-- Whether some text spells the lent tables, computed: the head, the lists, the carried lines and the epochs, taken from the flat tables in order;
-- and whether some text has one epoch that is lent alone.
use Rattle.std.specs.Prelude.{ℕ, zero, suc, ◌+◌, ◌*◌, ◌/◌, ◌%◌, Bool, true, false, cond, not, ◌&&◌, ◌||◌, List, [], ◌∷◌, eqb, leb, ltb, length, get_or, take, drop, ℤ, pos}
use Rattle.std.specs.Prelude.{Option, None, Some}
use Rattle.lists.specs.Lists.{byte, same, fresh, every, sum}
use Rattle.lists.specs.Blank.{is_blank}
use Rattle.lists.specs.Maybe.{is_given, ◌>>=◌, when}
use Rattle.write_field.specs.Normal.{decimal_fits}
use Rattle.line.specs.Text.{are_plain, past, cut, Raw, split}
use Rattle.label.specs.declared.Label.TheVariants.{MarkerName, Unknown}
use Rattle.label.specs.Labels.{is, label_of, carried_in_header, barred_from_events}
use Rattle.rinex.specs.Codes.{is_file_letter, allows, is_taken, most_codes}
use Rattle.rinex.specs.Data.{is_nought, later}
use Rattle.rinex.specs.Tables.{FlatEpoch, FlatHead, Counts, Buffers, Room, room}

-- NUMBERS
-- the count of 10⁻⁷ s at 2100-01-01, 43830 days after 1980-01-01
abbrev pub times_end : ℕ
times_end = 43830 * 864000000000

abbrev pub is_time : ℕ → Bool
is_time t = ltb t times_end

-- a state and its number: 0 and a number that is 0, or 1 and one that is fit
abbrev pub state_fits : ℕ → (nought fit : Bool) → Bool
state_fits state nought fit = (eqb state 0 && nought) || (eqb state 1 && fit)

-- a decimal of w columns, d of them decimals
abbrev pub number_fits : (w d : ℕ) → ℕ → ℤ → Bool
number_fits w d state z = state_fits state (is_nought z) (decimal_fits w d z)

-- a value, a decimal of 14 columns, 3 of them decimals. 2026-02: "20 covers a table with a given value of 0"
abbrev pub value_fits : ℕ → ℤ → Bool
value_fits state z = state_fits state (is_nought z) (not (is_nought z) && decimal_fits 14 3 z)

abbrev pub is_mark : ℕ → ℕ → Bool
is_mark top m = leb m top || eqb m 255

-- THE HEAD
unfoldable pub head_fits : FlatHead → Bool
head_fits h =
    is_file_letter h.letter && (is_time h.first && (ltb h.time_system 6
    && state_fits h.interval_state (eqb h.interval 0) (ltb 0 h.interval && decimal_fits 10 3 (pos h.interval))))

-- n entries from place p on
abbrev pub part : List ℕ → ℕ → ℕ → List ℕ
part b p n = take n (drop p b)

-- the three bytes of a packed code
abbrev pub unpacked : ℕ → List ℕ
unpacked k = (k / 65536) ∷ (k / 256 % 256) ∷ (k % 256) ∷ []

-- codes of system s: "20 for the writer", where one is not taken (2026-04)
unfoldable pub are_taken : ℕ → List ℕ → Bool
are_taken s ks = every (λ k. is_taken s (unpacked k)) ks

-- the n codes of system s, where there are any
unfoldable pub list_fits : ℕ → List ℕ → ℕ → ℕ → Bool
list_fits letter codes s n =
    eqb n 0 || (leb n most_codes && (allows letter s && (leb (64 * s + n) (length codes)
    && (are_taken s (part codes (64 * s) n) && fresh eqb [] (part codes (64 * s) n)))))

-- the lists of the systems from s on, by their lengths
unfoldable pub lists_fit : ℕ → List ℕ → ℕ → List ℕ → Bool
lists_fit letter codes s [] = true
lists_fit letter codes s (n ∷ ns) = list_fits letter codes s n && lists_fit letter codes (s + 1) ns

-- one list a system, and some list, in a file of this letter
unfoldable pub all_lists_fit : (letter : ℕ) → (lengths codes : List ℕ) → Bool
all_lists_fit letter lengths codes = eqb (length lengths) 7 && (leb 1 (sum lengths) && lists_fit letter codes 0 lengths)

-- CARRIED LINES
-- a line as it is held: ended, of plain bytes, with its trailing blanks cut, and no byte past column 80
abbrev pub is_held : Raw → Bool
is_held w = w.ended && (are_plain w.bytes && (same (cut w.bytes) w.bytes && is_blank (past 80 w.bytes)))

unfoldable pub header_lines_fit : List Raw → Bool
header_lines_fit [] = true
header_lines_fit (w ∷ ws) = is_held w && (carried_in_header (label_of w.bytes) && header_lines_fit ws)

unfoldable pub event_lines_fit : List Raw → Bool
event_lines_fit [] = true
event_lines_fit (w ∷ ws) =
    is_held w && (not (is Unknown (label_of w.bytes)) && (not (barred_from_events (label_of w.bytes)) && event_lines_fit ws))

unfoldable pub some_marker : List Raw → Bool
some_marker [] = false
some_marker (w ∷ ws) = is MarkerName (label_of w.bytes) || some_marker ws

-- ROWS
-- slot i
abbrev pub slot_fits : Buffers → ℕ → Bool
slot_fits b i =
    value_fits (get_or b.states i 0) (get_or b.numbers i (pos 0)) && (is_mark 7 (get_or b.losses i 0) && is_mark 9 (get_or b.strengths i 0))

-- k slots from place i on
unfoldable pub slots_fit : Buffers → ℕ → ℕ → Bool
slots_fit b zero i = true
slots_fit b (suc k) i = slot_fits b i && slots_fit b k (i + 1)

-- how many codes the system of row j has
abbrev pub row_codes : (lengths satellites : List ℕ) → ℕ → ℕ
row_codes lengths satellites j = get_or lengths (get_or satellites j 0 / 100) 0

abbrev pub codes_of_row : List ℕ → Buffers → ℕ → ℕ
codes_of_row lengths b j = row_codes lengths b.satellites j

-- row j, with its slots from place i on
unfoldable pub row_fits : List ℕ → Counts → Buffers → ℕ → ℕ → Bool
row_fits lengths n b j i =
    ltb (get_or b.satellites j 0 / 100) 7 && (leb 1 (get_or b.satellites j 0 % 100) && (leb 1 (codes_of_row lengths b j)
    && (leb (i + codes_of_row lengths b j) n.slots && slots_fit b (codes_of_row lengths b j) i)))

-- k rows from place j on; the place after their slots
unfoldable pub rows_fit : List ℕ → Counts → Buffers → ℕ → ℕ → ℕ → Option ℕ
rows_fit lengths n b zero j i = Some i
rows_fit lengths n b (suc k) j i = when (row_fits lengths n b j i) (i + codes_of_row lengths b j) >>= rows_fit lengths n b k (j + 1)

-- EPOCHS
-- the first row, slot and carried line that no epoch has taken yet, and the last time of an epoch of flag 0 or 1
pub record Untaken : Type 0 where
  pub row : ℕ
  pub slot : ℕ
  pub lines : List Raw
  pub last : Option ℕ

-- where the epochs begin: nothing is taken, and none came
abbrev pub all_untaken : List Raw → Untaken
all_untaken ws = record { row = 0; slot = 0; lines = ws; last = None }

-- what an epoch of flag 0 or 1 leaves, whose slots end at place i, and one of another flag
abbrev pub behind_rows : FlatEpoch → Untaken → ℕ → Untaken
behind_rows e c i = record { row = c.row + e.count; slot = i; lines = c.lines; last = Some e.time }

abbrev pub behind_lines : FlatEpoch → Untaken → Untaken
behind_lines e c = record { row = c.row; slot = c.slot; lines = drop e.count c.lines; last = c.last }

-- entry e of the epoch table
abbrev pub entry_at : Buffers → ℕ → FlatEpoch
entry_at b e =
    record {
      time_state = get_or b.time_states e 0;
      time = get_or b.times e 0;
      flag = get_or b.flags e 0;
      count = get_or b.counts e 0;
      clock_state = get_or b.clock_states e 0;
      clock = get_or b.clocks e (pos 0);
    }

-- flag 0 or 1: the entry, and that no satellite stands twice
unfoldable pub observed_fits : Counts → Buffers → FlatEpoch → Untaken → Bool
observed_fits n b e c =
    eqb e.time_state 1 && (is_time e.time && (later c.last e.time && (number_fits 15 12 e.clock_state e.clock
    && (leb e.count 999 && (leb (c.row + e.count) n.rows && fresh eqb [] (part b.satellites c.row e.count))))))

-- flags 2 to 5: the entry, and its lines
unfoldable pub event_fits : FlatEpoch → Untaken → Bool
event_fits e c =
    leb e.flag 5 && (state_fits e.time_state (eqb e.time 0 && leb e.flag 4) (is_time e.time)
    && (eqb e.clock_state 0 && (is_nought e.clock && (leb e.count 999 && (leb e.count (length c.lines)
    && (event_lines_fit (take e.count c.lines) && (not (eqb e.flag 3) || some_marker (take e.count c.lines))))))))

-- what an epoch leaves, where it is fit
unfoldable pub epoch_fits : List ℕ → Counts → Buffers → FlatEpoch → Untaken → Option Untaken
epoch_fits lengths n b e c =
    cond (leb e.flag 1)
    (when (observed_fits n b e c) c.row >>= λ j. rows_fit lengths n b e.count j c.slot
    >>= λ i. Some (behind_rows e c i))
    (when (event_fits e c) (behind_lines e c))

-- k epochs from entry e on
unfoldable pub epochs_fit : List ℕ → Counts → Buffers → ℕ → ℕ → Untaken → Option Untaken
epochs_fit lengths n b zero e c = Some c
epochs_fit lengths n b (suc k) e c = epoch_fits lengths n b (entry_at b e) c >>= epochs_fit lengths n b k (e + 1)

-- each row, slot and line is taken
abbrev pub all_taken : Counts → Option Untaken → Bool
all_taken n None = false
all_taken n (Some c) = eqb c.row n.rows && (eqb c.slot n.slots && eqb (length c.lines) 0)

-- THE TABLES
-- they lie in the lent buffers
unfoldable pub room_fits : Counts → Room → Bool
room_fits n r = leb n.epochs r.epochs && (leb n.rows r.rows && (leb n.slots r.slots && leb n.carried r.carried))

unfoldable pub tables_fit : FlatHead → Counts → Buffers → Bool
tables_fit h n b =
    let ls = split (take n.carried b.carried) in
    head_fits h && (all_lists_fit h.letter h.lengths b.codes && (room_fits n (room b)
    && (leb h.header_lines (length ls) && (header_lines_fit (take h.header_lines ls)
    && all_taken n (epochs_fit h.lengths n b n.epochs 0 (all_untaken (drop h.header_lines ls)))))))

-- ONE EPOCH ALONE
-- all that is lent
unfoldable pub lent : Buffers → Counts
lent b = record { epochs = (room b).epochs; rows = (room b).rows; slots = (room b).slots; carried = (room b).carried }

-- "20 if no text has that epoch under the given lists": lists that some header has, so in a file of letter M, which allows each system,
-- and an epoch whose rows, slots and lines the buffers begin with; neither letter nor time order is judged
unfoldable pub lone_epoch_fits : (lengths : List ℕ) → FlatEpoch → Buffers → Bool
lone_epoch_fits lengths p b =
    all_lists_fit (byte "M") lengths b.codes
    && is_given (epoch_fits lengths (lent b) b p (all_untaken (split b.carried)))
