-- The tables: how a file is laid out in lent buffers, and for which files there is room.
use Rattle.std.specs.Prelude.{ℕ, ◌+◌, ◌*◌, ◌≤◌, ◌<◌, min, ◌≡◌, List, [], ◌∷◌, ◌++◌, map, length, get_or, ℤ, pos}
use Rattle.std.specs.Prelude.{Option, None, Some}
use Rattle.std.proofs.lemmas.List.Edits.{sets}
use Rattle.lists.specs.Lists.{joined}
use Rattle.line.specs.Text.{text}
use Rattle.rinex.specs.File.{Slot, Row, Epoch, observed, event, Head, File, satellite}

-- what may be missing has a state, 0 or 1, and the number 0 where it is missing
abbrev pub state_of : {A : Type 0} → Option A → ℕ
state_of None = 0
state_of (Some x) = 1

abbrev pub number_of : Option ℕ → ℕ
number_of None = 0
number_of (Some n) = n

abbrev pub signed_of : Option ℤ → ℤ
signed_of None = pos 0
signed_of (Some z) = z

-- "a blank mark is held as 255"
abbrev pub mark_of : Option ℕ → ℕ
mark_of None = 255
mark_of (Some m) = m

-- a code's three bytes as one number, the first byte highest
abbrev pub packed : List ℕ → ℕ
packed c = (get_or c 0 0 * 256 + get_or c 1 0) * 256 + get_or c 2 0

-- an entry of the epoch table: time or none, flag, count, clock or none
abbrev pub time_of : Epoch → Option ℕ
time_of (observed o) = Some o.time
time_of (event v) = v.time

abbrev pub flag_of : Epoch → ℕ
flag_of (observed o) = o.flag
flag_of (event v) = v.flag

abbrev pub count_of : Epoch → ℕ
count_of (observed o) = length o.rows
count_of (event v) = length v.lines

abbrev pub clock_of : Epoch → Option ℤ
clock_of (observed o) = o.clock
clock_of (event v) = None

abbrev pub rows_of : Epoch → List Row
rows_of (observed o) = o.rows
rows_of (event v) = []

abbrev pub lines_of : Epoch → List (List ℕ)
lines_of (observed o) = []
lines_of (event v) = v.lines

-- the same, flat: as it is held in the table, or handed in by value
pub record FlatEpoch : Type 0 where
  pub time_state : ℕ
  pub time : ℕ
  pub flag : ℕ
  pub count : ℕ
  pub clock_state : ℕ
  pub clock : ℤ

unfoldable pub flat_epoch : Epoch → FlatEpoch
flat_epoch e =
    record {
      time_state = state_of (time_of e);
      time = number_of (time_of e);
      flag = flag_of e;
      count = count_of e;
      clock_state = state_of (clock_of e);
      clock = signed_of (clock_of e);
    }

-- the rows and slots of some epochs, in order; and their carried lines
unfoldable pub all_rows : List Epoch → List Row
all_rows es = joined (map rows_of es)

unfoldable pub all_slots : List Row → List Slot
all_slots rs = joined (map (λ (r : Row). r.slots) rs)

unfoldable pub all_lines : List Epoch → List (List ℕ)
all_lines es = joined (map lines_of es)

-- "carried bytes": the header's lines, then the events', "one LF each"
unfoldable pub carried_bytes : File → List ℕ
carried_bytes f = text (f.head.carried ++ all_lines f.epochs)

-- what is returned by value beside the counts
pub record FlatHead : Type 0 where
  pub letter : ℕ
  pub lengths : List ℕ
  pub first : ℕ
  pub time_system : ℕ
  pub interval_state : ℕ
  pub interval : ℕ
  pub header_lines : ℕ

unfoldable pub flat_head : Head → FlatHead
flat_head h =
    record {
      letter = h.letter;
      lengths = map (λ (cs : List (List ℕ)). length cs) h.lists;
      first = h.first;
      time_system = h.time_system;
      interval_state = state_of h.interval;
      interval = number_of h.interval;
      header_lines = length h.carried;
    }

-- "the counts of epochs, rows, slots and carried bytes"
pub record Counts : Type 0 where
  pub epochs : ℕ
  pub rows : ℕ
  pub slots : ℕ
  pub carried : ℕ

unfoldable pub counts : File → Counts
counts f =
    record {
      epochs = length f.epochs;
      rows = length (all_rows f.epochs);
      slots = length (all_slots (all_rows f.epochs));
      carried = length (carried_bytes f);
    }

-- the lent buffers
pub record Buffers : Type 0 where
  pub codes : List ℕ
  pub times : List ℕ
  pub time_states : List ℕ
  pub flags : List ℕ
  pub counts : List ℕ
  pub clocks : List ℤ
  pub clock_states : List ℕ
  pub satellites : List ℕ
  pub numbers : List ℤ
  pub states : List ℕ
  pub losses : List ℕ
  pub strengths : List ℕ
  pub carried : List ℕ

-- code i of system s goes to place 64 · s + i; p is the place of the first list's first code
unfoldable pub laid_codes : ℕ → List (List (List ℕ)) → List ℕ → List ℕ
laid_codes p [] b = b
laid_codes p (cs ∷ css) b = laid_codes (p + 64) css (sets b p (map packed cs))

-- the buffers with the file in them; every other entry stays
unfoldable pub laid : File → Buffers → Buffers
laid f b =
    let es = f.epochs in
    let rs = all_rows es in
    let ss = all_slots rs in
    record {
      codes = laid_codes 0 f.head.lists b.codes;
      times = sets b.times 0 (map (λ (e : Epoch). number_of (time_of e)) es);
      time_states = sets b.time_states 0 (map (λ (e : Epoch). state_of (time_of e)) es);
      flags = sets b.flags 0 (map flag_of es);
      counts = sets b.counts 0 (map count_of es);
      clocks = sets b.clocks 0 (map (λ (e : Epoch). signed_of (clock_of e)) es);
      clock_states = sets b.clock_states 0 (map (λ (e : Epoch). state_of (clock_of e)) es);
      satellites = sets b.satellites 0 (map satellite rs);
      numbers = sets b.numbers 0 (map (λ (s : Slot). signed_of s.value) ss);
      states = sets b.states 0 (map (λ (s : Slot). state_of s.value) ss);
      losses = sets b.losses 0 (map (λ (s : Slot). mark_of s.loss) ss);
      strengths = sets b.strengths 0 (map (λ (s : Slot). mark_of s.strength) ss);
      carried = sets b.carried 0 (carried_bytes f);
    }

-- the room of each table
pub record Room : Type 0 where
  pub codes : ℕ
  pub epochs : ℕ
  pub rows : ℕ
  pub slots : ℕ
  pub carried : ℕ

-- "Where one table lies in several lent buffers, its room is the shortest one's."
unfoldable pub room : Buffers → Room
room b =
    record {
      codes = length b.codes;
      epochs =
          min (length b.times) (min (length b.time_states) (min (length b.flags)
          (min (length b.counts) (min (length b.clocks) (length b.clock_states)))));
      rows = length b.satellites;
      slots = min (length b.numbers) (min (length b.states) (min (length b.losses) (length b.strengths)));
      carried = length b.carried;
    }

-- there are n places for codes: the last code of each list that is not empty has its place below n
abbrev pub CodesFit : ℕ → List (List (List ℕ)) → Type 0
CodesFit n lists = (s : ℕ) → s < 7 → 1 ≤ length (get_or lists s []) → 64 * s + length (get_or lists s []) ≤ n

-- there is room for the file
pub record Fits (r : Room) (f : File) : Type 0 where
  pub codes : CodesFit r.codes f.head.lists
  pub epochs : (counts f).epochs ≤ r.epochs
  pub rows : (counts f).rows ≤ r.rows
  pub slots : (counts f).slots ≤ r.slots
  pub carried : (counts f).carried ≤ r.carried

-- the tables hold the file: what is handed in by value is its, there is room for it, and to lay it out would change nothing
pub record Hold (h : FlatHead) (n : Counts) (b : Buffers) (f : File) : Type 0 where
  pub head : h ≡ flat_head f.head
  pub lengths : n ≡ counts f
  pub fits : Fits (room b) f
  pub entries : laid f b ≡ b
