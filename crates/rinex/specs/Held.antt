-- THE FILE THAT LENT TABLES HOLD, read off from place to place. That it is the one which the tables are spelled as is proved in proofs/HeldFile.
use Rattle.std.specs.Prelude.{ℕ, zero, suc, ◌+◌, ◌*◌, ◌/◌, ◌%◌, cond, List, [], ◌∷◌, map, eqb, leb, length, get_or, take, drop, pos}
use Rattle.std.specs.Prelude.{Option, None, Some}
use Rattle.line.specs.Text.{Raw, split}
use Rattle.rinex.specs.File.{Slot, Row, Epoch, observed, event, Head, File}
use Rattle.rinex.specs.Tables.{rows_of, lines_of, FlatEpoch, all_slots, FlatHead, Counts, Buffers}
use Rattle.rinex.specs.Fit.{part, unpacked, codes_of_row, entry_at}

-- what may be missing, by its state; a mark
abbrev pub optional : {A : Type 0} → ℕ → A → Option A
optional zero x = None
optional (suc n) x = Some x

abbrev pub mark_in : ℕ → Option ℕ
mark_in m = cond (eqb m 255) None (Some m)

-- slot i, and k slots from place i on
abbrev pub slot_at : Buffers → ℕ → Slot
slot_at b i =
    record {
      value = optional (get_or b.states i 0) (get_or b.numbers i (pos 0));
      loss = mark_in (get_or b.losses i 0);
      strength = mark_in (get_or b.strengths i 0);
    }

unfoldable pub slots_at : Buffers → ℕ → ℕ → List Slot
slots_at b zero i = []
slots_at b (suc k) i = slot_at b i ∷ slots_at b k (i + 1)

-- row j with its slots from place i on, and k rows
abbrev pub row_at : List ℕ → Buffers → ℕ → ℕ → Row
row_at lengths b j i = record { system = get_or b.satellites j 0 / 100; number = get_or b.satellites j 0 % 100; slots = slots_at b (codes_of_row lengths b j) i }

unfoldable pub rows_at : List ℕ → Buffers → ℕ → ℕ → ℕ → List Row
rows_at lengths b zero j i = []
rows_at lengths b (suc k) j i = row_at lengths b j i ∷ rows_at lengths b k (j + 1) (i + codes_of_row lengths b j)

-- the lines without what ends them
abbrev pub bytes_of : List Raw → List (List ℕ)
bytes_of ws = map (λ (w : Raw). w.bytes) ws

-- an entry of the epoch table, with the first row, slot and carried line that are its own
unfoldable pub epoch_at : List ℕ → Buffers → FlatEpoch → (row slot : ℕ) → List Raw → Epoch
epoch_at lengths b e j i ws =
    cond (leb e.flag 1)
    (observed (record { time = e.time; flag = e.flag; clock = optional e.clock_state e.clock; rows = rows_at lengths b e.count j i }))
    (event (record { time = optional e.time_state e.time; flag = e.flag; lines = bytes_of (take e.count ws) }))

-- k epochs from entry e on
unfoldable pub epochs_at : List ℕ → Buffers → (k e row slot : ℕ) → List Raw → List Epoch
epochs_at lengths b zero e j i ws = []
epochs_at lengths b (suc k) e j i ws =
    let x = epoch_at lengths b (entry_at b e) j i ws in
    x ∷ epochs_at lengths b k (e + 1) (j + length (rows_of x)) (i + length (all_slots (rows_of x))) (drop (length (lines_of x)) ws)

-- the lists of the systems from s on, by their lengths
unfoldable pub lists_at : ℕ → List ℕ → List ℕ → List (List (List ℕ))
lists_at s [] codes = []
lists_at s (n ∷ ns) codes = map unpacked (part codes (64 * s) n) ∷ lists_at (s + 1) ns codes

-- the head, with its carried lines the first of ws
abbrev pub head_at : FlatHead → List ℕ → List Raw → Head
head_at h codes ws =
    record {
      letter = h.letter;
      lists = lists_at 0 h.lengths codes;
      first = h.first;
      time_system = h.time_system;
      interval = optional h.interval_state h.interval;
      carried = bytes_of (take h.header_lines ws);
    }

unfoldable pub file_at : FlatHead → Counts → Buffers → File
file_at h n b =
    let ls = split (take n.carried b.carried) in
    record { head = head_at h b.codes ls; epochs = epochs_at h.lengths b n.epochs 0 0 0 (drop h.header_lines ls) }
