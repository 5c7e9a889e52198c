-- HOW LONG THE NORMAL TEXT IS, from the lent tables, without writing it. That it is so is proved in proofs/TextSize.
use Rattle.std.specs.Prelude.{ℕ, zero, suc, ◌+◌, ◌*◌, ◌/◌, ◌≤◌, ◌<◌, ◌≡◌, cond, List, [], ◌∷◌, eqb, leb, get_or}
use Rattle.rinex.specs.Tables.{FlatEpoch, FlatHead, Counts, Buffers}
use Rattle.rinex.specs.Fit.{row_codes}

-- where the 16 columns of a slot end once trailing blanks are cut: behind the strength mark, the loss mark, the value, or at none
abbrev pub slot_end : (state loss strength : ℕ) → ℕ
slot_end state loss strength = cond (eqb strength 255) (cond (eqb loss 255) (cond (eqb state 0) 0 14) 15) 16

-- where k slots from place i on end
unfoldable pub slots_width : (states losses strengths : List ℕ) → ℕ → ℕ → ℕ
slots_width st lo sg zero i = 0
slots_width st lo sg (suc k) i =
    let e = slot_end (get_or st (i + k) 0) (get_or lo (i + k) 0) (get_or sg (i + k) 0) in
    cond (eqb e 0) (slots_width st lo sg k i) (16 * k + e)

-- k rows from row j on, whose slots begin at place i: a satellite, the slots, LF
unfoldable pub rows_size : (lengths satellites states losses strengths : List ℕ) → ℕ → ℕ → ℕ → ℕ
rows_size ns sa st lo sg zero j i = 0
rows_size ns sa st lo sg (suc k) j i =
    let n = row_codes ns sa j in
    slots_width st lo sg n i + 4 + rows_size ns sa st lo sg k (j + 1) (i + n)

-- k epoch records from entry e on: 35 columns, 56 with a clock, LF
unfoldable pub epochs_size : (clock_states : List ℕ) → ℕ → ℕ → ℕ
epochs_size cs zero e = 0
epochs_size cs (suc k) e = cond (eqb (get_or cs e 0) 0) 36 57 + epochs_size cs k (e + 1)

-- the lines of all lists
abbrev pub list_line_count : List ℕ → ℕ
list_line_count [] = 0
list_line_count (n ∷ ns) = (n + 12) / 13 + list_line_count ns

-- the lines that each header has, and one of 80 bytes for each line of a list
abbrev pub head_size : (lengths : List ℕ) → (interval_state : ℕ) → ℕ
head_size lengths state = 81 + 78 + 74 + 80 * list_line_count lengths + cond (eqb state 0) 0 69

abbrev pub text_size : FlatHead → Counts → Buffers → ℕ
text_size h n b =
    head_size h.lengths h.interval_state + n.carried + epochs_size b.clock_states n.epochs 0
    + rows_size h.lengths b.satellites b.states b.losses b.strengths n.rows 0 0

-- one epoch alone, with which the buffers begin, and whose lines have so many bytes
abbrev pub lone_size : (lengths : List ℕ) → FlatEpoch → Buffers → (lines : ℕ) → ℕ
lone_size lengths p b lines =
    cond (eqb p.clock_state 0) 36 57 + cond (leb p.flag 1) (rows_size lengths b.satellites b.states b.losses b.strengths p.count 0 0) lines

-- what is told of a size: itself, or only that it is past a limit
pub record Told (limit size r : ℕ) : Type 0 where
  pub within : size ≤ limit → r ≡ size
  pub past : limit < size → limit < r
