-- Epochs as they are put, from the tables and the place that was reached in them; and what is asked of them.
use Rattle.std.specs.Prelude.{ℕ, ◌+◌, ◌≤◌, ◌≡◌, true, cond, List, map, leb, length, drop}
use Rattle.std.specs.Prelude.{Some}
use Rattle.lists.specs.Lists.{joined}
use Rattle.lists.specs.Maybe.{is_given}
use Rattle.line.specs.Text.{text}
use Rattle.rinex.specs.File.{Epoch}
use Rattle.rinex.specs.Tables.{rows_of, lines_of, FlatEpoch, all_slots, Counts, Buffers}
use Rattle.rinex.specs.Fit.{Untaken, epoch_fits, epochs_fit}
use Rattle.rinex.specs.Held.{epoch_at, epochs_at}
use Rattle.rinex.specs.Normal.{epoch_lines}
use Rattle.write_rows.specs.Rows.{Lent}

-- the epoch of an entry, from the place that was reached; and what it leaves
abbrev pub epoch_from : (lengths : List ℕ) → Buffers → FlatEpoch → Untaken → Epoch
epoch_from lengths b e c = epoch_at lengths b e c.row c.slot c.lines

unfoldable pub epoch_next : (lengths : List ℕ) → Buffers → FlatEpoch → Untaken → Untaken
epoch_next lengths b e c =
    let x = epoch_from lengths b e c in
    record { row = c.row + length (rows_of x); slot = c.slot + length (all_slots (rows_of x)); lines = drop (length (lines_of x)) c.lines; last = cond (leb e.flag 1) (Some e.time) c.last }

-- it fits
pub record EpochReady (lengths : List ℕ) (b : Buffers) (e : FlatEpoch) (c : Untaken) : Type 0 where
  pub used : Counts
  pub lent : Lent lengths b used
  pub row : c.row ≤ used.rows
  pub slot : c.slot ≤ used.slots
  pub fit : is_given (epoch_fits lengths used b e c) ≡ true

-- the text of k epochs from entry e on
abbrev pub epochs_text : (lengths : List ℕ) → Buffers → ℕ → ℕ → Untaken → List ℕ
epochs_text lengths b k e c = text (joined (map epoch_lines (epochs_at lengths b k e c.row c.slot c.lines)))

-- they fit
pub record EpochsReady (lengths : List ℕ) (b : Buffers) (k e : ℕ) (c : Untaken) : Type 0 where
  pub used : Counts
  pub lent : Lent lengths b used
  pub row : c.row ≤ used.rows
  pub slot : c.slot ≤ used.slots
  pub fit : is_given (epochs_fit lengths used b k e c) ≡ true
