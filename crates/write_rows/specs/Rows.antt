-- Rows as they are put, from the tables and the place that was reached in them; and what is asked of them.
use Rattle.std.specs.Prelude.{ℕ, ◌+◌, ◌≤◌, ◌≡◌, true, List, map, length, get_or}
use Rattle.lists.specs.Maybe.{is_given}
use Rattle.line.specs.Text.{text}
use Rattle.rinex.specs.Tables.{Counts, Buffers}
use Rattle.rinex.specs.Fit.{rows_fit}
use Rattle.rinex.specs.Held.{rows_at}
use Rattle.rinex.specs.Normal.{row_line}
use Rattle.rinex.specs.Lent.{SlotsIn}

-- the text of k rows from row j on, with their slots from place i on
abbrev pub rows_text : (lengths : List ℕ) → Buffers → ℕ → ℕ → ℕ → List ℕ
rows_text lengths b k j i = text (map row_line (rows_at lengths b k j i))

-- the rows and slots that are used lie in their buffers
pub record Lent (lengths : List ℕ) (b : Buffers) (used : Counts) : Type 0 where
  pub few : (y : ℕ) → get_or lengths y 0 ≤ 64
  pub rows_hold : used.rows ≤ length b.satellites
  pub slots_hold : SlotsIn used.slots b.numbers b.states b.losses b.strengths

-- such rows are there, and fit
pub record RowsReady (lengths : List ℕ) (b : Buffers) (k j i : ℕ) : Type 0 where
  pub used : Counts
  pub lent : Lent lengths b used
  pub rows : j + k ≤ used.rows
  pub slots : i ≤ used.slots
  pub fit : is_given (rows_fit lengths used b k j i) ≡ true
