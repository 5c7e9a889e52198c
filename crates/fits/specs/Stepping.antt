-- Epochs, as the code has them: an entry, and the place that the epochs before it leave.
use Rattle.std.specs.Prelude.{ℕ, ◌≤◌, Bool, ◌&&◌, List, eqb, leb, length, take, drop}
use Rattle.std.specs.Prelude.{Option, None, Some}
use Rattle.std.specs.Option.{option_map}
use Rattle.lists.specs.Maybe.{when, ◌>>=◌}
use Rattle.line.specs.Text.{Raw, split}
use Rattle.rinex.specs.Data.{is_nought, later}
use Rattle.rinex.specs.Tables as tables
use Rattle.rinex.specs.Tables.{FlatEpoch}
use Rattle.rinex.specs.Fit as rule
use Rattle.rinex.specs.Fit.{is_time, state_fits, number_fits, header_lines_fit, rows_fit, observed_fits, event_fits, epochs_fit, all_taken, all_untaken, behind_rows, behind_lines}
use Rattle.rinex.specs.declared.Counts.{Counts}
use Rattle.fits.specs.declared.Untaken.{Untaken}
use Rattle.lent.specs.Parts.{SlotsHold}
use Rattle.lent.specs.declared.Rows.{Rows}

-- the carried lines that are left stand in t
abbrev pub untaken_of : List ℕ → Untaken → rule.Untaken
untaken_of t c = record { row = c.row; slot = c.slot; lines = split (drop c.at t); last = c.last }

-- where the epochs begin
abbrev pub beginning : ℕ → Untaken
beginning at = record { row = 0; slot = 0; at = at; last = None }

abbrev pub passed_of : List ℕ → Option Untaken → Option rule.Untaken
passed_of t o = option_map (untaken_of t) o

-- an entry of flag 0 or 1, without its rows
unfoldable pub observed_entry : FlatEpoch → Option ℕ → Bool
observed_entry e last = eqb e.time_state 1 && (is_time e.time && (later last e.time && (number_fits 15 12 e.clock_state e.clock && leb e.count 999)))

-- an entry of flag 2 to 5, without its lines
unfoldable pub event_entry : FlatEpoch → Bool
event_entry e =
    leb e.flag 5 && (state_fits e.time_state (eqb e.time 0 && leb e.flag 4) (is_time e.time)
    && (eqb e.clock_state 0 && (is_nought e.clock && leb e.count 999)))

-- what an epoch of flag 0 or 1 leaves, where it fits, and one of another flag
unfoldable pub observed_step : List ℕ → tables.Counts → tables.Buffers → FlatEpoch → rule.Untaken → Option rule.Untaken
observed_step lengths n b e c =
    when (observed_fits n b e c) c.row >>= λ j. rows_fit lengths n b e.count j c.slot
    >>= λ i. Some (behind_rows e c i)

unfoldable pub event_step : FlatEpoch → rule.Untaken → Option rule.Untaken
event_step e c = when (event_fits e c) (behind_lines e c)

-- the rows and slots that are used lie in their buffers, and what is untaken within them
pub record Ready (n : Counts) (c : Untaken) (r : Rows) : Type 0 where
  pub rows_hold : n.rows ≤ length r.satellites.now
  pub slots_hold : SlotsHold n.slots r.slots
  pub row : c.row ≤ n.rows
  pub slot : c.slot ≤ n.slots

-- the carried lines and the epochs, where the header has k of the lines
unfoldable pub data_fits : List ℕ → tables.Counts → tables.Buffers → ℕ → List Raw → Bool
data_fits lengths n b k ws =
    leb k (length ws) && (header_lines_fit (take k ws)
    && all_taken n (epochs_fit lengths n b n.epochs 0 (all_untaken (drop k ws))))
