-- One epoch as it is put: its record, then its rows or its lines; and what it leaves.
use Rattle.std.specs.Prelude.{ℕ, ◌+◌, ◌<◌, List, ◌∷◌, ◌++◌, length, Some}
use Rattle.write_field.specs.Normal.{decimal_fits}
use Rattle.line.specs.Text.{Raw}
use Rattle.rinex.specs.Tables.{FlatEpoch, all_slots, Buffers}
use Rattle.rinex.specs.Fit.{is_time}
use Rattle.rinex.specs.Held.{optional, rows_at}
use Rattle.rinex.specs.Normal.{epoch_line}
use Rattle.rinex.specs.declared.EpochEntry.{EpochEntry}
use Rattle.fits.specs.declared.Untaken.{Untaken}
use Rattle.columns.specs.Given.{FitsIf}
use Rattle.write_lines.specs.Lines.{lines_text}
use Rattle.write_rows.specs.Rows.{rows_text}

-- the record of an entry
abbrev pub record_line : FlatEpoch → List ℕ
record_line e = epoch_line (optional e.time_state e.time) e.flag e.count (optional e.clock_state e.clock)

-- it fits its columns
pub record RecordFits (e : FlatEpoch) : Type 0 where
  pub count : e.count < 1000
  pub time : FitsIf e.time_state (is_time e.time)
  pub clock : FitsIf e.clock_state (decimal_fits 15 12 e.clock)

-- flag 0 or 1: with the rows from row j on, and their slots from place i on
abbrev pub observed_text : (lengths : List ℕ) → Buffers → FlatEpoch → ℕ → ℕ → List ℕ
observed_text lengths b e j i = record_line e ++ (10 ∷ rows_text lengths b e.count j i)

abbrev pub observed_next : (lengths : List ℕ) → Buffers → EpochEntry → Untaken → Untaken
observed_next lengths b e c =
    record { row = c.row + e.count; slot = c.slot + length (all_slots (rows_at lengths b e.count c.row c.slot)); at = c.at; last = Some e.time }

-- another flag: with the first of the lines that are left
abbrev pub event_text : FlatEpoch → List Raw → List ℕ
event_text e ws = record_line e ++ (10 ∷ lines_text e.count ws)
