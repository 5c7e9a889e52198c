-- The part of the buffers that each group of lent tables is.
use Rattle.std.specs.Prelude.{ℕ, ◌≤◌, [], length}
use Rattle.rinex.specs.Tables.{Buffers}
use Rattle.rinex.specs.Lent.{buffers, of_rows, SlotsIn}
use Rattle.lent.specs.declared.Epochs.{Epochs}
use Rattle.lent.specs.declared.SlotTables.{SlotTables}
use Rattle.lent.specs.declared.Rows.{Rows}
use Rattle.lent.specs.declared.Tables.{Tables}

-- the buffers of the epoch table, beside nothing
abbrev pub epochs_in : Epochs → Buffers
epochs_in e = buffers [] e.times.now e.time_states.now e.flags.now e.tallies.now e.clocks.now e.clock_states.now [] [] [] [] [] []

-- those of rows and of slots
abbrev pub rows_in : Rows → Buffers
rows_in r = of_rows r.satellites.now r.slots.numbers.now r.slots.states.now r.slots.losses.now r.slots.strengths.now

-- those of slots
abbrev pub slots_in : SlotTables → Buffers
slots_in s = of_rows [] s.numbers.now s.states.now s.losses.now s.strengths.now

-- those of epochs, rows and slots
abbrev pub data_in : Epochs → Rows → Buffers
data_in e r =
    buffers [] e.times.now e.time_states.now e.flags.now e.tallies.now e.clocks.now e.clock_states.now r.satellites.now r.slots.numbers.now
    r.slots.states.now r.slots.losses.now r.slots.strengths.now []

-- all of them
abbrev pub tables_in : Tables → Buffers
tables_in t =
    buffers t.codes.now t.epochs.times.now t.epochs.time_states.now t.epochs.flags.now t.epochs.tallies.now t.epochs.clocks.now
    t.epochs.clock_states.now t.rows.satellites.now t.rows.slots.numbers.now t.rows.slots.states.now t.rows.slots.losses.now
    t.rows.slots.strengths.now t.carried.now

-- n epochs lie in their tables
pub record EpochsHold (n : ℕ) (e : Epochs) : Type 0 where
  pub times_hold : n ≤ length e.times.now
  pub time_states_hold : n ≤ length e.time_states.now
  pub flags_hold : n ≤ length e.flags.now
  pub counts_hold : n ≤ length e.tallies.now
  pub clocks_hold : n ≤ length e.clocks.now
  pub clock_states_hold : n ≤ length e.clock_states.now

-- n slots lie in theirs
abbrev pub SlotsHold : ℕ → SlotTables → Type 0
SlotsHold n s = SlotsIn n s.numbers.now s.states.now s.losses.now s.strengths.now
