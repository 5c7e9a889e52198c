-- The slots that lie in their tables, and the columns of a row.
use Rattle.std.specs.Prelude.{ℕ, ◌+◌, ◌/◌, ◌%◌, ◌≤◌, ◌<◌, List, [], ◌∷◌, ◌++◌, map, length, get_or, ℤ, pos}
use Rattle.write_field.specs.Normal.{decimal_fits, fixed}
use Rattle.lists.specs.Lists.{joined}
use Rattle.rinex.specs.Codes.{letter_of}
use Rattle.rinex.specs.File.{Slot}
use Rattle.rinex.specs.Normal.{slot_text}
use Rattle.rinex.specs.Tables.{Buffers}
use Rattle.rinex.specs.Lent.{of_rows}
use Rattle.rinex.specs.Held.{optional, mark_in, slots_at}
use Rattle.columns.specs.Given.{FitsIf}

-- the slot of a number, a state and two marks
abbrev pub slot_with : ℤ → ℕ → ℕ → ℕ → Slot
slot_with z state loss strength = record { value = optional state z; loss = mark_in loss; strength = mark_in strength }

-- the four buffers of slots, beside nothing
abbrev pub of_slots : List ℤ → (states losses strengths : List ℕ) → Buffers
of_slots = of_rows []

-- the columns of n slots from place i on
abbrev pub slots_text : ℕ → ℕ → Buffers → List ℕ
slots_text n i b = joined (map slot_text (slots_at b n i))

-- their numbers fit their columns
abbrev pub NumbersFit : ℕ → ℕ → Buffers → Type 0
NumbersFit n i b = (k : ℕ) → k < n → FitsIf (get_or b.states (i + k) 0) (decimal_fits 14 3 (get_or b.numbers (i + k) (pos 0)))

-- n slots lie there from place i on, and their numbers fit
pub record SlotsLie (n i : ℕ) (b : Buffers) : Type 0 where
  pub in_numbers : i + n ≤ length b.numbers
  pub in_states : i + n ≤ length b.states
  pub in_losses : i + n ≤ length b.losses
  pub in_strengths : i + n ≤ length b.strengths
  pub fit : NumbersFit n i b

-- the columns of a row: a satellite, and n slots from place i on
abbrev pub row_columns : ℕ → ℕ → ℕ → Buffers → List ℕ
row_columns satellite n i b = letter_of (satellite / 100) ∷ (fixed 2 (satellite % 100) ++ slots_text n i b)
