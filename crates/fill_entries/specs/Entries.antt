-- What an epoch record and a row leave in the lent tables.
use Rattle.std.specs.Prelude.{ℕ, ◌≡◌, List, map, ℤ, set}
use Rattle.std.proofs.lemmas.List.Edits.{sets}
use Rattle.field.specs.Found.{decimal_of}
use Rattle.line.specs.Text.{cols}
use Rattle.rinex.specs.File.{Slot}
use Rattle.rinex.specs.Tables.{state_of, number_of, signed_of, mark_of}
use Rattle.rinex.specs.Tests.{flag_at, count_at, epoch_time, slots_of}
use Rattle.rinex.specs.Refusals.{name_at}
use Rattle.state.specs.declared.State.{State}
use Rattle.state.specs.Judge.{slots_of_row}

-- an epoch record's entry in the six tables
pub record EpochStored (c : State) (l times times' states states' flags flags' counts counts' : List ℕ) (clocks clocks' : List ℤ) (clock_states clock-states' : List ℕ) : Type 0 where
  pub times_are : times' ≡ set times c.used.epochs (number_of (epoch_time l))
  pub states_are : states' ≡ set states c.used.epochs (state_of (epoch_time l))
  pub flags_are : flags' ≡ set flags c.used.epochs (flag_at l)
  pub counts_are : counts' ≡ set counts c.used.epochs (count_at l)
  pub clocks_are : clocks' ≡ set clocks c.used.epochs (signed_of (decimal_of 12 (cols 42 56 l)))
  pub clock_states_are : clock-states' ≡ set clock_states c.used.epochs (state_of (decimal_of 12 (cols 42 56 l)))

-- a row's entry, and its slots in the four tables
pub record RowStored (c : State) (l satellites satellites' : List ℕ) (numbers numbers' : List ℤ) (states states' losses losses' strengths strengths' : List ℕ) : Type 0 where
  pub satellites_are : satellites' ≡ set satellites c.used.rows (name_at l)
  pub numbers_are : numbers' ≡ sets numbers c.used.slots (map (λ (s : Slot). signed_of s.value) (slots_of (slots_of_row c l) 4 l))
  pub states_are : states' ≡ sets states c.used.slots (map (λ (s : Slot). state_of s.value) (slots_of (slots_of_row c l) 4 l))
  pub losses_are : losses' ≡ sets losses c.used.slots (map (λ (s : Slot). mark_of s.loss) (slots_of (slots_of_row c l) 4 l))
  pub strengths_are : strengths' ≡ sets strengths c.used.slots (map (λ (s : Slot). mark_of s.strength) (slots_of (slots_of_row c l) 4 l))
