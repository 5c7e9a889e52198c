-- What the inner functions put into the tables of slots; no promise of theirs leaves this crate.
use Rattle.std.specs.Prelude.{ℕ, ◌≡◌, List, ℤ, set, get_or, take}
use Rattle.rinex.specs.File.{Slot}
use Rattle.rinex.specs.Tables.{state_of, signed_of, mark_of}
use Rattle.field.specs.Found.{decimal_of}
use Rattle.rinex.specs.Data.{held_as}
use Rattle.rinex.specs.Tests.{mark_at}

-- the slot in 16 columns
unfoldable pub slot_in : List ℕ → Slot
slot_in s = record { value = held_as (decimal_of 3 (take 14 s)); loss = mark_at (get_or s 14 0); strength = mark_at (get_or s 15 0) }

-- one entry of each table of slots, at place k
pub record Stores (k : ℕ) (number : ℤ) (state loss strength : ℕ) (numbers numbers' : List ℤ) (states states' losses losses' strengths strengths' : List ℕ) : Type 0 where
  pub numbers_are : numbers' ≡ set numbers k number
  pub states_are : states' ≡ set states k state
  pub losses_are : losses' ≡ set losses k loss
  pub strengths_are : strengths' ≡ set strengths k strength

abbrev pub SlotStored : ℕ → Slot → List ℤ → List ℤ → List ℕ → List ℕ → List ℕ → List ℕ → List ℕ → List ℕ → Type 0
SlotStored k s numbers numbers' states states' losses losses' strengths strengths' =
    Stores k (signed_of s.value) (state_of s.value) (mark_of s.loss) (mark_of s.strength) numbers numbers' states states' losses losses' strengths strengths'
