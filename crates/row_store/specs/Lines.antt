-- What is put into the tables of slots.
use Rattle.std.specs.Prelude.{ℕ, ◌≡◌, List, map, ℤ}
use Rattle.std.proofs.lemmas.List.Edits.{sets}
use Rattle.rinex.specs.File.{Slot}
use Rattle.rinex.specs.Tables.{state_of, signed_of, mark_of}
use Rattle.rinex.specs.Tests.{slots_of}

-- the slots of a row's line, put into the four tables from a place on
pub record Put (l : List ℕ) (n at : ℕ) (numbers numbers' : List ℤ) (states states' losses losses' strengths strengths' : List ℕ) : Type 0 where
  pub numbers_are : numbers' ≡ sets numbers at (map (λ (s : Slot). signed_of s.value) (slots_of n 4 l))
  pub states_are : states' ≡ sets states at (map (λ (s : Slot). state_of s.value) (slots_of n 4 l))
  pub losses_are : losses' ≡ sets losses at (map (λ (s : Slot). mark_of s.loss) (slots_of n 4 l))
  pub strengths_are : strengths' ≡ sets strengths at (map (λ (s : Slot). mark_of s.strength) (slots_of n 4 l))
