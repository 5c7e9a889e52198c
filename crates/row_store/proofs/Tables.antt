-- A table of slots, filled slot by slot from a place on. Assumes nothing.
use Prim.Native.Nat.{ℕ, suc, ◌+◌, ◌-◌, ◌*◌, ◌≤◌, ◌<◌}
use mathlib.Core.Bool.{true}
use mathlib.Core.Path.{◌≡◌, refl, ap, ◌∙◌}
use mathlib.Core.List.{List, map}
use native.Mathlib.Omega.{arith}
use lib.ListN.{set}
use lib.IntN.{ℤ}
use lib.Seq.{sets}
use Rattle.rinex.specs.File.{Slot}
use Rattle.rinex.specs.Tables.{state_of, signed_of, mark_of}
use Rattle.rinex.specs.Tests.{slots_fit, slot_of, slots_of}
use Rattle.row_store.specs.Steps.{Stores, SlotStored}
use Rattle.row_store.proofs.Places.{slots_more, slots_none}

-- `now`, with the slots from number i on to store, will be `old` with all of the row's stored from `at` on
pub record Column {A : Type 0} (f : Slot → A) (l : List ℕ) (n at : ℕ) (old now : List A) (i : ℕ) : Type 0 where
  pub same : sets now (at + i) (map f (slots_of (n - i) (4 + 16 * i) l)) ≡ sets old at (map f (slots_of n 4 l))

module _ {A : Type 0} (f : Slot → A) (l : List ℕ) (n at : ℕ) where
  pub begun : (old : List A) → Column f l n at old old 0
  begun old =
      let place : at + 0 ≡ at = omega arith in
      let left : n - 0 ≡ n = omega arith in
      record { same = rw (place, left) refl }

  pub stored : {old now new : List A} (i : ℕ) → i < n → new ≡ set now (at + i) (f (slot_of (4 + 16 * i) l)) → Column f l n at old now i → Column f l n at old new (i + 1)
  stored i h e c =
      let place : at + (i + 1) ≡ suc (at + i) = omega arith in
      let left : n - (i + 1) ≡ n - i - 1 = omega arith in
      let column : 4 + 16 * (i + 1) ≡ 4 + 16 * i + 16 = omega arith in
      record { same = rw (e, place, left, column) (rw (slots_more (n - i) (4 + 16 * i) l (omega arith)) at c.same) }

  pub done : {old now : List A} (i : ℕ) → n ≤ i → Column f l n at old now i → now ≡ sets old at (map f (slots_of n 4 l))
  done i h c = rw (slots_none (n - i) (4 + 16 * i) l (omega arith)) at c.same

-- the same entries
module _ (k : ℕ) {numbers numbers' : List ℤ} {states states' losses losses' strengths strengths' : List ℕ} where
  pub stored_as :
      {x y : ℤ} {i j m n p q : ℕ} → Stores k x i m p numbers numbers' states states' losses losses' strengths strengths' → x ≡ y → i ≡ j → m ≡ n → p ≡ q
      → Stores k y j n q numbers numbers' states states' losses losses' strengths strengths'
  stored_as h a b c d =
      record {
        numbers_are = h.numbers_are ∙ ap (set numbers k) a;
        states_are = h.states_are ∙ ap (set states k) b;
        losses_are = h.losses_are ∙ ap (set losses k) c;
        strengths_are = h.strengths_are ∙ ap (set strengths k) d;
      }

  pub stored_slot : {s t : Slot} → SlotStored k s numbers numbers' states states' losses losses' strengths strengths' → s ≡ t
      → SlotStored k t numbers numbers' states states' losses losses' strengths strengths'
  stored_slot h e =
      stored_as h (ap (λ (u : Slot). signed_of u.value) e) (ap (λ (u : Slot). state_of u.value) e) (ap (λ (u : Slot). mark_of u.loss) e)
      (ap (λ (u : Slot). mark_of u.strength) e)

-- the entries of a slot
abbrev pub number_in : Slot → ℤ
number_in s = signed_of s.value

abbrev pub state_in : Slot → ℕ
state_in s = state_of s.value

abbrev pub loss_in : Slot → ℕ
loss_in s = mark_of s.loss

abbrev pub strength_in : Slot → ℕ
strength_in s = mark_of s.strength

-- what is left to store
pub record Left (l : List ℕ) (n at : ℕ) (numbers₀ : List ℤ) (states₀ losses₀ strengths₀ : List ℕ) (numbers : List ℤ) (states losses strengths : List ℕ) (i : ℕ) : Type 0 where
  pub in_numbers : Column number_in l n at numbers₀ numbers i
  pub in_states : Column state_in l n at states₀ states i
  pub in_losses : Column loss_in l n at losses₀ losses i
  pub in_strengths : Column strength_in l n at strengths₀ strengths i
  pub fit : slots_fit (n - i) (4 + 16 * i) l ≡ true
