-- A value or a blank, by its state; and the answer for a slot, by its code's place. Assumes nothing.
use Prim.Native.Nat.{ℕ, zero, suc, ◌+◌, ◌/◌, ◌≤◌, ◌<◌}
use mathlib.Core.Path.{◌≡◌, refl}
use mathlib.Core.List.{List}
use lib.IntN.{ℤ, pos}
use lib.Ieee.{binary64, of_bits, of_fields, round, units, odd, size}
use lib.ListN.{get_or}
use borrow.Author.Tests.{le-leb, lt-leb}
use Rattle.float.specs.Nearest.{nearest_to}
use Rattle.rinex.specs.Answers.{Answer, blank, not_declared, thousandth, measured, valued}
use Rattle.rinex.specs.Held.{optional}
use Rattle.slot_answers.specs.AtPlace.{slot_answer}

pub blank_is : (b state : ℕ) (z : ℤ) → state ≡ 0 → blank ≡ valued b (optional state z)
blank_is b state z e = rw e

pub value_is : (b state : ℕ) (z : ℤ) → (state ≡ 0 → ⊥) → measured b (thousandth z) ≡ valued b (optional state z)
value_is b zero z h = absurd (h refl)
value_is b (suc n) z h = refl

-- +0
pub zero_is : of_bits binary64 0 ≡ thousandth (pos 0)
unfolding of_bits of_fields thousandth nearest_to round units odd size
zero_is = refl

module _ (numbers : List ℤ) (states : List ℕ) (i n p code : ℕ) where
  pub undeclared : n ≤ p → not_declared ≡ slot_answer numbers states i n p code
  unfolding slot_answer
  undeclared h = rw (le-leb n p h)

  pub declared_at : p < n → (a : Answer) → a ≡ valued (code / 65536) (optional (get_or states (i + p) 0) (get_or numbers (i + p) (pos 0))) → a ≡ slot_answer numbers states i n p code
  unfolding slot_answer
  declared_at h a e = rw (lt-leb n p h) e
