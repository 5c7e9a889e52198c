-- The answer for a slot, as it is found at its place in the tables. That it is the rule's is proved in `slots`.
use Rattle.std.specs.Prelude.{ℕ, ◌+◌, ◌/◌, ◌≤◌, ◌<◌, ◌^◌, cond, List, leb, ℤ, pos, length, get_or}
use Rattle.std.specs.Int.Signed.{mag}
use Rattle.rinex.specs.Answers.{Answer, not_declared, valued}
use Rattle.rinex.specs.Held.{optional}

-- n slots lie in their buffers, and a float holds the number of each
pub record HeldSlots (n : ℕ) (numbers : List ℤ) (states : List ℕ) : Type 0 where
  pub numbers_hold : n ≤ length numbers
  pub states_hold : n ≤ length states
  pub small : (i : ℕ) → i < n → mag (get_or numbers i (pos 0)) < 2 ^ 53

-- a row of n codes, whose slots begin at place i; the code is at place p of its list
unfoldable pub slot_answer : List ℤ → List ℕ → (i n p code : ℕ) → Answer
slot_answer numbers states i n p code = cond (leb n p) not_declared (valued (code / 65536) (optional (get_or states (i + p) 0) (get_or numbers (i + p) (pos 0))))
