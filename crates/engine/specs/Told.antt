-- The answer for a slot, told in numbers: which of the answers, and its float.
use Rattle.std.specs.Prelude.{◌≡◌}
use Rattle.rinex.specs.Answers.{Answer, kind, float}
use Rattle.engine.specs.declared.Slot.{Slot}

-- what is told is an answer that keeps a promise
pub record Tells (promise : Answer → Type 0) (r : Slot) : Type 0 where
  pub answer : Answer
  pub kind_is : r.kind ≡ kind answer
  pub value_is : r.value ≡ float answer
  pub kept : promise answer
