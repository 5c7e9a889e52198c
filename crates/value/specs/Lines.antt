-- What the functions on a value field answer, beside the tests of the rule.
use Rattle.std.specs.Prelude.{ℕ, ◌≡◌, List, ℤ}
use Rattle.std.specs.Prelude.{Option, Result, Ok, Err, Bool}
use Rattle.lists.specs.Maybe.{is_given}
use Rattle.field.specs.Field.{DecimalOrBlank}
use Rattle.field.specs.declared.Unfit.{Unfit}

-- what is printed in a value field: "F14.3 or blank", and of a fit one whether it has a number. What is held of it is the rule's `held_as`
abbrev pub Prints : List ℕ → Result Bool Unfit → Type 0
Prints s (Ok numbered) = (v : Option ℤ) × DecimalOrBlank 3 s v × (numbered ≡ is_given v)
Prints s (Err e) = (v : Option ℤ) → DecimalOrBlank 3 s v → ⊥
