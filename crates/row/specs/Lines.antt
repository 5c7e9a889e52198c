-- What the functions on a row's slots answer, beside the tests of the rule.
use Rattle.std.specs.Prelude.{ℕ, ◌≡◌}
use Rattle.std.specs.Prelude.{Option, Result, Ok, Err}
use Rattle.field.specs.Field.{Mark}
use Rattle.rinex.specs.Tables.{mark_of}
use Rattle.field.specs.declared.Unfit.{Unfit}

-- what a mark holds: "a blank mark is held as 255"
abbrev pub HoldsMark : ℕ → ℕ → Result ℕ Unfit → Type 0
HoldsMark top b (Ok m) = (v : Option ℕ) × Mark top b v × (m ≡ mark_of v)
HoldsMark top b (Err e) = (v : Option ℕ) → Mark top b v → ⊥
