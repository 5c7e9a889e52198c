-- The promises of reading a field: what the answer says of its bytes. For every list of bytes one answer is right.
use Rattle.std.specs.Prelude.{ℕ, ◌<◌, ◌^◌, List, ℤ, nat_abs}
use Rattle.std.specs.Prelude.{Option, None, Some, Result, Ok, Err}
use Rattle.lists.specs.Blank.{Blank}
use Rattle.field.specs.Field.{Whole, Decimal, Second, Mark}
use Rattle.field.specs.declared.Unfit.{Unfit}

-- a number is handed on if its size is below this
abbrev pub most : ℕ
most = 10 ^ 18

abbrev pub ReadsWhole : List ℕ → Result (Option ℕ) Unfit → Type 0
ReadsWhole s (Ok (Some n)) = Whole s n × (n < most)
ReadsWhole s (Ok None) = Blank s
ReadsWhole s (Err e) = (Blank s → ⊥) × ((n : ℕ) → Whole s n → n < most → ⊥)

abbrev pub ReadsDecimal : ℕ → List ℕ → Result (Option ℤ) Unfit → Type 0
ReadsDecimal d s (Ok (Some z)) = Decimal d s z × (nat_abs z < most)
ReadsDecimal d s (Ok None) = Blank s
ReadsDecimal d s (Err e) = (Blank s → ⊥) × ((z : ℤ) → Decimal d s z → nat_abs z < most → ⊥)

abbrev pub ReadsSecond : List ℕ → Result (Option ℕ) Unfit → Type 0
ReadsSecond s (Ok (Some n)) = Second s n
ReadsSecond s (Ok None) = Blank s
ReadsSecond s (Err e) = (Blank s → ⊥) × ((n : ℕ) → Second s n → ⊥)

abbrev pub ReadsMark : ℕ → ℕ → Result (Option ℕ) Unfit → Type 0
ReadsMark top b (Ok o) = Mark top b o
ReadsMark top b (Err e) = (Mark top b None → ⊥) × ((m : ℕ) → Mark top b (Some m) → ⊥)
