-- What the inner functions of reading a field answer; no promise of theirs leaves this crate.
use Rattle.std.specs.Prelude.{ℕ, ℤ, ◌≤◌, ◌<◌, ◌≡◌, Bool, true, ◌&&◌, List, [], length, take, get_or, ltb}
use Rattle.std.specs.Prelude.{Option, None, Some, Result, Ok, Err}
use Rattle.lists.specs.Blank.{blanks}
use Rattle.lists.specs.Maybe.{when}
use Rattle.field.specs.Field.{are_digits, value_of, Plain, signed}
use Rattle.field.specs.Reading.{most}
use Rattle.field.specs.declared.Unfit.{Unfit}

-- n blanks stand before s's first other byte
pub record Lead (s : List ℕ) (n : ℕ) : Type 0 where
  pub within : n ≤ length s
  pub blank : take n s ≡ blanks n
  pub stop : n < length s → get_or s n 0 ≡ 32 → ⊥

-- the number of digits where it is held, and none where it is not or they are none
unfoldable pub number_in : ℕ → List ℕ → Option ℕ
number_in m s = when (are_digits s && ltb (value_of m s) most) (value_of m s)

-- digits, or nothing
abbrev pub ReadsDigits : List ℕ → Result (Option ℕ) Unfit → Type 0
ReadsDigits s (Ok (Some n)) = (1 ≤ length s) × (are_digits s ≡ true) × (n ≡ value_of 0 s) × (n < most)
ReadsDigits s (Ok None) = s ≡ []
ReadsDigits s (Err e) = (1 ≤ length s) × (are_digits s ≡ true → value_of 0 s < most → ⊥)

-- what follows the sign
abbrev pub ReadsPlain : ℕ → List ℕ → Result ℕ Unfit → Type 0
ReadsPlain d s (Ok n) = Plain d s n × (n < most)
ReadsPlain d s (Err e) = (n : ℕ) → Plain d s n → n < most → ⊥

-- the same under the sign
abbrev pub ReadsSigned : Bool → ℕ → List ℕ → Result ℤ Unfit → Type 0
ReadsSigned m d s (Ok z) = (n : ℕ) × Plain d s n × (n < most) × (z ≡ signed m n)
ReadsSigned m d s (Err e) = (n : ℕ) → Plain d s n → n < most → ⊥
