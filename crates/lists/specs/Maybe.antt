-- Words about what may be missing.
use Rattle.std.specs.Prelude.{Bool, true, false}
use Rattle.std.specs.Prelude.{Option, None, Some}

abbrev pub is_given : {A : Type 0} → Option A → Bool
is_given None = false
is_given (Some x) = true

-- what is given, or d
abbrev pub given : {A : Type 0} → A → Option A → A
given d None = d
given d (Some x) = x

infixl 20 ◌>>=◌
abbrev pub ◌>>=◌ : {A B : Type 0} → Option A → (A → Option B) → Option B
None >>= f = None
Some x >>= f = f x

-- x where the test passes
abbrev pub when : {A : Type 0} → Bool → A → Option A
when true x = Some x
when false x = None
