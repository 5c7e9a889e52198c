-- What the inner functions on a value field answer; no promise of theirs leaves this crate.
use Rattle.std.specs.Prelude.{ℕ, Bool, true, ◌&&◌, ◌||◌, List, [], ◌∷◌, eqb}
use Rattle.field.specs.Field.{is_digit}

-- before the point: a digit, or behind a blank a blank or a minus; and columns that all may follow, p before them
unfoldable pub may_follow : ℕ → ℕ → Bool
may_follow p b = is_digit b || (eqb p 32 && (eqb b 32 || eqb b 45))

unfoldable pub follow : ℕ → List ℕ → Bool
follow p [] = true
follow p (b ∷ s) = may_follow p b && follow b s
