-- What is asked of the satellites of an epoch.
use Rattle.std.specs.Prelude.{ℕ, Bool, true, not, ◌&&◌, List, [], ◌∷◌, ◌++◌, eqb, ltb}
use Rattle.lists.specs.Lists.{is_in}

-- satellites below 700, none of which stands twice nor in those seen before
unfoldable pub apart : List ℕ → List ℕ → Bool
apart seen [] = true
apart seen (s ∷ ss) = ltb s 700 && (not (is_in eqb s seen) && apart (seen ++ (s ∷ [])) ss)
