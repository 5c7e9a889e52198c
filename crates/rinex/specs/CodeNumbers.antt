-- The table of codes as one list of numbers.
use Rattle.std.specs.Prelude.{ℕ, ◌+◌, ◌*◌, List, [], ◌∷◌, ◌++◌, map}
use Rattle.rinex.specs.CodeTable.{code_table}
use Rattle.rinex.specs.Tables.{packed}

-- a code's number with its system before it
abbrev pub number_under : ℕ → ℕ → ℕ
number_under s k = 16777216 * s + k

-- the codes of system s, and those of the systems behind it
unfoldable pub numbers_from : ℕ → List (List (List ℕ)) → List ℕ
numbers_from s [] = []
numbers_from s (cs ∷ css) = map (λ (c : List ℕ). number_under s (packed c)) cs ++ numbers_from (s + 1) css

unfoldable pub code_numbers : List ℕ
code_numbers = numbers_from 0 code_table
