-- Entries of a table, counted.
use Rattle.std.specs.Prelude.{ℕ, ◌+◌, cond, List, [], ◌∷◌, ltb}

-- how many are below a bound
unfoldable pub belows : ℕ → List ℕ → ℕ
belows bound [] = 0
belows bound (x ∷ xs) = cond (ltb x bound) 1 0 + belows bound xs
