-- What the codes of a header leave in their lent table.
use Rattle.std.specs.Prelude.{ℕ, ◌+◌, List, [], ◌∷◌, take, drop}
use Rattle.std.proofs.lemmas.List.Edits.{sets}

-- the codes of each system from the table, in order; p is the place of the first list's first code
unfoldable pub codes_from : ℕ → List ℕ → List ℕ → List ℕ → List ℕ
codes_from p [] table b = b
codes_from p (n ∷ ns) table b = codes_from (p + 64) ns table (sets b p (take n (drop p table)))
