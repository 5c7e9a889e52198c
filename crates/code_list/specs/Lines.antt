-- What the functions on a list's line answer, beside the tests of the rule.
use Rattle.std.specs.Prelude.{ℕ, ◌+◌, ◌*◌, ◌≤◌, ◌≡◌, Bool, true, List, map, length, take, drop}
use Rattle.std.proofs.lemmas.List.Edits.{sets}
use Rattle.lists.specs.Lists.{All}
use Rattle.rinex.specs.Codes.{is_code}
use Rattle.rinex.specs.Tables.{packed}
use Rattle.rinex.specs.Tests.{system_at, codes_at, in_line, list_count, list_fits, next_fits}

-- the codes of a list stand packed in a table from a place on
pub record CodesStored (table : List ℕ) (from : ℕ) (cs : List (List ℕ)) : Type 0 where
  pub within : from + length cs ≤ length table
  pub codes : All (λ (c : List ℕ). is_code c ≡ true) cs
  pub entries : take (length cs) (drop from table) ≡ map packed cs

-- a list's line, judged, with its codes put at the system's places where it is fit
pub record Listed (letter : ℕ) (l old new : List ℕ) (fits : Bool) : Type 0 where
  pub told : fits ≡ list_fits letter l
  pub put : fits ≡ true → new ≡ sets old (64 * system_at l) (map packed (codes_at (in_line (list_count l)) 7 l))

-- a continuation of a system's list of which these codes stand already and n are left
pub record Continued (system : ℕ) (before : List (List ℕ)) (n : ℕ) (l old new : List ℕ) (fits : Bool) : Type 0 where
  pub told : fits ≡ next_fits system before n l
  pub put : fits ≡ true → new ≡ sets old (64 * system + length before) (map packed (codes_at (in_line n) 7 l))
