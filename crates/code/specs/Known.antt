-- A place in the table of codes, as numbers.
use Rattle.std.specs.Prelude.{ℕ, ◌≤◌, ◌<◌, get_or}
use Rattle.rinex.specs.CodeNumbers.{code_numbers}

-- those before the place `low` are below a number, and none from the place `high` on is; there are 330
pub record Around (number low high : ℕ) : Type 0 where
  pub order : low ≤ high
  pub within : high ≤ 330
  pub below : (i : ℕ) → i < low → get_or code_numbers i 0 < number
  pub from : (i : ℕ) → high ≤ i → i < 330 → number ≤ get_or code_numbers i 0
