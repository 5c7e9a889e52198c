-- The promises of writing.
use Rattle.std.specs.Prelude.{ℕ, ◌^◌, ◌≤◌, ◌<◌, ◌≡◌, Bool, cond, List}

-- it tells whether the field holds the number; if so its columns are the spelling, else they stay
pub record WritesField (fits : Bool) (spelling old new : List ℕ) (told : Bool) : Type 0 where
  pub reply : told ≡ fits
  pub columns : new ≡ cond fits spelling old

-- n has k digits, and 0 has one
pub record HasDigits (n k : ℕ) : Type 0 where
  pub some_digit : 1 ≤ k
  pub below : n < 10 ^ k
  pub fewest : (j : ℕ) → 1 ≤ j → n < 10 ^ j → k ≤ j
