-- What the inner functions promise; no public promise stands on it.
use Rattle.std.specs.Prelude.{ℕ, ◌+◌, ◌<◌, ◌≡◌}
use Rattle.std.specs.Prelude.{Option, None, Some}
use Rattle.moment.specs.Moment.{Fit, sum_to, days}
use Rattle.moment.specs.declared.Date.{Date}

-- place n in a row of count blocks, of f 0, f 1, .. places, is place x of block a
pub record InBlock (f : ℕ → ℕ) (count n a x : ℕ) : Type 0 where
  pub sum : sum_to f a + x ≡ n
  pub rest : x < f a
  pub block : a < count

-- the first tick of a day
abbrev pub midnight : ℕ → ℕ → ℕ → Date
midnight y m d = record { year = y; month = m; day = d; hour = 0; minute = 0; ticks = 0 }

-- the number of a day that there is
abbrev pub Numbered : ℕ → ℕ → ℕ → Option ℕ → Type 0
Numbered y m d (Some n) = Fit (midnight y m d) × (n ≡ days (midnight y m d))
Numbered y m d None = Fit (midnight y m d) → ⊥
