-- The dates of the paper's list "Both sides of each edge", and the first and the last date, as a table. Assumes nothing.
use Prim.Native.Nat.{ℕ}
use mathlib.Core.Path.{◌≡◌, refl}
use mathlib.Core.List.{[], ◌∷◌}
use Rattle.std.specs.Prelude.{Option, None, Some}
use Rattle.moment.specs.Moment.{leap, year_days, month_days, sum_to, days, instant}
use Rattle.moment.specs.Found.{is_date, instant_of}

pub at : ℕ → ℕ → ℕ → ℕ → ℕ → ℕ → Option ℕ
unfolding leap year_days month_days sum_to days instant is_date
at y m d h i t = instant_of (record { year = y; month = m; day = d; hour = h; minute = i; ticks = t })

abbrev pub Dates : Type 0
Dates = at 2006 3 24 13 10 540000000 ∷ at 1980 1 1 0 0 0 ∷ at 2023 2 29 0 0 0 ∷ at 2024 2 29 0 0 0 ∷ at 2000 2 29 0 0 0
    ∷ at 2099 12 31 23 59 599999999 ∷ at 2100 1 1 0 0 0 ∷ at 1979 12 31 23 59 599999999 ∷ at 1980 1 1 0 0 599999999 ∷ at 1980 1 1 0 0 600000000
    ∷ at 1980 1 1 23 0 0 ∷ at 1980 1 1 24 0 0 ∷ at 1980 1 1 0 59 0 ∷ at 1980 1 1 0 60 0 ∷ at 1980 1 0 0 0 0 ∷ at 1980 0 1 0 0 0 ∷ at 1980 13 1 0 0 0 ∷ []
    ≡ Some 8276730540000000 ∷ Some 0 ∷ None ∷ Some 13936320000000000 ∷ Some 6362496000000000
    ∷ Some 37869119999999999 ∷ None ∷ None ∷ Some 599999999 ∷ None
    ∷ Some 828000000000 ∷ None ∷ Some 35400000000 ∷ None ∷ None ∷ None ∷ None ∷ []

pub dates : Dates
unfolding at
dates = refl
