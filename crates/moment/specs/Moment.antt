-- Dates and times: "Gregorian, 1980 to 2099", held "as the count of 10⁻⁷ s since 1980-01-01 00:00:00, every day having 86,400 s".
use Rattle.std.specs.Prelude.{ℕ, zero, suc, ◌+◌, ◌-◌, ◌*◌, ◌%◌, ◌≤◌, ◌<◌, ◌≡◌, Bool, cond, not, ◌&&◌, ◌||◌, List, [], ◌∷◌, eqb, get_or}
use Rattle.field.specs.Field.{Whole, Second}
use Rattle.moment.specs.declared.Date.{Date}

-- a leap year of the Gregorian calendar
unfoldable pub leap : ℕ → Bool
leap y = eqb (y % 4) 0 && (not (eqb (y % 100) 0) || eqb (y % 400) 0)

-- the days of the year that is k years after 1980
unfoldable pub year_days : ℕ → ℕ
year_days k = cond (leap (1980 + k)) 366 365

-- the days of the month that is k months after January, in a leap year or another
unfoldable pub month_days : Bool → ℕ → ℕ
month_days l k = get_or (31 ∷ cond l 29 28 ∷ 31 ∷ 30 ∷ 31 ∷ 30 ∷ 31 ∷ 31 ∷ 30 ∷ 31 ∷ 30 ∷ 31 ∷ []) k 0

-- a date and a time that there are
pub record Fit (d : Date) : Type 0 where
  pub year_from : 1980 ≤ d.year
  pub year_to : d.year ≤ 2099
  pub month_from : 1 ≤ d.month
  pub month_to : d.month ≤ 12
  pub day_from : 1 ≤ d.day
  pub day_to : d.day ≤ month_days (leap d.year) (d.month - 1)
  pub hours : d.hour < 24
  pub minutes : d.minute < 60
  pub seconds : d.ticks < 600000000

-- f 0 + .. + f (k - 1)
unfoldable pub sum_to : (ℕ → ℕ) → ℕ → ℕ
sum_to f zero = 0
sum_to f (suc k) = sum_to f k + f k

-- the days from 1980-01-01 to a date
unfoldable pub days : Date → ℕ
days d = sum_to year_days (d.year - 1980) + sum_to (month_days (leap d.year)) (d.month - 1) + (d.day - 1)

-- the count of 10⁻⁷ s
unfoldable pub instant : Date → ℕ
instant d = ((days d * 24 + d.hour) * 60 + d.minute) * 600000000 + d.ticks

-- the time that the fields of year, month, day, hour, minute and second spell
pub record Time (y mo d h mi s : List ℕ) (t : ℕ) : Type 0 where
  pub date : Date
  pub year : Whole y date.year
  pub month : Whole mo date.month
  pub day : Whole d date.day
  pub hour : Whole h date.hour
  pub minute : Whole mi date.minute
  pub second : Second s date.ticks
  pub fit : Fit date
  pub time : t ≡ instant date
