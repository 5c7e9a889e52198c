-- Dates and moments, computed: that they are those of the rule is proved in proofs/.
use Rattle.std.specs.Prelude.{ℕ, zero, suc, ◌+◌, ◌-◌, ◌/◌, ◌%◌, Bool, cond, ◌&&◌, List, leb, ltb}
use Rattle.std.specs.Prelude.{Option}
use Rattle.lists.specs.Maybe.{when, ◌>>=◌}
use Rattle.field.specs.Found.{whole_of, second_of}
use Rattle.moment.specs.declared.Date.{Date}
use Rattle.moment.specs.Moment.{leap, year_days, month_days, instant}

-- a date and a time that there are
unfoldable pub is_date : Date → Bool
is_date d =
    leb 1980 d.year && (leb d.year 2099 && (leb 1 d.month && (leb d.month 12
    && (leb 1 d.day && (leb d.day (month_days (leap d.year) (d.month - 1))
    && (ltb d.hour 24 && (ltb d.minute 60 && ltb d.ticks 600000000)))))))

-- the count of 10⁻⁷ s of such a date
abbrev pub instant_of : Date → Option ℕ
instant_of d = when (is_date d) (instant d)

-- the time of six fields, where they are fit
unfoldable pub time_in : (y mo d h mi s : List ℕ) → Option ℕ
time_in y mo d h mi s = do
  year ← whole_of y
  month ← whole_of mo
  day ← whole_of d
  hour ← whole_of h
  minute ← whole_of mi
  ticks ← second_of s
  instant_of (record { year = year; month = month; day = day; hour = hour; minute = minute; ticks = ticks })

-- a block and a place in it
pub record Spot : Type 0 where
  pub block : ℕ
  pub rest : ℕ

-- where place n lies among k blocks of f a, f (a + 1), .. places
unfoldable pub spot : (ℕ → ℕ) → ℕ → ℕ → ℕ → Spot
spot f zero a n = record { block = a; rest = n }
spot f (suc k) a n = cond (ltb n (f a)) (record { block = a; rest = n }) (spot f k (a + 1) (n - f a))

-- the date at a count of 10⁻⁷ s
unfoldable pub date_at : ℕ → Date
date_at t =
    let y : Spot = spot year_days 120 0 (t / 864000000000) in
    let m : Spot = spot (month_days (leap (1980 + y.block))) 12 0 y.rest in
    record {
      year = 1980 + y.block;
      month = 1 + m.block;
      day = 1 + m.rest;
      hour = t / 36000000000 % 24;
      minute = t / 600000000 % 60;
      ticks = t % 600000000;
    }
