-- Dates as they are spelled. Assumes nothing.
use Prim.Native.Nat.{ℕ, ◌≤◌, ◌<◌, ◌^◌}
use mathlib.Core.Path.{◌≡◌, ap, ◌∙◌}
use mathlib.Core.Bool.{true}
use borrow.Author.Tests.{ltb-true}
use lib.ListN.{length}
use lib.IntN.{pos}
use Rattle.write_field.specs.Normal.{whole, decimal}
use Rattle.write_field.proofs.Written.{room_whole, whole_length, second_fits, decimal_length}
use Rattle.moment.specs.declared.Date.{Date}
use Rattle.moment.specs.Moment.{Fit, instant}
use Rattle.moment.specs.Found.{date_at}
use Rattle.moment.proofs.DateAt.{date_at_lem, date_there}
use Rattle.rinex.specs.Fit.{times_end, is_time}

pub whole_long : (w n : ℕ) → 1 ≤ w → n < 10 ^ w → length (whole w n) ≡ w
whole_long w n h k = whole_length w n (room_whole w n (record { column = h; below = k }))

pub ticks_long : (w n : ℕ) → 10 ≤ w → n < 600000000 → length (decimal w 7 (pos n)) ≡ w
ticks_long w n h k = decimal_length w 7 (pos n) (second_fits w n h k)

-- the date at a time
pub time_date : (t : ℕ) (d : Date) → Fit d × (t ≡ instant d) → date_at t ≡ d
time_date t d h = ap date_at h.1 ∙ date_at_lem d h.0

pub time_there : (t : ℕ) → is_time t ≡ true → ((d : Date) → Fit d → t ≡ instant d → ⊥) → ⊥
time_there t h g = let a = date_there t (ltb-true t times_end h) in g (date_at t) a.0 a.1
