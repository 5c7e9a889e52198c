-- What the functions on a header line answer, beside the tests of the rule.
use Rattle.std.specs.Prelude.{ℕ, List, ℤ, pos, negsuc}
use Rattle.std.specs.Prelude.{Option, None, Some}
use Rattle.lists.specs.Lists.{same, place}
use Rattle.field.specs.Found.{decimal_of}
use Rattle.line.specs.Text.{cols}
use Rattle.rinex.specs.Codes.{time_systems}

-- the place of the time system of TIME OF FIRST OBS, and 6 where it is none
unfoldable pub time_system_at : List ℕ → ℕ
time_system_at l = place same (cols 49 51 l) time_systems

-- thousandths of INTERVAL, and 0 where it is unfit or not above 0
abbrev pub above : Option ℤ → ℕ
above None = 0
above (Some (pos n)) = n
above (Some (negsuc n)) = 0

unfoldable pub interval_at : List ℕ → ℕ
interval_at l = above (decimal_of 3 (cols 1 10 l))
