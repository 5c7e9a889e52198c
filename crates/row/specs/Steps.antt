-- What the inner functions on a slot answer, here and in `row_store`.
use Rattle.std.specs.Prelude.{ℕ, ◌+◌, Bool, ◌&&◌, List, get_or, take}
use Rattle.field.specs.Found.{mark_fits}
use Rattle.line.specs.Text.{cols}
use Rattle.rinex.specs.Tests.{value_fits}

-- the 16 columns of the slot from column a on
abbrev pub slot_columns : ℕ → List ℕ → List ℕ
slot_columns a l = cols a (a + 15) l

-- 16 columns are a fit slot
unfoldable pub slot_fits : List ℕ → Bool
slot_fits s = value_fits (take 14 s) && (mark_fits 7 (get_or s 14 0) && mark_fits 9 (get_or s 15 0))
