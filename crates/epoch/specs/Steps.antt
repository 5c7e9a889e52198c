-- What the inner functions on an epoch record answer; no promise of theirs leaves this crate.
use Rattle.std.specs.Prelude.{ℕ, Bool, ◌&&◌, List, eqb}
use Rattle.lists.specs.Maybe.{is_given}
use Rattle.field.specs.Found.{whole_of}
use Rattle.line.specs.Text.{col, cols}

-- the columns between the fields of an epoch record's time are blank
unfoldable pub gaps_blank : List ℕ → Bool
gaps_blank l = eqb (col 7 l) 32 && (eqb (col 10 l) 32 && (eqb (col 13 l) 32 && eqb (col 16 l) 32))

unfoldable pub count_fits : List ℕ → Bool
count_fits l = is_given (whole_of (cols 33 35 l))
