-- What the inner function on a row's satellite answers; its promise does not leave this crate.
use Rattle.std.specs.Prelude.{ℕ, cond, List}
use Rattle.field.specs.Field.{are_digits, value_of}
use Rattle.line.specs.Text.{cols}

-- the number of columns 2 and 3, and 0 where they are no digits
unfoldable pub two_digits : List ℕ → ℕ
two_digits l = cond (are_digits (cols 2 3 l)) (value_of 0 (cols 2 3 l)) 0
