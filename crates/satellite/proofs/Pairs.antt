-- The two digits of a row's satellite. Assumes nothing.
use Prim.Native.Nat.{ℕ, ◌+◌, ◌*◌, ◌-◌, ◌≤◌, ◌<◌}
use mathlib.Core.Path.{◌≡◌, refl}
use mathlib.Core.Bool.{Bool, true, false, cond, ◌&&◌, and-false}
use mathlib.Core.List.{List, [], ◌∷◌}
use native.Mathlib.Omega.{arith}
use lib.Dec.{leb, ltb}
use borrow.Author.Tests.{lt-ltb, le-ltb}
use Rattle.lists.proofs.Bools.{both}
use Rattle.field.specs.Field.{is_digit, are_digits, value_of}
use Rattle.line.specs.Text.{col, cols}
use Rattle.line.proofs.Columns.{cols_window}
use Rattle.rinex.specs.Tests.{system_at, number_at, satellite_fits}
use Rattle.satellite.specs.Steps.{two_digits}

module _ (l : List ℕ) where
  two_columns : cols 2 3 l ≡ col 2 l ∷ col 3 l ∷ []
  unfolding col
  two_columns = cols_window 2 3 l

  pub first_not : is_digit (col 2 l) ≡ false → 0 ≡ two_digits l
  unfolding two_digits
  first_not h = rw (two_columns, h)

  pub second_not : is_digit (col 3 l) ≡ false → 0 ≡ two_digits l
  unfolding two_digits
  second_not h = rw (two_columns, h, and-false (is_digit (col 2 l)))

  pub digits_are : is_digit (col 2 l) ≡ true → is_digit (col 3 l) ≡ true → (col 2 l - 48) * 10 + (col 3 l - 48) ≡ two_digits l
  unfolding two_digits
  digits_are p q = rw (two_columns, p, q) (omega arith)

  pub none_there : 7 ≤ system_at l → false ≡ satellite_fits l
  unfolding satellite_fits
  none_there h = rw (le-ltb (system_at l) 7 h)

  pub some_there : system_at l < 7 → leb 1 (two_digits l) ≡ satellite_fits l
  unfolding satellite_fits two_digits number_at
  some_there h = rw (lt-ltb (system_at l) 7 h) (go (are_digits (cols 2 3 l)))
    where
      go : (b : Bool) → leb 1 (cond b (value_of 0 (cols 2 3 l)) 0) ≡ (b && leb 1 (value_of 0 (cols 2 3 l)))
      go true = refl
      go false = refl

  pub number_there : satellite_fits l ≡ true → two_digits l ≡ number_at l
  unfolding satellite_fits two_digits number_at
  number_there h =
      let p = both (ltb (system_at l) 7) _ h in
      let q = both (are_digits (cols 2 3 l)) _ p.1 in
      rw q.0
