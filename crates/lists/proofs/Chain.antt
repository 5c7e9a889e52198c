-- Tests in a row, as the code makes them: one return for each that fails. Assumes nothing.
use mathlib.Core.Path.{◌≡◌, sym, ap, ◌∙◌}
use mathlib.Core.Bool.{Bool, true, false, not, ◌&&◌, ◌||◌}
use Rattle.std.specs.Prelude.{None, Some}
use borrow.Author.Tests.{not-true, not-false}
use Rattle.lists.specs.Maybe.{when}

-- the first test fails
pub stop : {a : Bool} (b : Bool) → a ≡ false → false ≡ (a && b)
stop b e = rw e

-- the first test passes: the others decide
pub after : {a b x : Bool} → a ≡ true → x ≡ b → x ≡ (a && b)
after e h = rw e h

-- the first of two ways
pub first_way : {a : Bool} (b : Bool) → a ≡ true → true ≡ (a || b)
first_way b e = rw e

pub other_way : {a b x : Bool} → a ≡ false → x ≡ b → x ≡ (a || b)
other_way e h = rw e h

-- an answer that may be missing
module _ {A : Type 0} (x : A) where
  pub unfit : {b : Bool} → false ≡ b → None ≡ when b x
  unfit e = ap (λ (t : Bool). when t x) e

  pub fit : {b : Bool} → true ≡ b → Some x ≡ when b x
  fit e = ap (λ (t : Bool). when t x) e

-- what a call has answered, of which the code tests the opposite
module _ {r b : Bool} (e : r ≡ b) where
  pub failed : not r ≡ true → b ≡ false
  failed h = sym e ∙ not-true r h

  pub passed : not r ≡ false → b ≡ true
  passed h = sym e ∙ not-false r h
