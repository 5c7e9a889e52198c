-- What the engine is handed for a slot, "asked for by row and code"; and for a code of one system, for all rows at once.
use Rattle.std.specs.Prelude.{ℕ, zero, suc, cond, List, [], ◌∷◌, map, eqb, leb, length, get_or, ℤ, pos, Float}
use Rattle.std.specs.Prelude.{Option, None, Some}
use Rattle.lists.specs.Lists.{place}
use Rattle.float.specs.Nearest.{nearest_to}
use Rattle.rinex.specs.File.{Row, File}
use Rattle.rinex.specs.Tables.{packed, all_rows}

-- "one of six things", a seventh for a row that doesn't exist, and the refusal 20
pub data Answer : Type 0 where
  metres cycles hertz strength : Float → Answer
  blank : Answer
  not_declared : Answer
  no_row : Answer
  unspelled : Answer

-- "the whole number, converted exactly, divided once by 1000"
unfoldable pub thousandth : ℤ → Float
thousandth z = nearest_to z 1000

-- the number of each answer
abbrev pub kind : Answer → ℕ
kind (metres x) = 1
kind (cycles x) = 2
kind (hertz x) = 3
kind (strength x) = 4
kind blank = 5
kind not_declared = 6
kind no_row = 7
kind unspelled = 20

-- its float; where it has none, that of 0 thousandths, which is +0
abbrev pub float : Answer → Float
float (metres x) = x
float (cycles x) = x
float (hertz x) = x
float (strength x) = x
float blank = thousandth (pos 0)
float not_declared = thousandth (pos 0)
float no_row = thousandth (pos 0)
float unspelled = thousandth (pos 0)

-- "code in metres, phase in cycles, Doppler in hertz, strength as printed", by the code's first byte: C, L, D, or S
unfoldable pub measured : ℕ → Float → Answer
measured b x = cond (eqb b 67) (metres x) (cond (eqb b 76) (cycles x) (cond (eqb b 68) (hertz x) (strength x)))

abbrev pub valued : ℕ → Option ℤ → Answer
valued b None = blank
valued b (Some z) = measured b (thousandth z)

-- the answer where i is the place of the code in the row's list
unfoldable pub answer_at : List (List ℕ) → Row → ℕ → Answer
answer_at codes r i =
    cond (leb (length codes) i)
    not_declared
    (valued (get_or (get_or codes i []) 0 0) (get_or r.slots i (record { value = None; loss = None; strength = None })).value)

-- the answer of a row: not declared, blank, or a value; the code is packed
abbrev pub answer_of : List (List (List ℕ)) → (code : ℕ) → Row → Answer
answer_of lists code r = answer_at (get_or lists r.system []) r (place eqb code (map packed (get_or lists r.system [])))

-- or no such row; rows count from 0
abbrev pub row_answer : List (List (List ℕ)) → List Row → ℕ → ℕ → Answer
row_answer lists [] n code = no_row
row_answer lists (r ∷ rs) zero code = answer_of lists code r
row_answer lists (r ∷ rs) (suc n) code = row_answer lists rs n code

unfoldable pub answer : File → ℕ → ℕ → Answer
answer f row code = row_answer f.head.lists (all_rows f.epochs) row code

-- for a code of system s: not declared, where the row is of another system
abbrev pub answer_in : List (List (List ℕ)) → (s code : ℕ) → Row → Answer
answer_in lists s code r = cond (eqb r.system s) (answer_of lists code r) not_declared

-- the answers of all rows
unfoldable pub answers : File → (s code : ℕ) → List Answer
answers f s code = map (answer_in f.head.lists s code) (all_rows f.epochs)
