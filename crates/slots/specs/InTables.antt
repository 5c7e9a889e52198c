-- Answers as they are found in the tables, from place to place. That they are those of the rule is proved in proofs/.
use Rattle.std.specs.Prelude.{ℕ, zero, suc, ◌+◌, ◌/◌, cond, List, [], ◌∷◌, eqb, ℤ, get_or}
use Rattle.rinex.specs.Answers.{Answer, not_declared}
use Rattle.rinex.specs.Fit.{row_codes}
use Rattle.slot_answers.specs.AtPlace.{slot_answer}

-- the place behind the slots of k rows from row j on, whose slots begin at place i
unfoldable pub slots_before : (lengths satellites : List ℕ) → (k j i : ℕ) → ℕ
slots_before lengths satellites zero j i = i
slots_before lengths satellites (suc k) j i = slots_before lengths satellites k (j + 1) (i + row_codes lengths satellites j)

-- row j of a column of system s, whose slots begin at place i; the code is at place p of the system's list
abbrev pub column_answer : (lengths satellites : List ℕ) → List ℤ → List ℕ → (s p code j i : ℕ) → Answer
column_answer lengths satellites numbers states s p code j i = cond (eqb (get_or satellites j 0 / 100) s) (slot_answer numbers states i (row_codes lengths satellites j) p code) not_declared

-- k rows from row j on
unfoldable pub column_from : (lengths satellites : List ℕ) → List ℤ → List ℕ → (s p code k j i : ℕ) → List Answer
column_from lengths satellites numbers states s p code zero j i = []
column_from lengths satellites numbers states s p code (suc k) j i =
    column_answer lengths satellites numbers states s p code j i ∷ column_from lengths satellites numbers states s p code k (j + 1) (i + row_codes lengths satellites j)
