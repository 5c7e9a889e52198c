-- SLOT and COLUMN as they are called: what the enum's cases mean, and the replies of a column, told in a struct.
use Rattle.std.specs.Prelude.{ℕ, List, Float}
use Rattle.std.specs.Prelude.{Result, Ok, Err}
use Rattle.rinex.specs.Answers.{Answer, metres, cycles, hertz, strength, blank, not_declared, no_row, unspelled}
use Rattle.rinex.specs.Promises.{ColumnReply, filled, no_tables, no_room, column_number, Column}
use Rattle.slot_answers.specs.declared.Answer as handed
use Rattle.slot_answers.specs.declared.Answer.TheVariants.{Metres, Cycles, Hertz, Strength, Blank, NotDeclared, NoRow}
use Rattle.slot_answers.specs.declared.Unspelled.{Unspelled}
use Rattle.slot_answers.specs.declared.Reply.{Reply}
use Rattle.slot_answers.specs.declared.Unanswered.{Unanswered}
use Rattle.slot_answers.specs.declared.Unanswered.TheVariants.{NoText, NoRoom}

-- the rule's answer for each case
abbrev pub meant : handed.Answer → Answer
meant (Metres x) = metres x
meant (Cycles x) = cycles x
meant (Hertz x) = hertz x
meant (Strength x) = strength x
meant Blank = blank
meant NotDeclared = not_declared
meant NoRow = no_row

-- and with the refusal around it
abbrev pub meant_of : Result handed.Answer Unspelled → Answer
meant_of (Ok a) = meant a
meant_of (Err e) = unspelled

-- the two buffers that are lent for a column
abbrev pub column_of : List ℕ → List Float → Column
column_of kinds floats = record { kinds = kinds; floats = floats }

-- the reply as it is told; what it does not say is 0
abbrev pub told : ColumnReply → Reply
told (filled n) = record { number = column_number (filled n); count = n }
told no_tables = record { number = column_number no_tables; count = 0 }
told no_room = record { number = column_number no_room; count = 0 }

-- the reply that a result stands for
abbrev pub column_meant : Result ℕ Unanswered → ColumnReply
column_meant (Ok n) = filled n
column_meant (Err NoText) = no_tables
column_meant (Err NoRoom) = no_room
