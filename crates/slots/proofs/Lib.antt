-- Laws of answers. SlotPlaces: where the slots of rows begin, one row after the other; CodePlaces: where a code stands among some.
-- ColumnTurns: the answers of a column, one row after the other, as a loop stores them.
-- HeldAnswers: the rule's answers, found in the tables from place to place; FitRows: what fit tables give to those that look there.
-- SlotReplies and ColumnReplies: each reply keeps its promise. Settled: one answer, and one column.
mod SlotPlaces
mod CodePlaces
mod ColumnTurns
mod HeldAnswers
mod FitRows
mod SlotReplies
mod ColumnReplies
pub mod Settled
