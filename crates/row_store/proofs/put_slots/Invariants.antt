-- The invariant of `row_store::put_slots`: each table, with the slots that are left stored, is what it has to be.
use Rattle.row_store.proofs.Tables.{Left}
use Rattle.row_store.proofs.put_slots.Given as goal

abbrev pub invariant-loop-i : goal.invariant-loop-i
invariant-loop-i l = Left l.line l.n l.at l.initial.numbers l.initial.states l.initial.losses l.initial.strengths l.numbers l.states l.losses l.strengths l.i
