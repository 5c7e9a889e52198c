-- `fill::heading::fill_header` meets its contract. The invariant: what is read and stored, with the lines that are left, ends alike. Assumes
-- nothing.
use Rattle.fill.proofs.Loops.{Headed}
use Rattle.fill.proofs.heading.fill_header.Given as goal

abbrev pub invariant-loop : goal.invariant-loop
invariant-loop l = Headed l.text l.lines l.initial.carried l.carried l.h l.at l.counter
