-- `label::named::found` meets its contract. The invariant: the answer is among what is left. Assumes nothing.
use Rattle.label.proofs.Groups.{Left}
use Rattle.label.proofs.named.found.Given as goal

abbrev pub invariant-loop-p : goal.invariant-loop-p
invariant-loop-p l = Left l.name l.group l.places l.at l.p-index
