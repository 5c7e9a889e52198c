-- `judge::heading::judge_header` meets its contract. The invariant: what is left of the text is judged as the whole. Assumes nothing.
use Prim.Native.Nat.{◌-◌}
use lib.ListN.{length}
use Rattle.judge.proofs.Opening.{Opens}
use Rattle.judge.proofs.heading.judge_header.Given as goal

abbrev pub invariant-loop-room : goal.invariant-loop-room
invariant-loop-room l = Opens l.text l.room l.table l.c

abbrev pub decreases-loop-room : goal.decreases-loop-room
decreases-loop-room l = length l.text - l.c.at
