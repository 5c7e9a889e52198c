-- `judge::data::judge_data` meets its contract. The invariant: what is left of the text is judged as the whole. Assumes nothing.
use Prim.Native.Nat.{◌-◌}
use lib.ListN.{length}
use Rattle.judge.proofs.Judging.{Loop}
use Rattle.judge.proofs.data.judge_data.Given as goal

abbrev pub invariant-loop-c : goal.invariant-loop-c
invariant-loop-c l = Loop l.text l.room l.initial.c l.seen l.c

abbrev pub decreases-loop-c : goal.decreases-loop-c
decreases-loop-c l = length l.text - l.c.at
