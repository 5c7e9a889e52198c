-- `fill::data::fill_data` meets its contract: what is stored, with the lines that are left, ends alike. Assumes nothing.
use Prim.Native.Nat.{◌-◌}
use lib.ListN.{length}
use Rattle.rinex.specs.Lent.{buffers}
use Rattle.fill.proofs.Loops.{Left}
use Rattle.fill.proofs.data.fill_data.Given as goal

abbrev pub invariant-loop-at : goal.invariant-loop-at
invariant-loop-at l = Left l.text l.initial.c l.initial.at l.c l.at (λ codes. buffers codes l.initial.times l.initial.time_states l.initial.flags l.initial.tallies l.initial.clocks l.initial.clock_states l.initial.satellites l.initial.numbers l.initial.states l.initial.losses l.initial.strengths l.initial.carried) (λ codes. buffers codes l.times l.time_states l.flags l.tallies l.clocks l.clock_states l.satellites l.numbers l.states l.losses l.strengths l.carried)

abbrev pub decreases-loop-at : goal.decreases-loop-at
decreases-loop-at l = length l.text - l.at
