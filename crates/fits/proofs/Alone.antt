-- The parts of the buffers that a function is lent, beside nothing.
use mathlib.Core.List.{[]}
use Rattle.rinex.specs.Tables.{Buffers}
use Rattle.rinex.specs.Lent.{buffers, of_rows}

-- of all buffers those of rows and slots alone, and these with those of the epoch table
abbrev pub rows_alone : Buffers → Buffers
rows_alone b = of_rows b.satellites b.numbers b.states b.losses b.strengths

abbrev pub data_alone : Buffers → Buffers
data_alone b = buffers [] b.times b.time_states b.flags b.counts b.clocks b.clock_states b.satellites b.numbers b.states b.losses b.strengths []
