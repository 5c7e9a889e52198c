-- The buffers that one epoch is written from.
use Rattle.std.specs.Prelude.{ℕ, List, []}
use Rattle.rinex.specs.Tables.{Buffers}
use Rattle.rinex.specs.Lent.{buffers}
use Rattle.lent.specs.declared.Rows.{Rows}

-- the codes, the rows with their slots, and the carried lines; the epoch itself is handed in by value
abbrev pub alone_in : List ℕ → Rows → List ℕ → Buffers
alone_in codes r carried = buffers codes [] [] [] [] [] [] r.satellites.now r.slots.numbers.now r.slots.states.now r.slots.losses.now r.slots.strengths.now carried
