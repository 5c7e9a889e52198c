-- What the second pass asks of a text and of a state, and what one line of it leaves.
use Rattle.std.specs.Prelude.{ℕ, ◌^◌, ◌≤◌, ◌<◌, ◌≡◌, true, false, List, map, length}
use Rattle.lists.specs.Lists.{All}
use Rattle.line.specs.Text.{Line, split, raw}
use Rattle.label.specs.declared.Label.{Label}
use Rattle.rinex.specs.Lent.{buffers}
use Rattle.rinex.specs.Tables.{Buffers, state_of, number_of}
use Rattle.rinex.specs.Tests.{satellite_fits, slots_fit}
use Rattle.fill.specs.declared.HeadRest.{HeadRest}
use Rattle.state.specs.declared.State.{State}
use Rattle.state.specs.declared.Stage.TheVariants as stages
use Rattle.state.specs.Judge.{in_heading, slots_of_row, carried_with}
use Rattle.fill.specs.Fill.{HeadRead, head_after, carried_put, carried_from, nothing_read, filled_from}
use Rattle.fill_codes.specs.Codes.{codes_from}
use Rattle.judge.specs.Ending.{Ended, header_end}

-- THE HEADER: what is returned of it by value
abbrev pub rest_of : HeadRest → HeadRead
rest_of h =
    record {
      first = h.first;
      time_system = h.time_system;
      interval_state = state_of h.interval;
      interval = number_of h.interval;
      lines = h.lines;
      carried = h.carried;
    }

-- each line of a text ends with its LF and may stand in a text
pub record Lined (t : List ℕ) : Type 0 where
  pub lines : List (List ℕ)
  pub are : split t ≡ map raw lines
  pub each : All Line lines

-- after one line of this label
pub record HeadPut (h r : HeadRest) (l : List ℕ) (k : Label) (old new : List ℕ) : Type 0 where
  pub head : rest_of r ≡ head_after (rest_of h) l k
  pub carried : new ≡ carried_put (rest_of h) l k old

-- A LINE OF THE DATA, by its stage. What the line's faultlessness gives
pub record Puttable (c : State) (l : List ℕ) : Type 0 where
  pub stage : in_heading c.stage ≡ false
  pub seven : length c.lengths ≡ 7
  pub few : slots_of_row c l ≤ 64
  pub slots : c.used.slots < 2 ^ 40
  pub satellite : c.stage ≡ stages.Row → satellite_fits l ≡ true
  pub fit : c.stage ≡ stages.Row → slots_fit (slots_of_row c l) 4 l ≡ true
  pub carried : c.stage ≡ stages.Event → carried_with c l < 2 ^ 64

-- THE WHOLE: the codes and the header's carried lines, then the data
abbrev pub head_put : Ended → List ℕ → Buffers → Buffers
head_put e t b =
    buffers (codes_from 0 e.state.lengths e.table b.codes) b.times b.time_states b.flags b.counts b.clocks b.clock_states
    b.satellites b.numbers b.states b.losses b.strengths (carried_from e.lines nothing_read b.carried (split t))

abbrev pub second_pass : List ℕ → Buffers → Buffers
second_pass t b = filled_from (header_end t).state (head_put (header_end t) t b) (header_end t).rest
