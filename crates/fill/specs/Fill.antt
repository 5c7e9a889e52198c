-- What the second pass leaves in the lent tables, line after line. That it is the file laid out is proved in proofs/Filled.
use Rattle.std.specs.Prelude.{ℕ, zero, suc, ◌+◌, List, [], ◌∷◌, ◌++◌, map, length, set}
use Rattle.std.proofs.lemmas.List.Edits.{sets}
use Rattle.lists.specs.Maybe.{given}
use Rattle.field.specs.Found.{decimal_of}
use Rattle.line.specs.Text.{cols, cut, Raw}
use Rattle.label.specs.declared.Label.{Label}
use Rattle.label.specs.declared.Label.TheVariants.{Version, ObsTypes, FirstObs, Interval, EndOfHeader, ScaleFactor, MarkerName, Other, Unknown}
use Rattle.label.specs.Labels.{label_of}
use Rattle.header.specs.Lines.{time_system_at, interval_at}
use Rattle.rinex.specs.File.{Slot}
use Rattle.rinex.specs.Tables.{Buffers, state_of, number_of, signed_of, mark_of}
use Rattle.rinex.specs.Tests.{flag_at, count_at, epoch_time, slots_of, first_time}
use Rattle.state.specs.declared.State.{State}
use Rattle.state.specs.declared.Stage.{Stage}
use Rattle.state.specs.declared.Stage.TheVariants as stages
use Rattle.rinex.specs.Refusals.{name_at}
use Rattle.state.specs.Judge.{slots_of_row, next_at}

-- THE HEADER: what is returned by value besides the letter and the lengths
pub record HeadRead : Type 0 where
  pub first : ℕ
  pub time_system : ℕ
  pub interval_state : ℕ
  pub interval : ℕ
  pub lines : ℕ
  pub carried : ℕ

-- after one line, by its label
unfoldable pub head_after : HeadRead → List ℕ → Label → HeadRead
head_after h l Version = h
head_after h l ObsTypes = h
head_after h l FirstObs =
    record { first = given 0 (first_time l); time_system = time_system_at l; interval_state = h.interval_state; interval = h.interval; lines = h.lines; carried = h.carried }
head_after h l Interval =
    record { first = h.first; time_system = h.time_system; interval_state = 1; interval = interval_at l; lines = h.lines; carried = h.carried }
head_after h l EndOfHeader = h
head_after h l ScaleFactor = h
head_after h l MarkerName =
    record { first = h.first; time_system = h.time_system; interval_state = h.interval_state; interval = h.interval; lines = h.lines + 1; carried = h.carried + (length (cut l) + 1) }
head_after h l Other =
    record { first = h.first; time_system = h.time_system; interval_state = h.interval_state; interval = h.interval; lines = h.lines + 1; carried = h.carried + (length (cut l) + 1) }
head_after h l Unknown = h

-- the carried bytes after one line
unfoldable pub carried_put : HeadRead → List ℕ → Label → List ℕ → List ℕ
carried_put h l Version b = b
carried_put h l ObsTypes b = b
carried_put h l FirstObs b = b
carried_put h l Interval b = b
carried_put h l EndOfHeader b = b
carried_put h l ScaleFactor b = b
carried_put h l MarkerName b = sets b h.carried (cut l ++ (10 ∷ []))
carried_put h l Other b = sets b h.carried (cut l ++ (10 ∷ []))
carried_put h l Unknown b = b

-- up to n lines
unfoldable pub head_from : ℕ → HeadRead → List Raw → HeadRead
head_from zero h ws = h
head_from (suc n) h [] = h
head_from (suc n) h (w ∷ ws) = head_from n (head_after h w.bytes (label_of w.bytes)) ws

unfoldable pub carried_from : ℕ → HeadRead → List ℕ → List Raw → List ℕ
carried_from zero h b ws = b
carried_from (suc n) h b [] = b
carried_from (suc n) h b (w ∷ ws) = carried_from n (head_after h w.bytes (label_of w.bytes)) (carried_put h w.bytes (label_of w.bytes) b) ws

unfoldable pub nothing_read : HeadRead
nothing_read = record { first = 0; time_system = 0; interval_state = 0; interval = 0; lines = 0; carried = 0 }

-- THE DATA: an epoch record, a row, a line of an event
unfoldable pub epoch_put : State → List ℕ → Buffers → Buffers
epoch_put c l b =
    let i = c.used.epochs in
    record {
      codes = b.codes;
      times = set b.times i (number_of (epoch_time l));
      time_states = set b.time_states i (state_of (epoch_time l));
      flags = set b.flags i (flag_at l);
      counts = set b.counts i (count_at l);
      clocks = set b.clocks i (signed_of (decimal_of 12 (cols 42 56 l)));
      clock_states = set b.clock_states i (state_of (decimal_of 12 (cols 42 56 l)));
      satellites = b.satellites;
      numbers = b.numbers;
      states = b.states;
      losses = b.losses;
      strengths = b.strengths;
      carried = b.carried;
    }

unfoldable pub row_put : State → List ℕ → Buffers → Buffers
row_put c l b =
    let ss = slots_of (slots_of_row c l) 4 l in
    record {
      codes = b.codes;
      times = b.times;
      time_states = b.time_states;
      flags = b.flags;
      counts = b.counts;
      clocks = b.clocks;
      clock_states = b.clock_states;
      satellites = set b.satellites c.used.rows (name_at l);
      numbers = sets b.numbers c.used.slots (map (λ (s : Slot). signed_of s.value) ss);
      states = sets b.states c.used.slots (map (λ (s : Slot). state_of s.value) ss);
      losses = sets b.losses c.used.slots (map (λ (s : Slot). mark_of s.loss) ss);
      strengths = sets b.strengths c.used.slots (map (λ (s : Slot). mark_of s.strength) ss);
      carried = b.carried;
    }

unfoldable pub line_put : State → List ℕ → Buffers → Buffers
line_put c l b =
    record {
      codes = b.codes;
      times = b.times;
      time_states = b.time_states;
      flags = b.flags;
      counts = b.counts;
      clocks = b.clocks;
      clock_states = b.clock_states;
      satellites = b.satellites;
      numbers = b.numbers;
      states = b.states;
      losses = b.losses;
      strengths = b.strengths;
      carried = sets b.carried c.used.carried (cut l ++ (10 ∷ []));
    }

unfoldable pub put_at : Stage → State → List ℕ → Buffers → Buffers
put_at stages.Version c l b = b
put_at stages.Record c l b = b
put_at stages.Continuation c l b = b
put_at stages.Epoch c l b = epoch_put c l b
put_at stages.Row c l b = row_put c l b
put_at stages.Event c l b = line_put c l b

-- line after line
unfoldable pub filled_from : State → Buffers → List Raw → Buffers
filled_from c b [] = b
filled_from c b (w ∷ ws) = filled_from (next_at c.stage c w.bytes) (put_at c.stage c w.bytes b) ws
