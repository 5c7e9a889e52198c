-- The two replies, as the functions make them.
use Rattle.std.specs.Prelude.{ℕ, [], ◌∷◌}
use Rattle.rinex.specs.Tables.{state_of, number_of}
use Rattle.rinex.specs.declared.Head.{Head}
use Rattle.rinex.specs.declared.Counts.{Counts}
use Rattle.judge.specs.declared.whole.Whole.{Whole}
use Rattle.fill.specs.declared.HeadRest as filled
use Rattle.read_reply.specs.declared.Reply.{Reply}

-- what a reply of the other kind says is 0
abbrev pub no_head : Head
no_head = record { letter = 0; lengths = 0 ∷ 0 ∷ 0 ∷ 0 ∷ 0 ∷ 0 ∷ 0 ∷ []; first = 0; time_system = 0; interval_state = 0; interval = 0; lines = 0 }

abbrev pub no_counts : Counts
no_counts = record { epochs = 0; rows = 0; slots = 0; carried = 0 }

abbrev pub refusing : (number line : ℕ) → Reply
refusing n k = record { number = n; line = k; head = no_head; counts = no_counts }

abbrev pub taking : Whole → filled.HeadRest → Reply
taking w h =
    record {
      number = 0;
      line = 0;
      head =
          record {
            letter = w.from.state.letter;
            lengths = w.from.state.lengths;
            first = h.first;
            time_system = h.time_system;
            interval_state = state_of h.interval;
            interval = number_of h.interval;
            lines = h.lines;
          };
      counts = w.used;
    }
