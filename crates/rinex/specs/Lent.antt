-- How tables are handed over: the head and the counts by value, the buffers lent.
use Rattle.std.specs.Prelude.{ℕ, ◌≤◌, List, [], ℤ, length}
use Rattle.rinex.specs.declared.Head.{Head}
use Rattle.rinex.specs.declared.Counts as handed
use Rattle.rinex.specs.declared.EpochEntry.{EpochEntry}
use Rattle.rinex.specs.Tables.{FlatHead, FlatEpoch, Counts, Buffers}

abbrev pub head_of : Head → FlatHead
head_of h =
    record {
      letter = h.letter;
      lengths = h.lengths;
      first = h.first;
      time_system = h.time_system;
      interval_state = h.interval_state;
      interval = h.interval;
      header_lines = h.lines;
    }

abbrev pub counts_of : handed.Counts → Counts
counts_of n = record { epochs = n.epochs; rows = n.rows; slots = n.slots; carried = n.carried }

abbrev pub entry_of : EpochEntry → FlatEpoch
entry_of e =
    record {
      time_state = e.time_state;
      time = e.time;
      flag = e.flag;
      count = e.count;
      clock_state = e.clock_state;
      clock = e.clock;
    }

abbrev pub buffers : (codes times time_states flags counts : List ℕ) (clocks : List ℤ) (clock_states satellites : List ℕ) (numbers : List ℤ) (states losses strengths carried : List ℕ) → Buffers
buffers c t ts f n k ks s x xs l m r =
    record {
      codes = c;
      times = t;
      time_states = ts;
      flags = f;
      counts = n;
      clocks = k;
      clock_states = ks;
      satellites = s;
      numbers = x;
      states = xs;
      losses = l;
      strengths = m;
      carried = r;
    }

-- the buffers of rows and of slots, beside nothing
abbrev pub of_rows : (satellites : List ℕ) (numbers : List ℤ) (states losses strengths : List ℕ) → Buffers
of_rows s x xs l m = buffers [] [] [] [] [] [] [] s x xs l m []

-- n slots lie in their buffers
pub record SlotsIn (n : ℕ) (numbers : List ℤ) (states losses strengths : List ℕ) : Type 0 where
  pub numbers_hold : n ≤ length numbers
  pub states_hold : n ≤ length states
  pub losses_hold : n ≤ length losses
  pub strengths_hold : n ≤ length strengths
