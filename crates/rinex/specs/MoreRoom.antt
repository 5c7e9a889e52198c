-- More room, of 2026-11: "two sets of lent buffers, the second nowhere shorter", and "the same entries in use". What holds of them is in `Theorems`.
use Rattle.std.specs.Prelude.{ℕ, ◌+◌, ◌*◌, ◌≤◌, ◌<◌, ◌≡◌, List, length, get_or, take}
use Rattle.rinex.specs.Tables.{FlatHead, Counts, Buffers, Room}
use Rattle.rinex.specs.Promises.{ReadReply, taken, turned_away}

-- no table has less room
pub record NoLess (r q : Room) : Type 0 where
  pub codes : r.codes ≤ q.codes
  pub epochs : r.epochs ≤ q.epochs
  pub rows : r.rows ≤ q.rows
  pub slots : r.slots ≤ q.slots
  pub carried : r.carried ≤ q.carried

-- "the second nowhere shorter"
pub record NowhereShorter (b c : Buffers) : Type 0 where
  pub codes : length b.codes ≤ length c.codes
  pub times : length b.times ≤ length c.times
  pub time_states : length b.time_states ≤ length c.time_states
  pub flags : length b.flags ≤ length c.flags
  pub counts : length b.counts ≤ length c.counts
  pub clocks : length b.clocks ≤ length c.clocks
  pub clock_states : length b.clock_states ≤ length c.clock_states
  pub satellites : length b.satellites ≤ length c.satellites
  pub numbers : length b.numbers ≤ length c.numbers
  pub states : length b.states ≤ length c.states
  pub losses : length b.losses ≤ length c.losses
  pub strengths : length b.strengths ≤ length c.strengths
  pub carried : length b.carried ≤ length c.carried

-- two buffers begin with the same n entries
abbrev pub SameFirst : {A : Type 0} → ℕ → List A → List A → Type 0
SameFirst n b c = take n b ≡ take n c

-- the same entries, in tables with this head and these counts
pub record SameTables (h : FlatHead) (n : Counts) (b c : Buffers) : Type 0 where
  pub codes : (s i : ℕ) → s < 7 → i < get_or h.lengths s 0 → get_or b.codes (64 * s + i) 0 ≡ get_or c.codes (64 * s + i) 0
  pub times : SameFirst n.epochs b.times c.times
  pub time_states : SameFirst n.epochs b.time_states c.time_states
  pub flags : SameFirst n.epochs b.flags c.flags
  pub counts : SameFirst n.epochs b.counts c.counts
  pub clocks : SameFirst n.epochs b.clocks c.clocks
  pub clock_states : SameFirst n.epochs b.clock_states c.clock_states
  pub satellites : SameFirst n.rows b.satellites c.satellites
  pub numbers : SameFirst n.slots b.numbers c.numbers
  pub states : SameFirst n.slots b.states c.states
  pub losses : SameFirst n.slots b.losses c.losses
  pub strengths : SameFirst n.slots b.strengths c.strengths
  pub carried : SameFirst n.carried b.carried c.carried

-- "the same entries in use", by the reply: a refusal leaves none in use
abbrev pub SameInUse : ReadReply → Buffers → Buffers → Type 0
SameInUse (taken h n) b c = SameTables h n b c
SameInUse (turned_away n k) b c = Unit
