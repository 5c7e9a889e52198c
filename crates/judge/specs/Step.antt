-- What a step answers of the line at a cursor, and what the judge answers in the end.
use Rattle.std.specs.Prelude.{ℕ, ◌+◌, ◌-◌, ◌*◌, ◌^◌, ◌≤◌, ◌<◌, ◌≡◌, true, false, List, length, get_or, drop, Result, Ok, Err, IfOk, IfErr, OnOk}
use Rattle.line.specs.Text.{longest, Raw, split}
use Rattle.label.specs.Labels.{label_of, is}
use Rattle.label.specs.declared.Label.TheVariants.{ObsTypes}
use Rattle.rinex.specs.Tests.{system_at}
use Rattle.code_list.specs.Lines.{CodesStored}
use Rattle.rinex.specs.Tables as tables
use Rattle.rinex.specs.Refusals.{Verdict, accepted, refused, verdict}
use Rattle.rinex.specs.declared.Counts.{Counts}
use Rattle.state.specs.declared.fault.LineFault.{LineFault}
use Rattle.state.specs.Faults.{refusal_number, fault_number}
use Rattle.state.specs.declared.Room.{Room}
use Rattle.state.specs.declared.State.{State}
use Rattle.state.specs.declared.Stage.TheVariants as stages
use Rattle.judge.specs.declared.Cursor.{Cursor}
use Rattle.judge.specs.declared.Refusal.{Refusal}
use Rattle.judge.specs.declared.whole.Whole.{Whole}
use Rattle.judge.specs.Ending.{Ended, header_end}
use Rattle.rinex.specs.Lent.{counts_of}
use Rattle.state.specs.Judge.{in_heading, raw_fault, next_at, table_at, seen_at, codes_in, carried_with, slots_of_row, judged, begin, no_codes, none_seen, room_of}

-- what the data's lines keep: seven lists of at most 64 codes, behind the header
pub record DataSane (c : State) : Type 0 where
  pub stage : in_heading c.stage ≡ false
  pub seven : length c.lengths ≡ 7
  pub few : (y : ℕ) → get_or c.lengths y 0 ≤ 64

-- what a list that goes on has in the table of codes
pub record ListSane (c : State) (table : List ℕ) : Type 0 where
  pub system : c.system < 7
  pub left : get_or c.lengths c.system 0 + c.left ≤ 64
  pub many : length (codes_in c table c.system) ≡ get_or c.lengths c.system 0
  pub stored : CodesStored table (64 * c.system) (codes_in c table c.system)

-- what the header's lines keep
pub record HeadSane (c : State) (table : List ℕ) : Type 0 where
  pub stage : in_heading c.stage ≡ true
  pub seven : length c.lengths ≡ 7
  pub few : (y : ℕ) → get_or c.lengths y 0 ≤ 64
  pub places : length table ≡ 448
  pub next : c.stage ≡ stages.Continuation → ListSane c table

-- what a header line without a fault is
pub record HeadFine (c : State) (l : List ℕ) : Type 0 where
  pub system : c.stage ≡ stages.Record → is ObsTypes (label_of l) ≡ true → system_at l < 7
  pub next : c.stage ≡ stages.Continuation → c.system < 7
  pub carried : carried_with c l < 2 ^ 64

-- the room's numbers fit their type
pub record Sized (r : Room) : Type 0 where
  pub epochs : r.epochs < 2 ^ 64
  pub rows : r.rows < 2 ^ 64
  pub slots : r.slots < 2 ^ 64
  pub carried : r.carried < 2 ^ 64

-- no count passes its type
pub record Roomy (c : State) (l : List ℕ) : Type 0 where
  pub epochs : c.stage ≡ stages.Epoch → c.used.epochs + 1 < 2 ^ 64
  pub rows : c.stage ≡ stages.Row → c.used.rows + 1 < 2 ^ 64
  pub slots : c.stage ≡ stages.Row → c.used.slots + slots_of_row c l < 2 ^ 64
  pub carried : c.stage ≡ stages.Event → carried_with c l < 2 ^ 64

-- the cursor behind a line without a fault
pub record Behind (t : List ℕ) (c : Cursor) (w : Raw) (ws : List Raw) (n : Cursor) : Type 0 where
  pub further : c.at < n.at
  pub place : n.at ≡ c.at + (length w.bytes + 1)
  pub within : n.at ≤ length t
  pub line : n.line ≡ c.line + 1
  pub state : n.state ≡ next_at c.state.stage c.state w.bytes
  pub rest : split (drop n.at t) ≡ ws

-- a step over the first of the lines that begin at the cursor: its fault, or the cursor behind it; what it leaves in the table of codes and in
-- the stamps
pub record Stepped (r : Room) (t : List ℕ) (c : Cursor) (table table' seen seen' : List ℕ) (w : Raw) (ws : List Raw) (s : Result Cursor LineFault) : Type 0 where
  pub fault : fault_number s ≡ raw_fault r c.state table seen w
  pub next : IfOk s (Behind t c w ws)
  pub table_is : OnOk s (table' ≡ table_at c.state.stage c.state w.bytes table)
  pub seen_is : OnOk s (seen' ≡ seen_at c.state.stage c.state w.bytes seen)

-- the verdict that an answer tells
abbrev pub verdict_of : Result Counts Refusal → Verdict
verdict_of (Ok n) = accepted (counts_of n)
verdict_of (Err e) = refused (refusal_number e.fault) e.line

-- the judge's answer is this verdict
abbrev pub JudgedAs : Result Counts Refusal → Verdict → Type 0
JudgedAs j v = v ≡ verdict_of j

-- the end of the header, as a cursor and a table have it
abbrev pub ended_at : List ℕ → List ℕ → Cursor → Ended
ended_at t table c = record { lines = c.line - 1; state = c.state; table = table; rest = split (drop c.at t) }

-- the end of the header is found, and what is left is judged as the whole
pub record Opened (r : Room) (t table : List ℕ) (n : Cursor) : Type 0 where
  pub at : n.at ≤ length t
  pub line : n.line ≤ n.at + 1
  pub first : 1 ≤ n.line
  pub sane : DataSane n.state
  pub slots : n.state.used.slots ≡ 0
  pub end : header_end t ≡ ended_at t table n
  pub same : judged r begin no_codes none_seen 1 (split t) ≡ judged r n.state table none_seen n.line (split (drop n.at t))

-- the header is judged: refused, or its end is found
pub record Headed (r : Room) (t table : List ℕ) (s : Result Cursor Refusal) : Type 0 where
  pub places : length table ≡ 448
  pub no : IfErr s (λ e. judged r begin no_codes none_seen 1 (split t) ≡ refused (refusal_number e.fault) e.line)
  -- the line that is told is one of the text's, or the one behind its last
  pub told : IfErr s (λ e. (1 ≤ e.line) × (e.line ≤ length t + 1))
  pub yes : IfOk s (Opened r t table)

-- THE WHOLE: the data's lines from place a on are accepted in this state, with some room, codes and stamps
pub record Runs (t : List ℕ) (c : State) (a : ℕ) : Type 0 where
  pub room : Room
  pub table : List ℕ
  pub seen : List ℕ
  pub line : ℕ
  pub counts : tables.Counts
  pub taken : judged room c table seen line (split (drop a t)) ≡ accepted counts
  pub sane : DataSane c
  pub inside : a ≤ length t
  pub short : length t ≤ longest
  -- no more slots than 64 for each byte before
  pub few_slots : c.used.slots ≤ 64 * a
  -- the room is one of lent tables
  pub sized : Sized room

-- what is told of the whole
abbrev pub told_of : Result Whole Refusal → Result Counts Refusal
told_of (Ok w) = Ok w.used
told_of (Err e) = Err e

-- a whole text is judged, and where it is accepted the data can be put
pub record Judges (r : Room) (t table : List ℕ) (w : Result Whole Refusal) : Type 0 where
  pub told : JudgedAs (told_of w) (verdict (room_of r) t)
  pub places : length table ≡ 448
  pub first : IfOk w (λ x. 1 ≤ x.from.line)
  pub end : IfOk w (λ x. header_end t ≡ ended_at t table x.from)
  pub runs : IfOk w (λ x. Runs t x.from.state x.from.at)
