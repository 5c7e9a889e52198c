-- Where the header ends.
use Rattle.std.specs.Prelude.{ℕ, ◌+◌, cond, List, [], ◌∷◌}
use Rattle.line.specs.Text.{Raw, split}
use Rattle.state.specs.declared.State.{State}
use Rattle.state.specs.Judge.{in_heading, next_at, table_at, begin, no_codes}

-- how many lines it has, what they have settled, the table of codes then, and the lines that follow
pub record Ended : Type 0 where
  pub lines : ℕ
  pub state : State
  pub table : List ℕ
  pub rest : List Raw

abbrev pub more : ℕ → Ended → Ended
more n e = record { lines = n + e.lines; state = e.state; table = e.table; rest = e.rest }

unfoldable pub after_header : State → List ℕ → List Raw → Ended
after_header c table [] = record { lines = 0; state = c; table = table; rest = [] }
after_header c table (w ∷ ws) =
    let on = after_header (next_at c.stage c w.bytes) (table_at c.stage c w.bytes table) ws in
    cond (in_heading c.stage) (more 1 on) (record { lines = 0; state = c; table = table; rest = w ∷ ws })

abbrev pub header_end : List ℕ → Ended
header_end t = after_header begin no_codes (split t)
