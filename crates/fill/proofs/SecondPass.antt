-- The parts of the second pass are the whole of it. Assumes nothing.
use Prim.Native.Nat.{ℕ, ◌-◌}
use mathlib.Core.Path.{◌≡◌, sym, ap, ◌∙◌}
use mathlib.Core.List.{List}
use lib.ListN.{drop}
use Rattle.line.specs.Text.{split}
use Rattle.rinex.specs.Tables.{Buffers}
use Rattle.judge.specs.declared.Cursor.{Cursor}
use Rattle.judge.specs.Ending.{Ended, header_end}
use Rattle.judge.specs.Step.{ended_at}
use Rattle.fill.specs.Fill.{HeadRead, head_from, carried_from, nothing_read, filled_from}
use Rattle.fill_codes.specs.Codes.{codes_from}
use Rattle.rinex.specs.Lent.{buffers}
use Rattle.fill.specs.Filling.{head_put, second_pass}

-- the codes and the carried lines put, the other tables as lent
abbrev pub with : List ℕ → List ℕ → Buffers → Buffers
with codes carried b =
    buffers codes b.times b.time_states b.flags b.counts b.clocks b.clock_states b.satellites b.numbers b.states b.losses b.strengths carried

module _ (t table : List ℕ) (from : Cursor) (e : header_end t ≡ ended_at t table from) where
  pub head_passed : (h : HeadRead) → h ≡ head_from (from.line - 1) nothing_read (split t) → h ≡ head_from (header_end t).lines nothing_read (split t)
  head_passed h q = q ∙ ap (λ (x : Ended). head_from x.lines nothing_read (split t)) (sym e)

  pub tables_passed : (b after : Buffers) (codes carried : List ℕ) → codes ≡ codes_from 0 from.state.lengths table b.codes
      → carried ≡ carried_from (from.line - 1) nothing_read b.carried (split t)
      → after ≡ filled_from from.state (with codes carried b) (split (drop from.at t)) → after ≡ second_pass t b
  tables_passed b after codes carried q r p =
      p
      ∙ (ap (λ (x : List ℕ). filled_from from.state (with x carried b) (split (drop from.at t))) q
      ∙ (ap (λ (x : List ℕ). filled_from from.state (with (codes_from 0 from.state.lengths table b.codes) x b) (split (drop from.at t))) r
      ∙ ap (λ (x : Ended). filled_from x.state (head_put x t b) x.rest) (sym e)))
