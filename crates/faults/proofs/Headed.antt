-- The table of codes behind a header record and behind a continuation. Assumes nothing.
use Prim.Native.Nat.{ℕ, ◌+◌, ◌*◌}
use mathlib.Core.Path.{◌≡◌, sym, ap, ◌∙◌}
use mathlib.Core.Bool.{Bool, false, cond}
use mathlib.Core.List.{List, map}
use lib.ListN.{get_or}
use lib.Seq.{sets}
use Rattle.label.specs.declared.Label.{Label}
use Rattle.label.specs.declared.Label.TheVariants.{ObsTypes}
use Rattle.label.specs.Labels.{label_of, is}
use Rattle.rinex.specs.Tables.{packed}
use Rattle.rinex.specs.Tests.{system_at, codes_at, in_line, list_count}
use Rattle.state.specs.declared.State.{State}
use Rattle.state.specs.declared.Stage.TheVariants as stages
use Rattle.state.specs.Judge.{table_at}

-- the table behind a header record, by its label
module _ (c : State) (l table : List ℕ) (k : Label) (e : k ≡ label_of l) where
  pub table_stays : (j : Label) → k ≡ j → is ObsTypes j ≡ false → table ≡ table_at stages.Record c l table
  unfolding table_at
  table_stays j d f = sym (ap (λ (t : Bool). cond t (sets table (64 * system_at l) (map packed (codes_at (in_line (list_count l)) 7 l))) table) (ap (is ObsTypes) (sym e ∙ d) ∙ f))

  pub table_put : k ≡ ObsTypes → sets table (64 * system_at l) (map packed (codes_at (in_line (list_count l)) 7 l)) ≡ table_at stages.Record c l table
  unfolding table_at
  table_put d = sym (ap (λ (t : Bool). cond t (sets table (64 * system_at l) (map packed (codes_at (in_line (list_count l)) 7 l))) table) (ap (is ObsTypes) (sym e ∙ d)))

-- and behind a continuation
pub table_next : (c : State) (l table : List ℕ) (n : ℕ) → n ≡ get_or c.lengths c.system 0
    → sets table (64 * c.system + n) (map packed (codes_at (in_line c.left) 7 l)) ≡ table_at stages.Continuation c l table
unfolding table_at
table_next c l table n e = ap (λ (m : ℕ). sets table (64 * c.system + m) (map packed (codes_at (in_line c.left) 7 l))) e
