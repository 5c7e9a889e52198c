-- THE JUDGE AS THE CODE KEEPS IT GIVES THE VERDICT OF THE RULE: line by line, along what is kept. Assumes nothing.
use Prim.Native.Nat.{ℕ, ◌+◌, ◌≤◌}
use mathlib.Core.Path.{◌≡◌, refl, sym, ap, ◌∙◌}
use mathlib.Core.Bool.{Bool, true, false, cond}
use mathlib.Core.List.{List, [], ◌∷◌}
use lib.Dec.{eqb}
use lib.ListN.{length}
use borrow.Author.Tests.{eqb-true, le-ltb}
use Rattle.line.specs.Text.{longest, Raw, split}
use Rattle.label.specs.Labels.{label_of}
use Rattle.rinex.specs.Tests.{flag_at, is_event}
use Rattle.rinex.specs.Refusals.{Verdict, refused, State, start, next, ending, judge, verdict}
use Rattle.rinex.proofs.Reach.{Ok}
use Rattle.rinex.proofs.Places.{header_ok, next_ok, epoch_ok, row_ok}
use Rattle.state.specs.declared.Room.{Room}
use Rattle.state.specs.declared.State as code
use Rattle.state.specs.declared.Stage.{Stage}
use Rattle.state.specs.declared.Stage.TheVariants as stages
use Rattle.rinex.specs.Lent.{counts_of}
use Rattle.state.specs.Judge.{next_at, table_at, seen_at, raw_fault, ending_at, judged, begin, no_codes, none_seen, room_of}
use Rattle.state.proofs.Kept.{place_at, rule_at, Due, Settled, Kept, rule_of, kept_begin, begin_is_start}
use Rattle.state.proofs.SameFaults.{same_fault, no_refusal}
use Rattle.state.proofs.HeaderSteps.{version_step, record_step, next_step}
use Rattle.state.proofs.DataSteps.{epoch_step, row_step, line_step}

-- after a line that has no fault
module _ (r : Room) (c : code.State) (table seen : List ℕ) (lists : List (List (List ℕ))) (names : List ℕ) (s : Settled c table seen lists) (l : List ℕ) where
  step_at : (n : Stage) → Due n c lists names seen → Ok (room_of r) (rule_at (place_at n c) c lists names) (place_at n c) l
      → (x : Kept (next_at n c l) (table_at n c l table) (seen_at n c l seen)) × (next (rule_at (place_at n c) c lists names) (place_at n c) l ≡ rule_of _ _ _ x)
  unfolding next_at table_at seen_at next
  step_at stages.Version d o = version_step (room_of r) c table seen lists names s l
  step_at stages.Record d o = record_step (room_of r) c table seen lists names s l (label_of l) refl (header_ok (room_of r) (rule_at (place_at stages.Record c) c lists names) l o)
  step_at stages.Continuation d o = next_step (room_of r) c table seen lists names s l d (next_ok (room_of r) (rule_at (place_at stages.Continuation c) c lists names) c.system c.left l o)
  step_at stages.Epoch d o =
      epoch_step (room_of r) c table seen lists names s l (epoch_ok (room_of r) (rule_at (place_at stages.Epoch c) c lists names).head (rule_at (place_at stages.Epoch c) c lists names).last names (counts_of c.used) l o) (is_event (flag_at l)) refl
  step_at stages.Row d o =
      row_step (room_of r) c table seen lists names s l d (row_ok (room_of r) (rule_at (place_at stages.Row c) c lists names).head (rule_at (place_at stages.Row c) c lists names).last names (counts_of c.used) l c.left o)
  step_at stages.Event d o = line_step (room_of r) c table seen lists names s l d

module _ (r : Room) (c : code.State) (table seen : List ℕ) (k : Kept c table seen) (w : Raw) (h : raw_fault r c table seen w ≡ 0) where
  step : (x : Kept (next_at c.stage c w.bytes) (table_at c.stage c w.bytes table) (seen_at c.stage c w.bytes seen))
      × (next (rule_of c table seen k) (place_at c.stage c) w.bytes ≡ rule_of _ _ _ x)
  step =
      step_at r c table seen k.lists k.names k.settled w.bytes c.stage k.due (no_refusal r c table seen k w h)

  pub kept_next : Kept (next_at c.stage c w.bytes) (table_at c.stage c w.bytes table) (seen_at c.stage c w.bytes seen)
  kept_next = step.0

  goes_along : next (rule_of c table seen k) (place_at c.stage c) w.bytes ≡ rule_of _ _ _ kept_next
  unfolding kept_next
  goes_along = step.1

-- where the text ends
same_ending : (c : code.State) (lists : List (List (List ℕ))) (names : List ℕ) (k : ℕ) (n : Stage) → ending_at n c k ≡ ending (rule_at (place_at n c) c lists names) (place_at n c) k
unfolding ending_at ending
same_ending c lists names k stages.Version = refl
same_ending c lists names k stages.Record = refl
same_ending c lists names k stages.Continuation = refl
same_ending c lists names k stages.Epoch = refl
same_ending c lists names k stages.Row = refl
same_ending c lists names k stages.Event = refl

chosen : (n k : ℕ) (x y : Verdict) → (n ≡ 0 → x ≡ y) → cond (eqb n 0) x (refused n k) ≡ cond (eqb n 0) y (refused n k)
chosen n k x y f = at (eqb n 0) refl
  where
    at : (b : Bool) → eqb n 0 ≡ b → cond b x (refused n k) ≡ cond b y (refused n k)
    at true e = f (eqb-true n 0 e)
    at false e = refl

-- from any state on
from_here : (r : Room) (ws : List Raw) (c : code.State) (table seen : List ℕ) (x : Kept c table seen) (k : ℕ) → judged r c table seen k ws ≡ judge (room_of r) (rule_of c table seen x) k ws
unfolding judged judge
from_here r [] c table seen x k = same_ending c x.lists x.names k c.stage
from_here r (w ∷ ws) c table seen x k =
    let n : ℕ = raw_fault r c table seen w in
    let e = same_fault r c table seen x w in
    let rest : Verdict = judge (room_of r) (next (rule_of c table seen x) (place_at c.stage c) w.bytes) (k + 1) ws in
    chosen n k (judged r (next_at c.stage c w.bytes) (table_at c.stage c w.bytes table) (seen_at c.stage c w.bytes seen) (k + 1) ws) rest
    (λ h. from_here r ws (next_at c.stage c w.bytes) (table_at c.stage c w.bytes table) (seen_at c.stage c w.bytes seen) (kept_next r c table seen x w h) (k + 1)
    ∙ ap (λ (s : State). judge (room_of r) s (k + 1) ws) (sym (goes_along r c table seen x w h)))
    ∙ (λ i. cond (eqb (e i) 0) rest (refused (e i) k))

pub simulated : (r : Room) (t : List ℕ) → judged r begin no_codes none_seen 1 (split t) ≡ judge (room_of r) start 1 (split t)
simulated r t = from_here r (split t) begin no_codes none_seen kept_begin 1 ∙ ap (λ (s : State). judge (room_of r) s 1 (split t)) begin_is_start

-- THE VERDICT
pub judged_verdict : (r : Room) (t : List ℕ) → length t ≤ longest → judged r begin no_codes none_seen 1 (split t) ≡ verdict (room_of r) t
unfolding verdict
judged_verdict r t h = simulated r t ∙ rw (le-ltb longest (length t) h)
