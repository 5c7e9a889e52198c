-- The data's stages: what is judged, settled and stamped at each, and that a line without a fault leaves room. Assumes nothing.
use Prim.Native.Nat.{ℕ, zero, suc, ◌+◌, ◌-◌, ◌≤◌}
use mathlib.Core.Path.{◌≡◌, refl, sym, ap, ◌∙◌}
use mathlib.Core.Bool.{Bool, true, false, cond, not, ◌&&◌, ◌||◌}
use mathlib.Core.List.{List}
use native.Mathlib.Omega.{arith}
use borrow.Author.Tests.{ltb-false}
use lib.Dec.{eqb, leb, ltb}
use lib.ListN.{get_or}
use Rattle.lists.specs.Maybe.{given}
use Rattle.lists.proofs.Bools.{not_is, neither, never}
use Rattle.label.specs.Labels.{label_of, is, barred_from_events}
use Rattle.label.specs.declared.Label.TheVariants.{MarkerName}
use Rattle.rinex.specs.Tests.{flag_at, count_at, epoch_time, epoch_fits, satellite_fits, slots_fit, is_event}
use Rattle.state.specs.declared.Room.{Room}
use Rattle.state.specs.declared.State.{State}
use Rattle.state.specs.declared.Stage.{Stage}
use Rattle.state.specs.declared.Stage.TheVariants as stages
use Rattle.state.specs.Judge.{in_heading, fault_at, epoch_fault, row_fault, line_fault, label_fault, is_late, next_at, after_event, after_observed, after_row, after_line, slots_of_row, carried_with, row_stage, line_stage}
use Rattle.rinex.specs.Refusals.{name_at}
use Rattle.judge.specs.Step.{DataSane, Roomy, Sized}

-- a stage of the data that is neither an epoch record's nor a row's
pub event_due : (n : Stage) → in_heading n ≡ false → (n ≡ stages.Epoch → ⊥) → (n ≡ stages.Row → ⊥) → n ≡ stages.Event
event_due stages.Version h a b = absurd (never (sym h))
event_due stages.Record h a b = absurd (never (sym h))
event_due stages.Continuation h a b = absurd (never (sym h))
event_due stages.Epoch h a b = absurd (a refl)
event_due stages.Row h a b = absurd (b refl)
event_due stages.Event h a b = refl

module _ (r : Room) (c : State) (table seen l : List ℕ) where
  pub fault_epoch : c.stage ≡ stages.Epoch → fault_at c.stage r c table seen l ≡ epoch_fault r c l
  unfolding fault_at
  fault_epoch e = ap (λ (n : Stage). fault_at n r c table seen l) e

  pub fault_row : c.stage ≡ stages.Row → fault_at c.stage r c table seen l ≡ row_fault r c seen l
  unfolding fault_at
  fault_row e = ap (λ (n : Stage). fault_at n r c table seen l) e

  pub fault_line : c.stage ≡ stages.Event → fault_at c.stage r c table seen l ≡ line_fault r c (label_of l) l
  unfolding fault_at
  fault_line e = ap (λ (n : Stage). fault_at n r c table seen l) e

-- a chain of tests that ends without a fault
pub no_fault : (b : Bool) (k n : ℕ) → cond b (suc k) n ≡ 0 → (b ≡ false) × (n ≡ 0)
no_fault true k n e = absurd (omega arith)
no_fault false k n e = (refl, e)

module _ (r : Room) (c : State) (seen l : List ℕ) where
  epoch_room : epoch_fault r c l ≡ 0 → c.used.epochs + 1 ≤ r.epochs
  unfolding epoch_fault
  epoch_room e =
      let a = no_fault (not (epoch_fits l)) 6 _ e in
      let b = no_fault (leb 6 (flag_at l)) 7 _ a.1 in
      let d = no_fault (leb (flag_at l) 1 && is_late c (given 0 (epoch_time l))) 8 _ b.1 in
      let f = no_fault (eqb (flag_at l) 3 && eqb (count_at l) 0) 14 _ d.1 in
      ltb-false r.epochs (c.used.epochs + 1) (no_fault (ltb r.epochs (c.used.epochs + 1)) 15 0 f.1).0

  -- what a row without a fault has
  pub record RowFine : Type 0 where
    pub satellite : satellite_fits l ≡ true
    pub slots : slots_fit (slots_of_row c l) 4 l ≡ true
    pub rows_room : c.used.rows + 1 ≤ r.rows
    pub slots_room : c.used.slots + slots_of_row c l ≤ r.slots

  pub row_fine : row_fault r c seen l ≡ 0 → RowFine
  unfolding row_fault
  row_fine e =
      let a = no_fault (not (satellite_fits l)) 9 _ e in
      let b = no_fault (eqb (slots_of_row c l) 0) 10 _ a.1 in
      let d = no_fault (eqb (get_or seen (name_at l) 0) c.used.epochs) 11 _ b.1 in
      let f = no_fault (not (slots_fit (slots_of_row c l) 4 l)) 12 _ d.1 in
      let g = neither (ltb r.rows (c.used.rows + 1)) _ (no_fault (ltb r.rows (c.used.rows + 1) || ltb r.slots (c.used.slots + slots_of_row c l)) 15 0 f.1).0 in
      record {
        satellite = not_is (satellite_fits l) a.0;
        slots = not_is (slots_fit (slots_of_row c l) 4 l) f.0;
        rows_room = ltb-false r.rows (c.used.rows + 1) g.0;
        slots_room = ltb-false r.slots (c.used.slots + slots_of_row c l) g.1;
      }

  pub line_room : line_fault r c (label_of l) l ≡ 0 → carried_with c l ≤ r.carried
  unfolding line_fault
  line_room e =
      let a = no_fault (label_fault (label_of l) l || barred_from_events (label_of l)) 3 _ e in
      let b = no_fault (eqb c.flag 3 && (eqb c.left 1 && not (c.marked || is MarkerName (label_of l)))) 14 _ a.1 in
      ltb-false r.carried (carried_with c l) (no_fault (ltb r.carried (carried_with c l)) 15 0 b.1).0

pub roomy : (r : Room) (c : State) (table seen l : List ℕ) → Sized r → DataSane c → fault_at c.stage r c table seen l ≡ 0 → Roomy c l
roomy r c table seen l z d e =
    record {
      epochs = λ p. omega (arith, epoch_room r c seen l (sym (fault_epoch r c table seen l p) ∙ e), z.epochs);
      rows = λ p. omega (arith, (row_fine r c seen l (sym (fault_row r c table seen l p) ∙ e)).rows_room, z.rows);
      slots = λ p. omega (arith, (row_fine r c seen l (sym (fault_row r c table seen l p) ∙ e)).slots_room, z.slots);
      carried = λ p. omega (arith, line_room r c seen l (sym (fault_line r c table seen l p) ∙ e), z.carried);
    }

row_stage_lem : (n : ℕ) → in_heading (row_stage n) ≡ false
row_stage_lem zero = refl
row_stage_lem (suc n) = refl

line_stage_lem : (n : ℕ) → in_heading (line_stage n) ≡ false
line_stage_lem zero = refl
line_stage_lem (suc n) = refl

pub data_sane : (c : State) (l : List ℕ) → DataSane c → DataSane (next_at c.stage c l)
unfolding next_at after_event after_observed after_row after_line
data_sane c l d = go c.stage d.stage
  where
    of-event : (b : Bool) → DataSane (cond b (after_event c l) (after_observed c l))
    of-event true = record { stage = line_stage_lem (count_at l); seven = d.seven; few = d.few }
    of-event false = record { stage = row_stage_lem (count_at l); seven = d.seven; few = d.few }

    go : (n : Stage) → in_heading n ≡ false → DataSane (next_at n c l)
    go stages.Version h = absurd (never (sym h))
    go stages.Record h = absurd (never (sym h))
    go stages.Continuation h = absurd (never (sym h))
    go stages.Epoch h = of-event (is_event (flag_at l))
    go stages.Row h = record { stage = row_stage_lem (c.left - 1); seven = d.seven; few = d.few }
    go stages.Event h = record { stage = line_stage_lem (c.left - 1); seven = d.seven; few = d.few }
