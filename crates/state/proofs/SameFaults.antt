-- A line has the same fault under the code's state and under the rule's that it keeps, at each place. Assumes nothing.
use Prim.Native.Nat.{ℕ, ◌+◌, ◌*◌, ◌<◌}
use mathlib.Core.Path.{◌≡◌, refl, sym, ap, ◌∙◌}
use mathlib.Core.Bool.{Bool, true, false, cond, not, ◌&&◌, ◌||◌}
use mathlib.Core.List.{List, [], ◌∷◌}
use native.Mathlib.Omega.{arith}
use lib.Dec.{eqb, leb, ltb}
use lib.ListN.{length, get_or, length-append}
use borrow.Author.Tests.{ltb-true}
use Rattle.lists.specs.Lists.{joined, is_in, sum}
use Rattle.lists.specs.Blank.{is_blank}
use Rattle.lists.proofs.Bools.{both, or_false, or_assoc}
use Rattle.field.specs.Field.{are_digits}
use Rattle.field.proofs.Digits.{digits_below}
use Rattle.line.specs.Text.{cols, past, Raw}
use Rattle.label.specs.declared.Label.{Label}
use Rattle.label.specs.declared.Label.TheVariants.{Version, ObsTypes, FirstObs, Interval, EndOfHeader, ScaleFactor, MarkerName, Other, Unknown}
use Rattle.label.specs.Labels.{is, label_of, barred_from_events}
use Rattle.line.proofs.Columns.{length_cols}
use Rattle.rinex.specs.Tests.{system_at, version_fits, in_line, next_fits, number_at, satellite_fits, slots_fit}
use Rattle.rinex.specs.Refusals.{refusal1, refusal2, refusal3, refusal4, refusal5, refusal6, refusal7, refusal8, refusal9, refusal10, refusal11, refusal12, refusal13, refusal15, refusal16, again, unfit, lacks, fault, name_at}
use Rattle.rinex.proofs.Reach.{Ok, fault_to}
use Rattle.state.specs.declared.Room.{Room}
use Rattle.state.specs.declared.State.{State}
use Rattle.state.specs.declared.Stage.{Stage}
use Rattle.state.specs.declared.Stage.TheVariants as stages
use Rattle.state.specs.Judge.{slots_of_row, carried_with, version_fault, label_fault, comes_again, is_unfit, lacks_room, record_fault, next_fault, is_late, epoch_fault, row_fault, line_fault, fault_at, raw_fault, room_of}
use Rattle.state.proofs.Kept.{place_at, rule_at, NextDue, RowDue, Due, lengths_of, Settled, Kept, rule_of, length_at, codes_at}

-- what stands behind the first two tests
abbrev behind : Raw → ℕ → ℕ
behind w n = cond (refusal1 w) 1 (cond (refusal2 w.bytes) 2 n)

cond_not : (b : Bool) (x y : ℕ) → cond b x y ≡ cond (not b) y x
cond_not true x y = refl
cond_not false x y = refl

-- the satellite of a fit row has its stamp
pub name_below : (l : List ℕ) → satellite_fits l ≡ true → name_at l < 700
unfolding satellite_fits number_at
name_below l h =
    let p = both (ltb (system_at l) 7) _ h in
    let q = both (are_digits (cols 2 3 l)) _ p.1 in
    let n : number_at l < 100 = rw (length_cols 2 3 l) at (digits_below (cols 2 3 l) q.0) in
    let y : system_at l < 7 = ltb-true (system_at l) 7 p.0 in
    omega arith

sum_joined : (lists : List (List (List ℕ))) → sum (lengths_of lists) ≡ length (joined lists)
sum_joined [] = refl
sum_joined (cs ∷ css) = simp length-append (omega (arith, sum_joined css))

module _ (r : Room) (c : State) (table seen : List ℕ) (lists : List (List (List ℕ))) (names : List ℕ) (s : Settled c table seen lists) (w : Raw) where
  -- the version line
  version_same : behind w (version_fault w.bytes) ≡ fault (room_of r) (rule_at (place_at stages.Version c) c lists names) w
  unfolding version_fault fault refusal3 refusal4 refusal5 refusal6 refusal7 refusal8 refusal9 refusal10 refusal11 refusal12 refusal13 refusal15 refusal16
  version_same = ap (behind w) (cond_not (version_fits w.bytes) 0 3)

  -- a header record, by its label
  again_same : (l : List ℕ) (k : Label) → comes_again c l k ≡ again (rule_at (place_at stages.Record c) c lists names) l k
  unfolding comes_again again
  again_same l Version = refl
  again_same l ObsTypes = ap (leb 1) (length_at c table seen lists s (system_at l))
  again_same l FirstObs = refl
  again_same l Interval = refl
  again_same l EndOfHeader = ap (λ (n : ℕ). not (leb 1 n && c.first)) (ap sum s.lengths ∙ sum_joined lists)
  again_same l ScaleFactor = refl
  again_same l MarkerName = refl
  again_same l Other = refl
  again_same l Unknown = refl

  unfit_same : (l : List ℕ) (k : Label) → is_unfit c l k ≡ unfit (rule_at (place_at stages.Record c) c lists names) l k
  unfolding is_unfit unfit
  unfit_same l Version = refl
  unfit_same l ObsTypes = refl
  unfit_same l FirstObs = refl
  unfit_same l Interval = refl
  unfit_same l EndOfHeader = refl
  unfit_same l ScaleFactor = refl
  unfit_same l MarkerName = refl
  unfit_same l Other = refl
  unfit_same l Unknown = refl

  lacks_same : (l : List ℕ) (k : Label) → lacks_room r c l k ≡ lacks (room_of r) (rule_at (place_at stages.Record c) c lists names) l k
  unfolding lacks_room lacks
  lacks_same l Version = refl
  lacks_same l ObsTypes = refl
  lacks_same l FirstObs = refl
  lacks_same l Interval = refl
  lacks_same l EndOfHeader = refl
  lacks_same l ScaleFactor = refl
  lacks_same l MarkerName = refl
  lacks_same l Other = refl
  lacks_same l Unknown = refl

  -- the label's test, with none that is barred
  label_same : (l : List ℕ) (k : Label) → label_fault k l ≡ (is Unknown k || (not (is_blank (past 80 l)) || (is ScaleFactor k || false)))
  unfolding label_fault
  label_same l k = ap (λ (b : Bool). is Unknown k || (not (is_blank (past 80 l)) || b)) (sym (or_false (is ScaleFactor k)))

  record_same : behind w (record_fault r c (label_of w.bytes) w.bytes) ≡ fault (room_of r) (rule_at (place_at stages.Record c) c lists names) w
  unfolding record_fault fault refusal3 refusal4 refusal5 refusal6 refusal7 refusal8 refusal9 refusal10 refusal11 refusal12 refusal13 refusal15 refusal16
  record_same =
      let l = w.bytes in
      let k = label_of w.bytes in
      let p = label_same l k in
      let q = again_same l k in
      let u = unfit_same l k in
      let v = lacks_same l k in
      λ i. behind w (cond (p i) 4 (cond (q i) 5 (cond (u i) 6 (cond (v i) 16 0))))

  -- a continuation
  next_same : NextDue c lists → behind w (next_fault r c table (label_of w.bytes) w.bytes) ≡ fault (room_of r) (rule_at (place_at stages.Continuation c) c lists names) w
  unfolding next_fault fault refusal3 refusal4 refusal5 refusal6 refusal7 refusal8 refusal9 refusal10 refusal11 refusal12 refusal13 refusal15 refusal16
  next_same d =
      let l = w.bytes in
      let k = label_of w.bytes in
      let p = label_same l k in
      let q = codes_at c table seen lists s c.system d.system in
      let m = length_at c table seen lists s c.system in
      λ i. behind w (cond (p i) 4 (cond (not (is ObsTypes k) || not (is_blank (cols 1 6 l))) 5 (cond (not (next_fits c.system (q i) c.left l)) 6
      (cond (ltb r.codes (64 * c.system + m i + in_line c.left)) 16 0))))

  -- an epoch record
  epoch_same : behind w (epoch_fault r c w.bytes) ≡ fault (room_of r) (rule_at (place_at stages.Epoch c) c lists names) w
  unfolding epoch_fault is_late fault refusal3 refusal4 refusal5 refusal6 refusal7 refusal8 refusal9 refusal10 refusal11 refusal12 refusal13 refusal15 refusal16
  epoch_same = refl

  -- a row
  seen_same : (l : List ℕ) (x y : ℕ) → RowDue c names seen → (b : Bool) → satellite_fits l ≡ b
      → cond (not b) 10 (cond (eqb x 0) 11 (cond (eqb (get_or seen (name_at l) 0) c.used.epochs) 12 y))
      ≡ cond (not b) 10 (cond (eqb x 0) 11 (cond (is_in eqb (name_at l) names) 12 y))
  seen_same l x y d true e = ap (λ (t : Bool). cond (eqb x 0) 11 (cond t 12 y)) (d.stamped (name_at l) (name_below l e))
  seen_same l x y d false e = refl

  row_same : RowDue c names seen → behind w (row_fault r c seen w.bytes) ≡ fault (room_of r) (rule_at (place_at stages.Row c) c lists names) w
  unfolding row_fault fault refusal3 refusal4 refusal5 refusal6 refusal7 refusal8 refusal9 refusal10 refusal11 refusal12 refusal13 refusal15 refusal16
  row_same d =
      let l = w.bytes in
      let m = length_at c table seen lists s (system_at w.bytes) in
      let y : ℕ =
      cond (not (slots_fit (slots_of_row c l) 4 l)) 13 (cond (ltb r.rows (c.used.rows + 1) || ltb r.slots (c.used.slots + slots_of_row c l)) 16 0) in
      ap (behind w) (seen_same l (slots_of_row c l) y d (satellite_fits l) refl)
      ∙ (λ i. behind w (cond (not (satellite_fits l)) 10 (cond (eqb (m i) 0) 11 (cond (is_in eqb (name_at l) names) 12
      (cond (not (slots_fit (m i) 4 l)) 13 (cond (ltb r.rows (c.used.rows + 1) || ltb r.slots (c.used.slots + m i)) 16 0))))))

  -- a line of an event
  line_same : behind w (line_fault r c (label_of w.bytes) w.bytes) ≡ fault (room_of r) (rule_at (place_at stages.Event c) c lists names) w
  unfolding line_fault label_fault fault refusal3 refusal4 refusal5 refusal6 refusal7 refusal8 refusal9 refusal10 refusal11 refusal12 refusal13 refusal15 refusal16
  line_same =
      let l = w.bytes in
      let k = label_of w.bytes in
      let b = barred_from_events (label_of w.bytes) in
      let g = not (is_blank (past 80 w.bytes)) in
      let p : ((is Unknown k || (g || is ScaleFactor k)) || b) ≡ (is Unknown k || (g || (is ScaleFactor k || b))) =
      or_assoc (is Unknown k) (g || is ScaleFactor k) b ∙ ap (λ (t : Bool). is Unknown k || t) (or_assoc g (is ScaleFactor k) b) in
      λ i. behind w (cond (p i) 4 (cond (eqb c.flag 3 && (eqb c.left 1 && not (c.marked || is MarkerName k))) 15
      (cond (ltb r.carried (carried_with c l)) 16 0)))

  -- at any stage
  at_stage : (n : Stage) → Due n c lists names seen → behind w (fault_at n r c table seen w.bytes) ≡ fault (room_of r) (rule_at (place_at n c) c lists names) w
  unfolding fault_at
  at_stage stages.Version d = version_same
  at_stage stages.Record d = record_same
  at_stage stages.Continuation d = next_same d
  at_stage stages.Epoch d = epoch_same
  at_stage stages.Row d = row_same d
  at_stage stages.Event d = line_same

-- THE FAULT
pub same_fault : (r : Room) (c : State) (table seen : List ℕ) (k : Kept c table seen) (w : Raw) → raw_fault r c table seen w ≡ fault (room_of r) (rule_of c table seen k) w
unfolding raw_fault
same_fault r c table seen k w = at_stage r c table seen k.lists k.names k.settled w c.stage k.due

-- where it is 0, no refusal of the rule falls on the line
pub no_refusal : (r : Room) (c : State) (table seen : List ℕ) (k : Kept c table seen) (w : Raw) → raw_fault r c table seen w ≡ 0
    → Ok (room_of r) (rule_of c table seen k) (place_at c.stage c) w.bytes
no_refusal r c table seen k w h = (fault_to (room_of r) (rule_of c table seen k) w (sym (same_fault r c table seen k w) ∙ h)).fine
