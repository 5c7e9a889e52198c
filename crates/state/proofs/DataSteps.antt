-- An epoch record, a row or a line of an event without a fault: what is kept of the code's state goes with the rule's. Assumes nothing.
use Prim.Native.Nat.{ℕ, zero, suc, ◌+◌, ◌-◌, ◌≤◌, ◌<◌}
use mathlib.Core.Path.{◌≡◌, refl, sym, ap, ◌∙◌}
use mathlib.Core.Bool.{Bool, true, false, cond, ◌||◌}
use mathlib.Core.List.{List, [], ◌∷◌, ◌++◌}
use Rattle.std.specs.Prelude.{Option, None, Some}
use native.Mathlib.Omega.{arith}
use lib.Dec.{eqb}
use lib.ListN.{length, get_or, set, length-set}
use lib.Seq.{get_or-set_same, get_or-set_other}
use borrow.Author.Tests.{eqb-true, eqb-false, eq-eqb, ne_eqb, le-leb}
use Rattle.lists.specs.Lists.{is_in}
use Rattle.lists.specs.Maybe.{given}
use Rattle.lists.proofs.Bools.{never, or_right, or_false}
use Rattle.rinex.specs.Tables as tables
use Rattle.rinex.specs.Tests.{system_at, flag_at, count_at, epoch_time, is_event}
use Rattle.rinex.specs.Refusals.{Place, epoch_due, row_due, line_due, begun, rowed, next, name_at}
use Rattle.rinex.specs.Refusals as rule
use Rattle.rinex.proofs.Epochs.{epoch_found}
use Rattle.rinex.proofs.Places.{EpochOk, RowOk}
use Rattle.rinex.proofs.Forms.{few_counted}
use Rattle.state.specs.declared.State.{State}
use Rattle.rinex.specs.Lent.{counts_of}
use Rattle.state.specs.Judge.{row_stage, line_stage, after_event, after_observed, after_row, after_line}
use Rattle.state.proofs.Kept.{place_at, rule_at, Stamped, RowDue, LineDue, Due, Settled, Kept, rule_of, length_at, kept_on}
use Rattle.state.proofs.SameFaults.{name_below}
use Rattle.lists.proofs.Lists.{in_more}

-- where so many rows or lines are left
module _ (d : State) where
  row_place : (m : ℕ) → d.left ≡ m → rule.after_row m ≡ place_at (row_stage m) d
  row_place zero e = refl
  row_place (suc m) e = ap row_due (sym e)

  line_place : (m : ℕ) → d.left ≡ m → rule.after_line d.flag d.marked m ≡ place_at (line_stage m) d
  line_place zero e = refl
  line_place (suc m) e = ap (λ (n : ℕ). line_due d.flag n d.marked) (sym e)

  module _ (lists : List (List (List ℕ))) (names seen : List ℕ) where
    rows_due : (m : ℕ) → d.left ≡ m → m < 1000 → Stamped seen d.used.epochs names → Due (row_stage m) d lists names seen
    rows_due zero e h t = tt
    rows_due (suc m) e h t = record { some_left = omega arith; few = omega arith; stamped = t }

    lines_due : (m : ℕ) → d.left ≡ m → m < 1000 → d.flag ≤ 5 → Due (line_stage m) d lists names seen
    lines_due zero e h f = tt
    lines_due (suc m) e h f = record { some_left = omega arith; few = omega arith; flag = f }

-- a satellite more in the epoch
module _ (seen : List ℕ) (e n : ℕ) (h : n < length seen) where
  stamped_more : (names : List ℕ) → Stamped seen e names → Stamped (set seen n e) e (names ++ (n ∷ []))
  stamped_more names s k l = at (eqb k n) refl ∙ sym (in_more k n names)
    where
      at : (b : Bool) → eqb k n ≡ b → eqb (get_or (set seen n e) k 0) e ≡ (is_in eqb k names || eqb k n)
      at true x =
          let y : k ≡ n = eqb-true k n x in
          ap (λ (i : ℕ). eqb (get_or (set seen n e) i 0) e) y ∙ (eq-eqb _ _ (get_or-set_same seen n e 0 h) ∙ sym (or_right (is_in eqb k names) (eqb k n) x))
      at false x =
          let y : k ≡ n → ⊥ = eqb-false k n x in
          ap (λ (i : ℕ). eqb i e) (get_or-set_other seen n k e 0 y) ∙ (s k l ∙ (sym (or_false (is_in eqb k names)) ∙ ap (λ (b : Bool). is_in eqb k names || b) (sym x)))

  old_more : ((k : ℕ) → get_or seen k 0 ≤ e) → (k : ℕ) → get_or (set seen n e) k 0 ≤ e
  old_more s k = at (eqb k n) refl
    where
      at : (b : Bool) → eqb k n ≡ b → get_or (set seen n e) k 0 ≤ e
      at true x =
          let y : k ≡ n = eqb-true k n x in
          let z : get_or (set seen n e) k 0 ≡ e = ap (λ (i : ℕ). get_or (set seen n e) i 0) y ∙ get_or-set_same seen n e 0 h in
          omega arith
      at false x =
          let z : get_or (set seen n e) k 0 ≡ get_or seen k 0 = get_or-set_other seen n k e 0 (eqb-false k n x) in
          omega (arith, s k)

-- no stamp is of a later epoch
none_stamped : (seen : List ℕ) (e : ℕ) → ((k : ℕ) → get_or seen k 0 ≤ e) → Stamped seen (e + 1) []
none_stamped seen e s k l = ne_eqb (get_or seen k 0) (e + 1) (λ x. omega (arith, x, s k))

-- an epoch that is no event has its time
timed_epoch : (f : ℕ) (o : Option ℕ) → f ≤ 5 → is_event f ≡ false → (o ≡ None → (2 ≤ f) × (f ≤ 4)) → o ≡ Some (given 0 o)
timed_epoch f None h e t = let p = t refl in absurd (never (sym e ∙ rw (le-leb 2 f p.0, le-leb f 5 h)))
timed_epoch f (Some x) h e t = refl

module _ (r : tables.Room) (c : State) (table seen : List ℕ) (lists : List (List (List ℕ))) (names : List ℕ) (s : Settled c table seen lists) (l : List ℕ) where
  pub epoch_step : EpochOk r (rule_at epoch_due c lists names).last (counts_of c.used) l → (b : Bool) → is_event (flag_at l) ≡ b
      → (x : Kept (cond b (after_event c l) (after_observed c l)) table seen)
      × (cond b (begun (rule_at epoch_due c lists names) (rule.after_line (flag_at l) false (count_at l)) (rule_at epoch_due c lists names).last)
      (begun (rule_at epoch_due c lists names) (rule.after_row (count_at l)) (epoch_time l)) ≡ rule_of _ _ _ x)
  unfolding after_event after_observed begun
  epoch_step o true e =
      let f = epoch_found l o.fits o.known in
      let n : count_at l < 1000 = few_counted l _ _ _ _ f.line in (
        kept_on c table seen lists s [] (after_event c l) refl (omega arith) (lines_due (after_event c l) lists [] seen (count_at l) refl n o.known),
        ap (λ (p : Place). rule_at p (after_event c l) lists []) (line_place (after_event c l) (count_at l) refl),
      )
  epoch_step o false e =
      let f = epoch_found l o.fits o.known in
      let n : count_at l < 1000 = few_counted l _ _ _ _ f.line in
      let t = timed_epoch (flag_at l) (epoch_time l) o.known e f.suits.timed in
      let q = row_place (after_observed c l) (count_at l) refl in (
        kept_on c table seen lists s [] (after_observed c l) refl (omega arith)
            (rows_due (after_observed c l) lists [] seen (count_at l) refl n (none_stamped seen c.used.epochs s.old)),
        λ i. begun (rule_at epoch_due c lists names) (q i) (t i),
      )

  pub row_step : RowDue c names seen → RowOk r lists names (counts_of c.used) l
      → (x : Kept (after_row c l) table (set seen (name_at l) c.used.epochs))
      × (next (rule_at (row_due c.left) c lists names) (row_due c.left) l ≡ rule_of _ _ _ x)
  unfolding after_row next rowed
  row_step d o =
      let h : name_at l < length seen = omega (arith, name_below l o.satellite, s.stamps) in
      let q = row_place (after_row c l) (c.left - 1) refl in
      let m = length_at c table seen lists s (system_at l) in (
        record {
          lists = lists;
          names = names ++ (name_at l ∷ []);
          settled =
              record {
                seven = s.seven;
                lengths = s.lengths;
                kept = s.kept;
                places = s.places;
                stamps = length-set seen (name_at l) c.used.epochs ∙ s.stamps;
                old = old_more seen c.used.epochs (name_at l) h s.old;
              };
          due = rows_due (after_row c l) lists (names ++ (name_at l ∷ [])) (set seen (name_at l) c.used.epochs) (c.left - 1) refl (omega (arith, d.few)) (stamped_more seen c.used.epochs (name_at l) h names d.stamped);
        },
        λ i. rowed (rule_at (row_due c.left) c lists names) (q i) (name_at l) (sym m i),
      )

  pub line_step : LineDue c
      → (x : Kept (after_line c l) table seen)
      × (next (rule_at (line_due c.flag c.left c.marked) c lists names) (line_due c.flag c.left c.marked) l ≡ rule_of _ _ _ x)
  unfolding after_line next rule.kept
  line_step d = (
    kept_on c table seen lists s names (after_line c l) refl (omega arith) (lines_due (after_line c l) lists names seen (c.left - 1) refl (omega (arith, d.few)) d.flag),
    ap (λ (p : Place). rule_at p (after_line c l) lists names) (line_place (after_line c l) (c.left - 1) refl),
  )
