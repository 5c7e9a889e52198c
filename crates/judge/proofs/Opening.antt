-- The loop over the header's lines: what is left of the text is judged as the whole, and the rule's state is kept. Assumes nothing.
use Prim.Native.Nat.{ℕ, ◌+◌, ◌-◌, ◌^◌, ◌≤◌, ◌<◌, ◌*◌}
use mathlib.Core.Path.{◌≡◌, refl, sym, ap, ◌∙◌, subst}
use mathlib.Core.Bool.{Bool, true, false, cond}
use mathlib.Core.List.{List, [], ◌∷◌}
use native.Mathlib.Omega.{arith}
use borrow.Author.Tests.{ltb-true}
use lib.Dec.{ltb}
use lib.ListN.{length, drop, drop_of_length-le, get_or}
use Rattle.lists.proofs.Bools.{not_is, both, never}
use Rattle.line.specs.Text.{Raw, split}
use Rattle.label.specs.Labels.{label_of, is}
use Rattle.label.specs.declared.Label.{Label}
use Rattle.label.specs.declared.Label.TheVariants.{Version, ObsTypes, FirstObs, Interval, EndOfHeader, ScaleFactor, MarkerName, Other, Unknown}
use Rattle.line.proofs.Columns.{length_cut}
use Rattle.find_line.proofs.Finding.{line_there}
use Rattle.rinex.specs.Refusals.{refused}
use Rattle.rinex.specs.Tests.{system_at, list_fits}
use Rattle.state.specs.declared.Room.{Room}
use Rattle.state.specs.declared.State.{State}
use Rattle.judge.specs.declared.Cursor.{Cursor}
use Rattle.std.specs.Prelude.{Ok, Err}
use Rattle.state.specs.declared.fault.LineFault.{LineFault}
use Rattle.state.specs.declared.Stage.{Stage}
use Rattle.state.specs.declared.Stage.TheVariants as stages
use Rattle.state.specs.Faults.{refusal_number}
use Rattle.state.proofs.Numbers.{some_number}
use Rattle.state.specs.Judge.{in_heading, judged, fault_at, record_fault, label_fault, comes_again, is_unfit, lacks_room, next_at, after_record, table_at, seen_at, ending_at, carried_with, begin, no_codes, none_seen, codes_in}
use Rattle.judge.specs.Ending.{Ended, header_end, after_header, more}
use Rattle.judge.specs.Step.{HeadSane, HeadFine, Stepped, Headed}
use Rattle.state.proofs.Kept.{Kept, kept_begin}
use Rattle.state.proofs.Sane.{kept_sane, CodesSane}
use Rattle.state.proofs.Simulated.{kept_next}
use Rattle.judge.proofs.Judging.{judged_fault, judged_step}
use Rattle.code_list.specs.Lines.{CodesStored}

-- what a continuation asks of the table
sane_stored : (c : State) (table : List ℕ) (y : ℕ) → CodesSane c table y → y < 7 → length table ≡ 448 → get_or c.lengths y 0 ≤ 64 → CodesStored table (64 * y) (codes_in c table y)
sane_stored c table y h q p f = record { within = omega (arith, h.many); codes = h.codes; entries = h.part }

-- where a header record is due
fault_record : (r : Room) (c : State) (table seen l : List ℕ) → c.stage ≡ stages.Record → fault_at c.stage r c table seen l ≡ record_fault r c (label_of l) l
unfolding fault_at
fault_record r c table seen l e = ap (λ (n : Stage). fault_at n r c table seen l) e

-- the header's lines leave the stamps
seen_stays : (n : Stage) (c : State) (l seen : List ℕ) → in_heading n ≡ true → seen_at n c l seen ≡ seen
unfolding seen_at
seen_stays stages.Version c l seen h = refl
seen_stays stages.Record c l seen h = refl
seen_stays stages.Continuation c l seen h = refl
seen_stays stages.Epoch c l seen h = refl
seen_stays stages.Row c l seen h = absurd (never h)
seen_stays stages.Event c l seen h = refl

pub seen_head : (c : State) (l seen : List ℕ) → in_heading c.stage ≡ true → seen ≡ seen_at c.stage c l seen
seen_head c l seen h = sym (seen_stays c.stage c l seen h)

-- a line without a fault carries no more than itself
module _ (c : State) (l : List ℕ) where
  carried_record : (k : Label) → (after_record c l k).used.carried ≤ carried_with c l
  unfolding after_record
  carried_record Version = omega arith
  carried_record ObsTypes = omega arith
  carried_record FirstObs = omega arith
  carried_record Interval = omega arith
  carried_record EndOfHeader = omega arith
  carried_record ScaleFactor = omega arith
  carried_record MarkerName = omega arith
  carried_record Other = omega arith
  carried_record Unknown = omega arith

  carried_at : (n : Stage) → in_heading n ≡ true → (next_at n c l).used.carried ≤ carried_with c l
  unfolding next_at
  carried_at stages.Version h = omega arith
  carried_at stages.Record h = carried_record (label_of l)
  carried_at stages.Continuation h = omega arith
  carried_at stages.Epoch h = absurd (never h)
  carried_at stages.Row h = absurd (never h)
  carried_at stages.Event h = absurd (never h)

-- a fit list has a system
third : (a b u v : Bool) → ◌≡◌ {A = ℕ} (cond a 4 (cond b 5 (cond u 6 (cond v 16 0)))) 0 → u ≡ false
third true b u v e = absurd (omega (arith, e))
third false true u v e = absurd (omega (arith, e))
third false false true v e = absurd (omega (arith, e))
third false false false v e = refl

list_fits_lem : (r : Room) (c : State) (l : List ℕ) → record_fault r c ObsTypes l ≡ 0 → system_at l < 7
unfolding record_fault is_unfit list_fits
list_fits_lem r c l h = ltb-true (system_at l) 7 (both (ltb (system_at l) 7) _ (not_is (list_fits c.letter l) (third (label_fault ObsTypes l) (comes_again c l ObsTypes) _ (lacks_room r c l ObsTypes) h))).0

list_system : (r : Room) (c : State) (l : List ℕ) (k : Label) → record_fault r c k l ≡ 0 → is ObsTypes k ≡ true → system_at l < 7
list_system r c l ObsTypes h e = list_fits_lem r c l h
list_system r c l Version h e = absurd (never e)
list_system r c l FirstObs h e = absurd (never e)
list_system r c l Interval h e = absurd (never e)
list_system r c l EndOfHeader h e = absurd (never e)
list_system r c l ScaleFactor h e = absurd (never e)
list_system r c l MarkerName h e = absurd (never e)
list_system r c l Other h e = absurd (never e)
list_system r c l Unknown h e = absurd (never e)

-- nor has it slots
slots_at_lem : (c : State) (l : List ℕ) (n : Stage) → in_heading n ≡ true → (next_at n c l).used.slots ≡ c.used.slots
unfolding next_at after_record
slots_at_lem c l stages.Version h = refl
slots_at_lem c l stages.Record h = go (label_of l)
  where
    go : (k : Label) → (after_record c l k).used.slots ≡ c.used.slots
    go Version = refl
    go ObsTypes = refl
    go FirstObs = refl
    go Interval = refl
    go EndOfHeader = refl
    go ScaleFactor = refl
    go MarkerName = refl
    go Other = refl
    go Unknown = refl
slots_at_lem c l stages.Continuation h = refl
slots_at_lem c l stages.Epoch h = absurd (never h)
slots_at_lem c l stages.Row h = absurd (never h)
slots_at_lem c l stages.Event h = absurd (never h)

-- the end of the header, from a line on
within_header : (c : State) (table : List ℕ) (w : Raw) (ws : List Raw) → in_heading c.stage ≡ true
    → after_header c table (w ∷ ws) ≡ more 1 (after_header (next_at c.stage c w.bytes) (table_at c.stage c w.bytes table) ws)
unfolding after_header
within_header c table w ws h = rw h refl

header_over : (c : State) (table : List ℕ) (ws : List Raw) → in_heading c.stage ≡ false → after_header c table ws ≡ record { lines = 0; state = c; table = table; rest = ws }
unfolding after_header
header_over c table [] h = refl
header_over c table (w ∷ ws) h = rw h refl

pub none_more : (e : Ended) → e ≡ more 0 e
none_more e = ap (λ (x : ℕ). record { lines = x; state = e.state; table = e.table; rest = e.rest }) (omega arith)

one_more : (k n : ℕ) (e : Ended) → 1 ≤ k → n ≡ k + 1 → more (k - 1) (more 1 e) ≡ more (n - 1) e
one_more k n e h f = ap (λ (x : ℕ). record { lines = x; state = e.state; table = e.table; rest = e.rest }) (omega (arith, f))

-- what is kept is what the code asks
pub head_sane : (c : State) (table seen : List ℕ) → Kept c table seen → in_heading c.stage ≡ true → HeadSane c table
head_sane c table seen k h =
    let s = kept_sane c table seen k in
    record {
      stage = h;
      seven = s.seven;
      few = s.few;
      places = s.places;
      next = λ e.
          let n = s.next e in
          record {
            system = n.system;
            left = n.few;
            many = (s.codes c.system n.system).many;
            stored = sane_stored c table c.system (s.codes c.system n.system) n.system s.places (s.few c.system);
          };
    }

pub head_fine : (r : Room) (c : State) (table seen l : List ℕ) → HeadSane c table → fault_at c.stage r c table seen l ≡ 0 → carried_with c l < 2 ^ 64 → HeadFine c l
head_fine r c table seen l s h n =
    record {
      system = λ e k. list_system r c l (label_of l) (sym (fault_record r c table seen l e) ∙ h) k;
      next = λ e. (s.next e).system;
      carried = n;
    }

moved : {c d : State} {table table' seen seen' : List ℕ} → d ≡ c → table' ≡ table → seen' ≡ seen → Kept c table seen → Kept d table' seen'
moved {c} {d} {table} {table'} {seen} {seen'} e f g k =
    subst (λ (x : State). Kept x table' seen') (sym e) (subst (λ (x : List ℕ). Kept c x seen') (sym f) (subst (λ (x : List ℕ). Kept c table x) (sym g) k))

-- the invariant
pub record Opens (t : List ℕ) (r : Room) (table : List ℕ) (c : Cursor) : Type 0 where
  pub kept : Kept c.state table none_seen
  pub at : c.at ≤ length t
  pub line : c.line ≤ c.at + 1
  pub carried : c.state.used.carried ≤ c.at
  pub first : 1 ≤ c.line
  pub slots : c.state.used.slots ≡ 0
  pub ends : header_end t ≡ more (c.line - 1) (after_header c.state table (split (drop c.at t)))
  pub same : judged r c.state table none_seen c.line (split (drop c.at t)) ≡ judged r begin no_codes none_seen 1 (split t)

-- the line of a refusal there
told_line : {t : List ℕ} {r : Room} {table : List ℕ} {c : Cursor} → Opens t r table c → (1 ≤ c.line) × (c.line ≤ length t + 1)
told_line o = (o.first, omega (arith, o.line, o.at))

none_used : (begin.used.carried ≤ 0) × (begin.used.slots ≡ 0)
unfolding begin
none_used = (omega arith, refl)

pub opens : (t : List ℕ) (r : Room) (table : List ℕ) (c : Cursor) → table ≡ no_codes → c ≡ record { at = 0; line = 1; state = begin } → Opens t r table c
opens t r table c i e =
    subst (λ (x : List ℕ). Opens t r x c) (sym i) (subst (Opens t r no_codes) (sym e) (record { kept = kept_begin; at = omega arith; line = omega arith; carried = none_used.0; first = omega arith; slots = none_used.1; ends = none_more (header_end t); same = refl }))

module _ (t : List ℕ) (r : Room) (table table' : List ℕ) (c : Cursor) (o : Opens t r table c) (b : in_heading c.state.stage ≡ true) (h : c.at < length t) where
  pub opens_on : (n : Cursor) → ((seen : List ℕ) (w : Raw) (ws : List Raw) → split (drop c.at t) ≡ w ∷ ws → Stepped r t c table table' seen seen w ws (Ok n)) → Opens t r table' n
  opens_on d f =
      let p = line_there t c.at h in
      let g = f none_seen p.0 p.1 p.2 in
      let n = g.next in
      record {
        kept = moved n.state g.table_is g.seen_is (kept_next r c.state table none_seen o.kept p.0 (sym g.fault));
        at = n.within;
        line = omega (arith, n.line, n.further, o.line);
        carried = omega (arith, n.place, o.carried, ap (λ (x : State). x.used.carried) n.state, carried_at c.state p.0.bytes c.state.stage b, length_cut p.0.bytes);
        first = omega (arith, n.line);
        slots = ap (λ (x : State). x.used.slots) n.state ∙ (slots_at_lem c.state p.0.bytes c.state.stage b ∙ o.slots);
        ends =
            o.ends
            ∙ (ap (λ (x : List Raw). more (c.line - 1) (after_header c.state table x)) p.2
            ∙ (ap (more (c.line - 1)) (within_header c.state table p.0 p.1 b)
            ∙ (one_more c.line d.line _ o.first n.line
            ∙ rw (n.rest, n.state, g.table_is) refl)));
        same = judged_step r t c d table table' none_seen none_seen p.0 p.1 p.2 (sym g.fault) n g.table_is g.seen_is ∙ o.same;
      }

  pub opens_fault : (e : LineFault) → ((seen : List ℕ) (w : Raw) (ws : List Raw) → split (drop c.at t) ≡ w ∷ ws → Stepped r t c table table' seen seen w ws (Err e))
      → length table' ≡ 448 → Headed r t table' (Err (record { fault = e; line = c.line }))
  opens_fault e f q =
      let p = line_there t c.at h in
      record {
        places = q;
        no = sym o.same ∙ judged_fault r table t c none_seen p.0 p.1 (refusal_number e) p.2 (f none_seen p.0 p.1 p.2).fault (λ z. omega (arith, some_number e, z));
        told = told_line o;
        yes = tt;
      }

-- the text ends in the header
pub opens_short : (t : List ℕ) (r : Room) (table : List ℕ) (c : Cursor) (e : LineFault) → Opens t r table c → length t ≤ c.at
    → ending_at c.state.stage c.state c.line ≡ refused (refusal_number e) c.line → Headed r t table (Err (record { fault = e; line = c.line }))
unfolding judged split
opens_short t r table c e o h p = record { places = o.kept.settled.places; no = sym o.same ∙ (rw (drop_of_length-le t h) p); told = told_line o; yes = tt }

-- the header ends
pub opens_end : (t : List ℕ) (r : Room) (table : List ℕ) (c : Cursor) → Opens t r table c → in_heading c.state.stage ≡ false → Headed r t table (Ok c)
opens_end t r table c o h =
    let s = kept_sane c.state table none_seen o.kept in
    record {
      places = s.places;
      no = tt;
      told = tt;
      yes =
          record {
            at = o.at;
            line = o.line;
            first = o.first;
            sane = record { stage = h; seven = s.seven; few = s.few };
            slots = o.slots;
            end = o.ends ∙ (ap (more (c.line - 1)) (header_over c.state table (split (drop c.at t)) h) ∙ ap (λ (x : ℕ). record { lines = x; state = c.state; table = table; rest = split (drop c.at t) }) (omega arith));
            same = sym o.same;
          };
    }
