-- Lines that spell epochs leave them in the tables: entries, rows, slots and the lines of events. Assumes nothing.
use Prim.Native.Nat.{ℕ, ◌+◌, ◌-◌}
use mathlib.Core.Path.{◌≡◌, refl, ap, sym, subst, ◌∙◌}
use mathlib.Core.Bool.{Bool, true, false, cond}
use mathlib.Core.List.{List, [], ◌∷◌, ◌++◌, map, append-nil}
use Rattle.std.specs.Prelude.{Option, None, Some}
use native.Mathlib.Omega.{arith}
use lib.ListN.{length, length-append, get_or-map}
use lib.IntN.{ℤ}
use borrow.Author.Tests.{le-leb, lt-leb}
use Rattle.lists.specs.Lists.{Each, joined}
use Rattle.line.specs.Text.{cut, raw}
use Rattle.rinex.specs.File.{Row, Observed, Event, Epoch, observed, event, satellite}
use Rattle.rinex.specs.Data.{RowLine, ObservedLines, EventLine, EventLines, EpochLines}
use Rattle.rinex.specs.Tables.{Buffers, all_slots}
use Rattle.rinex.specs.Tests.{flag_at, is_event, slots_of}
use Rattle.rinex.proofs.Rows.{row_of, row_back}
use Rattle.rinex.proofs.Epochs.{EpochBack, epoch_back, observed_suits, event_suits}
use Rattle.rinex.specs.declared.Counts.{Counts}
use Rattle.state.specs.declared.State.{State}
use Rattle.state.specs.declared.Stage.{Stage}
use Rattle.state.specs.declared.Stage.TheVariants as stages
use Rattle.state.proofs.Kept.{lengths_of}
use Rattle.rinex.specs.Refusals.{name_at}
use Rattle.state.specs.Judge.{slots_of_row, counted, row_stage, line_stage, next_at, after_event, after_observed, after_row, after_line}
use Rattle.fill.specs.Fill.{epoch_put, row_put, line_put, put_at, filled_from}
use Rattle.fill.proofs.Puts.{counts_same, put_entry, put_rows, put_lines, put_epoch, with_rows, with_lines, with_epoch, put, put_none, put_rows_lem, with_rows_lem, put_lines_lem, with_lines_lem, put_more}

-- one line, at a known stage
one_line : (c : State) (k : Stage) (b : Buffers) (l : List ℕ) (ls : List (List ℕ)) → c.stage ≡ k
    → filled_from c b (map raw (l ∷ ls)) ≡ filled_from (next_at k c l) (put_at k c l b) (map raw ls)
unfolding filled_from
one_line c k b l ls h = ap (λ (n : Stage). filled_from (next_at n c l) (put_at n c l b) (map raw ls)) h

-- A ROW
row_name : (lists : List (List (List ℕ))) (l : List ℕ) (q : Row) → RowLine lists l q → name_at l ≡ satellite q
row_name lists l q h = let b = row_back lists l q h in rw (b.system_is, b.number_is)

row_many : (lists : List (List (List ℕ))) (c : State) (l : List ℕ) (q : Row) → c.lengths ≡ lengths_of lists → RowLine lists l q → slots_of_row c l ≡ length q.slots
row_many lists c l q e h = rw e (get_or-map (λ (cs : List (List ℕ)). length cs) lists _ [] ∙ (row_back lists l q h).many)

row_slots : (lists : List (List (List ℕ))) (c : State) (l : List ℕ) (q : Row) → c.lengths ≡ lengths_of lists → RowLine lists l q → slots_of (slots_of_row c l) 4 l ≡ q.slots
unfolding row_of
row_slots lists c l q e h =
    let b = row_back lists l q h in
    ap (λ (n : ℕ). slots_of n 4 l) (row_many lists c l q e h ∙ sym b.many) ∙ sym (ap (λ (r : Row). r.slots) b.row_is)

-- what it puts, and what is used then
row_put_lem : (lists : List (List (List ℕ))) (c : State) (l : List ℕ) (q : Row) (b : Buffers) → c.lengths ≡ lengths_of lists → RowLine lists l q → row_put c l b ≡ put_rows c.used (q ∷ []) b
unfolding row_put put_rows all_slots
row_put_lem lists c l q b e h = rw (row_name lists l q h, row_slots lists c l q e h, append-nil)

row_used : (lists : List (List (List ℕ))) (c : State) (l : List ℕ) (q : Row) → c.lengths ≡ lengths_of lists → RowLine lists l q → (after_row c l).used ≡ with_rows c.used (q ∷ [])
unfolding after_row all_slots
row_used lists c l q e h = rw (row_many lists c l q e h, append-nil)

-- A LINE OF AN EVENT
line_put_lem : (c : State) (l : List ℕ) (k : List ℕ) (b : Buffers) → EventLine l k → line_put c l b ≡ put_lines c.used (k ∷ []) b
unfolding line_put put_lines
line_put_lem c l k b h = rw h.kept

line_used : (c : State) (l : List ℕ) (k : List ℕ) → EventLine l k → (after_line c l).used ≡ with_lines c.used (k ∷ [])
unfolding after_line
line_used c l k h = rw (h.kept, length-append (cut l) (10 ∷ []))

-- AN EPOCH RECORD
entry_put : (c : State) (l : List ℕ) (b : Buffers) (time : Option ℕ) (flag count : ℕ) (clock : Option ℤ) → EpochBack l time flag count clock → epoch_put c l b ≡ put_entry c.used time flag count clock b
unfolding epoch_put put_entry
entry_put c l b time flag count clock h = rw (h.time_is, h.flag_is, h.count_is, h.clock_is)

-- THE LINES OF AN EPOCH, AND THEN OTHERS
module _ (lists : List (List (List ℕ))) (ms : List (List ℕ)) (x : Buffers) where
  -- from where u is used and b are the tables, the other lines leave x
  abbrev Leaves : Counts → Buffers → Type 0
  Leaves u b = (c : State) → c.stage ≡ stages.Epoch → c.lengths ≡ lengths_of lists → c.used ≡ u → filled_from c b (map raw ms) ≡ x

  leaves_on : (u v : Counts) (a b : Buffers) → u ≡ v → a ≡ b → Leaves v b → Leaves u a
  leaves_on u v a b p q k c s e w = subst (λ (y : Buffers). filled_from c y (map raw ms) ≡ x) (sym q) (k c s e (w ∙ p))

  rows_filled : (ls : List (List ℕ)) (qs : List Row) (c : State) (b : Buffers) → Each (RowLine lists) ls qs → c.stage ≡ row_stage (length qs) → c.left ≡ length qs → c.lengths ≡ lengths_of lists
      → Leaves (with_rows c.used qs) (put_rows c.used qs b) → filled_from c b (map raw (ls ++ ms)) ≡ x
  unfolding next_at put_at after_row put_rows all_slots
  rows_filled [] [] c b h s m e k = k c s e (counts_same _ _ refl (omega arith) (omega arith) refl)
  rows_filled [] (q ∷ qs) c b h s m e k = absurd h
  rows_filled (l ∷ ls) [] c b h s m e k = absurd h
  rows_filled (l ∷ ls) (q ∷ qs) c b h s m e k =
      let u : (after_row c l).used ≡ with_rows c.used (q ∷ []) = row_used lists c l q e h.0 in
      let p : row_put c l b ≡ put_rows c.used (q ∷ []) b = row_put_lem lists c l q b e h.0 in
      let n : c.left - 1 ≡ length qs = omega (arith, m) in
      one_line c stages.Row b l (ls ++ ms) s
      ∙ rows_filled ls qs (after_row c l) (row_put c l b) h.1 (ap row_stage n) n e
      (leaves_on _ _ _ _ (ap (λ (v : Counts). with_rows v qs) u ∙ with_rows_lem c.used (q ∷ []) qs)
      (ap (λ (v : Counts). put_rows v qs (row_put c l b)) u ∙ (ap (λ (y : Buffers). put_rows (with_rows c.used (q ∷ [])) qs y) p ∙ put_rows_lem c.used (q ∷ []) qs b)) k)

  lines_filled : (ls ks : List (List ℕ)) (c : State) (b : Buffers) → Each EventLine ls ks → c.stage ≡ line_stage (length ks) → c.left ≡ length ks → c.lengths ≡ lengths_of lists
      → Leaves (with_lines c.used ks) (put_lines c.used ks b) → filled_from c b (map raw (ls ++ ms)) ≡ x
  unfolding next_at put_at after_line put_lines
  lines_filled [] [] c b h s m e k = k c s e (counts_same _ _ refl refl refl (omega arith))
  lines_filled [] (q ∷ qs) c b h s m e k = absurd h
  lines_filled (l ∷ ls) [] c b h s m e k = absurd h
  lines_filled (l ∷ ls) (q ∷ qs) c b h s m e k =
      let u : (after_line c l).used ≡ with_lines c.used (q ∷ []) = line_used c l q h.0 in
      let p : line_put c l b ≡ put_lines c.used (q ∷ []) b = line_put_lem c l q b h.0 in
      let n : c.left - 1 ≡ length qs = omega (arith, m) in
      one_line c stages.Event b l (ls ++ ms) s
      ∙ lines_filled ls qs (after_line c l) (line_put c l b) h.1 (ap line_stage n) n e
      (leaves_on _ _ _ _ (ap (λ (v : Counts). with_lines v qs) u ∙ with_lines_lem c.used (q ∷ []) qs)
      (ap (λ (v : Counts). put_lines v qs (line_put c l b)) u ∙ (ap (λ (y : Buffers). put_lines (with_lines c.used (q ∷ [])) qs y) p ∙ put_lines_lem c.used (q ∷ []) qs b)) k)

  observed_filled : (l : List ℕ) (ls : List (List ℕ)) (o : Observed) (c : State) (b : Buffers) → ObservedLines lists l ls o → c.stage ≡ stages.Epoch → c.lengths ≡ lengths_of lists
      → Leaves (with_epoch c.used (observed o)) (put_epoch c.used (observed o) b) → filled_from c b (map raw (l ∷ (ls ++ ms))) ≡ x
  unfolding next_at put_at after_observed put_entry put_rows put_lines
  observed_filled l ls o c b h s e k =
      let z : EpochBack l (Some o.time) o.flag (length o.rows) o.clock = epoch_back l (Some o.time) o.flag (length o.rows) o.clock h.line (observed_suits lists l ls o h) in
      let f : is_event (flag_at l) ≡ false = rw (z.flag_is, lt-leb 2 o.flag (omega (arith, h.flag))) in
      one_line c stages.Epoch b l (ls ++ ms) s
      ∙ (ap (λ (t : Bool). filled_from (cond t (after_event c l) (after_observed c l)) (epoch_put c l b) (map raw (ls ++ ms))) f
      ∙ rows_filled ls o.rows (after_observed c l) (epoch_put c l b) h.rows (ap row_stage z.count_is) z.count_is e
      (leaves_on _ _ _ _ (counts_same _ _ refl refl refl (omega arith))
      (ap (λ (y : Buffers). put_rows (counted (c.used.epochs + 1) c.used.rows c.used.slots c.used.carried) o.rows y)
      (entry_put c l b (Some o.time) o.flag (length o.rows) o.clock z)) k))

  event_filled : (l : List ℕ) (ls : List (List ℕ)) (v : Event) (c : State) (b : Buffers) → EventLines l ls v → c.stage ≡ stages.Epoch → c.lengths ≡ lengths_of lists
      → Leaves (with_epoch c.used (event v)) (put_epoch c.used (event v) b) → filled_from c b (map raw (l ∷ (ls ++ ms))) ≡ x
  unfolding next_at put_at after_event put_entry put_rows put_lines all_slots
  event_filled l ls v c b h s e k =
      let z : EpochBack l v.time v.flag (length v.lines) None = epoch_back l v.time v.flag (length v.lines) None h.line (event_suits l ls v h) in
      let f : is_event (flag_at l) ≡ true = rw (z.flag_is, le-leb 2 v.flag h.flag_from, le-leb v.flag 5 h.flag_to) in
      one_line c stages.Epoch b l (ls ++ ms) s
      ∙ (ap (λ (t : Bool). filled_from (cond t (after_event c l) (after_observed c l)) (epoch_put c l b) (map raw (ls ++ ms))) f
      ∙ lines_filled ls v.lines (after_event c l) (epoch_put c l b) h.lines (ap line_stage z.count_is) z.count_is e
      (leaves_on _ _ _ _ (counts_same _ _ refl (omega arith) (omega arith) refl)
      (ap (λ (y : Buffers). put_lines (counted (c.used.epochs + 1) c.used.rows c.used.slots c.used.carried) v.lines y)
      (entry_put c l b v.time v.flag (length v.lines) None z)) k))

-- THE LINES OF SOME EPOCHS
pub epochs_filled : (lists : List (List (List ℕ))) (gs : List (List (List ℕ))) (es : List Epoch) (c : State) (b : Buffers) → Each (EpochLines lists) gs es
    → c.stage ≡ stages.Epoch → c.lengths ≡ lengths_of lists → filled_from c b (map raw (joined gs)) ≡ put c.used es b
unfolding filled_from
epochs_filled lists [] [] c b h s e = sym (put_none c.used b)
epochs_filled lists [] (x ∷ es) c b h s e = absurd h
epochs_filled lists (g ∷ gs) [] c b h s e = absurd h
epochs_filled lists ([] ∷ gs) (x ∷ es) c b h s e = absurd h.0
epochs_filled lists ((l ∷ ls) ∷ gs) (observed o ∷ es) c b h s e =
    observed_filled lists (joined gs) (put c.used (observed o ∷ es) b) l ls o c b h.0 s e
    (λ c' s' e' u.
    epochs_filled lists gs es c' (put_epoch c.used (observed o) b) h.1 s' e'
    ∙ (ap (λ (v : Counts). put v es (put_epoch c.used (observed o) b)) u ∙ put_more c.used (observed o) es b))
epochs_filled lists ((l ∷ ls) ∷ gs) (event v ∷ es) c b h s e =
    event_filled lists (joined gs) (put c.used (event v ∷ es) b) l ls v c b h.0 s e
    (λ c' s' e' u.
    epochs_filled lists gs es c' (put_epoch c.used (event v) b) h.1 s' e'
    ∙ (ap (λ (w : Counts). put w es (put_epoch c.used (event v) b)) u ∙ put_more c.used (event v) es b))
