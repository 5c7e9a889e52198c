-- Lines of the data that lead to the end without a fault spell epochs. Assumes nothing.
use Prim.Native.Nat.{ℕ, zero, suc, ◌-◌, ◌≤◌, ◌<◌}
use mathlib.Core.Path.{◌≡◌, refl, ap, sym, subst, ◌∙◌}
use mathlib.Core.Bool.{Bool, true, false, cond, ◌&&◌, ◌||◌, true≢false}
use mathlib.Core.List.{List, [], ◌∷◌, ◌++◌, map}
use Rattle.std.specs.Prelude.{Option, None, Some}
use native.Mathlib.Omega.{arith}
use lib.Dec.{eqb, leb}
use lib.ListN.{length}
use borrow.Author.Tests.{leb-true, leb-false, le-leb}
use Rattle.lists.specs.Lists.{Each, joined, is_in, fresh}
use Rattle.lists.specs.Maybe.{given}
use Rattle.lists.proofs.Bools.{both, all_of, or_assoc}
use Rattle.line.specs.Text.{cut}
use Rattle.label.specs.declared.Label.TheVariants.{MarkerName}
use Rattle.label.specs.Labels.{is, label_of}
use Rattle.rinex.specs.File.{Row, Observed, Event, Epoch, observed, event, satellite, times}
use Rattle.rinex.specs.Data.{EpochLine, RowLine, EventLine, TimeAsked, any_marker_name, EpochLines, later, ascend, DataLines}
use Rattle.rinex.specs.Tables.{Counts, Room}
use Rattle.rinex.specs.Tests.{flag_at, count_at, epoch_time, is_event}
use Rattle.rinex.specs.Refusals.{Place, version_due, in_header, next_due, epoch_due, row_due, line_due, SoFar, State, name_at, next, begun, rowed, kept, after_row, after_line}
use Rattle.rinex.proofs.Rows.{codes_of, row_of, row_found, slots_length}
use Rattle.rinex.proofs.Epochs.{clock_at, EpochFound, epoch_found}
use Rattle.rinex.proofs.Reach.{Reach}
use Rattle.rinex.proofs.Places.{at, settled, EpochOk, epoch_ok, row_ok, line_ok}
use Rattle.rinex.proofs.Counting.{bump, add_row, add_line, add_rows, add_lines, add_all, Within}

-- as `DataLines`, where the last time before is `last`
record DataFrom (last : Option ℕ) (lists : List (List (List ℕ))) (ls : List (List ℕ)) (es : List Epoch) : Type 0 where
  pub groups : List (List (List ℕ))
  pub lines : ls ≡ joined groups
  pub epochs : Each (EpochLines lists) groups es
  pub order : ascend last (times es) ≡ true

-- what lines spell, by what is due at the first of them
module _ (n : Counts) (lists : List (List (List ℕ))) (last : Option ℕ) (u : Counts) where
  record EpochsRest (ls : List (List ℕ)) : Type 0 where
    pub epochs : List Epoch
    pub from : DataFrom last lists ls epochs
    pub total : n ≡ add_all u epochs

  record RowsRest (seen : List ℕ) (m : ℕ) (ls : List (List ℕ)) : Type 0 where
    pub these : List (List ℕ)
    pub those : List (List ℕ)
    pub rows : List Row
    pub epochs : List Epoch
    pub lines : ls ≡ these ++ those
    pub each : Each (RowLine lists) these rows
    pub many : length rows ≡ m
    pub apart : fresh eqb seen (map satellite rows) ≡ true
    pub from : DataFrom last lists those epochs
    pub total : n ≡ add_all (add_rows u rows) epochs

  record LinesRest (f m : ℕ) (b : Bool) (ls : List (List ℕ)) : Type 0 where
    pub these : List (List ℕ)
    pub those : List (List ℕ)
    pub texts : List (List ℕ)
    pub epochs : List Epoch
    pub lines : ls ≡ these ++ those
    pub each : Each EventLine these texts
    pub many : length texts ≡ m
    pub marker : f ≡ 3 → (b || any_marker_name these) ≡ true
    pub from : DataFrom last lists those epochs
    pub total : n ≡ add_all (add_lines u texts) epochs

  abbrev Rest : List ℕ → Place → List (List ℕ) → Type 0
  Rest seen version_due ls = ⊥
  Rest seen in_header ls = ⊥
  Rest seen (next_due y m) ls = ⊥
  Rest seen epoch_due ls = EpochsRest ls
  Rest seen (row_due m) ls = RowsRest seen m ls
  Rest seen (line_due f m b) ls = LinesRest f m b ls

  rows_rest : (seen : List ℕ) (m : ℕ) (ls : List (List ℕ)) → Rest seen (after_row m) ls → RowsRest seen m ls
  rows_rest seen zero ls e =
      record { these = []; those = ls; rows = []; epochs = e.epochs; lines = refl; each = tt; many = refl; apart = refl; from = e.from; total = e.total }
  rows_rest seen (suc m) ls e = e

  lines_rest : (seen : List ℕ) (f : ℕ) (b : Bool) (m : ℕ) (ls : List (List ℕ)) → (m ≡ 0 → f ≡ 3 → b ≡ true) → Rest seen (after_line f b m) ls → LinesRest f m b ls
  lines_rest seen f b zero ls h e =
      record { these = []; those = ls; texts = []; epochs = e.epochs; lines = refl; each = tt; many = refl; marker = λ x. rw (h refl x); from = e.from; total = e.total }
  lines_rest seen f b (suc m) ls h e = e

-- one line more
module _ (n : Counts) (lists : List (List (List ℕ))) (last : Option ℕ) (u : Counts) (l : List ℕ) (ls : List (List ℕ)) where
  row_onto : (seen : List ℕ) (m : ℕ) (q : Row) → RowLine lists l q → is_in eqb (satellite q) seen ≡ false
      → RowsRest n lists last (add_row u (length q.slots)) (seen ++ (satellite q ∷ [])) m ls → RowsRest n lists last u seen (suc m) (l ∷ ls)
  row_onto seen m q h e i =
      record {
        these = l ∷ i.these;
        those = i.those;
        rows = q ∷ i.rows;
        epochs = i.epochs;
        lines = ap (λ (x : List (List ℕ)). l ∷ x) i.lines;
        each = (h, i.each);
        many = ap suc i.many;
        apart = rw e i.apart;
        from = i.from;
        total = i.total;
      }

  line_onto : (f m : ℕ) (b : Bool) (c : List ℕ) → EventLine l c → LinesRest n lists last (add_line u (length c)) f m (b || is MarkerName (label_of l)) ls
      → LinesRest n lists last u f (suc m) b (l ∷ ls)
  line_onto f m b c h i =
      record {
        these = l ∷ i.these;
        those = i.those;
        texts = c ∷ i.texts;
        epochs = i.epochs;
        lines = ap (λ (x : List (List ℕ)). l ∷ x) i.lines;
        each = (h, i.each);
        many = ap suc i.many;
        marker = λ x. sym (or_assoc b (is MarkerName (label_of l)) (any_marker_name i.these)) ∙ i.marker x;
        from = i.from;
        total = i.total;
      }

  observed_onto : (t : ℕ) → flag_at l ≤ 1 → epoch_time l ≡ Some t → EpochFound l → later last (given 0 (epoch_time l)) ≡ true
      → RowsRest n lists (epoch_time l) (bump u) [] (count_at l) ls → EpochsRest n lists last u (l ∷ ls)
  observed_onto t flag e p h i =
      let o : Observed = record { time = t; flag = flag_at l; clock = clock_at l; rows = i.rows } in
      let d = i.from in
      let s : ascend (Some t) (times i.epochs) ≡ true = rw e at d.order in
      let a : later last t ≡ true = rw e at h in
      let x : EpochLine l (Some t) (flag_at l) (length i.rows) (clock_at l) = rw (← e, i.many) p.line in
      record {
        epochs = observed o ∷ i.epochs;
        from =
            record {
              groups = (l ∷ i.these) ∷ d.groups;
              lines = ap (λ (x : List (List ℕ)). l ∷ x) (i.lines ∙ ap (λ (x : List (List ℕ)). i.these ++ x) d.lines);
              epochs = (record { flag = flag; line = x; rows = i.each; apart = i.apart }, d.epochs);
              order = all_of (later last t) _ a s;
            };
        total = i.total;
      }

  event_onto : 2 ≤ flag_at l → EpochFound l → LinesRest n lists last (bump u) (flag_at l) (count_at l) false ls → EpochsRest n lists last u (l ∷ ls)
  event_onto flag p i =
      let v : Event = record { time = epoch_time l; flag = flag_at l; lines = i.texts } in
      let d = i.from in
      let x : EpochLine l (epoch_time l) (flag_at l) (length i.texts) None = rw (← p.suits.clocked flag, i.many) p.line in
      record {
        epochs = event v ∷ i.epochs;
        from =
            record {
              groups = (l ∷ i.these) ∷ d.groups;
              lines = ap (λ (x : List (List ℕ)). l ∷ x) (i.lines ∙ ap (λ (x : List (List ℕ)). i.these ++ x) d.lines);
              epochs = (
                record {
                  flag_from = flag;
                  flag_to = p.suits.known;
                  line = x;
                  time = asked (epoch_time l) p.suits.timed;
                  lines = i.each;
                  marker = i.marker;
                },
                d.epochs,
              );
              order = d.order;
            };
        total = i.total;
      }
    where
      asked : (o : Option ℕ) → (o ≡ None → (2 ≤ flag_at l) × (flag_at l ≤ 4)) → TimeAsked (flag_at l) o
      asked None h = (h refl).1
      asked (Some t) h = tt

-- a place in the data, with lines left where some are due
abbrev InData : Place → Type 0
InData version_due = ⊥
InData in_header = ⊥
InData (next_due y m) = ⊥
InData epoch_due = Unit
InData (row_due zero) = ⊥
InData (row_due (suc m)) = Unit
InData (line_due f zero b) = ⊥
InData (line_due f (suc m) b) = Unit

in_row : (m : ℕ) → InData (after_row m)
in_row zero = tt
in_row (suc m) = tt

in_line_lem : (f : ℕ) (b : Bool) (m : ℕ) → InData (after_line f b m)
in_line_lem f b zero = tt
in_line_lem f b (suc m) = tt

-- from a place in the data, the lines that lead to the end spell what is due
module _ (r : Room) (z : SoFar) (end : State) (done : end.place ≡ epoch_due) where
  abbrev n : Counts
  n = end.used

  record Found (last : Option ℕ) (seen : List ℕ) (u : Counts) (p : Place) (ls : List (List ℕ)) : Type 0 where
    pub within : Within r n
    pub rest : Rest n z.lists last u seen p ls

  abbrev Goal : List (List ℕ) → Type 0
  Goal ls = (p : Place) (last : Option ℕ) (seen : List ℕ) (u : Counts) → InData p → Within r u → Reach r (at z p last seen u) ls end → Found last seen u p ls

  module _ (l : List ℕ) (ls : List (List ℕ)) (ih : Goal ls) (last : Option ℕ) (seen : List ℕ) (u : Counts) (within : Within r u) where
    row_step : (m : ℕ) → Reach r (at z (row_due (suc m)) last seen u) (l ∷ ls) end → Found last seen u (row_due (suc m)) (l ∷ ls)
    unfolding next rowed row_of
    row_step m h =
        let c = row_ok r z last seen u l (suc m) h.0 in
        let v = add_row u (codes_of z.lists l) in
        let t : Within r v = record { epochs = within.epochs; rows = c.rows; slots = c.slots; carried = within.carried } in
        let e : suc m - 1 ≡ m = omega arith in
        let i = ih (after_row m) last (seen ++ (name_at l ∷ [])) v (in_row m) t (rw e at h.1) in
        let y = rows_rest n z.lists last v (seen ++ (name_at l ∷ [])) m ls i.rest in
        record {
          within = i.within;
          rest =
              row_onto n z.lists last u l ls seen m (row_of z.lists l)
              (row_found z.lists l c.satellite c.declared c.fit) c.unseen (rw (slots_length (codes_of z.lists l) 4 l) y);
        }

    line_step : (f m : ℕ) (b : Bool) → Reach r (at z (line_due f (suc m) b) last seen u) (l ∷ ls) end → Found last seen u (line_due f (suc m) b) (l ∷ ls)
    unfolding next kept
    line_step f m b h =
        let c = line_ok r z last seen u l f (suc m) b h.0 in
        let v = add_line u (length (cut l)) in
        let d : Bool = b || is MarkerName (label_of l) in
        let t : Within r v = record { epochs = within.epochs; rows = within.rows; slots = within.slots; carried = c.room } in
        let e : suc m - 1 ≡ m = omega arith in
        let i = ih (after_line f d m) last seen v (in_line_lem f d m) t (rw e at h.1) in
        let y = lines_rest n z.lists last v seen f d m ls (λ x g. c.marker g (omega arith)) i.rest in
        record {
          within = i.within;
          rest = line_onto n z.lists last u l ls f m b (cut l) (record { kept = refl; known = c.known; not_barred = c.not_barred; rest = c.rest }) y;
        }

    epoch_step : Reach r (at z epoch_due last seen u) (l ∷ ls) end → Found last seen u epoch_due (l ∷ ls)
    unfolding next begun
    epoch_step h =
        let c = epoch_ok r z last seen u l h.0 in
        go (is_event (flag_at l)) refl c (epoch_found l c.fits c.known) h.1
      where
        low : (f : ℕ) → f ≤ 5 → is_event f ≡ false → f ≤ 1
        low f x e = let h : f < 2 = leb-false 2 f (under (leb 2 f) (leb f 5) e (le-leb f 5 x)) in omega arith
          where
            under : (a b : Bool) → (a && b) ≡ false → b ≡ true → a ≡ false
            under true b p q = absurd (true≢false (sym q ∙ p))
            under false b p q = refl

        grown : EpochOk r last u l → Within r (bump u)
        grown c = record { epochs = c.room; rows = within.rows; slots = within.slots; carried = within.carried }

        timed : (o : Option ℕ) → epoch_time l ≡ o → flag_at l ≤ 1 → EpochFound l → (t : ℕ) × (epoch_time l ≡ Some t)
        timed None e x p = absurd (omega (arith, x, (p.suits.timed e).0))
        timed (Some t) e x p = (t, e)

        go : (b : Bool) → is_event (flag_at l) ≡ b → EpochOk r last u l → EpochFound l
            → Reach r (cond b (at z (after_line (flag_at l) false (count_at l)) last [] (bump u)) (at z (after_row (count_at l)) (epoch_time l) [] (bump u))) ls end
            → Found last seen u epoch_due (l ∷ ls)
        go true e c p a =
            let x = both (leb 2 (flag_at l)) _ e in
            let i = ih (after_line (flag_at l) false (count_at l)) last [] (bump u) (in_line_lem (flag_at l) false (count_at l)) (grown c) a in
            let y = lines_rest n z.lists last (bump u) [] (flag_at l) false (count_at l) ls (λ q f. absurd (c.marker f q)) i.rest in
            record { within = i.within; rest = event_onto n z.lists last u l ls (leb-true _ _ x.0) p y }
        go false e c p a =
            let f : flag_at l ≤ 1 = low (flag_at l) c.known e in
            let t = timed (epoch_time l) refl f p in
            let i = ih (after_row (count_at l)) (epoch_time l) [] (bump u) (in_row (count_at l)) (grown c) a in
            let y = rows_rest n z.lists (epoch_time l) (bump u) [] (count_at l) ls i.rest in
            record { within = i.within; rest = observed_onto n z.lists last u l ls t.0 f t.1 p (c.order f) y }

  -- no line is left
  ended : (p : Place) (last : Option ℕ) (seen : List ℕ) (u : Counts) → Within r u → p ≡ epoch_due → at z p last seen u ≡ end → Found last seen u epoch_due []
  ended p last seen u w d h =
      let e : u ≡ n = ap (λ (s : State). s.used) h in
      record { within = rw (← e) w; rest = record { epochs = []; from = record { groups = []; lines = refl; epochs = tt; order = refl }; total = sym e } }

  due : (p : Place) (last : Option ℕ) (seen : List ℕ) (u : Counts) → at z p last seen u ≡ end → p ≡ epoch_due
  due p last seen u h = ap (λ (s : State). s.place) h ∙ done

  found : (ls : List (List ℕ)) → Goal ls
  found [] version_due last seen u i w h = absurd i
  found [] in_header last seen u i w h = absurd i
  found [] (next_due y m) last seen u i w h = absurd i
  found [] epoch_due last seen u i w h = ended epoch_due last seen u w refl h
  found [] (row_due m) last seen u i w h = absurd (let d : row_due m ≡ epoch_due = due (row_due m) last seen u h in let y : ◌≡◌ {A = ℕ} 0 1 = cc in omega arith)
  found [] (line_due f m b) last seen u i w h = absurd (let d : line_due f m b ≡ epoch_due = due (line_due f m b) last seen u h in let y : ◌≡◌ {A = ℕ} 0 1 = cc in omega arith)
  found (l ∷ ls) version_due last seen u i w h = absurd i
  found (l ∷ ls) in_header last seen u i w h = absurd i
  found (l ∷ ls) (next_due y m) last seen u i w h = absurd i
  found (l ∷ ls) epoch_due last seen u i w h = epoch_step l ls (found ls) last seen u w h
  found (l ∷ ls) (row_due zero) last seen u i w h = absurd i
  found (l ∷ ls) (row_due (suc m)) last seen u i w h = row_step l ls (found ls) last seen u w m h
  found (l ∷ ls) (line_due f zero b) last seen u i w h = absurd i
  found (l ∷ ls) (line_due f (suc m) b) last seen u i w h = line_step l ls (found ls) last seen u w f m b h

  pub data_sound : (s : State) (ls : List (List ℕ)) → s.place ≡ epoch_due → s.last ≡ None → s.head ≡ z → Within r s.used → Reach r s ls end
      → (es : List Epoch) × DataLines z.lists ls es × (n ≡ add_all s.used es) × Within r n
  data_sound s ls d o e w h =
      let f = found ls epoch_due None s.seen s.used tt w (subst (λ (x : State). Reach r x ls end) (settled z s d o e) h) in
      let g = f.rest.from in
      (f.rest.epochs, record { groups = g.groups; lines = g.lines; epochs = g.epochs; order = g.order }, f.rest.total, f.within)
