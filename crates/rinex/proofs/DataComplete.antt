-- Lines that spell epochs lead to the end without a fault, where there is room for them. Assumes nothing.
use Prim.Native.Nat.{ℕ, suc, ◌-◌}
use mathlib.Core.Path.{◌≡◌, refl, ap, sym, subst, ◌∙◌}
use mathlib.Core.Bool.{Bool, true, false, cond, not, ◌||◌}
use mathlib.Core.List.{List, [], ◌∷◌, ◌++◌, map}
use Rattle.std.specs.Prelude.{Option, None, Some}
use native.Mathlib.Omega.{arith}
use lib.Dec.{eqb}
use lib.ListN.{length}
use borrow.Author.Tests.{le-leb, lt-leb, not-true}
use Rattle.lists.specs.Lists.{Each, joined, is_in, fresh}
use Rattle.lists.proofs.Bools.{never, both, or_assoc, or_false}
use Rattle.label.specs.declared.Label.TheVariants.{MarkerName}
use Rattle.label.specs.Labels.{is, label_of}
use Rattle.rinex.specs.File.{Row, Observed, Event, Epoch, observed, event, satellite, times}
use Rattle.rinex.specs.Data.{RowLine, ObservedLines, EventLine, any_marker_name, EventLines, EpochLines, later, ascend, DataLines}
use Rattle.rinex.specs.Tables.{Counts, Room}
use Rattle.rinex.specs.Tests.{flag_at, count_at, epoch_time, is_event}
use Rattle.rinex.specs.Refusals.{epoch_due, row_due, line_due, SoFar, State, name_at, next, begun, rowed, kept, after_row, after_line}
use Rattle.rinex.proofs.Rows.{row_back}
use Rattle.rinex.proofs.Epochs.{epoch_back, observed_suits, event_suits}
use Rattle.rinex.proofs.Reach.{Ok, Reach}
use Rattle.rinex.proofs.Places.{at, settled, EpochOk, ok_epoch, ok_row, ok_line}
use Rattle.rinex.proofs.Counting.{bump, add_row, add_line, add_rows, add_lines, add_all, Within, rows_within, lines_within, all_within}

module _ (r : Room) (z : SoFar) (n : Counts) where
  -- from a state, the lines lead to the end, with these counts
  pub record Ends (s : State) (ls : List (List ℕ)) : Type 0 where
    pub last : State
    pub reach : Reach r s ls last
    pub place : last.place ≡ epoch_due
    pub used : last.used ≡ n

  one_more : (s : State) (l : List ℕ) (ls : List (List ℕ)) → Ok r s s.place l → Ends (next s s.place l) ls → Ends s (l ∷ ls)
  one_more s l ls o e = record { last = e.last; reach = (o, e.reach); place = e.place; used = e.used }

  -- one line
  module _ (last : Option ℕ) (seen : List ℕ) (u : Counts) (l : List ℕ) (ls : List (List ℕ)) where
    row_taken : (m : ℕ) (q : Row) → RowLine z.lists l q → is_in eqb (satellite q) seen ≡ false → Within r (add_row u (length q.slots))
        → Ends (at z (after_row m) last (seen ++ (satellite q ∷ [])) (add_row u (length q.slots))) ls → Ends (at z (row_due (suc m)) last seen u) (l ∷ ls)
    unfolding next rowed
    row_taken m q h e w k =
        let b = row_back z.lists l q h in
        let nm : name_at l ≡ satellite q = rw (b.system_is, b.number_is) in
        let one : suc m - 1 ≡ m = omega arith in
        one_more (at z (row_due (suc m)) last seen u) l ls
        (ok_row r z last seen u l (suc m)
        (record { satellite = b.satellite; declared = b.declared; unseen = rw nm e; fit = b.fit; rows = w.rows; slots = rw b.many w.slots }))
        (rw (one, nm, b.many) k)

    line_taken : (f m : ℕ) (b : Bool) (c : List ℕ) → EventLine l c → (f ≡ 3 → m ≡ 0 → (b || is MarkerName (label_of l)) ≡ true) → Within r (add_line u (length c))
        → Ends (at z (after_line f (b || is MarkerName (label_of l)) m) last seen (add_line u (length c))) ls → Ends (at z (line_due f (suc m) b) last seen u) (l ∷ ls)
    unfolding next kept
    line_taken f m b c h g w k =
        let one : suc m - 1 ≡ m = omega arith in
        one_more (at z (line_due f (suc m) b) last seen u) l ls
        (ok_line r z last seen u l f (suc m) b
        (record { known = h.known; not_barred = h.not_barred; rest = h.rest; marker = λ x y. g x (omega arith); room = rw (← h.kept) w.carried }))
        (rw (one, ← h.kept) k)

    epoch_taken : (time : Option ℕ) (flag count : ℕ) → EpochOk r last u l → epoch_time l ≡ time → flag_at l ≡ flag → count_at l ≡ count
        → Ends (cond (is_event flag) (at z (after_line flag false count) last [] (bump u)) (at z (after_row count) time [] (bump u))) ls → Ends (at z epoch_due last seen u) (l ∷ ls)
    unfolding next begun
    epoch_taken time flag count c a b d k = one_more (at z epoch_due last seen u) l ls (ok_epoch r z last seen u l c) (rw (a, b, d) k)

    observed_taken : (o : Observed) (ks : List (List ℕ)) → ObservedLines z.lists l ks o → later last o.time ≡ true → Within r (bump u)
        → Ends (at z (after_row (length o.rows)) (Some o.time) [] (bump u)) ls → Ends (at z epoch_due last seen u) (l ∷ ls)
    observed_taken o ks h e w k =
        let b = epoch_back l (Some o.time) o.flag (length o.rows) o.clock h.line (observed_suits z.lists l ks o h) in
        let c : EpochOk r last u l =
        record {
          fits = b.fits;
          known = omega (arith, h.flag, b.flag_is);
          order = λ x. rw b.time_is e;
          marker = λ x y. omega (arith, h.flag, b.flag_is, x);
          room = w.epochs;
        }
        in
        epoch_taken (Some o.time) o.flag (length o.rows) c b.time_is b.flag_is b.count_is (rw (lt-leb 2 o.flag (omega (arith, h.flag))) k)

    event_taken : (v : Event) (ks : List (List ℕ)) → EventLines l ks v → (v.flag ≡ 3 → length v.lines ≡ 0 → ⊥) → Within r (bump u)
        → Ends (at z (after_line v.flag false (length v.lines)) last [] (bump u)) ls → Ends (at z epoch_due last seen u) (l ∷ ls)
    event_taken v ks h g w k =
        let b = epoch_back l v.time v.flag (length v.lines) None h.line (event_suits l ks v h) in
        let c : EpochOk r last u l =
        record {
          fits = b.fits;
          known = omega (arith, h.flag_to, b.flag_is);
          order = λ x. absurd (omega (arith, h.flag_from, b.flag_is, x));
          marker = λ x y. g (sym b.flag_is ∙ x) (sym b.count_is ∙ y);
          room = w.epochs;
        }
        in
        epoch_taken v.time v.flag (length v.lines) c b.time_is b.flag_is b.count_is (rw (le-leb 2 v.flag h.flag_from, le-leb v.flag 5 h.flag_to) k)

  -- the lines of an epoch that are left, and then the others
  module _ (last : Option ℕ) (ms : List (List ℕ)) where
    rows_taken : (ls : List (List ℕ)) (qs : List Row) (seen : List ℕ) (u : Counts) → Each (RowLine z.lists) ls qs → fresh eqb seen (map satellite qs) ≡ true → Within r (add_rows u qs)
        → ((seen' : List ℕ) → Ends (at z epoch_due last seen' (add_rows u qs)) ms) → Ends (at z (after_row (length qs)) last seen u) (ls ++ ms)
    rows_taken [] [] seen u h e w k = k seen
    rows_taken [] (q ∷ qs) seen u h e w k = absurd h
    rows_taken (l ∷ ls) [] seen u h e w k = absurd h
    rows_taken (l ∷ ls) (q ∷ qs) seen u h e w k =
        let p = both (not (is_in eqb (satellite q) seen)) _ e in
        let v = add_row u (length q.slots) in
        row_taken last seen u l (ls ++ ms) (length qs) q h.0 (not-true _ p.0) (rows_within r qs v w)
        (rows_taken ls qs (seen ++ (satellite q ∷ [])) v h.1 p.1 w k)

    lines_taken : (ls cs : List (List ℕ)) (seen : List ℕ) (u : Counts) (f : ℕ) (b : Bool) → Each EventLine ls cs → (f ≡ 3 → (b || any_marker_name ls) ≡ true) → Within r (add_lines u cs)
        → ((seen' : List ℕ) → Ends (at z epoch_due last seen' (add_lines u cs)) ms) → Ends (at z (after_line f b (length cs)) last seen u) (ls ++ ms)
    lines_taken [] [] seen u f b h e w k = k seen
    lines_taken [] (c ∷ cs) seen u f b h e w k = absurd h
    lines_taken (l ∷ ls) [] seen u f b h e w k = absurd h
    lines_taken (l ∷ ls) (c ∷ cs) seen u f b h e w k =
        let v = add_line u (length c) in
        let d : Bool = b || is MarkerName (label_of l) in
        line_taken last seen u l (ls ++ ms) f (length cs) b c h.0 (λ x y. alone b (is MarkerName (label_of l)) ls cs y h.1 (e x)) (lines_within r cs v w)
        (lines_taken ls cs seen v f d h.1 (λ x. or_assoc b (is MarkerName (label_of l)) (any_marker_name ls) ∙ e x) w k)
      where
        alone : (a b : Bool) (ls cs : List (List ℕ)) → length cs ≡ 0 → Each EventLine ls cs → (a || (b || any_marker_name ls)) ≡ true → (a || b) ≡ true
        alone a b [] [] y h e = sym (ap (λ (x : Bool). a || x) (or_false b)) ∙ e
        alone a b [] (c ∷ cs) y h e = absurd h
        alone a b (l ∷ ls) [] y h e = absurd h
        alone a b (l ∷ ls) (c ∷ cs) y h e = absurd (omega arith)

  groups_taken : (gs : List (List (List ℕ))) (es : List Epoch) (last : Option ℕ) (seen : List ℕ) (u : Counts) → Each (EpochLines z.lists) gs es
      → ascend last (times es) ≡ true → Within r (add_all u es) → add_all u es ≡ n → Ends (at z epoch_due last seen u) (joined gs)
  groups_taken [] [] last seen u h e w c = record { last = at z epoch_due last seen u; reach = refl; place = refl; used = c }
  groups_taken [] (x ∷ es) last seen u h e w c = absurd h
  groups_taken (g ∷ gs) [] last seen u h e w c = absurd h
  groups_taken ([] ∷ gs) (x ∷ es) last seen u h e w c = absurd h.0
  groups_taken ((l ∷ ls) ∷ gs) (observed o ∷ es) last seen u h e w c =
      let ms = joined gs in
      let p = both (later last o.time) _ e in
      let v = add_rows (bump u) o.rows in
      let wv = all_within r es v w in
      observed_taken last seen u l (ls ++ ms) o ls h.0 p.0 (rows_within r o.rows (bump u) wv)
      (rows_taken (Some o.time) ms ls o.rows [] (bump u) h.0.rows h.0.apart wv
      (λ seen'. groups_taken gs es (Some o.time) seen' v h.1 p.1 w c))
  groups_taken ((l ∷ ls) ∷ gs) (event o ∷ es) last seen u h e w c =
      let ms = joined gs in
      let v = add_lines (bump u) o.lines in
      let wv = all_within r es v w in
      event_taken last seen u l (ls ++ ms) o ls h.0 (λ x y. bare ls o.lines y h.0.lines (h.0.marker x)) (lines_within r o.lines (bump u) wv)
      (lines_taken last ms ls o.lines [] (bump u) o.flag false h.0.lines h.0.marker wv
      (λ seen'. groups_taken gs es last seen' v h.1 e w c))
    where
      bare : (ls cs : List (List ℕ)) → length cs ≡ 0 → Each EventLine ls cs → any_marker_name ls ≡ true → ⊥
      bare [] cs y h m = never m
      bare (l ∷ ls) [] y h m = absurd h
      bare (l ∷ ls) (c ∷ cs) y h m = absurd (omega arith)

  pub data_complete : (s : State) (ls : List (List ℕ)) (es : List Epoch) → s.place ≡ epoch_due → s.last ≡ None → s.head ≡ z → DataLines z.lists ls es
      → Within r n → add_all s.used es ≡ n → Ends s ls
  data_complete s ls es d o e h w c =
      subst (λ (x : List (List ℕ)). Ends s x) (sym h.lines)
      (subst (λ (x : State). Ends x (joined h.groups)) (sym (settled z s d o e))
      (groups_taken h.groups es None s.seen s.used h.epochs h.order (rw c w) c))
