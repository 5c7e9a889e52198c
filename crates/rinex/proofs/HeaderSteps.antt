-- One record of the header after the other. Assumes nothing.
use Prim.Native.Nat.{ℕ, suc, ◌+◌, ◌-◌, ◌*◌, ◌≤◌, ◌<◌}
use mathlib.Core.Path.{◌≡◌, refl, ap, sym, ◌∙◌}
use mathlib.Core.Bool.{true, false, ◌&&◌, true≢false}
use mathlib.Core.List.{List, [], ◌∷◌, ◌++◌}
use native.Mathlib.Omega.{arith}
use lib.Dec.{leb, ltb}
use lib.ListN.{length, take, drop, length-append, length-take, length-drop, take-append-drop}
use borrow.Author.Tests.{leb-false, ltb-false, le-ltb}
use Rattle.lists.specs.Lists.{same, fresh}
use Rattle.lists.specs.Blank.{Blank}
use Rattle.lists.proofs.Bools.{never, both, all_of, is_not, not_is}
use Rattle.line.specs.Text.{past, cut}
use Rattle.label.specs.declared.Label.{Label}
use Rattle.label.specs.declared.Label.TheVariants.{Version, ObsTypes, FirstObs, Interval, EndOfHeader, ScaleFactor, MarkerName, Other, Unknown}
use Rattle.label.specs.Labels.{label_of, carried_in_header}
use Rattle.rinex.specs.Tables.{Room}
use Rattle.rinex.specs.Header.{CodeList, EndLine, Entry, a_list, a_first, an_interval, a_carried, Entered}
use Rattle.rinex.specs.Tests.{system_at, codes_at, in_line, list_count}
use Rattle.rinex.specs.Refusals.{in_header, epoch_due, State, list_of, header_full, carried_after, again, unfit, lacks, kept, headed, next_header, after_list}
use Rattle.rinex.proofs.HeaderRecords.{codes_long, list_to, list_back, first_to, first_back, interval_to, interval_back}
use Rattle.rinex.proofs.Reach.{Reach}
use Rattle.rinex.proofs.Places.{HeaderOk}
use Rattle.rinex.proofs.Entries.{relist, enter, Ready, seam, fresh_on, nexts, nexts_back, head_off, head_on}

-- the state after END OF HEADER
abbrev pub closed : State → State
closed s = headed s epoch_due s.head

-- the next record, or the end
pub data Step (r : Room) (s : State) (ls : List (List ℕ)) (s' : State) : Type 0 where
  ends : (l : List ℕ) (rest : List (List ℕ)) → ls ≡ l ∷ rest → EndLine l → header_full s ≡ true → Reach r (closed s) rest s' → Step r s ls s'
  enters : (e : Entry) (group rest : List (List ℕ)) → ls ≡ group ++ rest → 1 ≤ length group → Entered s.head.letter group e → Ready r s e → Reach r (enter s e) rest s' → Step r s ls s'

no_codes_lem : (l : List (List ℕ)) → leb 1 (length l) ≡ false → l ≡ []
no_codes_lem [] h = refl
no_codes_lem (x ∷ l) h = absurd (let z : suc (length l) < 1 = leb-false 1 (suc (length l)) h in omega arith)

module _ (r : Room) (s s' : State) (l : List ℕ) (ls : List (List ℕ)) (seven : length s.head.lists ≡ 7) where
  list_step : s'.place ≡ epoch_due → label_of l ≡ ObsTypes → HeaderOk r s l ObsTypes → Reach r (next_header s l ObsTypes) ls s' → Step r s (l ∷ ls) s'
  unfolding again unfit lacks next_header enter
  list_step done e o h =
      let v = list_to s.head.letter l (not_is _ o.fit) e o.rest in
      let y : ℕ = system_at l in
      let n : ℕ = list_count l in
      let d : List (List ℕ) = codes_at (in_line n) 7 l in
      let dl : length d ≡ in_line n = codes_long (in_line n) 7 l in
      let empty : list_of s y ≡ [] = no_codes_lem _ o.once in
      let m : 64 * y + in_line n ≤ r.codes = ltb-false _ _ o.room in
      let low : y < length s.head.lists = omega (arith, v.line.system_is) in
      let x = nexts r s y low empty s' done ls d (n - in_line n) (omega arith) h in
      let t = seam d x.more n dl x.long in
      let g : length (d ++ x.more) ≡ n = omega (arith, length-append d x.more, x.long) in
      enters (a_list y (d ++ x.more)) (l ∷ x.next) x.rest (ap (λ (z : List (List ℕ)). l ∷ z) x.lines) (omega arith)
      (record {
        line = l;
        next = x.next;
        lines = refl;
        first_line = rw (g, t.0) v.line;
        next_lines = rw t.1 x.next_lines;
        some_code = omega (arith, v.some_code);
        few_codes = omega (arith, v.few_codes);
        different = fresh_on [] d x.more ∙ all_of _ _ v.different x.different;
        allowed = v.allowed;
      })
      (empty, x.room)
      x.reach

  first_step : label_of l ≡ FirstObs → HeaderOk r s l FirstObs → Reach r (next_header s l FirstObs) ls s' → Step r s (l ∷ ls) s'
  unfolding again unfit next_header enter
  first_step e o h =
      let v = first_to l (not_is _ o.fit) e o.rest in
      enters (a_first v.0 _) (l ∷ []) ls refl (omega arith) (l, refl, v.1) o.once h

  interval_step : label_of l ≡ Interval → HeaderOk r s l Interval → Reach r (next_header s l Interval) ls s' → Step r s (l ∷ ls) s'
  unfolding again unfit next_header enter
  interval_step e o h =
      let v = interval_to l (not_is _ o.fit) e o.rest in
      enters (an_interval v.0) (l ∷ []) ls refl (omega arith) (l, refl, v.1) o.once h

  carried_step : carried_in_header (label_of l) ≡ true → Blank (past 80 l) → carried_after s (cut l) ≤ r.carried → Reach r (kept s (cut l) in_header) ls s' → Step r s (l ∷ ls) s'
  unfolding kept enter
  carried_step e b m h = enters (a_carried (cut l)) (l ∷ []) ls refl (omega arith) (l, refl, record { kept = refl; label = e; rest = b }) m h

  step_at : s'.place ≡ epoch_due → (k : Label) → label_of l ≡ k → HeaderOk r s l k → Reach r (next_header s l k) ls s' → Step r s (l ∷ ls) s'
  unfolding again unfit lacks next_header
  step_at done Version e o h = absurd (true≢false o.once)
  step_at done ObsTypes e o h = list_step done e o h
  step_at done FirstObs e o h = first_step e o h
  step_at done Interval e o h = interval_step e o h
  step_at done EndOfHeader e o h = ends l ls refl (record { blank = not_is _ o.fit; label = e; rest = o.rest }) (not_is _ o.once) h
  step_at done ScaleFactor e o h = absurd (true≢false o.read)
  step_at done MarkerName e o h = carried_step (rw e) o.rest (ltb-false _ _ o.room) h
  step_at done Other e o h = carried_step (rw e) o.rest (ltb-false _ _ o.room) h
  step_at done Unknown e o h = absurd (true≢false o.known)

place_told : (s s' : State) → s.place ≡ in_header → s'.place ≡ epoch_due → s ≡ s' → ⊥
place_told s s' a b e =
    let d : in_header ≡ epoch_due = sym a ∙ (ap (λ (x : State). x.place) e ∙ b) in
    let z : ◌≡◌ {A = ℕ} 0 1 = cc in
    omega arith

pub step : (r : Room) (s s' : State) (ls : List (List ℕ)) → length s.head.lists ≡ 7 → s.place ≡ in_header → s'.place ≡ epoch_due → Reach r s ls s' → Step r s ls s'
step r s s' [] seven here done h = absurd (place_told s s' here done h)
step r s s' (l ∷ ls) seven here done h =
    let p = head_off r s s' l ls here h in
    step_at r s s' l ls seven done (label_of l) refl p.0 p.1

-- and back
module _ (r : Room) (s s' : State) (rest : List (List ℕ)) (seven : length s.head.lists ≡ 7) (here : s.place ≡ in_header) where
  pub end_back : (l : List ℕ) → EndLine l → header_full s ≡ true → Reach r (closed s) rest s' → Reach r s (l ∷ rest) s'
  unfolding again unfit lacks next_header
  end_back l v f h =
      head_on r s s' l rest here EndOfHeader v.label
      (record { known = refl; read = refl; rest = v.rest; once = is_not _ f; fit = is_not _ v.blank; room = refl }) h

  list_back_on : (y : ℕ) (codes group : List (List ℕ)) → CodeList group s.head.letter y codes → Ready r s (a_list y codes) → Reach r (relist s y codes in_header) rest s' → Reach r s (group ++ rest) s'
  unfolding again unfit lacks next_header
  list_back_on y codes group v q h =
      let l : List ℕ = v.line in
      let n : ℕ = length codes in
      let d : List (List ℕ) = take 13 codes in
      let t : List (List ℕ) = drop 13 codes in
      let j : d ++ t ≡ codes = take-append-drop 13 codes in
      let dl : length d ≡ in_line n = length-take 13 codes in
      let tl : length t ≡ n - in_line n = length-drop 13 codes ∙ omega arith in
      let g : (fresh same [] d && fresh same d t) ≡ true = sym (fresh_on [] d t) ∙ (ap (λ (x : List (List ℕ)). fresh same [] x) j ∙ v.different) in
      let g2 = both _ _ g in
      let b = list_back s.head.letter l y n d v.first_line v.allowed v.some_code v.few_codes dl g2.0 in
      let low : y < length s.head.lists = omega (arith, v.first_line.system_is) in
      let room : 64 * y + in_line n ≤ r.codes = omega (arith, q.1) in
      let once : leb 1 (length (list_of s (system_at l))) ≡ false = rw (b.1, q.0) in
      let lack : ltb r.codes (64 * system_at l + in_line (list_count l)) ≡ false = rw (b.1, b.2) (le-ltb _ _ room) in
      let i : Reach r (relist s y d (after_list y (n - in_line n))) (v.next ++ rest) s' =
      rw tl at (nexts_back r s y low q.0 s' v.next rest d t v.next_lines g2.1 (rw j q.1) (rw j h)) in
      rw v.lines
      (head_on r s s' l (v.next ++ rest) here ObsTypes v.first_line.label
      (record { known = refl; read = refl; rest = v.first_line.rest; once = once; fit = is_not _ b.0; room = lack })
      (rw (b.1, b.2, b.3) i))

  carried_on : (l : List ℕ) (k : Label) → label_of l ≡ k → carried_in_header k ≡ true → Blank (past 80 l) → carried_after s (cut l) ≤ r.carried → Reach r (kept s (cut l) in_header) rest s' → Reach r s (l ∷ rest) s'
  unfolding again unfit lacks next_header
  carried_on l Version e c b m h = absurd (never c)
  carried_on l ObsTypes e c b m h = absurd (never c)
  carried_on l FirstObs e c b m h = absurd (never c)
  carried_on l Interval e c b m h = absurd (never c)
  carried_on l EndOfHeader e c b m h = absurd (never c)
  carried_on l ScaleFactor e c b m h = absurd (never c)
  carried_on l MarkerName e c b m h = head_on r s s' l rest here MarkerName e (record { known = refl; read = refl; rest = b; once = refl; fit = refl; room = le-ltb _ _ m }) h
  carried_on l Other e c b m h = head_on r s s' l rest here Other e (record { known = refl; read = refl; rest = b; once = refl; fit = refl; room = le-ltb _ _ m }) h
  carried_on l Unknown e c b m h = absurd (never c)

  pub step_back : (e : Entry) (group : List (List ℕ)) → Entered s.head.letter group e → Ready r s e → Reach r (enter s e) rest s' → Reach r s (group ++ rest) s'
  unfolding again unfit lacks next_header enter kept
  step_back (a_list y codes) group v q h = list_back_on y codes group v q h
  step_back (a_first t z) group v q h =
      rw v.1
      (head_on r s s' v.0 rest here FirstObs v.2.label
      (record { known = refl; read = refl; rest = v.2.rest; once = q; fit = is_not _ (first_back v.0 t z v.2); room = refl }) h)
  step_back (an_interval n) group v q h =
      rw v.1
      (head_on r s s' v.0 rest here Interval v.2.label
      (record { known = refl; read = refl; rest = v.2.rest; once = q; fit = is_not _ (interval_back v.0 n v.2); room = refl }) h)
  step_back (a_carried c) group v q h =
      let e : c ≡ cut v.0 = v.2.kept in
      rw v.1 (carried_on v.0 (label_of v.0) refl v.2.label v.2.rest (rw e at q) (rw e at h))
