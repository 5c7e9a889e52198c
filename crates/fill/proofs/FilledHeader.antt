-- The header's records leave in the state and in the table of codes what the rule's state has of them. Assumes nothing.
use Prim.Native.Nat.{ℕ, ◌+◌, ◌*◌, ◌≤◌, ◌<◌}
use mathlib.Core.Path.{◌≡◌, refl, ap, sym, subst, ◌∙◌}
use mathlib.Core.Bool.{Bool, true, false}
use mathlib.Core.List.{List, [], ◌∷◌, map}
use native.Mathlib.Omega.{arith}
use lib.Dec.{eqb, ltb}
use lib.ListN.{length, get_or, set, take, drop, length-set, length-map, get_or-map}
use lib.Seq.{sets, length-sets, get_or-set_same, get_or-set_other}
use borrow.Author.Tests.{eqb-true, eqb-false, ltb-true, ltb-false}
use Rattle.lists.specs.Lists.{Each, joined}
use Rattle.lists.proofs.Bools.{never, Either, left, right}
use Rattle.label.specs.declared.Label.{Label}
use Rattle.label.specs.declared.Label.TheVariants.{Version, ObsTypes, FirstObs, Interval, EndOfHeader, ScaleFactor, MarkerName, Other, Unknown}
use Rattle.label.specs.Labels.{is, label_of, carried_in_header}
use Rattle.rinex.specs.Tables.{Room, packed}
use Rattle.rinex.specs.Header.{Entry, a_list, a_first, an_interval, a_carried, Entered, CodeList, FirstLine, IntervalLine, CarriedLine}
use Rattle.rinex.specs.Refusals as rule
use Rattle.rinex.proofs.Entries.{enter, Ready}
use Rattle.rinex.proofs.Gather.{gather, Run, enter_same}
use Rattle.state.specs.declared.State.{State}
use Rattle.state.specs.declared.Stage.TheVariants as stages
use Rattle.state.specs.Judge.{counted, kept, after_record, next_at, table_at}
use Rattle.lists.proofs.Stores.{map_set}
use Rattle.lists.proofs.Apart.{stores_before, stores_behind, stores_there}
use Rattle.state.proofs.Kept.{lengths_of}
use Rattle.fill.proofs.Walks.{Walks, walk_none, walk_one, walk_on, walk_to}
use Rattle.fill.proofs.FilledLists.{list_lines_lem}

-- the codes of system y stand in the table
pub record Held (t : List ℕ) (y : ℕ) (codes : List (List ℕ)) : Type 0 where
  pub few : length codes ≤ 64
  pub entries : take (length codes) (drop (64 * y) t) ≡ map packed codes

-- the state and the table hold what the rule's state has of the header
pub record At (s : rule.State) (c : State) (t : List ℕ) : Type 0 where
  pub stage : c.stage ≡ stages.Record
  pub letter : c.letter ≡ s.head.letter
  pub long : length s.head.lists ≡ 7
  pub lengths : c.lengths ≡ lengths_of s.head.lists
  pub used : c.used ≡ counted 0 0 0 s.used.carried
  pub places : length t ≡ 448
  pub held : (y : ℕ) → y < 7 → Held t y (rule.list_of s y)

-- another system's codes are stored elsewhere
apart : (t : List ℕ) (x y n : ℕ) (vs : List ℕ) → (y ≡ x → ⊥) → length vs ≤ 64 → n ≤ 64 → take n (drop (64 * y) (sets t (64 * x) vs)) ≡ take n (drop (64 * y) t)
apart t x y n vs ne k m = go (ltb x y) refl
  where
    go : (b : Bool) → ltb x y ≡ b → take n (drop (64 * y) (sets t (64 * x) vs)) ≡ take n (drop (64 * y) t)
    go true e = let p : x < y = ltb-true x y e in stores_before t (64 * x) (64 * y) n vs (omega arith)
    go false e = let p : y ≤ x = ltb-false x y e in stores_behind t (64 * x) (64 * y) n vs (omega (arith, ne))

held_on : (t : List ℕ) (lists : List (List (List ℕ))) (y : ℕ) (codes : List (List ℕ)) → length t ≡ 448 → length lists ≡ 7 → y < 7 → length codes ≤ 64
    → ((x : ℕ) → x < 7 → Held t x (get_or lists x [])) → (x : ℕ) → x < 7 → Held (sets t (64 * y) (map packed codes)) x (get_or (set lists y codes) x [])
held_on t lists y codes n m low few held x h = go (eqb x y) refl
  where
    go : (b : Bool) → eqb x y ≡ b → Held (sets t (64 * y) (map packed codes)) x (get_or (set lists y codes) x [])
    go true e =
        let d : x ≡ y = eqb-true x y e in
        let g : get_or (set lists y codes) y [] ≡ codes = get_or-set_same lists y codes [] (omega arith) in
        let k : length (map packed codes) ≡ length codes = length-map codes packed in
        rw (d, g) (record { few = few; entries = rw k at (stores_there t (64 * y) (map packed codes) (omega arith)) })
    go false e =
        let d : x ≡ y → ⊥ = eqb-false x y e in
        let g : get_or (set lists y codes) x [] ≡ get_or lists x [] = get_or-set_other lists y x codes [] d in
        let o = held x h in
        let k : length (map packed codes) ≡ length codes = length-map codes packed in
        rw g (record { few = o.few; entries = apart t y x (length (get_or lists x [])) (map packed codes) d (omega arith) o.few ∙ o.entries })

-- the lines of one record lead on
pub record Walked (s : rule.State) (c : State) (t : List ℕ) (ls : List (List ℕ)) : Type 0 where
  pub state : State
  pub table : List ℕ
  pub walks : Walks c t ls state table
  pub at : At s state table

pub carried_is : (k : Label) → carried_in_header k ≡ true → Either (k ≡ MarkerName) (k ≡ Other)
carried_is Version h = absurd (never h)
carried_is ObsTypes h = absurd (never h)
carried_is FirstObs h = absurd (never h)
carried_is Interval h = absurd (never h)
carried_is EndOfHeader h = absurd (never h)
carried_is ScaleFactor h = absurd (never h)
carried_is MarkerName h = left refl
carried_is Other h = right refl
carried_is Unknown h = absurd (never h)

module _ (s : rule.State) (c : State) (t : List ℕ) (a : At s c t) where
  list_walked : (ls : List (List ℕ)) (y : ℕ) (codes : List (List ℕ)) → CodeList ls s.head.letter y codes → rule.list_of s y ≡ [] → Walked (enter s (a_list y codes)) c t ls
  unfolding enter rule.headed rule.listed
  list_walked ls y codes h e =
      let lists : List (List (List ℕ)) = s.head.lists in
      let small : y < 7 = h.first_line.system_is in
      let low : y < length c.lengths = rw (a.lengths, length-map) (omega (arith, small, a.long)) in
      let z : get_or c.lengths y 0 ≡ 0 = rw a.lengths (get_or-map (λ (cs : List (List ℕ)). length cs) lists y [] ∙ ap (λ (x : List (List ℕ)). length x) e) in
      let i = list_lines_lem s.head.letter ls c t y codes h low a.stage z in
      let m : get_or c.lengths y 0 + length codes ≡ length codes = omega (arith, z) in
      let p : 64 * y + get_or c.lengths y 0 ≡ 64 * y = omega (arith, z) in
      let g : i.table ≡ sets t (64 * y) (map packed codes) = rw p at i.table_is in
      record {
        state = i.state;
        table = i.table;
        walks = i.walks;
        at =
            record {
              stage = i.stage;
              letter = i.letter ∙ a.letter;
              long = length-set lists y _ ∙ a.long;
              lengths = i.lengths ∙ rw (m, a.lengths, e) (sym (map_set (λ (cs : List (List ℕ)). length cs) lists y codes));
              used = i.used ∙ a.used;
              places = ap (λ (x : List ℕ). length x) g ∙ (length-sets t (64 * y) (map packed codes) ∙ a.places);
              held = λ x k. rw (g, e) (held_on t lists y codes a.places a.long small h.few_codes a.held x k);
            };
      }

  pub one_record : (l : List ℕ) (k : Label) → label_of l ≡ k → is ObsTypes k ≡ false → Walks c t (l ∷ []) (after_record c l k) t
  unfolding next_at table_at
  one_record l k e f = walk_to c _ _ t _ _ (l ∷ []) (ap (after_record c l) e) (rw (e, f)) (walk_one c t l stages.Record a.stage refl)

  first_walked : (l : List ℕ) (x y : ℕ) → FirstLine l x y → Walked (enter s (a_first x y)) c t (l ∷ [])
  unfolding enter rule.headed after_record
  first_walked l x y h =
      record {
        state = after_record c l FirstObs;
        table = t;
        walks = one_record l FirstObs h.label refl;
        at = record { stage = refl; letter = a.letter; long = a.long; lengths = a.lengths; used = a.used; places = a.places; held = a.held };
      }

  interval_walked : (l : List ℕ) (n : ℕ) → IntervalLine l n → Walked (enter s (an_interval n)) c t (l ∷ [])
  unfolding enter rule.headed after_record
  interval_walked l n h =
      record {
        state = after_record c l Interval;
        table = t;
        walks = one_record l Interval h.label refl;
        at = record { stage = refl; letter = a.letter; long = a.long; lengths = a.lengths; used = a.used; places = a.places; held = a.held };
      }

  carried_walked : (l k : List ℕ) → CarriedLine l k → Walked (enter s (a_carried k)) c t (l ∷ [])
  unfolding enter rule.kept after_record
  carried_walked l k h =
      record {
        state = kept c stages.Record c.left c.marked l;
        table = t;
        walks = go (carried_is (label_of l) h.label);
        at = record { stage = refl; letter = a.letter; long = a.long; lengths = a.lengths; used = rw (h.kept, a.used); places = a.places; held = a.held };
      }
    where
      go : Either (label_of l ≡ MarkerName) (label_of l ≡ Other) → Walks c t (l ∷ []) (kept c stages.Record c.left c.marked l) t
      go (left e) = one_record l MarkerName e refl
      go (right e) = one_record l Other e refl

  entry_walked : (r : Room) (e : Entry) (ls : List (List ℕ)) → Entered s.head.letter ls e → Ready r s e → Walked (enter s e) c t ls
  entry_walked r (a_list y codes) ls v q = list_walked ls y codes v q.0
  entry_walked r (a_first x y) ls v q = rw v.1 (first_walked v.0 x y v.2)
  entry_walked r (an_interval n) ls v q = rw v.1 (interval_walked v.0 n v.2)
  entry_walked r (a_carried k) ls v q = rw v.1 (carried_walked v.0 k v.2)

-- the lines of all records
pub entries_walked : (r : Room) (gs : List (List (List ℕ))) (es : List Entry) (s : rule.State) (c : State) (t : List ℕ) → At s c t
    → Each (Entered s.head.letter) gs es → Run r s es → Walked (gather s es) c t (joined gs)
entries_walked r [] [] s c t a v q = record { state = c; table = t; walks = walk_none c t; at = a }
entries_walked r [] (e ∷ es) s c t a v q = absurd v
entries_walked r (g ∷ gs) [] s c t a v q = absurd v
entries_walked r (g ∷ gs) (e ∷ es) s c t a v q =
    let i = entry_walked s c t a r e g v.0 q.0 in
    let j = entries_walked r gs es (enter s e) i.state i.table i.at (subst (λ (x : ℕ). Each (Entered x) gs es) (sym (enter_same s e).letter) v.1) q.1 in
    record { state = j.state; table = j.table; walks = walk_on c _ _ t _ _ g (joined gs) i.walks j.walks; at = j.at }
