-- Lines begin with at most one header, and it is of one Head. Assumes nothing.
use Prim.Native.Nat.{ℕ, ◌<◌}
use mathlib.Core.Path.{◌≡◌, refl, ap, sym, subst, ◌∙◌}
use mathlib.Core.Bool.{true}
use mathlib.Core.List.{List, [], ◌∷◌, ◌++◌, append_assoc}
use Rattle.std.specs.Prelude.{Option, None, Some}
use native.Mathlib.Omega.{arith}
use lib.ListN.{length, get_or, take, drop, length-take, length-drop, take-append-drop}
use lib.Seq.{ext_get_or}
use lib.IntN.{pos}
use Rattle.lists.specs.Lists
use Rattle.lists.specs.Lists.{All, Each, joined, same, place}
use Rattle.lists.proofs.Bools.{never}
use Rattle.lists.proofs.Lists.{cons_same}
use Rattle.field.specs.Found.{whole_of, decimal_of}
use Rattle.field.proofs.Found.{whole_back, decimal_back}
use Rattle.moment.proofs.Times.{time_one}
use Rattle.line.specs.Text.{col, cols, cut}
use Rattle.label.specs.declared.Label.{Label}
use Rattle.label.specs.declared.Label.TheVariants.{Version, ObsTypes, FirstObs, Interval, EndOfHeader, ScaleFactor, MarkerName, Other, Unknown}
use Rattle.label.specs.Labels.{label_of, carried_in_header}
use Rattle.rinex.specs.File.{Head}
use Rattle.rinex.specs.Codes.{time_systems}
use Rattle.rinex.specs.Header.{Codes, ListLine, NextLine, NextLines, CodeList, FirstLine, IntervalLine, EndLine, Entry, a_list, a_first, an_interval, a_carried, Entered, First, lists_for, firsts, intervals, carrieds, declared, seven, HeaderLines}
use Rattle.rinex.specs.Tests.{codes_at}
use Rattle.rinex.proofs.Laws.{below_seven, time_place}
use Rattle.rinex.proofs.HeaderRecords.{codes_back}
use Rattle.rinex.proofs.Rows.{letter_back}
use Rattle.rinex.proofs.Headers.{declared_same}

-- what stands at a label, and what an entry's first line has
kind_at : Label → ℕ
kind_at Version = 5
kind_at ObsTypes = 0
kind_at FirstObs = 1
kind_at Interval = 2
kind_at EndOfHeader = 4
kind_at ScaleFactor = 5
kind_at MarkerName = 3
kind_at Other = 3
kind_at Unknown = 5

abbrev kind : Entry → ℕ
kind (a_list y codes) = 0
kind (a_first t z) = 1
kind (an_interval n) = 2
kind (a_carried c) = 3

carried_kind : (k : Label) → carried_in_header k ≡ true → kind_at k ≡ 3
unfolding kind_at
carried_kind Version h = absurd (never h)
carried_kind ObsTypes h = absurd (never h)
carried_kind FirstObs h = absurd (never h)
carried_kind Interval h = absurd (never h)
carried_kind EndOfHeader h = absurd (never h)
carried_kind ScaleFactor h = absurd (never h)
carried_kind MarkerName h = refl
carried_kind Other h = refl
carried_kind Unknown h = absurd (never h)

record Begins (g : List (List ℕ)) (e : Entry) : Type 0 where
  line : List ℕ
  more : List (List ℕ)
  same : g ≡ line ∷ more
  is : kind_at (label_of line) ≡ kind e

begins : (letter : ℕ) (g : List (List ℕ)) (e : Entry) → Entered letter g e → Begins g e
unfolding kind_at
begins letter g (a_list y codes) v = record { line = v.line; more = v.next; same = v.lines; is = rw v.first_line.label }
begins letter g (a_first t z) v = record { line = v.0; more = []; same = v.1; is = rw v.2.label }
begins letter g (an_interval n) v = record { line = v.0; more = []; same = v.1; is = rw v.2.label }
begins letter g (a_carried c) v = record { line = v.0; more = []; same = v.1; is = carried_kind (label_of v.0) v.2.label }

codes_one : (y z a : ℕ) (l : List ℕ) (c d : List (List ℕ)) → Codes y a l c → Codes z a l d → length c ≡ length d → c ≡ d
codes_one y z a l c d v w e = sym (codes_back y a l c v).1 ∙ (ap (λ (n : ℕ). codes_at n a l) e ∙ (codes_back z a l d w).1)

parts_one : (c d : List (List ℕ)) → take 13 c ≡ take 13 d → drop 13 c ≡ drop 13 d → c ≡ d
parts_one c d e f = sym (take-append-drop 13 c) ∙ (ap (λ (x : List (List ℕ)). x ++ drop 13 c) e ∙ (ap (λ (x : List (List ℕ)). take 13 d ++ x) f ∙ take-append-drop 13 d))

take_long : (c d : List (List ℕ)) → length c ≡ length d → length (take 13 c) ≡ length (take 13 d)
take_long c d e = simp length-take (omega arith)

drop_long : (c d : List (List ℕ)) → length c ≡ length d → length (drop 13 c) ≡ length (drop 13 d)
drop_long c d e = simp length-drop (omega arith)

next_one : (y z : ℕ) (n m t u c d : List (List ℕ)) → NextLines n y c → NextLines m z d → length c ≡ length d → n ++ t ≡ m ++ u → (n ≡ m) × (t ≡ u) × (c ≡ d)
next_one y z [] [] t u c d v w e h = (refl, h, v ∙ sym w)
next_one y z [] (l ∷ m) t u c d v w e h = absurd (omega (arith, ap length v, w.0))
next_one y z (k ∷ n) [] t u c d v w e h = absurd (omega (arith, ap length w, v.0))
next_one y z (k ∷ n) (l ∷ m) t u c d v w e h =
    let p = cons_same h in
    let q : k ≡ l = p.0 in
    let x : NextLine l y (take 13 c) = subst (λ (x : List ℕ). NextLine x y (take 13 c)) q v.1 in
    let i = next_one y z n m t u (drop 13 c) (drop 13 d) v.2 w.2 (drop_long c d e) p.1 in
    let a : n ≡ m = i.0 in
    let f = codes_one _ _ 7 l (take 13 c) (take 13 d) x.codes_at w.1.codes_at (take_long c d e) in
    (cc, i.1, parts_one c d f i.2)

list_one : (a b : ℕ) (g h t u : List (List ℕ)) (y z : ℕ) (c d : List (List ℕ)) → CodeList g a y c → CodeList h b z d → g ++ t ≡ h ++ u → (g ≡ h) × (t ≡ u) × (y ≡ z) × (c ≡ d)
list_one a b g h t u y z c d v w e =
    let e2 : v.line ∷ (v.next ++ t) ≡ w.line ∷ (w.next ++ u) = ap (λ (x : List (List ℕ)). x ++ t) (sym v.lines) ∙ (e ∙ ap (λ (x : List (List ℕ)). x ++ u) w.lines) in
    let p = cons_same e2 in
    let q : v.line ≡ w.line = p.0 in
    let x : ListLine w.line y (length c) (take 13 c) = subst (λ (l : List ℕ). ListLine l y (length c) (take 13 c)) q v.first_line in
    let k = w.first_line in
    let s : y ≡ z = sym (letter_back w.line y x.system_is x.letter) ∙ letter_back w.line z k.system_is k.letter in
    let n1 : whole_of (cols 4 6 w.line) ≡ Some (length c) = whole_back _ _ x.count_at in
    let n2 : whole_of (cols 4 6 w.line) ≡ Some (length d) = whole_back _ _ k.count_at in
    let n : length c ≡ length d = cc in
    let f = codes_one _ _ 7 w.line (take 13 c) (take 13 d) x.codes_at k.codes_at (take_long c d n) in
    let i = next_one y z v.next w.next t u (drop 13 c) (drop 13 d) v.next_lines w.next_lines (drop_long c d n) p.1 in
    let j : v.line ∷ v.next ≡ w.line ∷ w.next = ap (λ (x : List ℕ). x ∷ v.next) q ∙ ap (λ (x : List (List ℕ)). w.line ∷ x) i.0 in
    (v.lines ∙ (j ∙ sym w.lines), i.1, s, parts_one c d f i.2)

-- records of one line
single : (g h t u : List (List ℕ)) (k l : List ℕ) → g ≡ k ∷ [] → h ≡ l ∷ [] → g ++ t ≡ h ++ u → (g ≡ h) × (t ≡ u) × (k ≡ l)
single g h t u k l a b e =
    let p = cons_same (ap (λ (x : List (List ℕ)). x ++ t) (sym a) ∙ (e ∙ ap (λ (x : List (List ℕ)). x ++ u) b)) in
    (a ∙ (ap (λ (x : List ℕ). x ∷ []) p.0 ∙ sym b), p.1, p.0)

first_one : (l : List ℕ) (t u y z : ℕ) → FirstLine l t y → FirstLine l u z → (t ≡ u) × (y ≡ z)
first_one l t u y z v w =
    let c : get_or time_systems y [] ≡ get_or time_systems z [] = sym v.time_system_at ∙ w.time_system_at in
    let d : y ≡ z = sym (time_place y v.time_system_is) ∙ (ap (λ (x : List ℕ). place same x time_systems) c ∙ time_place z w.time_system_is) in
    (time_one _ _ _ _ _ _ t u v.time_at w.time_at, d)

interval_one : (l : List ℕ) (n m : ℕ) → IntervalLine l n → IntervalLine l m → n ≡ m
interval_one l n m v w =
    let a : decimal_of 3 (cols 1 10 l) ≡ Some (pos n) = decimal_back 3 _ _ v.interval in
    let b : decimal_of 3 (cols 1 10 l) ≡ Some (pos m) = decimal_back 3 _ _ w.interval in
    cc

apart : (a b : ℕ) (g h t u : List (List ℕ)) (e f : Entry) → Entered a g e → Entered b h f → g ++ t ≡ h ++ u → kind e ≡ kind f
apart a b g h t u e f v w q =
    let x = begins a g e v in
    let y = begins b h f w in
    let p = cons_same (ap (λ (z : List (List ℕ)). z ++ t) (sym x.same) ∙ (q ∙ ap (λ (z : List (List ℕ)). z ++ u) y.same)) in
    sym x.is ∙ (ap (λ (l : List ℕ). kind_at (label_of l)) p.0 ∙ y.is)

entry_one : (a b : ℕ) (g h t u : List (List ℕ)) (e f : Entry) → kind e ≡ kind f → Entered a g e → Entered b h f → g ++ t ≡ h ++ u → (g ≡ h) × (t ≡ u) × (e ≡ f)
entry_one a b g h t u (a_list y c) (a_list z d) k v w q =
    let o = list_one a b g h t u y z c d v w q in
    let s : y ≡ z = o.2 in
    let n : c ≡ d = o.3 in
    (o.0, o.1, cc)
entry_one a b g h t u (a_list y c) (a_first m n) k v w q = absurd (omega arith)
entry_one a b g h t u (a_list y c) (an_interval n) k v w q = absurd (omega arith)
entry_one a b g h t u (a_list y c) (a_carried d) k v w q = absurd (omega arith)
entry_one a b g h t u (a_first y z) (a_list s d) k v w q = absurd (omega arith)
entry_one a b g h t u (a_first y z) (a_first m n) k v w q =
    let o = single g h t u v.0 w.0 v.1 w.1 q in
    let i = first_one w.0 y m z n (subst (λ (l : List ℕ). FirstLine l y z) o.2 v.2) w.2 in
    let s : y ≡ m = i.0 in
    let r : z ≡ n = i.1 in
    (o.0, o.1, cc)
entry_one a b g h t u (a_first y z) (an_interval n) k v w q = absurd (omega arith)
entry_one a b g h t u (a_first y z) (a_carried d) k v w q = absurd (omega arith)
entry_one a b g h t u (an_interval m) (a_list s d) k v w q = absurd (omega arith)
entry_one a b g h t u (an_interval m) (a_first y z) k v w q = absurd (omega arith)
entry_one a b g h t u (an_interval m) (an_interval n) k v w q =
    let o = single g h t u v.0 w.0 v.1 w.1 q in
    (o.0, o.1, ap an_interval (interval_one w.0 m n (subst (λ (l : List ℕ). IntervalLine l m) o.2 v.2) w.2))
entry_one a b g h t u (an_interval m) (a_carried d) k v w q = absurd (omega arith)
entry_one a b g h t u (a_carried c) (a_list s d) k v w q = absurd (omega arith)
entry_one a b g h t u (a_carried c) (a_first y z) k v w q = absurd (omega arith)
entry_one a b g h t u (a_carried c) (an_interval n) k v w q = absurd (omega arith)
entry_one a b g h t u (a_carried c) (a_carried d) k v w q =
    let o = single g h t u v.0 w.0 v.1 w.1 q in
    (o.0, o.1, ap a_carried (v.2.kept ∙ (ap cut o.2 ∙ sym w.2.kept)))

-- an entry is no end
not_end : (b : ℕ) (end : List ℕ) (h t u : List (List ℕ)) (f : Entry) → EndLine end → Entered b h f → end ∷ t ≡ h ++ u → ⊥
unfolding kind_at
not_end b end h t u f v w q =
    let y = begins b h f w in
    let p = cons_same (q ∙ ap (λ (z : List (List ℕ)). z ++ u) y.same) in
    let a : kind_at (label_of end) ≡ 4 = rw v.label in
    below f (sym a ∙ (ap (λ (l : List ℕ). kind_at (label_of l)) p.0 ∙ y.is))
  where
    below : (f : Entry) → 4 ≡ kind f → ⊥
    below (a_list y c) e = omega arith
    below (a_first y c) e = omega arith
    below (an_interval n) e = omega arith
    below (a_carried c) e = omega arith

entries_one : (a b : ℕ) (gs hs : List (List (List ℕ))) (es fs : List Entry) (k l : List ℕ) (t u : List (List ℕ)) → Each (Entered a) gs es → Each (Entered b) hs fs → EndLine k → EndLine l
    → joined gs ++ (k ∷ t) ≡ joined hs ++ (l ∷ u) → (joined gs ≡ joined hs) × (k ≡ l) × (t ≡ u) × (es ≡ fs)
entries_one a b [] [] [] [] k l t u v w x y q = let p = cons_same q in (refl, p.0, p.1, refl)
entries_one a b [] [] [] (f ∷ fs) k l t u v w x y q = absurd w
entries_one a b [] [] (e ∷ es) fs k l t u v w x y q = absurd v
entries_one a b [] (h ∷ hs) [] [] k l t u v w x y q = absurd w
entries_one a b [] (h ∷ hs) [] (f ∷ fs) k l t u v w x y q = absurd (not_end b k h t _ f x w.0 (q ∙ append_assoc h (joined hs) (l ∷ u)))
entries_one a b [] (h ∷ hs) (e ∷ es) fs k l t u v w x y q = absurd v
entries_one a b (g ∷ gs) hs [] fs k l t u v w x y q = absurd v
entries_one a b (g ∷ gs) [] (e ∷ es) [] k l t u v w x y q = absurd (not_end a l g u _ e y v.0 (sym q ∙ append_assoc g (joined gs) (k ∷ t)))
entries_one a b (g ∷ gs) [] (e ∷ es) (f ∷ fs) k l t u v w x y q = absurd w
entries_one a b (g ∷ gs) (h ∷ hs) (e ∷ es) [] k l t u v w x y q = absurd w
entries_one a b (g ∷ gs) (h ∷ hs) (e ∷ es) (f ∷ fs) k l t u v w x y q =
    let q2 : g ++ (joined gs ++ (k ∷ t)) ≡ h ++ (joined hs ++ (l ∷ u)) = sym (append_assoc g (joined gs) (k ∷ t)) ∙ (q ∙ append_assoc h (joined hs) (l ∷ u)) in
    let o = entry_one a b g h _ _ e f (apart a b g h _ _ e f v.0 w.0 q2) v.0 w.0 q2 in
    let i = entries_one a b gs hs es fs k l t u v.1 w.1 x y o.1 in
    let c : g ≡ h = o.0 in
    let d : joined gs ≡ joined hs = i.0 in
    let m : e ≡ f = o.2 in
    let n : es ≡ fs = i.3 in
    (cc, i.1, i.2, cc)

listed_one : (i j : Option ℕ) → Lists.as_list i ≡ Lists.as_list j → i ≡ j
listed_one None None h = refl
listed_one None (Some x) h = absurd (let z : ◌≡◌ {A = ℕ} 0 1 = cc in omega arith)
listed_one (Some x) None h = absurd (let z : ◌≡◌ {A = ℕ} 0 1 = cc in omega arith)
listed_one (Some x) (Some y) h = let e : x ≡ y = cc in cc

made : ℕ → List (List (List ℕ)) → ℕ → ℕ → Option ℕ → List (List ℕ) → Head
made a b c d e f = record { letter = a; lists = b; first = c; time_system = d; interval = e; carried = f }

made_same : (h : Head) → h ≡ made h.letter h.lists h.first h.time_system h.interval h.carried
unfolding made
made_same h = refl

pub head_same : (h k : Head) → h.letter ≡ k.letter → h.lists ≡ k.lists → h.first ≡ k.first → h.time_system ≡ k.time_system → h.interval ≡ k.interval → h.carried ≡ k.carried → h ≡ k
head_same h k a b c d e f = cc (made_same h, made_same k)

lists_one : (es fs : List Entry) (h k : Head) → es ≡ fs → length h.lists ≡ 7 → length k.lists ≡ 7 → All (λ (s : ℕ). lists_for s es ≡ declared (get_or h.lists s [])) seven
    → All (λ (s : ℕ). lists_for s fs ≡ declared (get_or k.lists s [])) seven → h.lists ≡ k.lists
lists_one es fs h k e a b v w =
    ext_get_or [] h.lists k.lists (a ∙ sym b)
    (λ y m.
    let n : y < 7 = omega arith in
    declared_same _ _ (sym (below_seven (λ s. lists_for s es ≡ declared (get_or h.lists s [])) v y n)
    ∙ (ap (λ (x : List Entry). lists_for y x) e ∙ below_seven (λ s. lists_for s fs ≡ declared (get_or k.lists s [])) w y n)))

-- one header at most begins some lines, and it is of one head
pub header_one : (ls ms t u : List (List ℕ)) (h k : Head) → HeaderLines ls h → HeaderLines ms k → ls ++ t ≡ ms ++ u → (ls ≡ ms) × (t ≡ u) × (h ≡ k)
header_one ls ms t u h k v w q =
    let x : v.version ∷ (joined v.groups ++ (v.end ∷ t)) ≡ w.version ∷ (joined w.groups ++ (w.end ∷ u)) =
    sym (on ls v.version (joined v.groups) v.end t v.lines) ∙ (q ∙ on ms w.version (joined w.groups) w.end u w.lines) in
    let p = cons_same x in
    let i = entries_one h.letter k.letter v.groups w.groups v.entries w.entries v.end w.end t u v.entered w.entered v.end_line w.end_line p.1 in
    let es : v.entries ≡ w.entries = i.3 in
    let c : h.letter ≡ k.letter =
    sym v.version_line.letter_at
    ∙ (ap (λ (l : List ℕ). col 41 l) p.0 ∙ w.version_line.letter_at) in
    let f0 : First = record { time = h.first; time_system = h.time_system } in
    let g0 : First = record { time = k.first; time_system = k.time_system } in
    let f : f0 ∷ [] ≡ g0 ∷ [] = sym v.first ∙ (ap firsts es ∙ w.first) in
    let g = cons_same f in
    let a : joined v.groups ≡ joined w.groups = i.0 in
    let b : v.end ≡ w.end = i.1 in
    let d : v.version ≡ w.version = p.0 in
    let lines : v.version ∷ (joined v.groups ++ (v.end ∷ [])) ≡ w.version ∷ (joined w.groups ++ (w.end ∷ [])) = cc in (
      v.lines ∙ (lines ∙ sym w.lines),
      i.2,
      head_same h k c
          (lists_one v.entries w.entries h k es v.systems w.systems v.lists w.lists)
          (ap (λ (z : First). z.time) g.0) (ap (λ (z : First). z.time_system) g.0)
          (listed_one _ _ (sym v.interval ∙ (ap intervals es ∙ w.interval)))
          (sym v.carried ∙ (ap carrieds es ∙ w.carried)),
    )
  where
    on : (ls : List (List ℕ)) (a : List ℕ) (b : List (List ℕ)) (c : List ℕ) (t : List (List ℕ)) → ls ≡ a ∷ (b ++ (c ∷ [])) → ls ++ t ≡ a ∷ (b ++ (c ∷ t))
    on ls a b c t e = ap (λ (x : List (List ℕ)). x ++ t) e ∙ ap (λ (x : List (List ℕ)). a ∷ x) (append_assoc b (c ∷ []) t)
