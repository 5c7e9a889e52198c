-- The normal lines of a header that has the form spell it. Assumes nothing.
use Prim.Native.Nat.{ℕ, zero, suc, ◌+◌, ◌≤◌, ◌<◌}
use mathlib.Core.Path.{◌≡◌, refl, sym, ap, ◌∙◌, subst}
use mathlib.Core.Bool.{true}
use mathlib.Core.List.{List, [], ◌∷◌, ◌++◌}
use Rattle.std.specs.Prelude.{Option, None, Some}
use native.Mathlib.Omega.{arith}
use lib.IntN.{pos}
use lib.ListN.{length, get_or, take, drop, length-take, length-drop}
use borrow.Author.Tests.{eq-eqb, ne_eqb}
use Rattle.lists.specs.Lists.{All, Each, joined, as_list}
use Rattle.lists.proofs.Lists.{on_all, on_each, joined_append}
use Rattle.write_field.specs.Normal.{decimal, whole_fits}
use Rattle.write_field.proofs.Written.{room_whole}
use Rattle.line.specs.Text.{Line}
use Rattle.rinex.specs.File.{Head}
use Rattle.rinex.specs.Header.{NextLines, CodeList, Entry, a_list, a_first, an_interval, a_carried, Entered, lists_for, First, firsts, intervals, carrieds, declared, seven, HeaderLines}
use Rattle.rinex.specs.Normal.{line, version_line_of, list_line, next_lines_of, list_lines, all_lists, first_line_of, interval_lines, head_lines}
use Rattle.rinex.proofs.Forms.{IsTaken, ListForm, Kept, IntervalForm, HeadForm}
use Rattle.rinex.proofs.WrittenHeader.{Taken, version_line, version_is_line, end_line, end_is_line, interval_line, interval_is_line, first_line, first_is_line, list_line_lem, list_is_line, next_line_lem, next_is_line}

-- Lists of which something holds
all_take : {A : Type 0} (P : A → Type 0) (n : ℕ) (xs : List A) → All P xs → All P (take n xs)
all_take P zero xs p = tt
all_take P (suc n) [] p = tt
all_take P (suc n) (x ∷ xs) p = (p.0, all_take P n xs p.1)

all_drop : {A : Type 0} (P : A → Type 0) (n : ℕ) (xs : List A) → All P xs → All P (drop n xs)
all_drop P zero xs p = p
all_drop P (suc n) [] p = tt
all_drop P (suc n) (x ∷ xs) p = all_drop P n xs p.1

-- A system's list
thirteen : (codes : List (List ℕ)) → length (take 13 codes) ≤ 13
thirteen codes = rw length-take (omega arith)

next_lines : (k s : ℕ) (codes : List (List ℕ)) → length codes ≤ k → Taken s codes → NextLines (next_lines_of k codes) s codes × All Line (next_lines_of k codes)
unfolding next_lines_of
next_lines zero s [] h p = (refl, tt)
next_lines zero s (c ∷ cs) h p = absurd (omega arith)
next_lines (suc k) s [] h p = (refl, tt)
next_lines (suc k) s (c ∷ cs) h p =
    let r = next_lines k s (drop 12 cs) (omega (arith, length-drop 12 cs)) (all_drop (IsTaken s) 12 cs p.1) in
    let t = all_take (IsTaken s) 13 (c ∷ cs) p in (
      (omega arith, next_line_lem s (take 13 (c ∷ cs)) (thirteen (c ∷ cs)) t, r.0),
      (next_is_line s (take 13 (c ∷ cs)) (thirteen (c ∷ cs)) t, r.1),
    )

code_list : (letter s : ℕ) (codes : List (List ℕ)) → s < 7 → 1 ≤ length codes → ListForm letter s codes
    → CodeList (list_lines s codes) letter s codes × All Line (list_lines s codes)
unfolding list_lines
code_list letter s [] m p h = absurd (omega arith)
code_list letter s (c ∷ cs) m p h =
    let codes : List (List ℕ) = c ∷ cs in
    let few : whole_fits 3 (length codes) ≡ true = room_whole 3 (length codes) (omega (arith, h.few)) in
    let n = next_lines (length codes) s (drop 13 codes) (omega (arith, length-drop 13 codes)) (all_drop (IsTaken s) 13 codes h.codes) in
    let t = all_take (IsTaken s) 13 codes h.codes in (
      record {
        line = list_line s (length codes) (take 13 codes);
        next = next_lines_of (length codes) (drop 13 codes);
        lines = refl;
        first_line = list_line_lem s (take 13 codes) (thirteen codes) t m (length codes) few;
        next_lines = n.0;
        some_code = p;
        few_codes = h.few;
        different = h.different;
        allowed = h.allowed p;
      },
      (list_is_line s (take 13 codes) (thirteen codes) t m (length codes) few, n.1),
    )

-- The entries of a header in the normal order, and their lines
abbrev list_entries : ℕ → List (List (List ℕ)) → List Entry
list_entries s [] = []
list_entries s ([] ∷ css) = list_entries (s + 1) css
list_entries s ((c ∷ cs) ∷ css) = a_list s (c ∷ cs) ∷ list_entries (s + 1) css

abbrev list_groups : ℕ → List (List (List ℕ)) → List (List (List ℕ))
list_groups s [] = []
list_groups s ([] ∷ css) = list_groups (s + 1) css
list_groups s ((c ∷ cs) ∷ css) = list_lines s (c ∷ cs) ∷ list_groups (s + 1) css

groups_joined : (s : ℕ) (lists : List (List (List ℕ))) → joined (list_groups s lists) ≡ all_lists s lists
unfolding all_lists list_lines
groups_joined s [] = refl
groups_joined s ([] ∷ css) = groups_joined (s + 1) css
groups_joined s ((c ∷ cs) ∷ css) = ap (λ (r : List (List ℕ)). list_lines s (c ∷ cs) ++ r) (groups_joined (s + 1) css)

-- the lists of the systems from a on
abbrev Lists : ℕ → ℕ → List (List (List ℕ)) → Type 0
Lists letter a lists = (i : ℕ) → i < length lists → (a + i < 7) × ListForm letter (a + i) (get_or lists i [])

lists_next : (letter a : ℕ) (codes : List (List ℕ)) (css : List (List (List ℕ))) → Lists letter a (codes ∷ css) → Lists letter (a + 1) css
lists_next letter a codes css h = λ i p. let e : a + suc i ≡ a + 1 + i = omega arith in rw e at (h (suc i) (omega arith))

lists_entered : (letter a : ℕ) (lists : List (List (List ℕ))) → Lists letter a lists
    → Each (Entered letter) (list_groups a lists) (list_entries a lists) × All Line (joined (list_groups a lists))
lists_entered letter a [] h = (tt, tt)
lists_entered letter a ([] ∷ css) h = lists_entered letter (a + 1) css (lists_next letter a [] css h)
lists_entered letter a ((c ∷ cs) ∷ css) h =
    let r = lists_entered letter (a + 1) css (lists_next letter a (c ∷ cs) css h) in
    let e : a + 0 ≡ a = omega arith in
    let f : (a < 7) × ListForm letter a (c ∷ cs) = rw e at (h 0 (omega arith)) in
    let l = code_list letter a (c ∷ cs) f.0 (omega arith) f.1 in
    ((l.0, r.0), on_all Line (list_lines a (c ∷ cs)) (joined (list_groups (a + 1) css)) l.1 r.1)

lists_before : (s a : ℕ) (lists : List (List (List ℕ))) (others : List Entry) → s < a → lists_for s (list_entries a lists ++ others) ≡ lists_for s others
lists_before s a [] others h = refl
lists_before s a ([] ∷ css) others h = lists_before s (a + 1) css others (omega arith)
lists_before s a ((c ∷ cs) ∷ css) others h = rw (ne_eqb s a (λ e. omega arith)) (lists_before s (a + 1) css others (omega arith))

lists_here : (a i : ℕ) (lists : List (List (List ℕ))) (others : List Entry) → ((s : ℕ) → lists_for s others ≡ [])
    → lists_for (a + i) (list_entries a lists ++ others) ≡ declared (get_or lists i [])
lists_here a i [] others h = h (a + i)
lists_here a zero ([] ∷ css) others h = lists_before (a + 0) (a + 1) css others (omega arith) ∙ h (a + 0)
lists_here a (suc i) ([] ∷ css) others h = let e : a + suc i ≡ a + 1 + i = omega arith in rw e (lists_here (a + 1) i css others h)
lists_here a zero ((c ∷ cs) ∷ css) others h =
    rw (eq-eqb (a + 0) a (omega arith), lists_before (a + 0) (a + 1) css others (omega arith), h (a + 0))
lists_here a (suc i) ((c ∷ cs) ∷ css) others h =
    let e : a + suc i ≡ a + 1 + i = omega arith in
    rw (ne_eqb (a + suc i) a (λ e. omega arith))
    (ap (λ (x : ℕ). lists_for x (list_entries (a + 1) css ++ others)) e ∙ lists_here (a + 1) i css others h)

lists_firsts : (a : ℕ) (lists : List (List (List ℕ))) (others : List Entry) → firsts (list_entries a lists ++ others) ≡ firsts others
lists_firsts a [] others = refl
lists_firsts a ([] ∷ css) others = lists_firsts (a + 1) css others
lists_firsts a ((c ∷ cs) ∷ css) others = lists_firsts (a + 1) css others

lists_intervals : (a : ℕ) (lists : List (List (List ℕ))) (others : List Entry) → intervals (list_entries a lists ++ others) ≡ intervals others
lists_intervals a [] others = refl
lists_intervals a ([] ∷ css) others = lists_intervals (a + 1) css others
lists_intervals a ((c ∷ cs) ∷ css) others = lists_intervals (a + 1) css others

lists_carrieds : (a : ℕ) (lists : List (List (List ℕ))) (others : List Entry) → carrieds (list_entries a lists ++ others) ≡ carrieds others
lists_carrieds a [] others = refl
lists_carrieds a ([] ∷ css) others = lists_carrieds (a + 1) css others
lists_carrieds a ((c ∷ cs) ∷ css) others = lists_carrieds (a + 1) css others

-- carried lines, each for itself
abbrev carried_entries : List (List ℕ) → List Entry
carried_entries [] = []
carried_entries (c ∷ cs) = a_carried c ∷ carried_entries cs

abbrev carried_groups : List (List ℕ) → List (List (List ℕ))
carried_groups [] = []
carried_groups (c ∷ cs) = (c ∷ []) ∷ carried_groups cs

carried_joined : (cs : List (List ℕ)) → joined (carried_groups cs) ≡ cs
carried_joined [] = refl
carried_joined (c ∷ cs) = ap (λ (r : List (List ℕ)). c ∷ r) (carried_joined cs)

carried_lists : (s : ℕ) (cs : List (List ℕ)) → lists_for s (carried_entries cs) ≡ []
carried_lists s [] = refl
carried_lists s (c ∷ cs) = carried_lists s cs

carried_firsts : (cs : List (List ℕ)) → firsts (carried_entries cs) ≡ []
carried_firsts [] = refl
carried_firsts (c ∷ cs) = carried_firsts cs

carried_intervals : (cs : List (List ℕ)) → intervals (carried_entries cs) ≡ []
carried_intervals [] = refl
carried_intervals (c ∷ cs) = carried_intervals cs

carried_carrieds : (cs : List (List ℕ)) → carrieds (carried_entries cs) ≡ cs
carried_carrieds [] = refl
carried_carrieds (c ∷ cs) = ap (λ (r : List (List ℕ)). c ∷ r) (carried_carrieds cs)

carried_entered : (letter : ℕ) (cs : List (List ℕ)) → All Kept cs → Each (Entered letter) (carried_groups cs) (carried_entries cs)
carried_entered letter [] h = tt
carried_entered letter (c ∷ cs) h = ((c, refl, h.0), carried_entered letter cs h.1)

-- the interval and the carried lines
abbrev interval_entries : Option ℕ → List Entry
interval_entries None = []
interval_entries (Some n) = an_interval n ∷ []

abbrev interval_groups : Option ℕ → List (List (List ℕ))
interval_groups None = []
interval_groups (Some n) = (line (decimal 10 3 (pos n)) "INTERVAL" ∷ []) ∷ []

module _ (letter : ℕ) (cs : List (List ℕ)) where
  tail_entered : (o : Option ℕ) → IntervalForm o → All Kept cs → Each (Entered letter) (interval_groups o ++ carried_groups cs) (interval_entries o ++ carried_entries cs)
  tail_entered None f k = carried_entered letter cs k
  tail_entered (Some n) f k = ((line (decimal 10 3 (pos n)) "INTERVAL", refl, interval_line n f.1 f.0), carried_entered letter cs k)

  tail_joined : (o : Option ℕ) → joined (interval_groups o ++ carried_groups cs) ≡ interval_lines o ++ cs
  unfolding interval_lines
  tail_joined None = carried_joined cs
  tail_joined (Some n) = ap (λ (r : List (List ℕ)). line (decimal 10 3 (pos n)) "INTERVAL" ∷ r) (carried_joined cs)

  tail_lines : (o : Option ℕ) → IntervalForm o → All Line cs → All Line (interval_lines o ++ cs)
  unfolding interval_lines
  tail_lines None f k = k
  tail_lines (Some n) f k = (interval_is_line n f.1, k)

  tail_lists : (o : Option ℕ) (s : ℕ) → lists_for s (interval_entries o ++ carried_entries cs) ≡ []
  tail_lists None s = carried_lists s cs
  tail_lists (Some n) s = carried_lists s cs

  tail_firsts : (o : Option ℕ) → firsts (interval_entries o ++ carried_entries cs) ≡ []
  tail_firsts None = carried_firsts cs
  tail_firsts (Some n) = carried_firsts cs

  tail_intervals : (o : Option ℕ) → intervals (interval_entries o ++ carried_entries cs) ≡ as_list o
  tail_intervals None = carried_intervals cs
  tail_intervals (Some n) = ap (λ (r : List ℕ). n ∷ r) (carried_intervals cs)

  tail_carrieds : (o : Option ℕ) → carrieds (interval_entries o ++ carried_entries cs) ≡ cs
  tail_carrieds None = carried_carrieds cs
  tail_carrieds (Some n) = carried_carrieds cs

lists_seven : (lists : List (List (List ℕ))) (others : List Entry) → ((s : ℕ) → lists_for s others ≡ [])
    → All (λ (s : ℕ). lists_for s (list_entries 0 lists ++ others) ≡ declared (get_or lists s [])) seven
lists_seven lists others h =
    let at : (i : ℕ) → lists_for (0 + i) (list_entries 0 lists ++ others) ≡ declared (get_or lists i []) = λ i. lists_here 0 i lists others h in
    (at 0, (at 1, (at 2, (at 3, (at 4, (at 5, (at 6, tt)))))))

pub header_normal : (h : Head) → HeadForm h → HeaderLines (head_lines h) h × All Line (head_lines h)
unfolding head_lines
header_normal h r =
    let t = r.first in
    let first_is = first_line t.0 t.1 h.time_system r.time_system h.first t.2 in
    let first-l = first_is_line t.0 t.1 h.time_system r.time_system h.first t.2 in
    let d : Lists h.letter 0 h.lists =
    λ i p. let z : 0 + i ≡ i = omega arith in let m : i < 7 = omega (arith, r.systems) in rw z (m, r.lists i m) in
    let l = lists_entered h.letter 0 h.lists d in
    let tg : List (List (List ℕ)) = (first_line_of h.first h.time_system ∷ []) ∷ (interval_groups h.interval ++ carried_groups h.carried) in
    let te : List Entry = a_first h.first h.time_system ∷ (interval_entries h.interval ++ carried_entries h.carried) in
    let body : List (List ℕ) = all_lists 0 h.lists ++ (first_line_of h.first h.time_system ∷ (interval_lines h.interval ++ h.carried)) in
    let j : joined (list_groups 0 h.lists ++ tg) ≡ body =
    joined_append (list_groups 0 h.lists) tg ∙ rw (groups_joined 0 h.lists, tail_joined h.letter h.carried h.interval) in (
      record {
        version = version_line_of h.letter;
        groups = list_groups 0 h.lists ++ tg;
        end = line [] "END OF HEADER";
        lines = ap (λ (x : List (List ℕ)). version_line_of h.letter ∷ (x ++ (line [] "END OF HEADER" ∷ []))) (sym j);
        version_line = version_line h.letter r.letter;
        entries = list_entries 0 h.lists ++ te;
        entered = on_each (Entered h.letter) (list_groups 0 h.lists) tg (list_entries 0 h.lists) te l.0
            ((first_line_of h.first h.time_system, refl, first_is), tail_entered h.letter h.carried h.interval r.interval r.kept);
        end_line = end_line;
        systems = r.systems;
        lists = lists_seven h.lists te (tail_lists h.letter h.carried h.interval);
        some_list = r.some_list;
        first = lists_firsts 0 h.lists te ∙ ap (λ (x : List First). record { time = h.first; time_system = h.time_system } ∷ x) (tail_firsts h.letter h.carried h.interval);
        interval = lists_intervals 0 h.lists te ∙ tail_intervals h.letter h.carried h.interval;
        carried = lists_carrieds 0 h.lists te ∙ tail_carrieds h.letter h.carried h.interval;
      },
      (
        version_is_line h.letter r.letter,
        on_all Line body (line [] "END OF HEADER" ∷ [])
            (on_all Line (all_lists 0 h.lists) _ (subst (λ (x : List (List ℕ)). All Line x) (groups_joined 0 h.lists) l.1)
            (first-l, tail_lines h.letter h.carried h.interval r.interval r.carried))
            (end_is_line, tt),
      ),
    )
