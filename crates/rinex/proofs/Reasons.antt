-- WHY A TEXT IS REFUSED: the verdict's number and line are the lowest test's and the earliest line's, and no others. Assumes nothing.
use Prim.Native.Nat.{ℕ, zero, suc, ◌+◌, ◌-◌, ◌≤◌, ◌<◌}
use mathlib.Core.Path.{◌≡◌, refl, ap, sym, ◌∙◌}
use mathlib.Core.Bool.{Bool, true, false, cond, ◌||◌, true≢false}
use mathlib.Core.List.{List, [], ◌∷◌, ◌++◌}
use native.Mathlib.Omega.{arith}
use lib.Dec.{eqb, ltb}
use lib.ListN.{length}
use borrow.Author.Tests.{eqb-true, eqb-false, ne_eqb, ltb-true, ltb-false, lt-ltb, le-ltb}
use Rattle.lists.proofs.Lists.{cons_nil}
use Rattle.line.specs.Text.{longest, Raw, onto, split}
use Rattle.label.specs.declared.Label.{Label}
use Rattle.label.specs.declared.Label.TheVariants.{Version, ObsTypes, FirstObs, Interval, EndOfHeader, ScaleFactor, MarkerName, Other, Unknown}
use Rattle.label.specs.Labels.{is, label_of}
use Rattle.rinex.specs.Tables.{Room}
use Rattle.rinex.specs.Tests.{system_at, list_count, in_line, is_event, flag_at, count_at, epoch_time}
use Rattle.rinex.specs.Refusals.{Place, version_due, in_header, next_due, epoch_due, row_due, line_due, stage, epoch_here, State, start, fault, after_list, after_row, after_line, headed, kept, begun, rowed, next_header, next, refused, ending, judge, verdict}
use Rattle.rinex.specs.Theorems.{holds, after, Faultless, AtEnd, Reason, a_line, empty, cut_short, too_long, Why}
use Rattle.rinex.proofs.Faults.{no_fault, some_fault, faultless, faulty}

-- the judge, from any state on
pub data Told (r : Room) (s : State) (k : ℕ) (ws : List Raw) (n j : ℕ) : Type 0 where
  at_line : (before : List Raw) (line : Raw) (behind : List Raw) → ws ≡ before ++ line ∷ behind → j ≡ k + length before → Faultless r s before
      → holds r (after s before) line n ≡ true → ((m : ℕ) → m < n → holds r (after s before) line m ≡ false) → Told r s k ws n j
  at_end : Faultless r s ws → ending (after s ws) (after s ws).place (k + length ws) ≡ refused n j → Told r s k ws n j

refused_same : (a b c d : ℕ) → refused a b ≡ refused c d → (a ≡ c) × (b ≡ d)
refused_same a b c d e = (cc, cc)

pub judge_told : (r : Room) (ws : List Raw) (s : State) (k n j : ℕ) → judge r s k ws ≡ refused n j → Told r s k ws n j
unfolding judge
judge_told r [] s k n j h = let e : k + 0 ≡ k = omega arith in at_end tt (rw e h)
judge_told r (w ∷ ws) s k n j h = at (eqb (fault r s w) 0) refl h (judge_told r ws (next s s.place w.bytes) (k + 1) n j)
  where
    onward : fault r s w ≡ 0 → Told r (next s s.place w.bytes) (k + 1) ws n j → Told r s k (w ∷ ws) n j
    onward e (at_line before line behind a b c d f) =
        at_line (w ∷ before) line behind (ap (λ (x : List Raw). w ∷ x) a) (omega arith) (no_fault r s w e, c) d f
    onward e (at_end c d) =
        let q : k + 1 + length ws ≡ k + suc (length ws) = omega arith in
        at_end (no_fault r s w e, c) (rw q at d)

    at : (b : Bool) → eqb (fault r s w) 0 ≡ b → cond b (judge r (next s s.place w.bytes) (k + 1) ws) (refused (fault r s w) k) ≡ refused n j
        → (judge r (next s s.place w.bytes) (k + 1) ws ≡ refused n j → Told r (next s s.place w.bytes) (k + 1) ws n j) → Told r s k (w ∷ ws) n j
    at true e h ih = onward (eqb-true _ _ e) (ih h)
    at false e h ih =
        let p = refused_same (fault r s w) k n j h in
        let q = some_fault r s w (eqb-false _ _ e) in
        let a : k ≡ j = p.1 in
        let o : fault r s w ≡ n = p.0 in
        at_line [] w ws refl (omega arith) tt (rw o at q.0) (rw o at q.1)

module _ (r : Room) where
  judge_line : (before : List Raw) (line : Raw) (behind : List Raw) (s : State) (k n : ℕ) → Faultless r s before → holds r (after s before) line n ≡ true
      → ((m : ℕ) → m < n → holds r (after s before) line m ≡ false) → judge r s k (before ++ line ∷ behind) ≡ refused n (k + length before)
  unfolding judge
  judge_line [] line behind s k n f h l =
      let p = faulty r s line n h l in
      let e : k + 0 ≡ k = omega arith in
      rw (p.0, ne_eqb n 0 (λ x. omega (arith, x, p.1)), e)
  judge_line (w ∷ before) line behind s k n f h l =
      let q : k + suc (length before) ≡ k + 1 + length before = omega arith in
      rw (faultless r s w f.0, q) (judge_line before line behind (next s s.place w.bytes) (k + 1) n f.1 h l)

  judge_end : (ws : List Raw) (s : State) (k : ℕ) → Faultless r s ws → judge r s k ws ≡ ending (after s ws) (after s ws).place (k + length ws)
  unfolding judge
  judge_end [] s k f = let e : k + 0 ≡ k = omega arith in rw e
  judge_end (w ∷ ws) s k f =
      let q : k + suc (length ws) ≡ k + 1 + length ws = omega arith in
      rw (faultless r s w f.0, q) (judge_end ws (next s s.place w.bytes) (k + 1) f.1)

-- past line 1 the version line is never due
list_stage_lem : (y n : ℕ) → 1 ≤ stage (after_list y n)
list_stage_lem y zero = omega arith
list_stage_lem y (suc n) = omega arith

row_stage_lem : (n : ℕ) → 1 ≤ stage (after_row n)
row_stage_lem zero = omega arith
row_stage_lem (suc n) = omega arith

line_stage_lem : (f : ℕ) (b : Bool) (n : ℕ) → 1 ≤ stage (after_line f b n)
line_stage_lem f b zero = omega arith
line_stage_lem f b (suc n) = omega arith

header_stage : (s : State) (l : List ℕ) (k : Label) → 1 ≤ stage s.place → 1 ≤ stage (next_header s l k).place
unfolding next_header headed kept
header_stage s l Version h = h
header_stage s l ObsTypes h = list_stage_lem (system_at l) (list_count l - in_line (list_count l))
header_stage s l FirstObs h = omega arith
header_stage s l Interval h = omega arith
header_stage s l EndOfHeader h = omega arith
header_stage s l ScaleFactor h = h
header_stage s l MarkerName h = omega arith
header_stage s l Other h = omega arith
header_stage s l Unknown h = h

next_stage : (s : State) (p : Place) (l : List ℕ) → s.place ≡ p → 1 ≤ stage (next s p l).place
unfolding next headed kept begun rowed
next_stage s version_due l e = omega arith
next_stage s in_header l e = header_stage s l (label_of l) (rw e (omega arith))
next_stage s (next_due y n) l e = list_stage_lem y (n - in_line n)
next_stage s epoch_due l e = at (is_event (flag_at l))
  where
    at : (b : Bool) → 1 ≤ stage (cond b (begun s (after_line (flag_at l) false (count_at l)) s.last) (begun s (after_row (count_at l)) (epoch_time l))).place
    at true = line_stage_lem (flag_at l) false (count_at l)
    at false = row_stage_lem (count_at l)
next_stage s (row_due n) l e = row_stage_lem (n - 1)
next_stage s (line_due f n m) l e = line_stage_lem f (m || is MarkerName (label_of l)) (n - 1)

after_stage : (ws : List Raw) (s : State) → 1 ≤ stage s.place → 1 ≤ stage (after s ws).place
after_stage [] s h = h
after_stage (w ∷ ws) s h = after_stage ws (next s s.place w.bytes) (next_stage s s.place w.bytes refl)

-- where the text ends
ending_told : (s : State) (p : Place) (k n j : ℕ) → 1 ≤ stage p → ending s p k ≡ refused n j → (n ≡ 14) × (j ≡ k) × (epoch_here p ≡ false)
unfolding ending
ending_told s version_due k n j h e = absurd (omega arith)
ending_told s in_header k n j h e = (cc, cc, refl)
ending_told s (next_due y m) k n j h e = (cc, cc, refl)
ending_told s epoch_due k n j h e = absurd (let z : ◌≡◌ {A = ℕ} 0 1 = cc in omega arith)
ending_told s (row_due m) k n j h e = (cc, cc, refl)
ending_told s (line_due f m b) k n j h e = (cc, cc, refl)

ending_back : (s : State) (p : Place) (k : ℕ) → 1 ≤ stage p → epoch_here p ≡ false → ending s p k ≡ refused 14 k
unfolding ending
ending_back s version_due k h e = absurd (omega arith)
ending_back s in_header k h e = refl
ending_back s (next_due y m) k h e = refl
ending_back s epoch_due k h e = absurd (true≢false e)
ending_back s (row_due m) k h e = refl
ending_back s (line_due f m b) k h e = refl

-- only the empty text has no line
onto_some : (b : ℕ) (ws : List Raw) → onto b ws ≡ [] → ⊥
unfolding onto
onto_some b [] e = cons_nil _ _ e
onto_some b (w ∷ ws) e = cons_nil _ _ e

no_lines : (t : List ℕ) → split t ≡ [] → t ≡ []
unfolding split
no_lines [] e = refl
no_lines (b ∷ bs) e = absurd (at (eqb b 10) e)
  where
    at : (c : Bool) → cond c (record { bytes = []; ended = true } ∷ split bs) (onto b (split bs)) ≡ [] → ⊥
    at true e = cons_nil _ _ e
    at false e = onto_some b (split bs) e

start_ends : (n k : ℕ) → ending start start.place 1 ≡ refused n k → (n ≡ 3) × (k ≡ 1)
unfolding ending start
start_ends n k e = (cc, cc)

told : (r : Room) (t : List ℕ) (n k : ℕ) → verdict r t ≡ refused n k → Reason r t n k
unfolding verdict
told r t n k h = at (ltb longest (length t)) refl h
  where
    ends : length t ≤ longest → (ws : List Raw) → split t ≡ ws → Faultless r start ws → ending (after start ws) (after start ws).place (1 + length ws) ≡ refused n k → Reason r t n k
    ends m [] e f d = let p = start_ends n k d in empty (no_lines t e) p.0 p.1
    ends m (w ∷ ws) e f d =
        let g = after_stage ws (next start start.place w.bytes) (next_stage start start.place w.bytes refl) in
        let p = ending_told (after start (w ∷ ws)) (after start (w ∷ ws)).place (1 + length (w ∷ ws)) n k g d in
        let q : AtEnd r (w ∷ ws) k = record { some_line = omega arith; place = omega (arith, p.1); faultless = f; unfinished = p.2 } in
        cut_short m (rw e q) p.0

    judged : length t ≤ longest → Told r start 1 (split t) n k → Reason r t n k
    judged m (at_line before line behind a b c d f) =
        a_line m (record { before = before; line = line; behind = behind; lines = a; place = omega (arith, b); earliest = c; here = d; lowest = f })
    judged m (at_end c d) = ends m (split t) refl c d

    at : (b : Bool) → ltb longest (length t) ≡ b → cond b (refused 17 0) (judge r start 1 (split t)) ≡ refused n k → Reason r t n k
    at true e h = let p = refused_same 17 0 n k h in too_long (ltb-true _ _ e) (sym p.0) (sym p.1)
    at false e h = judged (ltb-false _ _ e) (judge_told r (split t) start 1 n k h)

nothing : (r : Room) → judge r start 1 (split []) ≡ refused 3 1
unfolding judge split ending start
nothing r = refl

rightly : (r : Room) (t : List ℕ) (n k : ℕ) → Reason r t n k → verdict r t ≡ refused n k
unfolding verdict
rightly r t n k (a_line m a) =
    let e : k ≡ 1 + length a.before = omega (arith, a.place) in
    rw (le-ltb longest (length t) m, a.lines, e) (judge_line r a.before a.line a.behind start 1 n a.earliest a.here a.lowest)
rightly r t n k (empty e a b) = rw (e, a, b) (nothing r)
rightly r t n k (cut_short m a b) = rw (le-ltb longest (length t) m, b) (at (split t) a)
  where
    at : (ws : List Raw) → AtEnd r ws k → judge r start 1 ws ≡ refused 14 k
    at [] a = absurd (omega (arith, a.some_line))
    at (w ∷ ws) a =
        let e : k ≡ 1 + length (w ∷ ws) = omega (arith, a.place) in
        let g = after_stage ws (next start start.place w.bytes) (next_stage start start.place w.bytes refl) in
        rw e (judge_end r (w ∷ ws) start 1 a.faultless ∙ ending_back (after start (w ∷ ws)) (after start (w ∷ ws)).place (1 + length (w ∷ ws)) g a.unfinished)
rightly r t n k (too_long m a b) = rw (lt-ltb longest (length t) m, a, b)

pub why : Why
why = record { told = told; rightly = rightly }
