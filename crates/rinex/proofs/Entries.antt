-- The records of a header, one by one: what the judge takes in is what the rule says. Assumes nothing.
use Prim.Native.Nat.{ℕ, zero, suc, ◌+◌, ◌-◌, ◌*◌, ◌≤◌, ◌<◌, min}
use mathlib.Core.Path.{◌≡◌, refl, ap, sym, subst, ◌∙◌}
use mathlib.Core.Bool.{Bool, true, false, not, ◌&&◌}
use mathlib.Core.List.{List, [], ◌∷◌, ◌++◌, append-nil, append_assoc}
use native.Mathlib.Omega.{arith}
use lib.Dec.{leb}
use lib.ListN.{length, take, drop, length-append, length-take, length-drop, take-append-drop, drop_of_length-le}
use lib.Seq.{take_all, take_at, drop_at, set-set, get_or-set_same}
use borrow.Author.Tests.{leb-true, leb-false}
use Rattle.lists.specs.Lists.{same, is_in, fresh}
use Rattle.lists.proofs.Bools.{both, all_of}
use Rattle.label.specs.declared.Label.{Label}
use Rattle.label.specs.Labels.{label_of}
use Rattle.rinex.specs.Tables.{Room}
use Rattle.rinex.specs.Header.{NextLine, NextLines, Entry, a_list, a_first, an_interval, a_carried}
use Rattle.rinex.specs.Tests.{codes_at, in_line}
use Rattle.rinex.specs.Refusals.{Place, in_header, next_due, epoch_due, State, list_of, carried_after, listed, headed, kept, next_header, next, after_list}
use Rattle.rinex.proofs.HeaderRecords.{obs_is, codes_long, next_to, next_back}
use Rattle.rinex.proofs.Reach.{Ok, Reach}
use Rattle.rinex.proofs.Places.{HeaderOk, header_ok, ok_header, NextOk, next_ok, ok_next}

-- the state in the header, with more codes in a list
abbrev pub relist : State → ℕ → List (List ℕ) → Place → State
relist s y codes p = headed s p (listed s.head y codes)

-- the state after a record
unfoldable pub enter : State → Entry → State
enter s (a_list y codes) = relist s y codes in_header
enter s (a_first t z) = headed s in_header (record { letter = s.head.letter; lists = s.head.lists; has_first = true; has_interval = s.head.has_interval })
enter s (an_interval n) = headed s in_header (record { letter = s.head.letter; lists = s.head.lists; has_first = s.head.has_first; has_interval = true })
enter s (a_carried c) = kept s c in_header

-- what a record asks of the state before it
abbrev pub Ready : Room → State → Entry → Type 0
Ready r s (a_list y codes) = (list_of s y ≡ []) × (64 * y + length codes ≤ r.codes)
Ready r s (a_first t z) = s.head.has_first ≡ false
Ready r s (an_interval n) = s.head.has_interval ≡ false
Ready r s (a_carried c) = carried_after s c ≤ r.carried

-- 13 codes, or all
seam_at : (c more : List (List ℕ)) (n : ℕ) (b : Bool) → leb 13 n ≡ b → length c ≡ min 13 n → length more ≡ n - min 13 n → (take 13 (c ++ more) ≡ c) × (drop 13 (c ++ more) ≡ more)
seam_at c more n true e h k =
    let m : 13 ≤ n = leb-true _ _ e in
    (take_at c more 13 (omega arith), drop_at c more 13 (omega arith))
seam_at c [] n false e h k =
    let m : n < 13 = leb-false _ _ e in
    let z : length (c ++ []) ≤ 13 = omega (arith, length-append c []) in
    (take_all 13 (c ++ []) z ∙ append-nil c, drop_of_length-le (c ++ []) z)
seam_at c (x ∷ more) n false e h k =
    let m : n < 13 = leb-false _ _ e in
    absurd (omega arith)

pub seam : (c more : List (List ℕ)) (n : ℕ) → length c ≡ in_line n → length more ≡ n - in_line n → (take 13 (c ++ more) ≡ c) × (drop 13 (c ++ more) ≡ more)
seam c more n h k = seam_at c more n (leb 13 n) refl h k

-- fresh, part by part
pub fresh_on : (seen xs ys : List (List ℕ)) → fresh same seen (xs ++ ys) ≡ (fresh same seen xs && fresh same (seen ++ xs) ys)
fresh_on seen [] ys = rw append-nil
fresh_on seen (x ∷ xs) ys = at (is_in same x seen) (fresh_on (seen ++ (x ∷ [])) xs ys ∙ rw append_assoc)
  where
    at : (b : Bool) → fresh same (seen ++ (x ∷ [])) (xs ++ ys) ≡ (fresh same (seen ++ (x ∷ [])) xs && fresh same (seen ++ (x ∷ xs)) ys)
        → (not b && fresh same (seen ++ (x ∷ [])) (xs ++ ys)) ≡ ((not b && fresh same (seen ++ (x ∷ [])) xs) && fresh same (seen ++ (x ∷ xs)) ys)
    at true h = refl
    at false h = h

-- a list that is put in twice over
module _ (s : State) (y : ℕ) (c : List (List ℕ)) (p : Place) (low : y < length s.head.lists) (empty : list_of s y ≡ []) where
  list_of_lem : list_of (relist s y c p) y ≡ c
  unfolding listed headed
  list_of_lem = rw (empty, get_or-set_same s.head.lists y c [] low)

  relisted : (d : List (List ℕ)) (q : Place) → relist (relist s y c p) y d q ≡ relist s y (c ++ d) q
  unfolding listed headed
  relisted d q = rw (empty, get_or-set_same s.head.lists y c [] low, set-set)

-- the continuation lines that are due, where c stands already and n codes are left
pub record Nexts (r : Room) (s : State) (y : ℕ) (c : List (List ℕ)) (n : ℕ) (ls : List (List ℕ)) (s' : State) : Type 0 where
  pub next : List (List ℕ)
  pub rest : List (List ℕ)
  pub more : List (List ℕ)
  pub lines : ls ≡ next ++ rest
  pub next_lines : NextLines next y more
  pub long : length more ≡ n
  pub different : fresh same c more ≡ true
  pub room : 64 * y + length (c ++ more) ≤ r.codes
  pub reach : Reach r (relist s y (c ++ more) in_header) rest s'

module _ (r : Room) (s : State) (y : ℕ) (low : y < length s.head.lists) (empty : list_of s y ≡ []) (s' : State) (done : s'.place ≡ epoch_due) where
  not_due : (c : List (List ℕ)) (k : ℕ) → relist s y c (next_due y (suc k)) ≡ s' → ⊥
  unfolding listed headed
  not_due c k e =
      let d : next_due y (suc k) ≡ epoch_due = ap (λ (x : State). x.place) e ∙ done in
      let z : ◌≡◌ {A = ℕ} 0 1 = cc in
      omega arith

  one_next : (l : List ℕ) (ls c : List (List ℕ)) (n : ℕ) → Reach r (relist s y c (next_due y n)) (l ∷ ls) s'
      → Ok r (relist s y c (next_due y n)) (next_due y n) l × Reach r (relist s y (c ++ codes_at (in_line n) 7 l) (after_list y (n - in_line n))) ls s'
  unfolding listed headed next
  one_next l ls c n h = (h.0, subst (λ (x : State). Reach r x ls s') (relisted s y c (next_due y n) low empty (codes_at (in_line n) 7 l) (after_list y (n - in_line n))) h.1)

  none_next : (ls : List (List ℕ)) (c : List (List ℕ)) → 64 * y + length c ≤ r.codes → Reach r (relist s y c in_header) ls s' → Nexts r s y c 0 ls s'
  none_next ls c m h =
      record {
        next = [];
        rest = ls;
        more = [];
        lines = refl;
        next_lines = refl;
        long = refl;
        different = refl;
        room = rw append-nil m;
        reach = rw append-nil h;
      }

  next_onto : (l : List ℕ) (ls c d : List (List ℕ)) (n : ℕ) → length d ≡ in_line n → NextLine l y d → fresh same c d ≡ true → 1 ≤ n
      → Nexts r s y (c ++ d) (n - in_line n) ls s' → Nexts r s y c n (l ∷ ls) s'
  next_onto l ls c d n dl v f k i =
      let t = seam d i.more n dl i.long in
      let long : length (d ++ i.more) ≡ n = omega (arith, length-append d i.more, i.long) in
      record {
        next = l ∷ i.next;
        rest = i.rest;
        more = d ++ i.more;
        lines = ap (λ (x : List (List ℕ)). l ∷ x) i.lines;
        next_lines = (omega arith, rw t.0 v, rw t.1 i.next_lines);
        long = long;
        different = fresh_on c d i.more ∙ all_of _ _ f i.different;
        room = rw append_assoc at i.room;
        reach = rw append_assoc at i.reach;
      }

  pub nexts : (ls : List (List ℕ)) (c : List (List ℕ)) (n : ℕ) → 64 * y + length c ≤ r.codes → Reach r (relist s y c (after_list y n)) ls s' → Nexts r s y c n ls s'
  nexts [] c zero m h = none_next [] c m h
  nexts (l ∷ ls) c zero m h = none_next (l ∷ ls) c m h
  nexts [] c (suc k) m h = absurd (not_due c k h)
  nexts (l ∷ ls) c (suc k) m h =
      let n : ℕ = suc k in
      let b = one_next l ls c n h in
      let o = next_ok r (relist s y c (next_due y n)) y n l b.0 in
      let e : list_of (relist s y c (next_due y n)) y ≡ c = list_of_lem s y c (next_due y n) low empty in
      let d : List (List ℕ) = codes_at (in_line n) 7 l in
      let dl : length d ≡ in_line n = codes_long (in_line n) 7 l in
      let w = next_to y c n l (rw e at o.fit) (obs_is _ o.label) o.gap o.rest in
      let u : 64 * y + length c + in_line n ≤ r.codes = rw e at o.room in
      let v : 64 * y + length (c ++ d) ≤ r.codes = omega (arith, length-append c d) in
      next_onto l ls c d n dl w.0 w.1 (omega arith) (nexts ls (c ++ d) (n - in_line n) v b.1)

due_on : (y n : ℕ) → 1 ≤ n → next_due y n ≡ after_list y n
due_on y zero h = absurd (omega arith)
due_on y (suc n) h = refl

module _ (r : Room) (s : State) (y : ℕ) (low : y < length s.head.lists) (empty : list_of s y ≡ []) (s' : State) where
  next_one : (l : List ℕ) (ls c d : List (List ℕ)) (n : ℕ) → codes_at (in_line n) 7 l ≡ d → Ok r (relist s y c (next_due y n)) (next_due y n) l
      → Reach r (relist s y (c ++ d) (after_list y (n - in_line n))) ls s' → Reach r (relist s y c (next_due y n)) (l ∷ ls) s'
  unfolding listed headed next
  next_one l ls c d n e o h = (
    o,
    subst (λ (x : State). Reach r x ls s') (sym (ap (λ (x : List (List ℕ)). relist (relist s y c (next_due y n)) y x (after_list y (n - in_line n))) e
        ∙ relisted s y c (next_due y n) low empty d (after_list y (n - in_line n)))) h,
  )

  pub nexts_back : (ls rest c more : List (List ℕ)) → NextLines ls y more → fresh same c more ≡ true → 64 * y + length (c ++ more) ≤ r.codes
      → Reach r (relist s y (c ++ more) in_header) rest s' → Reach r (relist s y c (after_list y (length more))) (ls ++ rest) s'
  nexts_back [] rest c [] w f m h = rw append-nil at h
  nexts_back [] rest c (x ∷ more) w f m h = absurd (let z : ◌≡◌ {A = ℕ} 0 1 = cc in omega arith)
  nexts_back (l ∷ ls) rest c more w f m h =
      let n : ℕ = length more in
      let d : List (List ℕ) = take 13 more in
      let t : List (List ℕ) = drop 13 more in
      let j : more ≡ d ++ t = sym (take-append-drop 13 more) in
      let dl : length d ≡ in_line n = length-take 13 more in
      let tl : length t ≡ n - in_line n = length-drop 13 more ∙ omega arith in
      let g : (fresh same c d && fresh same (c ++ d) t) ≡ true = sym (fresh_on c d t) ∙ (ap (λ (x : List (List ℕ)). fresh same c x) (sym j) ∙ f) in
      let g2 = both _ _ g in
      let q : c ++ more ≡ c ++ d ++ t = ap (λ (x : List (List ℕ)). c ++ x) j ∙ sym (append_assoc c d t) in
      let b = next_back y c n l d w.1 dl g2.0 in
      let e : list_of (relist s y c (next_due y n)) y ≡ c = list_of_lem s y c (next_due y n) low empty in
      let u : 64 * y + length c + in_line n ≤ r.codes = omega (arith, length-append c more) in
      let o : NextOk r (relist s y c (next_due y n)) y n l =
      record { rest = w.1.rest; label = rw w.1.label; gap = w.1.gap; fit = rw e b.0; room = rw e u } in
      let i = nexts_back ls rest (c ++ d) t w.2 g2.1 (rw q at m) (rw q at h) in
      subst (λ (p : Place). Reach r (relist s y c p) (l ∷ (ls ++ rest)) s') (due_on y n w.0)
      (next_one l (ls ++ rest) c d n b.1 (ok_next r _ y n l w.1.label o) (rw tl at i))

-- a line in the header, by its label
module _ (r : Room) (s s' : State) (l : List ℕ) (ls : List (List ℕ)) (here : s.place ≡ in_header) where
  pub head_off : Reach r s (l ∷ ls) s' → HeaderOk r s l (label_of l) × Reach r (next_header s l (label_of l)) ls s'
  unfolding next
  head_off h = (header_ok r s l (subst (λ (p : Place). Ok r s p l) here h.0), subst (λ (p : Place). Reach r (next s p l) ls s') here h.1)

  pub head_on : (k : Label) → label_of l ≡ k → HeaderOk r s l k → Reach r (next_header s l k) ls s' → Reach r s (l ∷ ls) s'
  unfolding next
  head_on k e o h = (
    subst (λ (p : Place). Ok r s p l) (sym here) (ok_header r s l k e o),
    subst (λ (p : Place). Reach r (next s p l) ls s') (sym here) (subst (λ (x : Label). Reach r (next_header s l x) ls s') (sym e) h),
  )
