-- The lines of a system's list leave its codes in the table, and their number among the lengths. Assumes nothing.
use Prim.Native.Nat.{ℕ, zero, suc, ◌+◌, ◌-◌, ◌*◌, ◌≤◌, ◌<◌}
use mathlib.Core.Path.{◌≡◌, refl, ap, sym, subst, ◌∙◌}
use mathlib.Core.List.{List, [], ◌∷◌, map}
use Rattle.std.specs.Prelude.{Option}
use native.Mathlib.Nat.{add-zero}
use native.Mathlib.Omega.{arith}
use lib.ListN.{length, get_or, set, take, drop, length-set, length-map, length-take, length-drop, take-append-drop}
use lib.Seq.{sets, set-set, set-get_or, get_or-set_same}
use Rattle.lists.specs.Maybe.{given}
use Rattle.lists.proofs.Lists.{cons_nil, map_append}
use Rattle.lists.proofs.Stores.{sets_append}
use Rattle.field.proofs.Found.{whole_back}
use Rattle.label.specs.declared.Label.TheVariants.{ObsTypes}
use Rattle.label.specs.Labels.{label_of}
use Rattle.rinex.specs.Header.{Codes, ListLine, NextLine, NextLines, CodeList}
use Rattle.rinex.specs.Tables.{packed}
use Rattle.rinex.specs.Tests.{system_at, codes_at, in_line, list_count}
use Rattle.rinex.proofs.Rows.{letter_back}
use Rattle.rinex.proofs.HeaderRecords.{codes_back}
use Rattle.state.specs.declared.State.{State}
use Rattle.state.specs.declared.Stage.TheVariants as stages
use Rattle.state.specs.Judge.{listed, list_stage, after_record, next_at, table_at}
use Rattle.fill.proofs.Walks.{Walks, walk_none, walk_one, walk_on, walk_to}

-- the codes of one line stand in it, as many as a line has
codes_there : (y : ℕ) (l : List ℕ) (codes : List (List ℕ)) → Codes y 7 l (take 13 codes) → codes_at (in_line (length codes)) 7 l ≡ take 13 codes
codes_there y l codes h =
    let n : length (take 13 codes) ≡ in_line (length codes) = length-take 13 codes in
    ap (λ (k : ℕ). codes_at k 7 l) (sym n) ∙ (codes_back y 7 l (take 13 codes) h).1

count_there : (l : List ℕ) (y n : ℕ) (cs : List (List ℕ)) → ListLine l y n cs → list_count l ≡ n
unfolding list_count
count_there l y n cs h = ap (λ (x : Option ℕ). given 0 x) (whole_back _ n h.count_at)

-- the state after a line of a list, and the table
abbrev state_with : State → ℕ → List (List ℕ) → State
state_with c y codes = listed c y (in_line (length codes)) (length codes - in_line (length codes))

abbrev table_with : List ℕ → ℕ → List (List ℕ) → List ℕ
table_with t p codes = sets t p (map packed (take 13 codes))

module _ (c : State) (t l : List ℕ) (y : ℕ) (codes : List (List ℕ)) where
  first_line : ListLine l y (length codes) (take 13 codes) → c.stage ≡ stages.Record → Walks c t (l ∷ []) (state_with c y codes) (table_with t (64 * y) codes)
  unfolding next_at table_at after_record
  first_line h s =
      let k : label_of l ≡ ObsTypes = h.label in
      let a : system_at l ≡ y = letter_back l y h.system_is h.letter in
      let n : list_count l ≡ length codes = count_there l y (length codes) (take 13 codes) h in
      walk_to c _ _ t _ _ (l ∷ []) (rw (k, a, n)) (rw (k, a, n, codes_there y l codes h.codes_at)) (walk_one c t l stages.Record s refl)

  next_line_lem : NextLine l y (take 13 codes) → c.stage ≡ stages.Continuation → c.system ≡ y → c.left ≡ length codes
      → Walks c t (l ∷ []) (state_with c y codes) (table_with t (64 * y + get_or c.lengths y 0) codes)
  unfolding next_at table_at
  next_line_lem h s a n =
      walk_to c _ _ t _ _ (l ∷ []) (rw (a, n)) (rw (a, n, codes_there y l codes h.codes_at)) (walk_one c t l stages.Continuation s refl)

-- some lines of the list: where so many codes stand, these more do then
pub record Lists (c : State) (t : List ℕ) (ls : List (List ℕ)) (y : ℕ) (codes : List (List ℕ)) : Type 0 where
  pub state : State
  pub table : List ℕ
  pub walks : Walks c t ls state table
  pub stage : state.stage ≡ stages.Record
  pub letter : state.letter ≡ c.letter
  pub lengths : state.lengths ≡ set c.lengths y (get_or c.lengths y 0 + length codes)
  pub used : state.used ≡ c.used
  pub table_is : table ≡ sets t (64 * y + get_or c.lengths y 0) (map packed codes)

-- a line more in front
lists_on : (c : State) (t l : List ℕ) (ls : List (List ℕ)) (y : ℕ) (codes : List (List ℕ)) → y < length c.lengths
    → Walks c t (l ∷ []) (state_with c y codes) (table_with t (64 * y + get_or c.lengths y 0) codes)
    → Lists (state_with c y codes) (table_with t (64 * y + get_or c.lengths y 0) codes) ls y (drop 13 codes) → Lists c t (l ∷ ls) y codes
lists_on c t l ls y codes low w i =
    let k : ℕ = get_or c.lengths y 0 in
    let d : List (List ℕ) = take 13 codes in
    let r : List (List ℕ) = drop 13 codes in
    let n : length d ≡ in_line (length codes) = length-take 13 codes in
    let m : length r ≡ length codes - 13 = length-drop 13 codes in
    let g : get_or (set c.lengths y (k + in_line (length codes))) y 0 ≡ k + in_line (length codes) = get_or-set_same c.lengths y (k + in_line (length codes)) 0 low in
    let a : k + in_line (length codes) + length r ≡ k + length codes = omega arith in
    let p : 64 * y + (k + in_line (length codes)) ≡ 64 * y + k + length (map packed d) = omega (arith, length-map d packed) in
    record {
      state = i.state;
      table = i.table;
      walks = walk_on c _ _ t _ _ (l ∷ []) ls w i.walks;
      stage = i.stage;
      letter = i.letter;
      lengths = i.lengths ∙ rw (g, set-set, a);
      used = i.used;
      table_is =
          i.table_is ∙ rw (g, p)
          (sets_append t (64 * y + k) (map packed d) (map packed r)
          ∙ ap (λ (x : List ℕ). sets t (64 * y + k) x) (sym (map_append packed d r) ∙ ap (λ (x : List (List ℕ)). map packed x) (take-append-drop 13 codes)));
    }

pub next_lines : (ls : List (List ℕ)) (c : State) (t : List ℕ) (y : ℕ) (codes : List (List ℕ)) → NextLines ls y codes → y < length c.lengths
    → c.stage ≡ list_stage (length codes) → c.system ≡ y → c.left ≡ length codes → Lists c t ls y codes
next_lines [] c t y [] h low s a n =
    record {
      state = c;
      table = t;
      walks = walk_none c t;
      stage = s;
      letter = refl;
      lengths = rw add-zero (sym (set-get_or c.lengths y 0));
      used = refl;
      table_is = refl;
    }
next_lines [] c t y (x ∷ codes) h low s a n = absurd (cons_nil x codes h)
next_lines (l ∷ ls) c t y codes h low s a n =
    let two : c.stage ≡ stages.Continuation = s ∙ list_on (length codes) h.0 in
    let m : length codes - in_line (length codes) ≡ length (drop 13 codes) = omega (arith, length-drop 13 codes) in
    let k : y < length (set c.lengths y (get_or c.lengths y 0 + in_line (length codes))) = rw length-set low in
    lists_on c t l ls y codes low (next_line_lem c t l y codes h.1 two a n)
    (next_lines ls (state_with c y codes) (table_with t (64 * y + get_or c.lengths y 0) codes) y (drop 13 codes) h.2 k (ap list_stage m) refl m)
  where
    list_on : (n : ℕ) → 1 ≤ n → list_stage n ≡ stages.Continuation
    list_on zero e = absurd (omega arith)
    list_on (suc n) e = refl

-- all of them
pub list_lines_lem : (letter : ℕ) (ls : List (List ℕ)) (c : State) (t : List ℕ) (y : ℕ) (codes : List (List ℕ)) → CodeList ls letter y codes → y < length c.lengths
    → c.stage ≡ stages.Record → get_or c.lengths y 0 ≡ 0 → Lists c t ls y codes
list_lines_lem letter ls c t y codes h low s z =
    let m : length codes - in_line (length codes) ≡ length (drop 13 codes) = omega (arith, length-drop 13 codes) in
    let k : y < length (set c.lengths y (get_or c.lengths y 0 + in_line (length codes))) = rw length-set low in
    let p : 64 * y ≡ 64 * y + get_or c.lengths y 0 = omega (arith, z) in
    let w : Walks c t (h.line ∷ []) (state_with c y codes) (table_with t (64 * y + get_or c.lengths y 0) codes) =
    subst (λ (x : ℕ). Walks c t (h.line ∷ []) (state_with c y codes) (table_with t x codes)) p (first_line c t h.line y codes h.first_line s) in
    subst (λ (x : List (List ℕ)). Lists c t x y codes) (sym h.lines)
    (lists_on c t h.line h.next y codes low w
    (next_lines h.next (state_with c y codes) (table_with t (64 * y + get_or c.lengths y 0) codes) y (drop 13 codes) h.next_lines k (ap list_stage m) refl m))
