-- More codes of a list: what is kept of the code's state goes with the rule's. Assumes nothing.
use Prim.Native.Nat.{ℕ, zero, suc, ◌+◌, ◌-◌, ◌*◌, ◌≤◌, ◌<◌}
use mathlib.Core.Path.{◌≡◌, refl, sym, ap, subst, ◌∙◌}
use mathlib.Core.Bool.{Bool, true, false}
use mathlib.Core.List.{List, [], ◌++◌, map}
use native.Mathlib.Omega.{arith}
use lib.Dec.{eqb, ltb}
use lib.ListN.{length, get_or, set, length-append, length-map, length-set}
use lib.Seq.{sets, length-sets, get_or-set_same, get_or-set_other}
use borrow.Author.Tests.{eqb-true, eqb-false, ltb-true, ltb-false}
use Rattle.lists.specs.Lists.{All}
use Rattle.lists.proofs.Lists.{on_all}
use Rattle.rinex.specs.Tables.{packed}
use Rattle.rinex.specs.Tests.{codes_at, in_line}
use Rattle.lists.proofs.Stores.{map_set}
use Rattle.rinex.specs.Refusals.{Place, after_list}
use Rattle.rinex.specs.Refusals as rule
use Rattle.rinex.proofs.Forms.{IsCode}
use Rattle.rinex.proofs.HeaderRecords.{codes_long}
use Rattle.state.specs.declared.State.{State}
use Rattle.state.specs.Judge.{list_stage, listed}
use Rattle.state.proofs.Packed.{Held, held_before, held_behind, held_more}
use Rattle.state.proofs.Kept.{place_at, rule_at, ListKept, Due, lengths_of, Settled, Kept, rule_of, length_at}

-- the lists with more codes in one of them
abbrev pub with_more : List (List (List ℕ)) → ℕ → List (List ℕ) → List (List (List ℕ))
with_more lists y cs = set lists y (get_or lists y [] ++ cs)

list_place : (c : State) (y n m : ℕ) → after_list y m ≡ place_at (list_stage m) (listed c y n m)
list_place c y n zero = refl
list_place c y n (suc m) = refl

module _ (c : State) (table seen : List ℕ) (lists : List (List (List ℕ))) (s : Settled c table seen lists) (y q n : ℕ) (cs : List (List ℕ)) (h : y < 7) (d : length cs ≡ n) (a : All IsCode cs) (e : q ≡ 64 * y + length (get_or lists y [])) (few : length (get_or lists y []) + n ≤ 64) where
  more_at : get_or (with_more lists y cs) y [] ≡ get_or lists y [] ++ cs
  more_at = get_or-set_same lists y (get_or lists y [] ++ cs) [] (omega (arith, s.seven))

  -- this list, and the others
  more_here : ListKept (sets table q (map packed cs)) y (get_or lists y [] ++ cs)
  more_here =
      record {
        few = omega (arith, length-append (get_or lists y []) cs);
        codes = on_all IsCode (get_or lists y []) cs (s.kept y).codes a;
        held = held_more table (64 * y) (get_or lists y []) (s.kept y).held q cs e (omega (arith, s.places));
      }

  more_there : (z : ℕ) → (z ≡ y → ⊥) → ListKept (sets table q (map packed cs)) z (get_or lists z [])
  more_there z ne = record { few = (s.kept z).few; codes = (s.kept z).codes; held = at (ltb z y) refl }
    where
      at : (b : Bool) → ltb z y ≡ b → Held (sets table q (map packed cs)) (64 * z) (get_or lists z [])
      at true t =
          let k : z < y = ltb-true z y t in
          held_before table (64 * z) (get_or lists z []) (s.kept z).held q (map packed cs) (omega (arith, (s.kept z).few))
      at false t =
          let k : y ≤ z = ltb-false z y t in
          let k' : y < z = omega (arith, ne) in
          let m : length (map packed cs) ≡ length cs = length-map cs packed in
          held_behind table (64 * z) (get_or lists z []) (s.kept z).held q (map packed cs) (omega arith)

  more_kept : (z : ℕ) → ListKept (sets table q (map packed cs)) z (get_or (with_more lists y cs) z [])
  more_kept z = at (eqb z y) refl
    where
      at : (b : Bool) → eqb z y ≡ b → ListKept (sets table q (map packed cs)) z (get_or (with_more lists y cs) z [])
      at true t =
          let k : z ≡ y = eqb-true z y t in
          subst (λ (x : ℕ). ListKept (sets table q (map packed cs)) x (get_or (with_more lists y cs) x [])) (sym k)
          (subst (λ (x : List (List ℕ)). ListKept (sets table q (map packed cs)) y x) (sym more_at) more_here)
      at false t =
          let ne : z ≡ y → ⊥ = eqb-false z y t in
          subst (λ (x : List (List ℕ)). ListKept (sets table q (map packed cs)) z x) (sym (get_or-set_other lists y z (get_or lists y [] ++ cs) [] ne)) (more_there z ne)

  more_lengths : set c.lengths y (get_or c.lengths y 0 + n) ≡ lengths_of (with_more lists y cs)
  more_lengths =
      let p = s.lengths in
      let m = length_at c table seen lists s y in
      let t : length (get_or lists y []) + n ≡ length (get_or lists y [] ++ cs) = omega (arith, length-append (get_or lists y []) cs) in
      (λ i. set (p i) y (m i + n)) ∙ (ap (set (lengths_of lists) y) t ∙ sym (map_set (λ (x : List (List ℕ)). length x) lists y (get_or lists y [] ++ cs)))

  more_settled : (left : ℕ) → Settled (listed c y n left) (sets table q (map packed cs)) seen (with_more lists y cs)
  more_settled left =
      record {
        seven = length-set lists y (get_or lists y [] ++ cs) ∙ s.seven;
        lengths = more_lengths;
        kept = more_kept;
        places = length-sets table q (map packed cs) ∙ s.places;
        stamps = s.stamps;
        old = s.old;
      }

  more_due : (names : List ℕ) (m : ℕ) → length (get_or lists y []) + n + m ≤ 64 → Due (list_stage m) (listed c y n m) (with_more lists y cs) names seen
  more_due names zero k = tt
  more_due names (suc m) k = record { system = h; some_left = omega arith; few = rw more_at (omega (arith, length-append (get_or lists y []) cs)) }

-- after a line of a list, with so many codes left before it
module _ (c : State) (table seen : List ℕ) (lists : List (List (List ℕ))) (names : List ℕ) (s : Settled c table seen lists) (l : List ℕ) (y q total : ℕ) where
  pub listed_kept : y < 7 → All IsCode (codes_at (in_line total) 7 l) → q ≡ 64 * y + length (get_or lists y []) → length (get_or lists y []) + total ≤ 64 → (p : Place)
      → (k : Kept (listed c y (in_line total) (total - in_line total)) (sets table q (map packed (codes_at (in_line total) 7 l))) seen)
      × (rule.headed (rule_at p c lists names) (after_list y (total - in_line total)) (rule.listed (rule_at p c lists names).head y (codes_at (in_line total) 7 l)) ≡ rule_of _ _ _ k)
  unfolding rule.headed rule.listed
  listed_kept h a e few p =
      let n : ℕ = in_line total in
      let left : ℕ = total - in_line total in
      let cs : List (List ℕ) = codes_at (in_line total) 7 l in
      let d : length cs ≡ n = codes_long (in_line total) 7 l in
      let f : length (get_or lists y []) + n ≤ 64 = omega arith in
      let g : length (get_or lists y []) + n + left ≤ 64 = omega arith in (
        record {
          lists = with_more lists y cs;
          names = names;
          settled = more_settled c table seen lists s y q n cs h d a e f left;
          due = more_due c table seen lists s y q n cs h d a e f names left g;
        },
        ap (λ (x : Place). rule_at x (listed c y n left) (with_more lists y cs) names) (list_place c y n left),
      )
