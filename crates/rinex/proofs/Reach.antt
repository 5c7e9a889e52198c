-- A run of lines without a fault, from state to state; and the judge's answer by it. Assumes nothing.
use Prim.Native.Nat.{ℕ, ◌+◌}
use mathlib.Core.Path.{◌≡◌, refl, ap, ◌∙◌}
use mathlib.Core.Bool.{Bool, true, false, cond, ◌||◌}
use mathlib.Core.List.{List, [], ◌∷◌, map}
use native.Mathlib.Omega.{arith}
use lib.Dec.{eqb}
use lib.ListN.{length}
use borrow.Author.Tests.{eqb-true, ltb-false, le-ltb}
use Rattle.lists.specs.Lists.{All}
use Rattle.lists.proofs.Bools.{neither, not_is, or_false}
use Rattle.line.specs.Text.{Line, widest, Raw, raw}
use Rattle.rinex.specs.Tables.{Counts, Room}
use Rattle.rinex.specs.Refusals.{Place, version_due, in_header, next_due, epoch_due, row_due, line_due, State, refusal1, refusal2, refusal3, refusal4, refusal5, refusal6, refusal7, refusal8, refusal9, refusal10, refusal11, refusal12, refusal13, refusal15, refusal16, fault, next, accepted, refused, ending, judge}
use Rattle.rinex.specs.Theorems.{tests}
use Rattle.rinex.proofs.Faults.{any, no_fault, none_faulty}

-- some refusal from 3 on falls on the line at this place
unfoldable pub refused_at : Room → State → Place → List ℕ → Bool
refused_at r s p l =
    refusal3 p l || (refusal4 p l || (refusal5 s p l || (refusal6 s p l || (refusal7 p l || (refusal8 p l || (refusal9 s p l
    || (refusal10 p l || (refusal11 s p l || (refusal12 s p l || (refusal13 s p l || (refusal15 p l || refusal16 r s p l)))))))))))

abbrev pub Ok : Room → State → Place → List ℕ → Type 0
Ok r s p l = refused_at r s p l ≡ false

-- the lines lead from s to s'
abbrev pub Reach : Room → State → List (List ℕ) → State → Type 0
Reach r s [] s' = s ≡ s'
Reach r s (l ∷ ls) s' = Ok r s s.place l × Reach r (next s s.place l) ls s'

-- a line without a fault
pub record Sound (r : Room) (s : State) (w : Raw) : Type 0 where
  pub same : w ≡ raw w.bytes
  pub line : Line w.bytes
  pub fine : Ok r s s.place w.bytes

pub fault_to : (r : Room) (s : State) (w : Raw) → fault r s w ≡ 0 → Sound r s w
unfolding tests refusal1 refusal2 refused_at
fault_to r s w h =
    let no = no_fault r s w h in
    let n = neither _ _ (no 1) in
    record {
      same = ap (λ (b : Bool). record { bytes = w.bytes; ended = b }) (not_is _ n.1);
      line = record { plain = not_is _ n.0; width = ltb-false _ _ (no 2) };
      fine = rw (no 3, no 4, no 5, no 6, no 7, no 8, no 9, no 10, no 11, no 12, no 13, no 15) (no 16);
    }

fault_back : (r : Room) (s : State) (l : List ℕ) → Line l → Ok r s s.place l → fault r s (raw l) ≡ 0
unfolding tests any refusal1 refusal2 refused_at
fault_back r s l a o = none_faulty r s (raw l) (rw (a.plain, le-ltb widest (length l) a.width, or_false (refusal16 r s s.place l)) o)

-- the lines of an accepted text
pub record Lines (r : Room) (s : State) (ws : List Raw) (n : Counts) : Type 0 where
  pub lines : List (List ℕ)
  pub last : State
  pub same : ws ≡ map raw lines
  pub fit : All Line lines
  pub reach : Reach r s lines last
  pub place : last.place ≡ epoch_due
  pub counts : n ≡ last.used

ended : (r : Room) (s : State) (k : ℕ) (n : Counts) (p : Place) → s.place ≡ p → ending s p k ≡ accepted n → Lines r s [] n
unfolding ending
ended r s k n version_due e h = absurd (let z : ◌≡◌ {A = ℕ} 0 1 = cc in omega arith)
ended r s k n in_header e h = absurd (let z : ◌≡◌ {A = ℕ} 0 1 = cc in omega arith)
ended r s k n (next_due y m) e h = absurd (let z : ◌≡◌ {A = ℕ} 0 1 = cc in omega arith)
ended r s k n epoch_due e h =
    let q : n ≡ s.used = cc in
    record { lines = []; last = s; same = refl; fit = tt; reach = refl; place = e; counts = q }
ended r s k n (row_due m) e h = absurd (let z : ◌≡◌ {A = ℕ} 0 1 = cc in omega arith)
ended r s k n (line_due f m b) e h = absurd (let z : ◌≡◌ {A = ℕ} 0 1 = cc in omega arith)

module _ (r : Room) (n : Counts) where
  one_to : (s : State) (k : ℕ) (w : Raw) (ws : List Raw) (f : ℕ) (b : Bool) → fault r s w ≡ f → eqb f 0 ≡ b
      → cond b (judge r (next s s.place w.bytes) (k + 1) ws) (refused f k) ≡ accepted n
      → (fault r s w ≡ 0) × (judge r (next s s.place w.bytes) (k + 1) ws ≡ accepted n)
  one_to s k w ws f true e d h = (e ∙ eqb-true _ _ d, h)
  one_to s k w ws f false e d h = absurd (let z : ◌≡◌ {A = ℕ} 0 1 = cc in omega arith)

  pub judge_to : (ws : List Raw) (s : State) (k : ℕ) → judge r s k ws ≡ accepted n → Lines r s ws n
  unfolding judge
  judge_to [] s k h = ended r s k n s.place refl h
  judge_to (w ∷ ws) s k h =
      let o = one_to s k w ws (fault r s w) (eqb (fault r s w) 0) refl refl h in
      let f = fault_to r s w o.0 in
      let i = judge_to ws (next s s.place w.bytes) (k + 1) o.1 in
      let e : w ≡ raw w.bytes = f.same in
      let d : ws ≡ map raw i.lines = i.same in
      record {
        lines = w.bytes ∷ i.lines;
        last = i.last;
        same = ap (λ (x : Raw). x ∷ ws) e ∙ ap (λ (x : List Raw). raw w.bytes ∷ x) d;
        fit = (f.line, i.fit);
        reach = (f.fine, i.reach);
        place = i.place;
        counts = i.counts;
      }

pub judge_back : (r : Room) (ls : List (List ℕ)) (s s' : State) (k : ℕ) → All Line ls → Reach r s ls s' → s'.place ≡ epoch_due → judge r s k (map raw ls) ≡ accepted s'.used
unfolding judge ending
judge_back r [] s s' k a h e = rw (h, e)
judge_back r (l ∷ ls) s s' k a h e = rw (fault_back r s l a.0 h.0) (judge_back r ls (next s s.place l) s' (k + 1) a.1 h.1 e)
