-- MORE ROOM CHANGES NO ANSWER BUT 16. Assumes nothing.
use Prim.Native.Nat.{ℕ, ◌+◌, ◌≤◌}
use mathlib.Core.Path.{◌≡◌, refl, sym, subst, ◌∙◌}
use mathlib.Core.Bool.{Bool, true, false, cond, true≢false}
use mathlib.Core.List.{List, [], ◌∷◌}
use native.Mathlib.Omega.{arith}
use lib.Dec.{eqb, ltb}
use lib.ListN.{length}
use borrow.Author.Tests.{ltb-false, le-ltb}
use Rattle.lists.proofs.Bools.{neither, none_of}
use Rattle.line.specs.Text.{longest, Raw, split}
use Rattle.label.specs.declared.Label.{Label}
use Rattle.label.specs.declared.Label.TheVariants.{Version, ObsTypes, FirstObs, Interval, EndOfHeader, ScaleFactor, MarkerName, Other, Unknown}
use Rattle.label.specs.Labels.{label_of}
use Rattle.rinex.specs.Tables.{Room}
use Rattle.rinex.specs.Refusals.{Place, version_due, in_header, next_due, epoch_due, row_due, line_due, State, start, refusal1, refusal2, refusal3, refusal4, refusal5, refusal6, refusal7, refusal8, refusal9, refusal10, refusal11, refusal12, refusal13, refusal15, refusal16, lacks, row_list, fault, next, Verdict, refused, ending, judge, verdict}
use Rattle.rinex.specs.MoreRoom.{NoLess}
use Rattle.rinex.specs.Theorems.{after}
use Rattle.rinex.specs.Theorems
use Rattle.rinex.proofs.Reasons.{Told, at_line, at_end, judge_told}

-- one test: what is not past the first room is not past the second
enough : (a b n : ℕ) → a ≤ b → ltb a n ≡ false → ltb b n ≡ false
enough a b n h e = let f : n ≤ a = ltb-false a n e in le-ltb b n (omega arith)

module _ (r q : Room) (m : NoLess r q) where
  lacks_less : (s : State) (l : List ℕ) (k : Label) → lacks r s l k ≡ false → lacks q s l k ≡ false
  unfolding lacks
  lacks_less s l Version e = refl
  lacks_less s l ObsTypes e = enough r.codes q.codes _ m.codes e
  lacks_less s l FirstObs e = refl
  lacks_less s l Interval e = refl
  lacks_less s l EndOfHeader e = refl
  lacks_less s l ScaleFactor e = refl
  lacks_less s l MarkerName e = enough r.carried q.carried _ m.carried e
  lacks_less s l Other e = enough r.carried q.carried _ m.carried e
  lacks_less s l Unknown e = refl

  -- 16, and no other test, looks at the room
  less : (s : State) (p : Place) (l : List ℕ) → refusal16 r s p l ≡ false → refusal16 q s p l ≡ false
  unfolding refusal16
  less s version_due l e = refl
  less s in_header l e = lacks_less s l (label_of l) e
  less s (next_due y n) l e = enough r.codes q.codes _ m.codes e
  less s epoch_due l e = enough r.epochs q.epochs _ m.epochs e
  less s (row_due n) l e =
      let p = neither (ltb r.rows (s.used.rows + 1)) (ltb r.slots (s.used.slots + length (row_list s l))) e in
      none_of _ _ (enough r.rows q.rows _ m.rows p.0) (enough r.slots q.slots _ m.slots p.1)
  less s (line_due f n b) l e = enough r.carried q.carried _ m.carried e

-- the fault in the one room, and in the other
data TwoFaults (x y : ℕ) : Type 0 where
  same_fault : x ≡ y → TwoFaults x y
  only_16 : x ≡ 16 → y ≡ 0 → TwoFaults x y

later_tests : (b : Bool) (n x y : ℕ) → TwoFaults x y → TwoFaults (cond b n x) (cond b n y)
later_tests true n x y f = same_fault refl
later_tests false n x y f = f

last_test : (b c : Bool) → (b ≡ false → c ≡ false) → TwoFaults (cond b 16 0) (cond c 16 0)
last_test true true h = same_fault refl
last_test true false h = only_16 refl refl
last_test false true h = absurd (true≢false (h refl))
last_test false false h = same_fault refl

module _ (r q : Room) (m : NoLess r q) where
  faults : (s : State) (w : Raw) → TwoFaults (fault r s w) (fault q s w)
  unfolding fault
  faults s w =
      let l = w.bytes in
      let p = s.place in
      later_tests (refusal1 w) 1 _ _ (later_tests (refusal2 l) 2 _ _ (later_tests (refusal3 p l) 3 _ _ (later_tests (refusal4 p l) 4 _ _ (later_tests (refusal5 s p l) 5 _ _
      (later_tests (refusal6 s p l) 6 _ _ (later_tests (refusal7 p l) 7 _ _ (later_tests (refusal8 p l) 8 _ _ (later_tests (refusal9 s p l) 9 _ _ (later_tests (refusal10 p l) 10 _ _
      (later_tests (refusal11 s p l) 11 _ _ (later_tests (refusal12 s p l) 12 _ _ (later_tests (refusal13 s p l) 13 _ _ (later_tests (refusal15 p l) 15 _ _
      (last_test (refusal16 r s p l) (refusal16 q s p l) (less r q m s p l)))))))))))))))

-- a refusal's line is not before the first line that is judged
ending_line : (s : State) (p : Place) (k m j : ℕ) → ending s p k ≡ refused m j → j ≡ k
unfolding ending
ending_line s version_due k m j e = cc
ending_line s in_header k m j e = cc
ending_line s (next_due y n) k m j e = cc
ending_line s epoch_due k m j e = absurd (let z : ◌≡◌ {A = ℕ} 0 1 = cc in omega arith)
ending_line s (row_due n) k m j e = cc
ending_line s (line_due f n b) k m j e = cc

from_line : (r : Room) (ws : List Raw) (s : State) (k m j : ℕ) → judge r s k ws ≡ refused m j → k ≤ j
from_line r ws s k m j e = at (judge_told r ws s k m j e)
  where
    at : Told r s k ws m j → k ≤ j
    at (at_line before line behind a b c d f) = omega arith
    at (at_end c d) = let b = ending_line (after s ws) (after s ws).place (k + length ws) m j d in omega arith

-- two answers: the same, or the first is 16 and the second is no refusal at an earlier line
data TwoAnswers (v w : Verdict) : Type 0 where
  same_answer : v ≡ w → TwoAnswers v w
  lacked : (k : ℕ) → v ≡ refused 16 k → ((m j : ℕ) → w ≡ refused m j → k ≤ j) → TwoAnswers v w

module _ (r q : Room) (m : NoLess r q) where
  judged : (ws : List Raw) (s : State) (k : ℕ) → TwoAnswers (judge r s k ws) (judge q s k ws)
  unfolding judge
  judged [] s k = same_answer refl
  judged (w ∷ ws) s k =
      at (fault r s w) (fault q s w) (faults r q m s w) (from_line q ws (next s s.place w.bytes) (k + 1)) (judged ws (next s s.place w.bytes) (k + 1))
    where
      x : Verdict
      x = judge r (next s s.place w.bytes) (k + 1) ws

      y : Verdict
      y = judge q (next s s.place w.bytes) (k + 1) ws

      one : (b : Bool) (n : ℕ) → TwoAnswers x y → TwoAnswers (cond b x (refused n k)) (cond b y (refused n k))
      one true n a = a
      one false n a = same_answer refl

      at : (f g : ℕ) → TwoFaults f g → ((n j : ℕ) → y ≡ refused n j → k + 1 ≤ j) → TwoAnswers x y → TwoAnswers (cond (eqb f 0) x (refused f k)) (cond (eqb g 0) y (refused g k))
      at f g (same_fault e) h a = subst (λ (g : ℕ). TwoAnswers (cond (eqb f 0) x (refused f k)) (cond (eqb g 0) y (refused g k))) e (one (eqb f 0) f a)
      at f g (only_16 d e) h a =
          rw (d, e) (lacked k refl (λ n j z. let i = h n j z in omega arith))

  verdicts : (t : List ℕ) → TwoAnswers (verdict r t) (verdict q t)
  unfolding verdict
  verdicts t = at (ltb longest (length t))
    where
      at : (b : Bool) → TwoAnswers (cond b (refused 17 0) (judge r start 1 (split t))) (cond b (refused 17 0) (judge q start 1 (split t)))
      at true = same_answer refl
      at false = judged (split t) start 1

unchanged : (v w : Verdict) → TwoAnswers v w → ((k : ℕ) → v ≡ refused 16 k → ⊥) → w ≡ v
unchanged v w (same_answer e) h = sym e
unchanged v w (lacked k e f) h = absurd (h k e)

not_before : (v w : Verdict) (k m j : ℕ) → TwoAnswers v w → v ≡ refused 16 k → w ≡ refused m j → k ≤ j
not_before v w k m j (same_answer e) h d = let c : refused 16 k ≡ refused m j = sym h ∙ (e ∙ d) in let z : k ≡ j = cc in omega arith
not_before v w k m j (lacked i e f) h d = let c : refused 16 k ≡ refused 16 i = sym h ∙ e in let z : k ≡ i = cc in let y = f m j d in omega arith

pub more_room : Theorems.MoreRoom verdict
more_room =
    record {
      same = λ r q t m h. unchanged _ _ (verdicts r q m t) h;
      no_earlier = λ r q t k n j m h d. not_before _ _ k n j (verdicts r q m t) h d;
    }
