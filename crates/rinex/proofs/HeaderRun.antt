-- The lines of a header, from the version line to END OF HEADER: the judge's run and the rule. Assumes nothing.
use Prim.Native.Nat.{ℕ, zero, suc, ◌≤◌}
use mathlib.Core.Path.{◌≡◌, ap, sym, subst, ◌∙◌}
use mathlib.Core.Bool.{true}
use mathlib.Core.List.{List, [], ◌∷◌, ◌++◌, append_assoc}
use native.Mathlib.Omega.{arith}
use lib.ListN.{length, length-append}
use Rattle.lists.specs.Lists.{Each, joined}
use Rattle.rinex.specs.Tables.{Room}
use Rattle.rinex.specs.Header.{EndLine, Entry, Entered}
use Rattle.rinex.specs.Refusals.{in_header, epoch_due, State, header_full}
use Rattle.rinex.proofs.Reach.{Reach}
use Rattle.rinex.proofs.Entries.{enter, Ready}
use Rattle.rinex.proofs.HeaderSteps.{Step, ends, enters, step, step_back, closed, end_back}
use Rattle.rinex.proofs.Gather.{gather, Run, enter_same}

-- the records and the end, from a state in the header on
pub record Entries (r : Room) (s : State) (ls : List (List ℕ)) (s' : State) : Type 0 where
  pub groups : List (List (List ℕ))
  pub entries : List Entry
  pub end : List ℕ
  pub rest : List (List ℕ)
  pub lines : ls ≡ joined groups ++ (end ∷ rest)
  pub entered : Each (Entered s.head.letter) groups entries
  pub run : Run r s entries
  pub end_line : EndLine end
  pub full : header_full (gather s entries) ≡ true
  pub reach : Reach r (closed (gather s entries)) rest s'

module _ (r : Room) (s' : State) (done : s'.place ≡ epoch_due) where
  one_more : (s : State) (ls : List (List ℕ)) (e : Entry) (group rest : List (List ℕ)) → ls ≡ group ++ rest → Entered s.head.letter group e → Ready r s e
      → Entries r (enter s e) rest s' → Entries r s ls s'
  one_more s ls e group rest a v q i =
      record {
        groups = group ∷ i.groups;
        entries = e ∷ i.entries;
        end = i.end;
        rest = i.rest;
        lines = a ∙ (ap (λ (x : List (List ℕ)). group ++ x) i.lines ∙ sym (append_assoc group (joined i.groups) (i.end ∷ i.rest)));
        entered = (v, subst (λ (x : ℕ). Each (Entered x) i.groups i.entries) (enter_same s e).letter i.entered);
        run = (q, i.run);
        end_line = i.end_line;
        full = i.full;
        reach = i.reach;
      }

  pub entries_to : (n : ℕ) (s : State) (ls : List (List ℕ)) → length ls ≤ n → length s.head.lists ≡ 7 → s.place ≡ in_header → Reach r s ls s' → Entries r s ls s'
  entries_to zero s ls m long here h = at (step r s s' ls long here done h)
    where
      at : Step r s ls s' → Entries r s ls s'
      at (ends l rest a v f k) = absurd (omega (arith, ap length a))
      at (enters e group rest a g v q k) = absurd (omega (arith, ap length a, length-append group rest))
  entries_to (suc n) s ls m long here h = at (step r s s' ls long here done h) (entries_to n)
    where
      at : Step r s ls s' → ((s : State) (ls : List (List ℕ)) → length ls ≤ n → length s.head.lists ≡ 7 → s.place ≡ in_header → Reach r s ls s' → Entries r s ls s') → Entries r s ls s'
      at (ends l rest a v f k) ih =
          record { groups = []; entries = []; end = l; rest = rest; lines = a; entered = tt; run = tt; end_line = v; full = f; reach = k }
      at (enters e group rest a g v q k) ih =
          let b = enter_same s e in
          one_more s ls e group rest a v q (ih (enter s e) rest (omega (arith, ap length a, length-append group rest)) (b.long ∙ long) (b.place here) k)

pub entries_back : (r : Room) (s s' : State) (groups : List (List (List ℕ))) (es : List Entry) (end : List ℕ) (rest : List (List ℕ))
    → length s.head.lists ≡ 7 → s.place ≡ in_header → Each (Entered s.head.letter) groups es → Run r s es → EndLine end → header_full (gather s es) ≡ true
    → Reach r (closed (gather s es)) rest s' → Reach r s (joined groups ++ (end ∷ rest)) s'
entries_back r s s' [] [] end rest long here v q e f h = end_back r s s' rest long here end e f h
entries_back r s s' [] (x ∷ es) end rest long here v q e f h = absurd v
entries_back r s s' (g ∷ gs) [] end rest long here v q e f h = absurd v
entries_back r s s' (g ∷ gs) (x ∷ es) end rest long here v q e f h =
    let b = enter_same s x in
    rw append_assoc
    (step_back r s s' (joined gs ++ (end ∷ rest)) long here x g v.0 q.0
    (entries_back r (enter s x) s' gs es end rest (b.long ∙ long) (b.place here)
    (subst (λ (k : ℕ). Each (Entered k) gs es) (sym b.letter) v.1) q.1 e f h))
