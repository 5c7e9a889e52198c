-- A label among those of its length. Assumes nothing.
use Prim.Native.Nat.{ℕ, suc, ◌+◌, ◌-◌, ◌≤◌, ◌<◌}
use mathlib.Core.Path.{◌≡◌, refl, sym, ap, ◌∙◌}
use mathlib.Core.Bool.{Bool, true, false, cond}
use mathlib.Core.List.{List, [], ◌∷◌}
use native.Mathlib.Nat.{zero-add, add-zero}
use native.Mathlib.Omega.{arith}
use lib.Dec.{eqb}
use lib.ListN.{length, get_or, take, drop, drop_of_length-le, length-append, length-drop}
use lib.Seq.{take_at, get_or-take, get_or-drop}
use borrow.Author.Tests.{eqb-true, eqb-false}
use Rattle.lists.specs.Lists.{All, same, place}
use Rattle.lists.proofs.Bools.{both}
use Rattle.lists.proofs.Lists.{same_true, same_length, cons_same, cons_nil}
use Rattle.lists.proofs.Parts.{next}
use Rattle.line.specs.Text.{cols, cut}
use Rattle.line.proofs.Columns.{on}
use Rattle.label.specs.Labels.{labels}
use Rattle.label.specs.Groups.{Cut, Placed, keep, sized, letters_of, places_of, group_fits, Sought}
use Rattle.label.proofs.Labels.{labels_number, labels_width}
use Rattle.label.proofs.Cuts.{same_filled}

-- with another first letter it is another label
pub other_letter : (name group : List ℕ) (at : ℕ) → 1 ≤ length name → (get_or name 0 0 ≡ get_or group at 0 → ⊥) → false ≡ same name (take (length name) (drop at group))
other_letter name group at h d = go (same name (take (length name) (drop at group))) refl
  where
    go : (b : Bool) → same name (take (length name) (drop at group)) ≡ b → false ≡ b
    go true e =
        let s = same_true name (take (length name) (drop at group)) e in
        absurd (d (ap (λ (l : List ℕ). get_or l 0 0) s ∙ (get_or-take (length name) (drop at group) 0 0 h ∙ (get_or-drop at group 0 0 ∙ ap (λ (i : ℕ). get_or group i 0) (add-zero at)))))
    go false e = refl

-- the place of the first that has these letters, and 33 where none has
abbrev first : List ℕ → List Placed → ℕ
first name [] = 33
first name (e ∷ es) = cond (same name e.letters) e.place (first name es)

-- of a label among those of its length it is the place among all
first_is : (name : List ℕ) → Cut name → (cs : List (List ℕ)) (k : ℕ) → All (λ c. length c ≡ 20) cs → k + length cs ≡ 33
    → first name (sized (length name) k cs) ≡ k + place same (cols 1 20 name) cs
unfolding sized
first_is name q [] k w h = omega arith
first_is name q (c ∷ cs) k w h = rw (sym (same_filled name c q w.0)) (at (eqb (length (cut c)) (length name)) refl (first_is name q cs (suc k) w.1 (omega arith)))
  where
    among : List Placed
    among = sized (length name) (suc k) cs

    after : ℕ
    after = place same (cols 1 20 name) cs

    turn : (t : Bool) → first name among ≡ suc k + after → cond t k (first name among) ≡ k + cond t 0 (suc after)
    turn true ih = omega arith
    turn false ih = omega arith

    at : (b : Bool) → eqb (length (cut c)) (length name) ≡ b → first name among ≡ suc k + after
        → first name (keep b (record { letters = cut c; place = k }) among) ≡ k + cond (same name (cut c)) 0 (suc after)
    at true e ih = turn (same name (cut c)) ih
    at false e ih = rw (same_length name (cut c) (λ s. eqb-false (length (cut c)) (length name) e (sym s))) (turn false ih)

sized_all : (n k : ℕ) (cs : List (List ℕ)) → All (λ (e : Placed). length e.letters ≡ n) (sized n k cs)
unfolding sized
sized_all n k [] = tt
sized_all n k (c ∷ cs) = at (eqb (length (cut c)) n) refl (sized_all n (suc k) cs)
  where
    Fits : List Placed → Type 0
    Fits es = All (λ (e : Placed). length e.letters ≡ n) es

    at : (b : Bool) → eqb (length (cut c)) n ≡ b → Fits (sized n (suc k) cs)
        → Fits (keep b (record { letters = cut c; place = k }) (sized n (suc k) cs))
    at true e ih = (eqb-true (length (cut c)) n e, ih)
    at false e ih = ih

-- WHAT IS LEFT of a group and its places, where its first `at` letters and `i` places are passed
pub record Left (name group places : List ℕ) (at i : ℕ) : Type 0 where
  rest : List Placed
  letters : drop at group ≡ letters_of rest
  numbers : drop i places ≡ places_of rest
  as_long : All (λ (e : Placed). length e.letters ≡ length name) rest
  answer : first name rest ≡ place same (cols 1 20 name) labels

pub begun : (name group places : List ℕ) → Sought name group places → Left name group places 0 0
unfolding group_fits
begun name group places q =
    let es = sized (length name) 0 labels in
    let p = both (same group (letters_of es)) (same places (places_of es)) q.fits in
    record {
      rest = es;
      letters = same_true group (letters_of es) p.0;
      numbers = same_true places (places_of es) p.1;
      as_long = sized_all (length name) 0 labels;
      answer = first_is name q.label labels 0 labels_width (omega (arith, labels_number)) ∙ zero-add (place same (cols 1 20 name) labels);
    }

-- the group of a length serves each label of that length
pub of_length : (name group places : List ℕ) (n : ℕ) → length name ≡ n → Cut name → group_fits n group places ≡ true → Sought name group places
of_length name group places n e q f = record { label = q; fits = ap (λ (m : ℕ). group_fits m group places) e ∙ f }

-- a label of the group: it is the one sought, or the others are left
pub record Turn (name group places : List ℕ) (at i : ℕ) : Type 0 where
  pub room : at + length name ≤ length group
  pub here : same name (take (length name) (drop at group)) ≡ true → get_or places i 0 ≡ place same (cols 1 20 name) labels
  pub on : same name (take (length name) (drop at group)) ≡ false → Left name group places (at + length name) (i + 1)

module _ (name group places : List ℕ) (at i : ℕ) (l : Left name group places at i) where
  pub turn : 1 ≤ length name → i < length places → Turn name group places at i
  turn s h = go l.rest l.letters l.numbers l.as_long l.answer
    where
      go : (rest : List Placed) → drop at group ≡ letters_of rest → drop i places ≡ places_of rest
          → All (λ (e : Placed). length e.letters ≡ length name) rest → first name rest ≡ place same (cols 1 20 name) labels → Turn name group places at i
      go [] b n w f = absurd (cons_nil (get_or places i 0) (drop (i + 1) places) (sym (next places i h) ∙ n))
      go (e ∷ rest) b n w f =
          let t : take (length name) (drop at group) ≡ e.letters = ap (take (length name)) b ∙ take_at e.letters (letters_of rest) (length name) w.0 in
          let m = cons_same (sym (next places i h) ∙ n) in
          let u : length group - at ≡ length e.letters + length (letters_of rest) = simp (length-drop, length-append) at (ap length b) in
          let told : (c : Bool) → same name (take (length name) (drop at group)) ≡ c → cond c e.place (first name rest) ≡ place same (cols 1 20 name) labels =
          λ c k. sym (ap (λ (d : Bool). cond d e.place (first name rest)) (ap (same name) (sym t) ∙ k)) ∙ f
          in
          record {
            room = omega arith;
            here = λ k. m.0 ∙ told true k;
            on =
                λ k.
                record {
                  rest = rest;
                  letters = on at (length name) group e.letters (letters_of rest) b w.0;
                  numbers = m.1;
                  as_long = w.1;
                  answer = told false k;
                };
          }

  -- none is left
  pub none_left : length places ≤ i → 33 ≡ place same (cols 1 20 name) labels
  none_left h = go l.rest l.numbers l.answer
    where
      go : (rest : List Placed) → drop i places ≡ places_of rest → first name rest ≡ place same (cols 1 20 name) labels → 33 ≡ place same (cols 1 20 name) labels
      go [] n f = f
      go (e ∷ rest) n f = absurd (cons_nil e.place (places_of rest) (sym n ∙ drop_of_length-le places h))
