-- Carried lines put one after the other: the line that is found is the first of those that are held. Assumes nothing.
use Prim.Native.Nat.{ℕ, suc, ◌+◌, ◌-◌, ◌≤◌, ◌<◌}
use mathlib.Core.Path.{◌≡◌, refl, sym, ap, ◌∙◌}
use mathlib.Core.Bool.{true, not, ◌||◌}
use mathlib.Core.List.{List, [], ◌∷◌, ◌++◌, append_assoc}
use native.Mathlib.Omega.{arith}
use lib.ListN.{length, drop, length-append}
use lib.Seq.{sets}
use Rattle.lists.specs.Lists.{same}
use Rattle.lists.proofs.Bools.{never, both}
use Rattle.lists.proofs.Lists.{same_true}
use Rattle.lists.proofs.Ahead.{Ahead, begun, some_put, some_room, all_put}
use Rattle.line.specs.Text.{are_plain, cut, Raw, raw, split}
use Rattle.find_line.specs.Promises.{between, LineEnds, Finds}
use Rattle.find_line.specs.declared.Found.{Found}
use Rattle.find_line.specs.declared.Found.TheVariants as found
use Rattle.rinex.specs.Fit.{is_held}
use Rattle.rinex.proofs.LentLines.{too_long}
use Rattle.write_lines.specs.Lines.{are_held, lines_text}

-- of k lines that are held
module _ (k : ℕ) (h : 0 < k) (ws : List Raw) (a : are_held k ws ≡ true) where
  one_more : k ≡ suc (k - 1)
  one_more = omega arith

  -- there is one
  some_held : ws ≡ [] → ⊥
  unfolding are_held
  some_held e = let d = one_more in never (sym (λ j. are_held (d j) (e j)) ∙ a)

  -- the first is held, and so are the others
  held_parts : (w : Raw) (vs : List Raw) → ws ≡ w ∷ vs → (is_held w ≡ true) × (are_held (k - 1) vs ≡ true)
  unfolding are_held
  held_parts w vs e = let d = one_more in both (is_held w) (are_held (k - 1) vs) (sym (λ j. are_held (d j) (e j)) ∙ a)

-- a held line has no fault, and is cut
no_fault : (w : Raw) → is_held w ≡ true → (not (are_plain w.bytes) || not w.ended) ≡ true → ⊥
no_fault w h f =
    let p = both w.ended _ h in
    let e : w.ended ≡ true = p.0 in
    let q : are_plain w.bytes ≡ true = (both (are_plain w.bytes) _ p.1).0 in
    never (sym (λ k. not (q k) || not (e k)) ∙ f)

held_cut : (l : List ℕ) → is_held (raw l) ≡ true → cut l ≡ l
held_cut l h = same_true (cut l) l (both (same (cut l) l) _ (both (are_plain l) _ h).1).0

-- THE LINE THAT IS FOUND at place i of t, where k lines from there on are held
module _ (t : List ℕ) (i k : ℕ) (h : 0 < k) (a : are_held k (split (drop i t)) ≡ true) where
  -- it is found to end
  pub found_ends : (f : Found) → ((e : ℕ) → f ≡ found.Ends e → ⊥) → Finds t i f → ⊥
  found_ends found.Over o g = some_held k h (split (drop i t)) a g
  found_ends found.Faulty o g = no_fault g.line (held_parts k h (split (drop i t)) a g.line g.rest g.lines).0 g.fault
  found_ends (found.Long e) o g =
      never (sym (too_long (between i e t) g.2) ∙ (held_parts k h (split (drop i t)) a (raw (between i e t)) (split (drop (e + 1) t)) g.0.lines).0)
  found_ends (found.Ends e) o g = o e refl

  module _ (end : ℕ) (f : LineEnds t i end) where
    parts : (is_held (raw (between i end t)) ≡ true) × (are_held (k - 1) (split (drop (end + 1) t)) ≡ true)
    parts = held_parts k h (split (drop i t)) a (raw (between i end t)) (split (drop (end + 1) t)) f.lines

    text_more : lines_text k (split (drop i t)) ≡ (cut (between i end t) ++ (10 ∷ [])) ++ lines_text (k - 1) (split (drop (end + 1) t))
    text_more =
        let l = between i end t in
        let r = lines_text (k - 1) (split (drop (end + 1) t)) in
        let d = one_more k h (split (drop i t)) a in
        let e = f.lines in
        (λ j. lines_text (d j) (e j)) ∙ (sym (append_assoc l (10 ∷ []) r) ∙ ap (λ (x : List ℕ). (x ++ (10 ∷ [])) ++ r) (sym (held_cut l parts.0)))

    rest_more : drop k (split (drop i t)) ≡ drop (k - 1) (split (drop (end + 1) t))
    rest_more = let d = one_more k h (split (drop i t)) a in let e = f.lines in λ j. drop (d j) (e j)

-- THE LOOP: n lines from place from on are to be put into b, from place at on; k lines from place i on are left, for x from place to on
pub record Left (t : List ℕ) (from n : ℕ) (b : List ℕ) (at : ℕ) (x : List ℕ) (i to k : ℕ) : Type 0 where
  pub held : are_held k (split (drop i t)) ≡ true
  pub rest : drop k (split (drop i t)) ≡ drop n (split (drop from t))
  pub ahead : Ahead x to (lines_text k (split (drop i t))) b at (lines_text n (split (drop from t)))

module _ (t : List ℕ) (from n : ℕ) (b : List ℕ) (at : ℕ) where
  pub lines_begun : are_held n (split (drop from t)) ≡ true → Left t from n b at b from at n
  lines_begun h = record { held = h; rest = refl; ahead = begun b at _ }

  module _ (x : List ℕ) (i to k : ℕ) (l : Left t from n b at x i to k) where
    module _ (h : 0 < k) (end : ℕ) (f : LineEnds t i end) where
      pub lines_more : (y : List ℕ) (r m : ℕ) → y ≡ sets x to (cut (between i end t) ++ (10 ∷ [])) → r ≡ to + (length (cut (between i end t)) + 1) → m ≡ k - 1 → Left t from n b at y (end + 1) r m
      lines_more y r m e g d =
          let c = cut (between i end t) in
          rw d (record {
            held = (parts t i k h l.held end f).1;
            rest = sym (rest_more t i k h l.held end f) ∙ l.rest;
            ahead = some_put x b to at _ (c ++ (10 ∷ [])) _ _ (text_more t i k h l.held end f) l.ahead y r e (omega (arith, g, length-append c (10 ∷ [])));
          })

      -- there is room for it
      pub line_room : to + (length (cut (between i end t)) + 1) ≤ at + length (lines_text n (split (drop from t)))
      line_room =
          let c = cut (between i end t) in
          omega (arith, some_room x b to at _ (c ++ (10 ∷ [])) _ _ (text_more t i k h l.held end f) l.ahead, length-append c (10 ∷ []))
