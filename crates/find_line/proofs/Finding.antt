-- The line that begins at a place: whether there is one, and what the first byte that is not plain says of it. Assumes nothing.
use Prim.Native.Nat.{ℕ, suc, ◌+◌, ◌-◌, ◌≤◌, ◌<◌}
use mathlib.Core.Path.{◌≡◌, refl, sym, ap, ◌∙◌}
use mathlib.Core.Bool.{Bool, true, false, not, cond, ◌&&◌, ◌||◌}
use mathlib.Core.List.{List, [], ◌∷◌, ◌++◌}
use native.Mathlib.Omega.{arith}
use lib.Dec.{eqb, leb, ltb}
use lib.ListN.{length, get_or, drop, length-drop, length-take, take-append-drop, drop_of_length-le}
use lib.Seq.{take_all, take-suc, get_or-drop, drop-drop, take-add}
use borrow.Author.Tests.{ne_eqb, leb-true, leb-false, ltb-true, ltb-false, lt-leb}
use Rattle.lists.proofs.Bools.{both, or_right, or_assoc, both_not}
use Rattle.lists.proofs.Every.{every_on, every_seen}
use Rattle.lists.proofs.Parts.{next, to_end}
use Rattle.line.specs.Text.{is_plain, are_plain, Raw, onto, split}
use Rattle.find_line.specs.Promises.{between, PlainEnd, LineEnds, Fault}
use Rattle.line.proofs.Columns.{plain_of, of_plain}
use Rattle.line.proofs.Texts.{split_line}

-- Bytes that are not plain
pub low_byte : (b : ℕ) → b < 32 → is_plain b ≡ false
low_byte b h = rw (lt-leb 32 b h)

pub high_byte : (b : ℕ) → 126 < b → is_plain b ≡ false
high_byte b h = both_not (leb 32 b) (leb b 126) (λ u v. omega (arith, leb-true b 126 v))

-- Plain bytes from place a on
module _ (t : List ℕ) (a i : ℕ) where
  pub between_none : i ≤ a → between a i t ≡ []
  between_none h = let e : i - a ≡ 0 = omega arith in rw e

  pub length_between : a ≤ i → i ≤ length t → length (between a i t) ≡ i - a
  length_between h k = rw length-take (omega (arith, length-drop a t))

  between_more : a ≤ i → i < length t → between a (i + 1) t ≡ between a i t ++ (get_or t i 0 ∷ [])
  between_more h k =
      let n : i + 1 - a ≡ suc (i - a) = omega arith in
      let m : a + (i - a) ≡ i = omega arith in
      rw (n, take-suc (drop a t) (i - a) 0 (simp length-drop (omega arith)), get_or-drop a t (i - a) 0, m)

  pub plain_more : a ≤ i → i < length t → is_plain (get_or t i 0) ≡ true → are_plain (between a i t) ≡ true → are_plain (between a (i + 1) t) ≡ true
  plain_more h k e p = rw (between_more h k) (every_on is_plain (between a i t) (get_or t i 0 ∷ []) p (rw e))

  pub plain_all : length t ≤ i → are_plain (between a i t) ≡ true → are_plain (between a (length t) t) ≡ true
  plain_all h p =
      rw (take_all (length t - a) (drop a t) (simp length-drop (omega arith)))
      (rw (take_all (i - a) (drop a t) (simp length-drop (omega arith))) at p)

-- Bytes looked at with no exit: o says whether one of them is not plain
seen_plain : (b : ℕ) → not (ltb b 32 || ltb 126 b) ≡ is_plain b
seen_plain b = go (ltb b 32) (ltb 126 b) refl refl
  where
    go : (c d : Bool) → ltb b 32 ≡ c → ltb 126 b ≡ d → not (c || d) ≡ is_plain b
    go true d e f = sym (low_byte b (ltb-true b 32 e))
    go false true e f = sym (high_byte b (ltb-true 126 b f))
    go false false e f = sym (plain_of b (ltb-false b 32 e) (ltb-false 126 b f))

pub seen_more : (s : List ℕ) (i : ℕ) (o : Bool) → i < length s
    → (not ((o || ltb (get_or s i 0) 32) || ltb 126 (get_or s i 0)) && are_plain (drop (i + 1) s)) ≡ (not o && are_plain (drop i s))
seen_more s i o h =
    let low = ltb (get_or s i 0) 32 in
    let high = ltb 126 (get_or s i 0) in
    ap (λ (x : Bool). not x && are_plain (drop (i + 1) s)) (or_assoc o low high) ∙ every_seen is_plain s i o (low || high) h (seen_plain (get_or s i 0))

-- a block of plain bytes more
pub plain_block : (t : List ℕ) (a i e : ℕ) → a ≤ i → i ≤ e → are_plain (between a i t) ≡ true → are_plain (between i e t) ≡ true → are_plain (between a e t) ≡ true
plain_block t a i e h k p q =
    let n : e - a ≡ (i - a) + (e - i) = omega arith in
    let m : a + (i - a) ≡ i = omega arith in
    rw (n, take-add (i - a) (e - i) (drop a t), drop-drop (i - a) a t, m) (every_on is_plain (between a i t) (between i e t) p q)

-- the text from place a on, around place e
pub around : (t : List ℕ) (a e : ℕ) → a ≤ e → e < length t → drop a t ≡ between a e t ++ (get_or t e 0 ∷ drop (e + 1) t)
around t a e h k =
    let n : a + (e - a) ≡ e = omega arith in
    sym (take-append-drop (e - a) (drop a t)) ∙ ap (λ (x : List ℕ). between a e t ++ x) (drop-drop (e - a) a t ∙ rw n (next t e k))

-- Nothing is left
pub over_line : (t : List ℕ) (a : ℕ) → length t ≤ a → split (drop a t) ≡ []
unfolding split
over_line t a h = rw (drop_of_length-le t h)

-- What has bytes has a line
some_line : (t : List ℕ) → 0 < length t → (w : Raw) × (ws : List Raw) × (split t ≡ w ∷ ws)
unfolding split onto
some_line [] h = absurd (omega arith)
some_line (b ∷ t) h = at (eqb b 10) (split t)
  where
    at : (c : Bool) (rs : List Raw) → (w : Raw) × (ws : List Raw) × (cond c (record { bytes = []; ended = true } ∷ rs) (onto b rs) ≡ w ∷ ws)
    at true rs = (_, rs, refl)
    at false [] = (_, [], refl)
    at false (r ∷ rs) = (_, rs, refl)

pub line_there : (t : List ℕ) (a : ℕ) → a < length t → (w : Raw) × (ws : List Raw) × (split (drop a t) ≡ w ∷ ws)
line_there t a h = some_line (drop a t) (omega (arith, length-drop a t))

-- An LF ends the line
pub first_line : (t : List ℕ) (a e : ℕ) → PlainEnd t a e → a ≤ length t → e < length t → get_or t e 0 ≡ 10 → LineEnds t a e
first_line t a e p h k x =
    let f : a ≤ e = p.from h in
    let w : drop a t ≡ between a e t ++ (10 ∷ drop (e + 1) t) = around t a e f k ∙ ap (λ (b : ℕ). between a e t ++ (b ∷ drop (e + 1) t)) x in
    record { from = f; within = k; lines = ap split w ∙ split_line (between a e t) (drop (e + 1) t) p.plain }

-- Plain bytes with no LF behind them are one line
split_open : (b : ℕ) (l : List ℕ) → are_plain (b ∷ l) ≡ true → split (b ∷ l) ≡ record { bytes = b ∷ l; ended = false } ∷ []
unfolding split onto
split_open b [] h =
    let p = of_plain b (both (is_plain b) true h).0 in
    rw (ne_eqb b 10 (λ e. omega arith))
split_open b (c ∷ l) h =
    let q = both (is_plain b) (are_plain (c ∷ l)) h in
    let p = of_plain b q.0 in
    rw (ne_eqb b 10 (λ e. omega arith), split_open c l q.1)

open_line : (s : List ℕ) → (s ≡ [] → ⊥) → are_plain s ≡ true → Fault s 0
open_line [] h p = absurd (h refl)
open_line (b ∷ l) h p = record { line = record { bytes = b ∷ l; ended = false }; rest = []; lines = split_open b l p; fault = or_right (not (are_plain (b ∷ l))) true refl }

-- Plain bytes and then one that is neither plain nor an LF
odd_line : (l : List ℕ) (b : ℕ) (r : List ℕ) → are_plain l ≡ true → is_plain b ≡ false → (b ≡ 10 → ⊥) → Fault (l ++ (b ∷ r)) 0
unfolding split onto
odd_line [] b r h p n = at (split r) refl
  where
    at : (rs : List Raw) → split r ≡ rs → Fault (b ∷ r) 0
    at [] e = record { line = record { bytes = b ∷ []; ended = false }; rest = []; lines = rw (ne_eqb b 10 n, e); fault = rw p }
    at (x ∷ rs) e = record { line = record { bytes = b ∷ x.bytes; ended = x.ended }; rest = rs; lines = rw (ne_eqb b 10 n, e); fault = rw p }
odd_line (c ∷ l) b r h p n = more (odd_line l b r (both (is_plain c) (are_plain l) h).1 p n)
  where
    q : (is_plain c ≡ true) × (are_plain l ≡ true)
    q = both (is_plain c) (are_plain l) h

    more : Fault (l ++ (b ∷ r)) 0 → Fault (c ∷ (l ++ (b ∷ r))) 0
    more f =
        let u = of_plain c q.0 in
        record {
          line = record { bytes = c ∷ f.line.bytes; ended = f.line.ended };
          rest = f.rest;
          lines = rw (ne_eqb c 10 (λ e. omega arith), f.lines);
          fault = rw q.0 f.fault;
        }

faulty : (t : List ℕ) (a : ℕ) (s : List ℕ) → drop a t ≡ s → Fault s 0 → Fault t a
faulty t a s e f = record { line = f.line; rest = f.rest; lines = rw e f.lines; fault = f.fault }

-- no LF stands where the plain bytes end
pub faulty_line : (t : List ℕ) (a e : ℕ) → PlainEnd t a e → a < length t → (e < length t → get_or t e 0 ≡ 10 → ⊥) → Fault t a
faulty_line t a e p h n = at (leb (length t) e) refl
  where
    at : (c : Bool) → leb (length t) e ≡ c → Fault t a
    at true k =
        let o : e ≡ length t = omega (arith, p.within, leb-true (length t) e k) in
        let w : are_plain (drop a t) ≡ true = rw (o, to_end t a) at p.plain in
        let nil : drop a t ≡ [] → ⊥ = λ x. omega (arith, length-drop a t, ap length x) in
        faulty t a (drop a t) refl (open_line (drop a t) nil w)
    at false k =
        let b : e < length t = leb-false (length t) e k in
        let f : a ≤ e = p.from (omega arith) in
        faulty t a (between a e t ++ (get_or t e 0 ∷ drop (e + 1) t)) (around t a e f b) (odd_line (between a e t) (get_or t e 0) (drop (e + 1) t) p.plain (p.stop b) (n b))
