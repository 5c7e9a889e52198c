-- Lines put one behind the other, and what an answer of them says. Assumes nothing.
use Prim.Native.Nat.{ℕ, ◌+◌, ◌^◌, ◌≤◌, ◌<◌}
use mathlib.Core.Path.{◌≡◌, refl, sym, ap, ◌∙◌}
use mathlib.Core.List.{List, [], ◌∷◌, ◌++◌, append_assoc}
use native.Mathlib.Omega.{arith}
use lib.ListN.{length, take, drop, set, replicate, length-append, length-replicate}
use lib.Seq.{sets, sets-eq, length-sets, take-append_seam}
use Rattle.lists.proofs.Stores.{then}
use Rattle.write_field.specs.Normal.{digits, whole}
use Rattle.write_field.specs.Writing.{HasDigits}
use Rattle.write_field.proofs.Counting.{digits_count, count_whole}
use Rattle.summary_text.specs.Said.{Says, numbered}

-- xs was put into l from place a on, which gave m; b is the place behind it
pub record Put (l : List ℕ) (a : ℕ) (xs m : List ℕ) (b : ℕ) : Type 0 where
  pub lies : m ≡ sets l a xs
  pub place : b ≡ a + length xs

-- and ys behind it
pub and_then : (xs ys : List ℕ) {l m o : List ℕ} {a b c : ℕ} → Put l a xs m b → Put m b ys o c → Put l a (xs ++ ys) o c
and_then xs ys {l} {m} {o} {a} {b} {c} p q =
    record { lies = q.lies ∙ then l m a b xs ys p.lies (sym p.place); place = q.place ∙ omega (arith, p.place, length-append xs ys) }

-- what an answer has before anything is put
abbrev pub zeros : List ℕ
zeros = replicate 160 0

-- all that is put is what is said
pub says : (t s m : List ℕ) (b : ℕ) → Put zeros 0 s m b → s ≡ t → b ≤ 160 → Says t (record { bytes = m; size = b })
says t s m b p e h =
    let n : length zeros ≡ 160 = length-replicate {A = ℕ} 160 0 in
    let q : b ≡ length s = p.place ∙ omega arith in
    let k : sets zeros 0 s ≡ s ++ drop (0 + length s) zeros = sets-eq s zeros 0 (omega (arith, n, q)) in
    let y : take b m ≡ s = rw (q, p.lies, k) (take-append_seam s (drop (0 + length s) zeros)) in
    record {
      is = y ∙ e;
      whole = record { within = rw (p.lies, length-sets zeros 0 s, n) h; rest = p.lies ∙ ap (λ (x : List ℕ). sets zeros 0 x) (sym y) };
    }

-- lines of a text: one and others behind it, and the last
module _ (name : List ℕ) (n : ℕ) where
  pub entered : {r s : List ℕ} → r ≡ s → numbered name n ++ r ≡ (name ++ digits 20 n) ++ (10 ∷ s)
  unfolding numbered
  entered {r} {s} e =
      append_assoc name (digits 20 n ++ (10 ∷ [])) r
      ∙ (ap (λ (x : List ℕ). name ++ x) (append_assoc (digits 20 n) (10 ∷ []) r ∙ ap (λ (x : List ℕ). digits 20 n ++ (10 ∷ x)) e)
      ∙ sym (append_assoc name (digits 20 n) (10 ∷ s)))

  pub last_entered : numbered name n ≡ (name ++ digits 20 n) ++ (10 ∷ [])
  unfolding numbered
  last_entered = sym (append_assoc name (digits 20 n) (10 ∷ []))

module _ (n w : ℕ) (c : HasDigits n w) (b : n < 2 ^ 64) where
  small : n < 10 ^ 20
  small = omega (arith, b)

  pub wide : w ≤ 20
  wide = c.fewest 20 (omega arith) small

  pub number_length : (name : List ℕ) → length (numbered name n) ≡ length name + w + 1
  unfolding numbered
  number_length name = length-append name _ ∙ omega (arith, length-append (digits 20 n) (10 ∷ []), digits_count n w 19 c small)

  -- a name, its number and the LF
  pub number_put : (name out l m o : List ℕ) (at : ℕ) → l ≡ sets out at name → m ≡ sets l (at + length name) (whole w n) → o ≡ set m (at + length name + w) 10
      → o ≡ sets out at (numbered name n)
  unfolding numbered
  number_put name out l m o at e f g =
      let d : m ≡ sets l (at + length name) (digits 20 n) = f ∙ ap (λ (x : List ℕ). sets l (at + length name) x) (count_whole n w 19 c small) in
      let k : at + length name + length (digits 20 n) ≡ at + length name + w = ap (λ (x : ℕ). at + length name + x) (digits_count n w 19 c small) in
      let p : o ≡ sets l (at + length name) (digits 20 n ++ (10 ∷ [])) = g ∙ then l m (at + length name) (at + length name + w) (digits 20 n) (10 ∷ []) d k in
      p ∙ then out l at (at + length name) name (digits 20 n ++ (10 ∷ [])) e refl
