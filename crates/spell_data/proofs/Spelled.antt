-- Slots and rows as they are spelled. Assumes nothing.
use Prim.Native.Nat.{ℕ, zero, suc, ◌+◌, ◌-◌, ◌*◌, ◌≤◌, ◌<◌}
use mathlib.Core.Path.{◌≡◌, refl, sym, ap, ◌∙◌, subst}
use mathlib.Core.List.{List, [], ◌∷◌, ◌++◌}
use native.Mathlib.Omega.{arith}
use lib.ListN.{length, get_or, take, drop, set, length-append}
use lib.IntN.{ℤ, pos}
use lib.Seq.{sets}
use Rattle.lists.proofs.Stores.{then, part_back, sets_all}
use Rattle.write_field.specs.Normal.{mark, fixed, decimal_fits, decimal_or_blank}
use Rattle.write_field.proofs.Written.{fixed_length}
use Rattle.rinex.specs.Normal.{slot_text}
use Rattle.rinex.specs.Tables.{Buffers}
use Rattle.rinex.specs.Held.{optional, mark_in, slots_at}
use Rattle.columns.specs.Given.{FitsIf}
use Rattle.spell_data.specs.Slots.{slot_with, slots_text, NumbersFit}
use Rattle.columns.proofs.States.{given_long}
use mathlib.Core.Bool.{Bool, true, false, cond}
use Rattle.std.specs.Prelude.{None, Some}
use lib.Dec.{eqb}

-- a mark is one column
mark_long : (m : ℕ) → length (mark (mark_in m)) ≡ 1
mark_long m = at (eqb m 255)
  where
    at : (b : Bool) → length (mark (cond b None (Some m))) ≡ 1
    at true = refl
    at false = refl

-- a slot: its number, and then its two marks
pub slot_put : (l x y o : List ℕ) (z z' : ℤ) (s loss strength a b : ℕ) → z' ≡ z → length l ≡ 16 → FitsIf s (decimal_fits 14 3 z)
    → x ≡ sets l 0 (decimal_or_blank 14 3 (optional s z')) → y ≡ set x 14 a → o ≡ set y 15 b → a ∷ [] ≡ mark (mark_in loss) → b ∷ [] ≡ mark (mark_in strength)
    → o ≡ slot_text (slot_with z s loss strength)
unfolding slot_text
slot_put l x y o z z' s loss strength a b q n f ex ey eo ea eb =
    let d : List ℕ = decimal_or_blank 14 3 (optional s z) in
    let ex' : x ≡ sets l 0 d = ex ∙ ap (λ (v : ℤ). sets l 0 (decimal_or_blank 14 3 (optional s v))) q in
    let k : length d ≡ 14 = given_long 14 3 s z f in
    let m : length (d ++ ((a ∷ []) ++ (b ∷ []))) ≡ length l = length-append d (a ∷ b ∷ []) ∙ omega arith in
    eo ∙ (then x y 14 15 (a ∷ []) (b ∷ []) ey refl ∙ (then l x 0 14 d (a ∷ b ∷ []) ex' (omega arith) ∙ (sets_all l (d ++ (a ∷ b ∷ [])) m
    ∙ (ap (λ (v : List ℕ). d ++ (v ++ (b ∷ []))) ea ∙ ap (λ (v : List ℕ). d ++ (mark (mark_in loss) ++ v)) eb))))

slot_long : (z : ℤ) (s loss strength : ℕ) → FitsIf s (decimal_fits 14 3 z) → length (slot_text (slot_with z s loss strength)) ≡ 16
unfolding slot_text
slot_long z s loss strength f =
    length-append (decimal_or_blank 14 3 (optional s z)) (mark (mark_in loss) ++ mark (mark_in strength))
    ∙ omega (arith, given_long 14 3 s z f, length-append (mark (mark_in loss)) (mark (mark_in strength)), mark_long loss, mark_long strength)

module _ (b : Buffers) where
  -- one slot more
  pub slots_more : (out ys : List ℕ) (n from i : ℕ) (z : ℤ) → z ≡ get_or b.numbers (from + i) (pos 0) → i < n → length out ≡ 3 + 16 * n → NumbersFit n from b
      → ys ≡ slot_text (slot_with z (get_or b.states (from + i) 0) (get_or b.losses (from + i) 0) (get_or b.strengths (from + i) 0))
      → sets (take (3 + 16 * i) out ++ (ys ++ drop (3 + 16 * i + 16 - (3 + 16 * i)) (drop (3 + 16 * i) out))) (3 + 16 * (i + 1)) (slots_text (n - (i + 1)) (from + (i + 1)) b)
      ≡ sets out (3 + 16 * i) (slots_text (n - i) (from + i) b)
  unfolding slots_at
  slots_more out ys n from i z q h m f e =
      let a : ℕ = 3 + 16 * i in
      let t : List ℕ = slot_text (slot_with (get_or b.numbers (from + i) (pos 0)) (get_or b.states (from + i) 0) (get_or b.losses (from + i) 0) (get_or b.strengths (from + i) 0)) in
      let e' : ys ≡ t = e ∙ ap (λ (v : ℤ). slot_text (slot_with v (get_or b.states (from + i) 0) (get_or b.losses (from + i) 0) (get_or b.strengths (from + i) 0))) q in
      let k : length ys ≡ 16 = ap length e' ∙ slot_long (get_or b.numbers (from + i) (pos 0)) (get_or b.states (from + i) 0) (get_or b.losses (from + i) 0) (get_or b.strengths (from + i) 0) (f i h) in
      let w : a + 16 - a ≡ 16 = omega arith in
      let r : n - i ≡ suc (n - (i + 1)) = omega arith in
      let g : from + (i + 1) ≡ from + i + 1 = omega arith in
      let rest : List ℕ = slots_text (n - (i + 1)) (from + (i + 1)) b in
      then out (take a out ++ (ys ++ drop (a + 16 - a) (drop a out))) a (3 + 16 * (i + 1)) ys rest (part_back out ys a (a + 16 - a) (omega arith) (k ∙ sym w)) (omega arith)
      ∙ (ap (λ (v : List ℕ). sets out a (v ++ rest)) e'
      ∙ (ap (λ (v : ℕ). sets out a (t ++ slots_text (n - (i + 1)) v b)) g
      ∙ ap (λ (v : ℕ). sets out a (slots_text v (from + i) b)) (sym r)))

  pub slots_done : (out : List ℕ) (j n from i : ℕ) → n ≤ i → sets out j (slots_text (n - i) (from + i) b) ≡ out
  unfolding slots_at
  slots_done out j n from i h = let m : n - i ≡ 0 = omega arith in rw m

  -- 16 columns each
  pub slots_long : (n from : ℕ) → NumbersFit n from b → length (slots_text n from b) ≡ 16 * n
  unfolding slots_at
  slots_long zero from f = refl
  slots_long (suc n) from f =
      let t : List ℕ = slot_text (slot_with (get_or b.numbers from (pos 0)) (get_or b.states from 0) (get_or b.losses from 0) (get_or b.strengths from 0)) in
      let z : from + 0 ≡ from = omega arith in
      let p : length t ≡ 16 = slot_long (get_or b.numbers from (pos 0)) (get_or b.states from 0) (get_or b.losses from 0) (get_or b.strengths from 0)
      (subst (λ (k : ℕ). FitsIf (get_or b.states k 0) (decimal_fits 14 3 (get_or b.numbers k (pos 0)))) z (f 0 (omega arith))) in
      let g : NumbersFit n (from + 1) b = λ k h.
      let y : from + suc k ≡ from + 1 + k = omega arith in
      subst (λ (j : ℕ). FitsIf (get_or b.states j 0) (decimal_fits 14 3 (get_or b.numbers j (pos 0)))) y (f (suc k) (omega arith)) in
      length-append t (slots_text n (from + 1) b) ∙ omega (arith, slots_long n (from + 1) g)

-- a row: the letter, the number and the slots
pub row_put_lem : (l x y o t : List ℕ) (letter number : ℕ) → x ≡ set l 0 letter → y ≡ sets x 1 (fixed 2 number) → o ≡ sets y 3 t → length l ≡ 3 + length t
    → o ≡ letter ∷ (fixed 2 number ++ t)
row_put_lem l x y o t letter number ex ey eo n =
    let k : length (fixed 2 number) ≡ 2 = fixed_length 2 number in
    let m : length (letter ∷ (fixed 2 number ++ t)) ≡ length l = ap suc (length-append (fixed 2 number) t) ∙ omega arith in
    eo ∙ (then x y 1 3 (fixed 2 number) t ey (omega arith) ∙ (then l x 0 1 (letter ∷ []) (fixed 2 number ++ t) ex refl ∙ sets_all l (letter ∷ (fixed 2 number ++ t)) m))
