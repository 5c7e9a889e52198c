-- How long a row's line is. Assumes nothing.
use Prim.Native.Nat.{ℕ, zero, suc, ◌+◌, ◌*◌}
use mathlib.Core.Path.{◌≡◌, refl, sym, ap, ◌∙◌, subst}
use mathlib.Core.Bool.{Bool, true, false, cond, ◌&&◌}
use mathlib.Core.List.{List, [], ◌∷◌, ◌++◌, map, append_assoc, append-nil}
use Rattle.std.specs.Prelude.{Option, None, Some}
use native.Mathlib.Omega.{arith}
use lib.Dec.{eqb}
use lib.IntN.{ℤ, pos}
use lib.ListN.{length, get_or, length-append}
use borrow.Author.Tests.{ne_eqb}
use Rattle.lists.specs.Lists.{All, joined}
use Rattle.lists.specs.Blank.{blanks, is_blank}
use Rattle.lists.proofs.Every.{every_append}
use Rattle.lists.proofs.Lists.{map_append, joined_append, all_on}
use Rattle.line.specs.Text.{cut}
use Rattle.write_field.specs.Normal.{decimal, decimal_or_blank, mark, fixed, digit}
use Rattle.write_field.proofs.Written.{decimal_length, fixed_length}
use Rattle.rinex.specs.Codes.{letter_of}
use Rattle.rinex.specs.File.{Slot}
use Rattle.rinex.specs.Tables.{Buffers}
use Rattle.rinex.specs.Fit.{codes_of_row}
use Rattle.rinex.specs.Held.{optional, slot_at, slots_at, row_at}
use Rattle.rinex.specs.Normal.{slot_text, row_line}
use Rattle.rinex.proofs.WrittenFields.{FitsOrBlank}
use Rattle.rinex.proofs.Forms.{SlotForm}
use Rattle.rinex.proofs.HeldFile.{slots_length}
use Rattle.measure.specs.Size.{slot_end, slots_width}
use Rattle.measure.proofs.Cuts.{cut_on, cut_off, Ends, ends_not_blank, cut_ends, ends_on, ends_digit, ends_fixed, ends_decimal}

-- the parts of a slot
value_length : (o : Option ℤ) → FitsOrBlank 14 3 o → length (decimal_or_blank 14 3 o) ≡ 14
value_length None h = refl
value_length (Some z) h = decimal_length 14 3 z h

mark_length : (o : Option ℕ) → length (mark o) ≡ 1
mark_length None = refl
mark_length (Some m) = refl

slot_length : (s : Slot) → SlotForm s → length (slot_text s) ≡ 16
unfolding slot_text
slot_length s f =
    length-append (decimal_or_blank 14 3 s.value) (mark s.loss ++ mark s.strength)
    ∙ omega (arith, value_length s.value f.value.fits, length-append (mark s.loss) (mark s.strength), mark_length s.loss, mark_length s.strength)

-- where a slot ends, by what it holds
abbrev end_in : Option ℤ → Option ℕ → Option ℕ → ℕ
end_in v l (Some g) = 16
end_in v (Some l) None = 15
end_in (Some v) None None = 14
end_in None None None = 0

abbrev end_of : Slot → ℕ
end_of s = end_in s.value s.loss s.strength

end_at : (b : Buffers) (i : ℕ) → end_of (slot_at b i) ≡ slot_end (get_or b.states i 0) (get_or b.losses i 0) (get_or b.strengths i 0)
end_at b i = at (eqb (get_or b.strengths i 0) 255) (eqb (get_or b.losses i 0) 255) (get_or b.states i 0)
  where
    at : (x y : Bool) (n : ℕ) → end_in (optional n (get_or b.numbers i (pos 0))) (cond y None (Some (get_or b.losses i 0))) (cond x None (Some (get_or b.strengths i 0))) ≡ cond x (cond y (cond (eqb n 0) 0 14) 15) 16
    at false y n = refl
    at true false n = refl
    at true true zero = refl
    at true true (suc n) = rw (ne_eqb (suc n) 0 (λ e. omega (arith, e)))

-- a slot once it is cut
pub record SlotCut (s : Slot) : Type 0 where
  pub length_is : length (cut (slot_text s)) ≡ end_of s
  pub blank_is : is_blank (slot_text s) ≡ eqb (end_of s) 0

not_blank_on : (xs ys : List ℕ) → is_blank xs ≡ false → is_blank (xs ++ ys) ≡ false
not_blank_on xs ys h = every_append (λ b. eqb b 32) xs ys ∙ ap (λ (b : Bool). b && is_blank ys) h

blank_length : length (cut (blanks 14 ++ (32 ∷ 32 ∷ []))) ≡ 0
unfolding cut
blank_length = refl

slot_cut : (s : Slot) → SlotForm s → SlotCut s
unfolding slot_text
slot_cut s f = at s.value s.loss s.strength f.value.fits
  where
    at : (v : Option ℤ) (l g : Option ℕ) → FitsOrBlank 14 3 v → SlotCut (record { value = v; loss = l; strength = g })
    at v l (Some g) h =
        let e = ends_on (decimal_or_blank 14 3 v) (mark l ++ (digit g ∷ [])) (ends_digit (mark l) g) in
        record {
          length_is = ap length (cut_ends _ e) ∙ (length-append (decimal_or_blank 14 3 v) (mark l ++ (digit g ∷ [])) ∙ omega (arith, value_length v h, length-append (mark l) (digit g ∷ []), mark_length l));
          blank_is = ends_not_blank _ e;
        }
    at v (Some l) None h =
        let xs : List ℕ = decimal_or_blank 14 3 v in
        let e = ends_digit xs l in
        let q : xs ++ (digit l ∷ 32 ∷ []) ≡ (xs ++ (digit l ∷ [])) ++ (32 ∷ []) = sym (append_assoc xs (digit l ∷ []) (32 ∷ [])) in
        record {
          length_is = ap (λ (x : List ℕ). length (cut x)) q ∙ (ap length (cut_off (xs ++ (digit l ∷ [])) (32 ∷ []) refl ∙ cut_ends _ e) ∙ (length-append xs (digit l ∷ []) ∙ omega (arith, value_length v h)));
          blank_is = ap is_blank q ∙ not_blank_on (xs ++ (digit l ∷ [])) (32 ∷ []) (ends_not_blank _ e);
        }
    at (Some z) None None h =
        let e = ends_decimal 14 2 z in
        record {
          length_is = ap length (cut_off (decimal 14 3 z) (32 ∷ 32 ∷ []) refl ∙ cut_ends _ e) ∙ decimal_length 14 3 z h;
          blank_is = not_blank_on (decimal 14 3 z) (32 ∷ 32 ∷ []) (ends_not_blank _ e);
        }
    at None None None h = record { length_is = blank_length; blank_is = refl }

-- slots, the last one apart
slots_last : (b : Buffers) (k i : ℕ) → slots_at b (suc k) i ≡ slots_at b k i ++ (slot_at b (i + k) ∷ [])
unfolding slots_at
slots_last b zero i = let e : i + 0 ≡ i = omega arith in rw e refl
slots_last b (suc k) i = let e : i + suc k ≡ i + 1 + k = omega arith in rw e (ap (λ (x : List Slot). slot_at b i ∷ x) (slots_last b k (i + 1)))

abbrev body : List Slot → List ℕ
body ss = joined (map slot_text ss)

body_last : (ss : List Slot) (s : Slot) → body (ss ++ (s ∷ [])) ≡ body ss ++ slot_text s
body_last ss s = ap joined (map_append slot_text ss (s ∷ [])) ∙ (joined_append (map slot_text ss) (slot_text s ∷ []) ∙ ap (λ (x : List ℕ). body ss ++ x) (append-nil (slot_text s)))

body_length : (ss : List Slot) → All SlotForm ss → length (body ss) ≡ 16 * length ss
body_length [] f = refl
body_length (s ∷ ss) f = length-append (slot_text s) (body ss) ∙ omega (arith, slot_length s f.0, body_length ss f.1)

none_cut : (b : Buffers) (i : ℕ) → length (cut (body (slots_at b 0 i))) ≡ 0
unfolding cut slots_at
none_cut b i = refl

slots_cut : (b : Buffers) (k i : ℕ) → All SlotForm (slots_at b k i) → length (cut (body (slots_at b k i))) ≡ slots_width b.states b.losses b.strengths k i
unfolding slots_width
slots_cut b zero i f = none_cut b i
slots_cut b (suc k) i f =
    let s : Slot = slot_at b (i + k) in
    let xs : List ℕ = body (slots_at b k i) in
    let a = all_on SlotForm (slots_at b k i) (s ∷ []) (subst (All SlotForm) (slots_last b k i) f) in
    let c = slot_cut s a.1.0 in
    let q : body (slots_at b (suc k) i) ≡ xs ++ slot_text s = ap body (slots_last b k i) ∙ body_last (slots_at b k i) s in
    let l : length xs ≡ 16 * k = body_length (slots_at b k i) a.0 ∙ ap (λ (x : ℕ). 16 * x) (slots_length b k i) in
    ap (λ (x : List ℕ). length (cut x)) q
    ∙ at (eqb (end_of s) 0) refl xs l c (slots_cut b k i a.0) (end_at b (i + k))
  where
    at : (x : Bool) → eqb (end_of (slot_at b (i + k))) 0 ≡ x → (xs : List ℕ) → length xs ≡ 16 * k → SlotCut (slot_at b (i + k)) → length (cut xs) ≡ slots_width b.states b.losses b.strengths k i
        → end_of (slot_at b (i + k)) ≡ slot_end (get_or b.states (i + k) 0) (get_or b.losses (i + k) 0) (get_or b.strengths (i + k) 0)
        → length (cut (xs ++ slot_text (slot_at b (i + k)))) ≡ cond (eqb (slot_end (get_or b.states (i + k) 0) (get_or b.losses (i + k) 0) (get_or b.strengths (i + k) 0)) 0) (slots_width b.states b.losses b.strengths k i)
        (16 * k + slot_end (get_or b.states (i + k) 0) (get_or b.losses (i + k) 0) (get_or b.strengths (i + k) 0))
    at true e xs l c r z = rw (← z, e) (ap length (cut_off xs _ (c.blank_is ∙ e)) ∙ r)
    at false e xs l c r z = rw (← z, e) (ap length (cut_on xs _ (c.blank_is ∙ e)) ∙ (length-append xs (cut (slot_text (slot_at b (i + k)))) ∙ omega (arith, l, c.length_is)))

no_length : length (cut []) ≡ 0
unfolding cut
no_length = refl

-- what stands behind a satellite, whose last column is a digit
behind : (y n : ℕ) (xs : List ℕ) → length (cut (letter_of y ∷ (fixed 2 n ++ xs))) ≡ length (cut xs) + 3
behind y n xs = at (is_blank xs) refl
  where
    e : Ends (letter_of y ∷ fixed 2 n)
    e = ends_on (letter_of y ∷ []) (fixed 2 n) (ends_fixed 1 n)

    at : (x : Bool) → is_blank xs ≡ x → length (cut (letter_of y ∷ (fixed 2 n ++ xs))) ≡ length (cut xs) + 3
    at true h = ap length (cut_off (letter_of y ∷ fixed 2 n) xs h ∙ cut_ends _ e) ∙ omega (arith, fixed_length 2 n, ap length (cut_off [] xs h), no_length)
    at false h = ap length (cut_on (letter_of y ∷ fixed 2 n) xs h) ∙ (length-append (letter_of y ∷ fixed 2 n) (cut xs) ∙ omega (arith, fixed_length 2 n))

pub row_length : (lengths : List ℕ) (b : Buffers) (j i : ℕ) → All SlotForm (slots_at b (codes_of_row lengths b j) i)
    → length (row_line (row_at lengths b j i)) ≡ slots_width b.states b.losses b.strengths (codes_of_row lengths b j) i + 3
unfolding row_line
row_length lengths b j i f =
    behind (row_at lengths b j i).system (row_at lengths b j i).number (body (slots_at b (codes_of_row lengths b j) i)) ∙ ap (λ (x : ℕ). x + 3) (slots_cut b (codes_of_row lengths b j) i f)
