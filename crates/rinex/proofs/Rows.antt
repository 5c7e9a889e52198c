-- Slots and rows: what the tests find is what the line spells. Assumes nothing.
use Prim.Native.Nat.{ℕ, zero, suc, ◌+◌, ◌-◌, ◌≤◌, ◌<◌}
use mathlib.Core.Path.{◌≡◌, refl, ap, sym, ◌∙◌}
use mathlib.Core.Bool.{Bool, true, false, cond, ◌&&◌, ◌||◌}
use mathlib.Core.List.{List, [], ◌∷◌}
use Rattle.std.specs.Prelude.{Option, None, Some}
use native.Mathlib.Omega.{arith}
use lib.Dec.{eqb, leb, ltb}
use lib.IntN.{ℤ}
use lib.ListN.{length, get_or}
use borrow.Author.Tests.{eqb-true, eq-eqb, ne_eqb, leb-true, le-leb, ltb-true, lt-ltb}
use Rattle.lists.specs.Lists.{place}
use Rattle.lists.proofs.Bools.{both, all_of, or_right}
use Rattle.lists.proofs.Places.{place_at}
use Rattle.field.specs.Field.{are_digits, value_of, Mark, is_digit}
use Rattle.field.specs.Found.{decimal_of, mark_fits}
use Rattle.field.proofs.Found.{decimal_or_blank_lem, decimal_or_blank_is, decimal_or_blank_fits}
use Rattle.line.specs.Text.{col, cols}
use Rattle.rinex.specs.Codes.{systems, letter_of}
use Rattle.rinex.specs.File.{Slot, Row}
use Rattle.rinex.specs.Data.{held_as, Value, SlotAt, Slots, RowLine}
use Rattle.rinex.specs.Tests.{system_at, number_at, satellite_fits, value_fits, slots_fit, mark_at, slot_of, slots_of}
use Rattle.rinex.proofs.Laws.{letter_place}

-- the letter of a system
pub letter_found : (l : List ℕ) → system_at l < 7 → col 1 l ≡ letter_of (system_at l)
unfolding system_at
letter_found l h = sym (place_at eqb eqb-true 0 (col 1 l) systems h)

pub letter_back : (l : List ℕ) (y : ℕ) → y < 7 → col 1 l ≡ letter_of y → system_at l ≡ y
unfolding system_at
letter_back l y h e = ap (λ (b : ℕ). place eqb b systems) e ∙ letter_place y h

-- marks
module _ (top b : ℕ) where
  pub mark_found : mark_fits top b ≡ true → Mark top b (mark_at b)
  unfolding mark_fits mark_at
  mark_found h = go (eqb b 32) refl h
    where
      go : (c : Bool) → eqb b 32 ≡ c → (c || (is_digit b && leb (b - 48) top)) ≡ true → Mark top b (cond c None (Some (b - 48)))
      go true e k = eqb-true b 32 e
      go false e k =
          let p = both (is_digit b) _ k in
          let q = both (leb 48 b) _ p.0 in
          let low : 48 ≤ b = leb-true 48 b q.0 in
          (omega arith, leb-true (b - 48) top p.1)

  pub mark_is : (o : Option ℕ) → Mark top b o → o ≡ mark_at b
  unfolding mark_at
  mark_is None h = rw (eq-eqb b 32 h)
  mark_is (Some m) h =
      let e : b ≡ 48 + m = h.0 in
      let p : m ≡ b - 48 = omega arith in
      rw (ne_eqb b 32 (λ x. omega arith)) (ap Some p)

  pub mark_fits_lem : top ≤ 9 → (o : Option ℕ) → Mark top b o → mark_fits top b ≡ true
  unfolding mark_fits
  mark_fits_lem t None h = rw (eq-eqb b 32 h)
  mark_fits_lem t (Some m) h =
      let e : b ≡ 48 + m = h.0 in
      let k : m ≤ top = h.1 in
      or_right (eqb b 32) _ (all_of _ _ (all_of _ _ (le-leb 48 b (omega arith)) (le-leb b 57 (omega arith))) (le-leb (b - 48) top (omega arith)))

-- values
pub value_found : (s : List ℕ) → value_fits s ≡ true → Value s (held_as (decimal_of 3 s))
unfolding value_fits
value_found s h = record { printed = decimal_of 3 s; columns = decimal_or_blank_lem 3 s h; held = refl }

pub value_is : (s : List ℕ) (v : Option ℤ) → Value s v → v ≡ held_as (decimal_of 3 s)
value_is s v h = h.held ∙ ap held_as (decimal_or_blank_is 3 s h.printed h.columns)

pub value_fits_lem : (s : List ℕ) (v : Option ℤ) → Value s v → value_fits s ≡ true
unfolding value_fits
value_fits_lem s v h = decimal_or_blank_fits 3 s h.printed h.columns

-- slots
pub slots_length : (n a : ℕ) (l : List ℕ) → length (slots_of n a l) ≡ n
unfolding slots_of
slots_length zero a l = refl
slots_length (suc n) a l = ap suc (slots_length n (a + 16) l)

pub slots_found : (n a : ℕ) (l : List ℕ) → slots_fit n a l ≡ true → Slots a l (slots_of n a l)
unfolding slots_fit slots_of slot_of
slots_found zero a l e = e
slots_found (suc n) a l e =
    let p = both (value_fits (cols a (a + 13) l)) _ e in
    let q = both (mark_fits 7 (col (a + 14) l)) _ p.1 in
    let r = both (mark_fits 9 (col (a + 15) l)) _ q.1 in (
      record {
        value = value_found (cols a (a + 13) l) p.0;
        loss = mark_found 7 (col (a + 14) l) q.0;
        strength = mark_found 9 (col (a + 15) l) r.0;
      },
      slots_found n (a + 16) l r.1,
    )

pub slot_same : (p q : Slot) → p.value ≡ q.value → p.loss ≡ q.loss → p.strength ≡ q.strength → p ≡ q
slot_same p q a b c =
    ap (λ (x : Option ℤ). slot x p.loss p.strength) a ∙ (ap (λ (x : Option ℕ). slot q.value x p.strength) b ∙ ap (slot q.value q.loss) c)
  where
    slot : Option ℤ → Option ℕ → Option ℕ → Slot
    slot v m n = record { value = v; loss = m; strength = n }

slot_is : (a : ℕ) (l : List ℕ) (s : Slot) → SlotAt a l s → s ≡ slot_of a l
unfolding slot_of
slot_is a l s h =
    slot_same s (slot_of a l) (value_is (cols a (a + 13) l) s.value h.value)
    (mark_is 7 (col (a + 14) l) s.loss h.loss) (mark_is 9 (col (a + 15) l) s.strength h.strength)

slots_is : (a : ℕ) (l : List ℕ) (ss : List Slot) → Slots a l ss → ss ≡ slots_of (length ss) a l
unfolding slots_of
slots_is a l [] h = refl
slots_is a l (s ∷ ss) h = cc (slot_is a l s h.0, slots_is (a + 16) l ss h.1)

pub slots_fit_lem : (a : ℕ) (l : List ℕ) (ss : List Slot) → Slots a l ss → slots_fit (length ss) a l ≡ true
unfolding slots_fit
slots_fit_lem a l [] h = h
slots_fit_lem a l (s ∷ ss) h =
    rw (
      value_fits_lem (cols a (a + 13) l) s.value h.0.value,
      mark_fits_lem 7 (col (a + 14) l) (omega arith) s.loss h.0.loss,
      mark_fits_lem 9 (col (a + 15) l) (omega arith) s.strength h.0.strength,
    )
    (slots_fit_lem (a + 16) l ss h.1)

-- rows
abbrev pub codes_of : List (List (List ℕ)) → List ℕ → ℕ
codes_of lists l = length (get_or lists (system_at l) [])

unfoldable pub row_of : List (List (List ℕ)) → List ℕ → Row
row_of lists l = record { system = system_at l; number = number_at l; slots = slots_of (codes_of lists l) 4 l }

pub row_found : (lists : List (List (List ℕ))) (l : List ℕ) → satellite_fits l ≡ true → 1 ≤ codes_of lists l → slots_fit (codes_of lists l) 4 l ≡ true
    → RowLine lists l (row_of lists l)
unfolding satellite_fits row_of number_at
row_found lists l e d f =
    let p = both (ltb (system_at l) 7) _ e in
    let q = both (are_digits (cols 2 3 l)) _ p.1 in
    let h : system_at l < 7 = ltb-true _ _ p.0 in
    record {
      letter = letter_found l h;
      system = h;
      digits = q.0;
      number = refl;
      not_zero = leb-true _ _ q.1;
      declared = d;
      one_each = slots_length (codes_of lists l) 4 l;
      slots = slots_found (codes_of lists l) 4 l f;
    }

pub row_same : (p q : Row) → p.system ≡ q.system → p.number ≡ q.number → p.slots ≡ q.slots → p ≡ q
row_same p q a b c = ap (λ (x : ℕ). row x p.number p.slots) a ∙ (ap (λ (x : ℕ). row q.system x p.slots) b ∙ ap (row q.system q.number) c)
  where
    row : ℕ → ℕ → List Slot → Row
    row y n ss = record { system = y; number = n; slots = ss }

pub record RowBack (lists : List (List (List ℕ))) (l : List ℕ) (r : Row) : Type 0 where
  pub system_is : system_at l ≡ r.system
  pub number_is : number_at l ≡ r.number
  pub satellite : satellite_fits l ≡ true
  pub declared : 1 ≤ codes_of lists l
  pub many : codes_of lists l ≡ length r.slots
  pub fit : slots_fit (codes_of lists l) 4 l ≡ true
  pub row_is : r ≡ row_of lists l

pub row_back : (lists : List (List (List ℕ))) (l : List ℕ) (r : Row) → RowLine lists l r → RowBack lists l r
unfolding satellite_fits row_of number_at
row_back lists l r h =
    let y : system_at l ≡ r.system = letter_back l r.system h.system h.letter in
    let small : system_at l < 7 = omega (arith, y, h.system) in
    let Some : 1 ≤ value_of 0 (cols 2 3 l) = omega (arith, h.number, h.not_zero) in
    let m : codes_of lists l ≡ length r.slots = ap (λ (x : ℕ). length (get_or lists x [])) y ∙ sym h.one_each in
    record {
      system_is = y;
      number_is = sym h.number;
      satellite = rw (lt-ltb (system_at l) 7 small, h.digits, le-leb 1 _ Some);
      declared = rw y h.declared;
      many = m;
      fit = rw m (slots_fit_lem 4 l r.slots h.slots);
      row_is = row_same r _ (sym y) h.number (slots_is 4 l r.slots h.slots ∙ ap (λ (n : ℕ). slots_of n 4 l) (sym m));
    }

pub row_one : (lists : List (List (List ℕ))) (l : List ℕ) (p q : Row) → RowLine lists l p → RowLine lists l q → p ≡ q
row_one lists l p q a b = (row_back lists l p a).row_is ∙ sym (row_back lists l q b).row_is
