-- Entries that lie in a lent buffer from a place on; and the parts of a file in lent tables, tested and held. Assumes nothing.
use Prim.Native.Nat.{ℕ, zero, suc, ◌+◌, ◌/◌, ◌%◌, ◌≤◌, ◌<◌}
use mathlib.Core.Path.{◌≡◌, refl, sym, ap, ◌∙◌, subst}
use mathlib.Core.Bool.{Bool, true, false, cond, not, ◌&&◌}
use mathlib.Core.List.{List, [], ◌∷◌, ◌++◌, map, append_assoc}
use Rattle.std.specs.Prelude.{Option, None, Some}
use native.Mathlib.Omega.{arith}
use lib.Dec.{eqb, leb, ltb}
use lib.IntN.{ℤ, pos, negsuc}
use lib.ListN.{length, get_or, take, drop, length-append, take-append-drop}
use lib.Seq.{sets, sets-eq, drop-cons, drop-drop}
use borrow.Author.Tests.{not-true, eqb-true, le-leb, leb-true, lt-ltb, ltb-true}
use Rattle.lists.specs.Lists.{All}
use Rattle.lists.specs.Maybe.{when}
use Rattle.lists.proofs.Bools.{never, both, all_of, Either, left, right, or_either, or_right}
use Rattle.lists.proofs.Maybe.{none_some, when_some, bind_some, some_one}
use Rattle.write_field.specs.Normal.{decimal_fits}
use Rattle.rinex.specs.File.{Slot, Row, satellite}
use Rattle.rinex.specs.Data.{is_nought}
use Rattle.rinex.specs.Tables.{state_of, signed_of, mark_of, all_slots, Counts, Buffers}
use Rattle.rinex.specs.Fit.{state_fits, number_fits, value_fits, is_mark, slot_fits, slots_fit, codes_of_row, row_fits, rows_fit}
use Rattle.rinex.proofs.WrittenFields.{FitsOrBlank}
use Rattle.rinex.proofs.Forms.{MarkForm, ValueForm, SlotForm, RowForm}
use Rattle.rinex.proofs.OneTables.{held}

-- xs lies in b from place p on
module _ {A : Type 0} (d : A) (b : List A) where
  abbrev pub Lies : ℕ → List A → Type 0
  Lies p [] = Unit
  Lies p (x ∷ xs) = (get_or b p d ≡ x) × Lies (p + 1) xs

  pub lies_on : (xs ys : List A) (p : ℕ) → Lies p (xs ++ ys) → Lies p xs × Lies (p + length xs) ys
  lies_on [] ys p h = let e : p + 0 ≡ p = omega arith in (tt, rw e h)
  lies_on (x ∷ xs) ys p h =
      let e : p + suc (length xs) ≡ p + 1 + length xs = omega arith in
      let r = lies_on xs ys (p + 1) h.1 in
      ((h.0, r.0), rw e r.1)

  pub on_lies : (xs ys : List A) (p : ℕ) → Lies p xs → Lies (p + length xs) ys → Lies p (xs ++ ys)
  on_lies [] ys p h k = let e : p + 0 ≡ p = omega arith in rw e at k
  on_lies (x ∷ xs) ys p h k =
      let e : p + suc (length xs) ≡ p + 1 + length xs = omega arith in
      (h.0, on_lies xs ys (p + 1) h.1 (rw e at k))

  -- then that part of b is xs
  pub lies_part : (xs : List A) (p : ℕ) → p + length xs ≤ length b → Lies p xs → take (length xs) (drop p b) ≡ xs
  lies_part [] p h l = refl
  lies_part (x ∷ xs) p h l =
      let e : suc p ≡ p + 1 = omega arith in
      let r = lies_part xs (p + 1) (omega arith) l.1 in
      let c : drop p b ≡ get_or b p d ∷ drop (p + 1) b = subst (λ (k : ℕ). drop p b ≡ get_or b p d ∷ drop k b) e (drop-cons b p d (omega arith)) in
      rw (c, l.0, r)

  pub part_lies : (xs : List A) (p : ℕ) → p + length xs ≤ length b → take (length xs) (drop p b) ≡ xs → Lies p xs
  part_lies [] p h l = tt
  part_lies (x ∷ xs) p h l =
      let e : suc p ≡ p + 1 = omega arith in
      let c : drop p b ≡ get_or b p d ∷ drop (p + 1) b = subst (λ (k : ℕ). drop p b ≡ get_or b p d ∷ drop k b) e (drop-cons b p d (omega arith)) in
      let m : get_or b p d ∷ take (length xs) (drop (p + 1) b) ≡ x ∷ xs = rw c at l in
      (cc, part_lies xs (p + 1) (omega arith) (cc))

-- to lay out what stands there changes nothing
pub part_sets : {A : Type 0} (b xs : List A) (p : ℕ) → p + length xs ≤ length b → take (length xs) (drop p b) ≡ xs → sets b p xs ≡ b
part_sets {A} b xs p h e =
    sets-eq xs b p h ∙ (append_assoc (take p b) xs (drop (p + length xs) b) ∙ (ap (λ (y : List A). take p b ++ (y ++ drop (p + length xs) b)) (sym e)
    ∙ (ap (λ (y : List A). take p b ++ (take (length xs) (drop p b) ++ y)) (sym (drop-drop (length xs) p b))
    ∙ (ap (λ (y : List A). take p b ++ y) (take-append-drop (length xs) (drop p b)) ∙ take-append-drop p b))))

-- and the other way
module _ {A : Type 0} (d : A) (b xs : List A) where
  pub lies_sets : (p : ℕ) → p + length xs ≤ length b → Lies d b p xs → sets b p xs ≡ b
  lies_sets p h l = part_sets b xs p h (lies_part d b xs p h l)

  pub sets_lies : length xs ≤ length b → sets b 0 xs ≡ b → Lies d b 0 xs
  sets_lies h e =
      let k : 0 + length xs ≤ length b = omega arith in
      part_lies d b xs 0 k (held b xs h e)

-- numbers
pub nought : (z : ℤ) → is_nought z ≡ true → z ≡ pos 0
nought (pos n) h = ap pos (eqb-true n 0 h)
nought (negsuc n) h = absurd (never h)

pub state_found : (state : ℕ) (u v : Bool) → state_fits state u v ≡ true → Either ((state ≡ 0) × (u ≡ true)) ((state ≡ 1) × (v ≡ true))
state_found state u v h = at (or_either (eqb state 0 && u) (eqb state 1 && v) h)
  where
    at : Either ((eqb state 0 && u) ≡ true) ((eqb state 1 && v) ≡ true) → Either ((state ≡ 0) × (u ≡ true)) ((state ≡ 1) × (v ≡ true))
    at (left e) = let p = both (eqb state 0) u e in left (eqb-true state 0 p.0, p.1)
    at (right e) = let p = both (eqb state 1) v e in right (eqb-true state 1 p.0, p.1)

-- a number of w columns, d of them decimals
module _ (w d : ℕ) where
  pub number_found : (state : ℕ) (z : ℤ) → number_fits w d state z ≡ true → (o : Option ℤ) × (state ≡ state_of o) × (z ≡ signed_of o) × FitsOrBlank w d o
  number_found state z h = at (state_found state (is_nought z) (decimal_fits w d z) h)
    where
      at : Either ((state ≡ 0) × (is_nought z ≡ true)) ((state ≡ 1) × (decimal_fits w d z ≡ true)) → (o : Option ℤ) × (state ≡ state_of o) × (z ≡ signed_of o) × FitsOrBlank w d o
      at (left e) = (None, e.0, nought z e.1, tt)
      at (right e) = (Some z, e.0, refl, e.1)

  pub number_back : (o : Option ℤ) → FitsOrBlank w d o → number_fits w d (state_of o) (signed_of o) ≡ true
  number_back None h = refl
  number_back (Some z) h = h

-- a value
value_found : (state : ℕ) (z : ℤ) → value_fits state z ≡ true → (o : Option ℤ) × (state ≡ state_of o) × (z ≡ signed_of o) × ValueForm o
value_found state z h = at (state_found state (is_nought z) (not (is_nought z) && decimal_fits 14 3 z) h)
  where
    at : Either ((state ≡ 0) × (is_nought z ≡ true)) ((state ≡ 1) × ((not (is_nought z) && decimal_fits 14 3 z) ≡ true)) → (o : Option ℤ) × (state ≡ state_of o) × (z ≡ signed_of o) × ValueForm o
    at (left e) = (None, e.0, nought z e.1, record { fits = tt; held = refl })
    at (right e) = let p = both (not (is_nought z)) _ e.1 in (Some z, e.0, refl, record { fits = p.1; held = rw (not-true (is_nought z) p.0) })

value_back : (o : Option ℤ) → ValueForm o → value_fits (state_of o) (signed_of o) ≡ true
value_back None h = refl
value_back (Some z) h = go (is_nought z) refl
  where
    go : (b : Bool) → is_nought z ≡ b → (not b && decimal_fits 14 3 z) ≡ true
    go true e = absurd (none_some z (sym (ap (λ (b : Bool). cond b None (Some z)) e) ∙ h.held))
    go false e = h.fits

mark_found : (top m : ℕ) → is_mark top m ≡ true → (o : Option ℕ) × (m ≡ mark_of o) × MarkForm top o
mark_found top m h = at (or_either (leb m top) (eqb m 255) h)
  where
    at : Either (leb m top ≡ true) (eqb m 255 ≡ true) → (o : Option ℕ) × (m ≡ mark_of o) × MarkForm top o
    at (left e) = (Some m, refl, leb-true m top e)
    at (right e) = (None, eqb-true m 255 e, tt)

mark_back : (top : ℕ) (o : Option ℕ) → MarkForm top o → is_mark top (mark_of o) ≡ true
mark_back top None h = or_right (leb 255 top) true refl
mark_back top (Some m) h = rw (le-leb m top h)

-- slots
pub record SlotLies (b : Buffers) (i : ℕ) (s : Slot) : Type 0 where
  pub number : get_or b.numbers i (pos 0) ≡ signed_of s.value
  pub state : get_or b.states i 0 ≡ state_of s.value
  pub loss : get_or b.losses i 0 ≡ mark_of s.loss
  pub strength : get_or b.strengths i 0 ≡ mark_of s.strength

abbrev pub SlotsLie : Buffers → ℕ → List Slot → Type 0
SlotsLie b i [] = Unit
SlotsLie b i (s ∷ ss) = SlotLies b i s × SlotsLie b (i + 1) ss

module _ (b : Buffers) where
  pub slots_on : (ss ts : List Slot) (i : ℕ) → SlotsLie b i (ss ++ ts) → SlotsLie b i ss × SlotsLie b (i + length ss) ts
  slots_on [] ts i h = let e : i + 0 ≡ i = omega arith in (tt, rw e h)
  slots_on (s ∷ ss) ts i h =
      let e : i + suc (length ss) ≡ i + 1 + length ss = omega arith in
      let r = slots_on ss ts (i + 1) h.1 in
      ((h.0, r.0), rw e r.1)

  pub on_slots : (ss ts : List Slot) (i : ℕ) → SlotsLie b i ss → SlotsLie b (i + length ss) ts → SlotsLie b i (ss ++ ts)
  on_slots [] ts i h k = let e : i + 0 ≡ i = omega arith in rw e at k
  on_slots (s ∷ ss) ts i h k =
      let e : i + suc (length ss) ≡ i + 1 + length ss = omega arith in
      (h.0, on_slots ss ts (i + 1) h.1 (rw e at k))

  -- one column of the slot table
  module _ {A : Type 0} (d : A) (l : List A) where
    pub of_slots : (g : Slot → A) → ((i : ℕ) (s : Slot) → SlotLies b i s → get_or l i d ≡ g s) → (ss : List Slot) (i : ℕ) → SlotsLie b i ss → Lies d l i (map g ss)
    of_slots g h [] i k = tt
    of_slots g h (s ∷ ss) i k = (h i s k.0, of_slots g h ss (i + 1) k.1)

  pub slots_lie : (ss : List Slot) (i : ℕ) → Lies (pos 0) b.numbers i (map (λ (s : Slot). signed_of s.value) ss) → Lies 0 b.states i (map (λ (s : Slot). state_of s.value) ss)
      → Lies 0 b.losses i (map (λ (s : Slot). mark_of s.loss) ss) → Lies 0 b.strengths i (map (λ (s : Slot). mark_of s.strength) ss) → SlotsLie b i ss
  slots_lie [] i u v x y = tt
  slots_lie (s ∷ ss) i u v x y = (record { number = u.0; state = v.0; loss = x.0; strength = y.0 }, slots_lie ss (i + 1) u.1 v.1 x.1 y.1)

  slot_found : (i : ℕ) → slot_fits b i ≡ true → (s : Slot) × SlotLies b i s × SlotForm s
  slot_found i h =
      let p = both (value_fits (get_or b.states i 0) (get_or b.numbers i (pos 0))) _ h in
      let q = both (is_mark 7 (get_or b.losses i 0)) _ p.1 in
      let v = value_found (get_or b.states i 0) (get_or b.numbers i (pos 0)) p.0 in
      let l = mark_found 7 (get_or b.losses i 0) q.0 in
      let m = mark_found 9 (get_or b.strengths i 0) q.1 in (
        record { value = v.0; loss = l.0; strength = m.0 },
        record { number = v.2; state = v.1; loss = l.1; strength = m.1 },
        record { value = v.3; loss = l.2; strength = m.2 },
      )

  slot_back : (i : ℕ) (s : Slot) → SlotLies b i s → SlotForm s → slot_fits b i ≡ true
  slot_back i s l f =
      rw (l.number, l.state, l.loss, l.strength, value_back s.value f.value, mark_back 7 s.loss f.loss) (mark_back 9 s.strength f.strength)

  slots_found : (k i : ℕ) → slots_fit b k i ≡ true → (ss : List Slot) × (length ss ≡ k) × SlotsLie b i ss × All SlotForm ss
  unfolding slots_fit
  slots_found zero i h = ([], refl, tt, tt)
  slots_found (suc k) i h =
      let p = both (slot_fits b i) _ h in
      let s = slot_found i p.0 in
      let r = slots_found k (i + 1) p.1 in
      (s.0 ∷ r.0, ap suc r.1, (s.1, r.2), (s.2, r.3))

  slots_back : (ss : List Slot) (i : ℕ) → SlotsLie b i ss → All SlotForm ss → slots_fit b (length ss) i ≡ true
  unfolding slots_fit
  slots_back [] i l f = refl
  slots_back (s ∷ ss) i l f = all_of (slot_fits b i) _ (slot_back i s l.0 f.0) (slots_back ss (i + 1) l.1 f.1)

  -- rows
  module _ (lists : List (List (List ℕ))) (lengths : List ℕ) (same-lengths : (y : ℕ) → get_or lengths y 0 ≡ length (get_or lists y [])) (n : Counts) where
    pub record RowsFound (k j i i' : ℕ) : Type 0 where
      pub rows : List Row
      pub long : length rows ≡ k
      pub names : Lies 0 b.satellites j (map satellite rows)
      pub slots : SlotsLie b i (all_slots rows)
      pub end : i' ≡ i + length (all_slots rows)
      pub room : i ≤ n.slots → i' ≤ n.slots
      pub forms : All (RowForm lists) rows

    row_found : (j i : ℕ) → row_fits lengths n b j i ≡ true
        → (r : Row) × (get_or b.satellites j 0 ≡ satellite r) × SlotsLie b i r.slots × (codes_of_row lengths b j ≡ length r.slots) × (i + codes_of_row lengths b j ≤ n.slots) × RowForm lists r
    unfolding row_fits
    row_found j i h =
        let x : ℕ = get_or b.satellites j 0 in
        let p = both (ltb (x / 100) 7) _ h in
        let q = both (leb 1 (x % 100)) _ p.1 in
        let u = both (leb 1 (codes_of_row lengths b j)) _ q.1 in
        let v = both (leb (i + codes_of_row lengths b j) n.slots) _ u.1 in
        let s = slots_found (codes_of_row lengths b j) i v.1 in
        let a : x / 100 < 7 = ltb-true (x / 100) 7 p.0 in
        let c : 1 ≤ x % 100 = leb-true 1 (x % 100) q.0 in
        let e : codes_of_row lengths b j ≡ length (get_or lists (x / 100) []) = same-lengths (x / 100) in
        let g : 1 ≤ codes_of_row lengths b j = leb-true 1 (codes_of_row lengths b j) u.0 in (
          record { system = x / 100; number = x % 100; slots = s.0 },
          omega arith,
          s.2,
          sym s.1,
          leb-true (i + codes_of_row lengths b j) n.slots v.0,
          record { system = a; number = omega arith; not_zero = c; declared = omega arith; many = s.1 ∙ e; slots = s.3 },
        )

    pub rows_found : (k j i i' : ℕ) → rows_fit lengths n b k j i ≡ Some i' → RowsFound k j i i'
    unfolding rows_fit all_slots
    rows_found zero j i i' h = record { rows = []; long = refl; names = tt; slots = tt; end = let e : i ≡ i' = some_one i i' h in omega arith; room = λ m. let e : i ≡ i' = some_one i i' h in omega arith; forms = tt }
    rows_found (suc k) j i i' h =
        let p = bind_some (when (row_fits lengths n b j i) (i + codes_of_row lengths b j)) (rows_fit lengths n b k (j + 1)) i' h in
        let q = when_some (row_fits lengths n b j i) (i + codes_of_row lengths b j) p.0 p.1 in
        let r = row_found j i q.0 in
        let t = rows_found k (j + 1) p.0 i' p.2 in
        let e : p.0 ≡ i + length r.0.slots = sym q.1 ∙ ap (λ (x : ℕ). i + x) r.3 in
        record {
          rows = r.0 ∷ t.rows;
          long = ap suc t.long;
          names = (r.1, t.names);
          slots = on_slots r.0.slots (all_slots t.rows) i r.2 (subst (λ (x : ℕ). SlotsLie b x (all_slots t.rows)) e t.slots);
          end = omega (arith, t.end, e, length-append r.0.slots (all_slots t.rows));
          room = λ m. t.room (subst (λ (x : ℕ). x ≤ n.slots) q.1 r.4);
          forms = (r.5, t.forms);
        }

    row_back : (r : Row) (j i : ℕ) → get_or b.satellites j 0 ≡ satellite r → SlotsLie b i r.slots → RowForm lists r → i + length r.slots ≤ n.slots
        → (row_fits lengths n b j i ≡ true) × (codes_of_row lengths b j ≡ length r.slots)
    unfolding row_fits
    row_back r j i e l f h =
        let x : ℕ = get_or b.satellites j 0 in
        let s : x / 100 ≡ r.system = omega (arith, e, f.number) in
        let m : x % 100 ≡ r.number = omega (arith, e, f.number) in
        let c : codes_of_row lengths b j ≡ length r.slots = ap (λ (y : ℕ). get_or lengths y 0) s ∙ (same-lengths r.system ∙ sym f.many) in
        let d : 1 ≤ length r.slots = omega (arith, f.many, f.declared) in (
          rw (c, s, m, lt-ltb r.system 7 f.system, le-leb 1 r.number f.not_zero, le-leb 1 (length r.slots) d, le-leb (i + length r.slots) n.slots h)
              (slots_back r.slots i l f.slots),
          c,
        )

    pub rows_back : (rs : List Row) (j i : ℕ) → Lies 0 b.satellites j (map satellite rs) → SlotsLie b i (all_slots rs) → All (RowForm lists) rs → i + length (all_slots rs) ≤ n.slots
        → rows_fit lengths n b (length rs) j i ≡ Some (i + length (all_slots rs))
    unfolding rows_fit all_slots
    rows_back [] j i a l f h = ap Some (omega arith)
    rows_back (r ∷ rs) j i a l f h =
        let t = slots_on r.slots (all_slots rs) i l in
        let m : length (r.slots ++ all_slots rs) ≡ length r.slots + length (all_slots rs) = length-append r.slots (all_slots rs) in
        let p = row_back r j i a.0 t.0 f.0 (omega arith) in
        let q = rows_back rs (j + 1) (i + length r.slots) a.1 t.1 f.1 (omega arith) in
        let e : i + length r.slots + length (all_slots rs) ≡ i + length (r.slots ++ all_slots rs) = omega arith in
        rw (p.0, p.1) (q ∙ ap Some e)

-- a row that fits
module _ (lengths : List ℕ) (n : Counts) (b : Buffers) (j i : ℕ) where
  -- a fit row's slots fit, and it stays within them
  pub row_slots : row_fits lengths n b j i ≡ true → (i + codes_of_row lengths b j ≤ n.slots) × (slots_fit b (codes_of_row lengths b j) i ≡ true)
  unfolding row_fits
  row_slots h =
      let s = get_or b.satellites j 0 in
      let k = codes_of_row lengths b j in
      let x = both (ltb (s / 100) 7) (leb 1 (s % 100) && (leb 1 k && (leb (i + k) n.slots && slots_fit b k i))) h in
      let y = both (leb 1 (s % 100)) (leb 1 k && (leb (i + k) n.slots && slots_fit b k i)) x.1 in
      let z = both (leb 1 k) (leb (i + k) n.slots && slots_fit b k i) y.1 in
      let u = both (leb (i + k) n.slots) (slots_fit b k i) z.1 in
      (leb-true (i + k) n.slots u.0, u.1)
