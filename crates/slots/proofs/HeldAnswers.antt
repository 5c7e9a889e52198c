-- The rule's answers of rows that are read off from tables, found from place to place. Assumes nothing.
use Prim.Native.Nat.{ℕ, zero, suc, ◌+◌, ◌*◌, ◌/◌, ◌≤◌, ◌<◌}
use mathlib.Core.Path.{◌≡◌, refl, ap, ◌∙◌}
use mathlib.Core.Bool.{Bool, true, false, cond}
use mathlib.Core.List.{List, [], ◌∷◌, map}
use Rattle.std.specs.Prelude.{None}
use native.Mathlib.Omega.{arith}
use lib.Dec.{eqb, leb}
use lib.IntN.{pos}
use lib.ListN.{length, get_or, length-map}
use borrow.Author.Tests.{eqb-true, leb-false}
use Rattle.lists.specs.Lists.{place}
use Rattle.lists.proofs.Places.{place_at}
use Rattle.rinex.specs.File.{Slot}
use Rattle.rinex.specs.Tables.{packed, Buffers}
use Rattle.rinex.specs.Fit.{part, unpacked, row_codes}
use Rattle.rinex.specs.Held.{optional, slot_at, slots_at, row_at, rows_at, lists_at}
use Rattle.rinex.specs.Answers.{Answer, not_declared, no_row, valued, answer_at, answer_of, row_answer, answer_in}
use Rattle.rinex.proofs.LentLists.{packed_again}
use Rattle.rinex.proofs.ColumnSlots.{map_at}
use Rattle.slot_answers.specs.AtPlace.{slot_answer}
use Rattle.slots.specs.InTables.{slots_before, column_answer, column_from}

-- the list of a system
pub lists_at_lem : (codes : List ℕ) (ns : List ℕ) (t s : ℕ) → get_or (lists_at t ns codes) s [] ≡ map unpacked (part codes (64 * (t + s)) (get_or ns s 0))
unfolding lists_at
lists_at_lem codes [] t s = refl
lists_at_lem codes (n ∷ ns) t zero = let e : t + 0 ≡ t = omega arith in rw e
lists_at_lem codes (n ∷ ns) t (suc s) = let e : t + suc s ≡ t + 1 + s = omega arith in rw e (lists_at_lem codes ns (t + 1) s)

slots_at_lem : (b : Buffers) (d : Slot) (k i p : ℕ) → p < k → get_or (slots_at b k i) p d ≡ slot_at b (i + p)
unfolding slots_at
slots_at_lem b d zero i p h = absurd (omega arith)
slots_at_lem b d (suc k) i zero h = let e : i + 0 ≡ i = omega arith in rw e
slots_at_lem b d (suc k) i (suc p) h = let e : i + suc p ≡ i + 1 + p = omega arith in rw e (slots_at_lem b d k (i + 1) p (omega arith))

module _ (lengths : List ℕ) (b : Buffers) where
  abbrev pub lists : List (List (List ℕ))
  lists = lists_at 0 lengths b.codes

  -- the codes of system s
  abbrev pub codes_of : ℕ → List ℕ
  codes_of s = part b.codes (64 * s) (get_or lengths s 0)

  module _ (code : ℕ) where
    -- the place of the code among them
    abbrev pub place_in : ℕ → ℕ
    place_in s = place eqb code (codes_of s)

    -- the answer of row j, whose slots begin at place i
    abbrev pub found : ℕ → ℕ → Answer
    found j i = slot_answer b.numbers b.states i (row_codes lengths b.satellites j) (place_in (get_or b.satellites j 0 / 100)) code

    module _ (whole : (s : ℕ) → length (codes_of s) ≡ get_or lengths s 0) (j i : ℕ) where
      abbrev s : ℕ
      s = get_or b.satellites j 0 / 100

      abbrev no_slot : Slot
      no_slot = record { value = None; loss = None; strength = None }

      -- by the codes as numbers
      by_numbers : answer_of lists code (row_at lengths b j i) ≡ answer_at (map unpacked (codes_of s)) (row_at lengths b j i) (place_in s)
      by_numbers =
          let z : 0 + s ≡ s = omega arith in
          let e : get_or lists s [] ≡ map unpacked (codes_of s) = lists_at_lem b.codes lengths 0 s ∙ ap (λ (t : ℕ). map unpacked (part b.codes (64 * t) (get_or lengths s 0))) z in
          ap (λ (cs : List (List ℕ)). answer_at cs (row_at lengths b j i) (place eqb code (map packed cs))) e
          ∙ ap (λ (ks : List ℕ). answer_at (map unpacked (codes_of s)) (row_at lengths b j i) (place eqb code ks)) (packed_again (codes_of s))

      first_is : place_in s < length (codes_of s) → get_or (get_or (map unpacked (codes_of s)) (place_in s) []) 0 0 ≡ code / 65536
      first_is h =
          ap (λ (c : List ℕ). get_or c 0 0) (map_at unpacked (codes_of s) (place_in s) [] 0 h)
          ∙ ap (λ (k : ℕ). k / 65536) (place_at eqb eqb-true 0 code (codes_of s) h)

      pub answer_is : answer_of lists code (row_at lengths b j i) ≡ found j i
      unfolding answer_at slot_answer
      answer_is = by_numbers ∙ ap (λ (n : ℕ). cond (leb n (place_in s)) not_declared value) (length-map (codes_of s) unpacked ∙ whole s) ∙ at (leb (get_or lengths s 0) (place_in s)) refl
        where
          value : Answer
          value = valued (get_or (get_or (map unpacked (codes_of s)) (place_in s) []) 0 0) (get_or (slots_at b (get_or lengths s 0) i) (place_in s) no_slot).value

          held : Answer
          held = valued (code / 65536) (optional (get_or b.states (i + place_in s) 0) (get_or b.numbers (i + place_in s) (pos 0)))

          at : (t : Bool) → leb (get_or lengths s 0) (place_in s) ≡ t → cond t not_declared value ≡ cond t not_declared held
          at true e = refl
          at false e =
              let h : place_in s < get_or lengths s 0 = leb-false (get_or lengths s 0) (place_in s) e in
              let f = first_is (omega (arith, h, whole s)) in
              let v = slots_at_lem b no_slot (get_or lengths s 0) i (place_in s) h in
              λ k. valued (f k) (v k).value

-- the answers of k rows for a code of system y, of which the first is row j, with slots from place i on
module _ (lengths : List ℕ) (b : Buffers) (code y : ℕ) (whole : (s : ℕ) → length (codes_of lengths b s) ≡ get_or lengths s 0) where
  row_in : (j i : ℕ) → answer_in (lists lengths b) y code (row_at lengths b j i) ≡ column_answer lengths b.satellites b.numbers b.states y (place_in lengths b code y) code j i
  row_in j i = at (eqb x y) refl
    where
      x : ℕ
      x = get_or b.satellites j 0 / 100

      at : (t : Bool) → eqb x y ≡ t → cond t (answer_of (lists lengths b) code (row_at lengths b j i)) not_declared
          ≡ cond t (slot_answer b.numbers b.states i (row_codes lengths b.satellites j) (place_in lengths b code y) code) not_declared
      at false e = refl
      at true e =
          answer_is lengths b code whole j i
          ∙ ap (λ (z : ℕ). slot_answer b.numbers b.states i (row_codes lengths b.satellites j) (place_in lengths b code z) code) (eqb-true x y e)

  pub column_is : (k j i : ℕ) → map (answer_in (lists lengths b) y code) (rows_at lengths b k j i) ≡ column_from lengths b.satellites b.numbers b.states y (place_in lengths b code y) code k j i
  unfolding rows_at column_from
  column_is zero j i = refl
  column_is (suc k) j i =
      let p = row_in j i in
      let q = column_is k (j + 1) (i + row_codes lengths b.satellites j) in
      λ t. p t ∷ q t

-- a row among k rows, of which the first is row j, with slots from place i on
module _ (lists : List (List (List ℕ))) (lengths : List ℕ) (b : Buffers) (code : ℕ) where
  pub row_there : (k j i m : ℕ) → m < k → row_answer lists (rows_at lengths b k j i) m code ≡ answer_of lists code (row_at lengths b (j + m) (slots_before lengths b.satellites m j i))
  unfolding rows_at slots_before
  row_there zero j i m h = absurd (omega arith)
  row_there (suc k) j i zero h = let e : j + 0 ≡ j = omega arith in rw e
  row_there (suc k) j i (suc m) h =
      let e : j + suc m ≡ j + 1 + m = omega arith in
      rw e (row_there k (j + 1) (i + row_codes lengths b.satellites j) m (omega arith))

  pub row_none : (k j i m : ℕ) → k ≤ m → row_answer lists (rows_at lengths b k j i) m code ≡ no_row
  unfolding rows_at
  row_none zero j i m h = refl
  row_none (suc k) j i zero h = absurd (omega arith)
  row_none (suc k) j i (suc m) h = row_none k (j + 1) (i + row_codes lengths b.satellites j) m (omega arith)
