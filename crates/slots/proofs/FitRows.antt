-- What fit tables give to those that look slots up in them. Assumes nothing.
use Prim.Native.Nat.{ℕ, zero, suc, ◌+◌, ◌*◌, ◌≤◌, ◌<◌, ◌^◌, min}
use mathlib.Core.Path.{◌≡◌, sym, ap, ◌∙◌, subst}
use mathlib.Core.Bool.{true}
use mathlib.Core.List.{List, [], ◌∷◌, map}
use Rattle.std.specs.Prelude.{Option, None, Some}
use native.Mathlib.Omega.{arith}
use lib.IntN.{ℤ, pos, negsuc}
use lib.ListN.{length, get_or, length-append, length-map, get_or-map}
use lib.Signed.{mag}
use Rattle.lists.specs.Lists.{All}
use Rattle.write_field.specs.Normal.{decimal_fits}
use Rattle.write_field.proofs.Written.{decimal_room}
use Rattle.rinex.specs.File.{Slot, Row, File}
use Rattle.rinex.specs.Tables.{signed_of, all_rows, all_slots, FlatHead, flat_head, Counts, counts, Buffers, room}
use Rattle.rinex.specs.Fit.{part, unpacked, codes_of_row, tables_fit, row_codes}
use Rattle.rinex.specs.Held.{slots_at, rows_at, lists_at, file_at}
use Rattle.rinex.specs.Promises.{Spelled}
use Rattle.rinex.proofs.WrittenFields.{FitsOrBlank}
use Rattle.rinex.proofs.Forms.{SlotForm, FileForm, file_form, all_rows_form, all_slots_form}
use Rattle.rinex.proofs.Lent.{SlotsLie}
use Rattle.rinex.proofs.FitTables.{lent_slots, fit_tables}
use Rattle.rinex.proofs.HeldFile.{slots_length, held_file, held_rows}
use Rattle.slot_answers.specs.AtPlace.{HeldSlots}
use Rattle.slots.specs.InTables.{slots_before}
use Rattle.slots.proofs.SlotPlaces.{row_within}
use Rattle.slots.proofs.HeldAnswers.{codes_of, lists_at_lem}

-- the slots of k rows
slots_counted : (lengths : List ℕ) (b : Buffers) (k j i : ℕ) → i + length (all_slots (rows_at lengths b k j i)) ≡ slots_before lengths b.satellites k j i
unfolding rows_at all_slots slots_before
slots_counted lengths b zero j i = omega arith
slots_counted lengths b (suc k) j i =
    let n : ℕ = codes_of_row lengths b j in
    let rest : List Slot = all_slots (rows_at lengths b k (j + 1) (i + n)) in
    omega (arith, length-append (slots_at b n i) rest, slots_length b n i, slots_counted lengths b k (j + 1) (i + n))

-- a number of 14 columns
small_number : (z : ℤ) → decimal_fits 14 3 z ≡ true → mag z < 2 ^ 53
small_number (pos n) h = let r = (decimal_room 14 3 (pos n) h).digits in omega (arith, r)
small_number (negsuc n) h = let r = (decimal_room 14 3 (negsuc n) h).digits in omega (arith, r)

small_value : (o : Option ℤ) → FitsOrBlank 14 3 o → mag (signed_of o) < 2 ^ 53
small_value None h = omega arith
small_value (Some z) h = small_number z h

small_slots : (b : Buffers) (ss : List Slot) (i k : ℕ) → SlotsLie b i ss → All SlotForm ss → k < length ss → mag (get_or b.numbers (i + k) (pos 0)) < 2 ^ 53
small_slots b [] i k l f h = absurd (omega arith)
small_slots b (s ∷ ss) i zero l f h =
    let e : i + 0 ≡ i = omega arith in
    rw (e, l.0.number) (small_value s.value f.0.value.fits)
small_slots b (s ∷ ss) i (suc k) l f h =
    let e : i + suc k ≡ i + 1 + k = omega arith in
    rw e (small_slots b ss (i + 1) k l.1 f.1 (omega arith))

pub fewer_lie : {m n : ℕ} {numbers : List ℤ} {states : List ℕ} → m ≤ n → HeldSlots n numbers states → HeldSlots m numbers states
fewer_lie h l = record { numbers_hold = omega (arith, h, l.numbers_hold); states_hold = omega (arith, h, l.states_hold); small = λ i k. l.small i (omega (arith, h, k)) }

-- a system that has codes is one of those that have lists
declared_below : (ls : List (List (List ℕ))) (s : ℕ) → 1 ≤ length (get_or ls s []) → s < length ls
declared_below [] s h = absurd (omega arith)
declared_below (l ∷ ls) zero h = omega arith
declared_below (l ∷ ls) (suc s) h = omega (arith, declared_below ls s h)

module _ (h : FlatHead) (n : Counts) (b : Buffers) (fit : tables_fit h n b ≡ true) where
  abbrev pub file : File
  file = (fit_tables.sound h n b fit).0

  pub spelled : Spelled h n b file
  spelled = (fit_tables.sound h n b fit).1

  form : FileForm file
  form = file_form spelled.a_text file spelled.spells

  -- its lists and rows are those of the tables
  pub lists_are : file.head.lists ≡ lists_at 0 h.lengths b.codes
  unfolding file_at
  lists_are = ap (λ (f : File). f.head.lists) (sym (held_file h n b file spelled))

  pub rows_are : all_rows file.epochs ≡ rows_at h.lengths b n.rows 0 0
  rows_are = sym (held_rows h n b file spelled)

  -- the codes of a system
  listed : (s : ℕ) → get_or h.lengths s 0 ≡ length (get_or file.head.lists s [])
  unfolding flat_head
  listed s =
      ap (λ (x : FlatHead). get_or x.lengths s 0) spelled.hold.head ∙ get_or-map (λ (cs : List (List ℕ)). length cs) file.head.lists s []

  pub codes_whole : (s : ℕ) → length (codes_of h.lengths b s) ≡ get_or h.lengths s 0
  codes_whole s =
      let z : 0 + s ≡ s = omega arith in
      sym (listed s ∙ (ap (λ (ls : List (List (List ℕ))). length (get_or ls s [])) lists_are
      ∙ (ap (λ (cs : List (List ℕ)). length cs) (lists_at_lem b.codes h.lengths 0 s)
      ∙ (ap (λ (t : ℕ). length (map unpacked (part b.codes (64 * t) (get_or h.lengths s 0)))) z ∙ length-map (codes_of h.lengths b s) unpacked))))

  pub codes_room : (s : ℕ) → 1 ≤ get_or h.lengths s 0 → 64 * s + get_or h.lengths s 0 ≤ length b.codes
  unfolding room
  codes_room s m =
      let e = listed s in
      let k : 1 ≤ length (get_or file.head.lists s []) = omega (arith, e, m) in
      let r : 64 * s + length (get_or file.head.lists s []) ≤ length b.codes =
      spelled.hold.fits.codes s (omega (arith, declared_below file.head.lists s k, form.head.systems)) k in
      omega (arith, e, r)

  -- the slots
  ends_at : slots_before h.lengths b.satellites n.rows 0 0 ≡ length (all_slots (all_rows file.epochs))
  ends_at = sym (slots_counted h.lengths b n.rows 0 0) ∙ (omega arith ∙ ap (λ (rs : List Row). length (all_slots rs)) (sym rows_are))

  pub rows_hold : n.rows ≤ length b.satellites
  unfolding room
  rows_hold = subst (λ (x : Counts). x.rows ≤ length b.satellites) (sym spelled.hold.lengths) spelled.hold.fits.rows

  pub slots_lie : HeldSlots (slots_before h.lengths b.satellites n.rows 0 0) b.numbers b.states
  unfolding room counts
  slots_lie =
      let e = ends_at in
      let ss : List Slot = all_slots (all_rows file.epochs) in
      let m : length ss ≤ min (length b.numbers) (min (length b.states) (min (length b.losses) (length b.strengths))) = spelled.hold.fits.slots in
      let l = lent_slots b file form spelled.hold.fits spelled.hold.entries in
      let f : All SlotForm ss = all_slots_form file.head.lists (all_rows file.epochs) (all_rows_form file.head.lists file.epochs form.epochs) in
      record {
        numbers_hold = omega (arith, e, m);
        states_hold = omega (arith, e, m);
        small = λ i k. let z : 0 + i ≡ i = omega arith in subst (λ (y : ℕ). mag (get_or b.numbers y (pos 0)) < 2 ^ 53) z (small_slots b ss 0 i l f (omega (arith, e, k)));
      }

  -- those of row j
  pub row_lies : (j : ℕ) → j < n.rows → HeldSlots (slots_before h.lengths b.satellites j 0 0 + row_codes h.lengths b.satellites j) b.numbers b.states
  row_lies j m = fewer_lie (row_within h.lengths b.satellites j n.rows m) slots_lie
